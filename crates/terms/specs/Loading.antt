-- Describes the code, and is no part of what a reader has to believe: words of a table read back as an instruction
-- (`Table.antt`), once its two starts have their places.
use Rattle.std.specs.Prelude.{ℕ, zero, suc, ◌+◌, ◌*◌, ◌%◌, ◌<◌, ◌≤◌, ◌≡◌, List, [], ◌∷◌, get_or, drop, length, eqb, ltb, ℤ}
use Rattle.net.specs.Choice.{choose}
use Rattle.text.specs.Signed.{signed}
use Rattle.net.specs.Records.{address_of, pattern_at, zero_instruction}
use Rattle.terms.specs.Terms.{Process, nil, name, fork, act, out, input, read, eval, newloc, out_all}
use Rattle.terms.specs.Terms as Terms
use Rattle.terms.specs.Numbering.{Start, here, called}
use Rattle.terms.specs.Types.{Place, Group, Target, Pattern, TemplateField, Action, Instruction}

-- ---- one word each: past the greatest word of a kind only its last eight binary digits count
unfoldable pub target_of : ℕ → Target
target_of w =
    choose (ltb w 256) (Target.Written (address_of (w % 256)))
    (choose (ltb w 512) Target.Own (Target.Held (w % 256)))

unfoldable pub pattern_of : ℕ → Pattern
pattern_of w =
    choose (ltb w 4294967296) (Pattern.Reading (signed w))
    (choose (ltb w 4294967552) (Pattern.Address (address_of (w % 256)))
    (choose (ltb w 4294967808) Pattern.Own
    (choose (ltb w 4294968064) (Pattern.Held (w % 256))
    (choose (ltb w 4294968320) (Pattern.FormalReading (w % 256)) (Pattern.FormalAddress (w % 256))))))

-- the set of a word: of 16 binary digits
unfoldable pub group_in : ℕ → Group
group_in w = record { 0 = w % 65536 }

-- ---- an action by its number and its target's word, with the places of what follows and of the second start
unfoldable pub action_of : ℕ → ℕ → Place → Place → Action
action_of kind w p q =
    choose (eqb kind 1) (Action.Out (target_of w) p)
    (choose (eqb kind 2) (Action.In (target_of w) p)
    (choose (eqb kind 3) (Action.Read (target_of w) p)
    (choose (eqb kind 4) (Action.Eval (target_of w) q p)
    (choose (eqb kind 5) (Action.New (w % 256) p)
    (choose (eqb kind 6) (Action.Fork p q)
    (choose (eqb kind 7) (Action.OutAll (group_in w) p) Action.Stop))))))

-- ---- the instruction with the words f 0 to f 6
unfoldable pub field_of : ℕ → TemplateField
field_of w = record { pattern = pattern_of w }

unfoldable pub loaded : (ℕ → ℕ) → Place → Place → Instruction
loaded f p q = record {
  action = action_of (f 0) (f 1) p q;
  count = f 2;
  template = field_of (f 3) ∷ field_of (f 4) ∷ field_of (f 5) ∷ field_of (f 6) ∷ [];
}

-- the one with the number i
unfoldable pub loaded_at : List ℕ → ℕ → Place → Place → Instruction
loaded_at table i p q = loaded (λ j. get_or table (9 * i + j) 0) p q

-- the same of the 512 that code can have, and a stop past them
unfoldable pub loaded_in : List ℕ → ℕ → Place → Place → Instruction
loaded_in table i p q = choose (ltb i 512) (loaded_at table i p q) zero_instruction

-- ---- k instructions one after another, with each start's word resolved to its place
unfoldable pub loaded_all : (ℕ → Place) → ℕ → List ℕ → List Instruction
loaded_all resolve zero ws = []
loaded_all resolve (suc k) ws =
    loaded (λ j. get_or ws j 0) (resolve (get_or ws 7 0)) (resolve (get_or ws 8 0)) ∷ loaded_all resolve k (drop 9 ws)

-- ---- what fits its words
unfoldable pub fits_target : Target → Type 0
fits_target (Target.Written l) = l.0 < 256
fits_target Target.Own = Unit {0}
fits_target (Target.Held v) = v < 256

unfoldable pub fits_reading : ℤ → Type 0
fits_reading (ℤ.pos v) = v < 2147483648
fits_reading (ℤ.negsuc v) = v < 2147483648

unfoldable pub fits_pattern : Pattern → Type 0
fits_pattern (Pattern.Reading x) = fits_reading x
fits_pattern (Pattern.Address l) = l.0 < 256
fits_pattern Pattern.Own = Unit {0}
fits_pattern (Pattern.Held v) = v < 256
fits_pattern (Pattern.FormalReading v) = v < 256
fits_pattern (Pattern.FormalAddress v) = v < 256

pub record FitsTemplate (c : Instruction) : Type 0 where
  pub four : length c.template ≡ 4
  pub fields : (i : ℕ) → i < 4 → fits_pattern (pattern_at c i)

unfoldable mutual
  pub fits : Process → Type 0
  fits nil = Unit {0}
  fits (name k) = k < 512
  fits (fork p q) = fits p × fits q
  fits (act a p) = fits_in a × fits p

  pub fits_in : Terms.Action → Type 0
  fits_in (out c t) = FitsTemplate c × fits_target t
  fits_in (input c t) = FitsTemplate c × fits_target t
  fits_in (read c t) = FitsTemplate c × fits_target t
  fits_in (eval p t) = fits p × fits_target t
  fits_in (newloc v) = v < 256
  fits_in (out_all c g) = FitsTemplate c × (g.0 < 65536)

-- the words of starts that a process of at most 512 instructions can have are resolved to their places
pub record Resolves (resolve : ℕ → Place) (place : Start → Place) : Type 0 where
  pub names : (k : ℕ) → k < 512 → resolve k ≡ place (called k)
  pub numbers : (n : ℕ) → n ≤ 512 → resolve (512 + n) ≡ place (here n)
