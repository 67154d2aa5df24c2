-- What is read fits its words (`fits` of `specs/Loading.antt`). Assumes nothing.
use Prim.Native.Nat.{ℕ, zero, suc, ◌+◌, ◌-◌, ◌*◌, ◌<◌, ◌≤◌}
use mathlib.Core.Path.{◌≡◌, ◌∙◌}
use mathlib.Core.Bool.{Bool, true, false}
use mathlib.Core.List.{List}
use native.Mathlib.Omega.{arith}
use native.Mathlib.Decide.{dec_le}
use lib.ListN.{get_or, set, length, length-set}
use lib.Seq.{get_or-set_same, get_or-set_other}
use lib.Dec.{leb, ltb}
use lib.IntN.{ℤ}
use borrow.Author.Tests.{leb-true}
use Rattle.net.specs.Choice.{choose}
use Rattle.net.specs.Records.{address_of, zero_instruction, with_pattern, pattern_at}
use Rattle.net.proofs.Laws.{both_r}
use Rattle.readers.specs.Reader.{Reader}
use Rattle.readers.proofs.Gives.{stopped, Gives, gives_pure, gives_weaken, gives_then, gives_and, gives_choice, gives_each, gives_require, Any, any}
use Rattle.lexemes.specs.Lexemes.{byte_at, look, fail, byte, word, digit, longer, another, rest, number}
use Rattle.fields.specs.Fields as Fields
use Rattle.fields.specs.Sets.{group_of, listed, group}
use Rattle.fields.proofs.SetLaws.{group_low}
use Rattle.processes.specs.Types.{Target, Pattern, TemplateField, Instruction, Scope}
use Rattle.terms.specs.Terms.{Process, Action, nil, name, fork, act, out, input, read, eval, newloc, out_all}
use Rattle.processes.specs.Reading.{named, called, at_target, communication, to_one, to_all, receiving, putting, evaluation, creation, simple, action}
use Rattle.processes.specs.Reading.{forked, ends_chain, ended, acting, chain, process_at}
use Rattle.processes.specs.Reading as Reading
use Rattle.terms.specs.Loading.{fits_target, fits_reading, fits_pattern, FitsTemplate, fits, fits_in}
use Rattle.terms.proofs.Loaded.{zero_fits}

pub gives_look : {A : Type 0} (P : A → Type 0) (f : ℕ → Reader A) → ((b : ℕ) → Gives Any (f b) P) → Gives Any (look f) P
unfolding look
gives_look P f g = record { run = λ s p. (g _).run s p }

-- ---- numbers keep to their limits
module _ (limit : ℕ) where
  longer_most : (v : ℕ) → Gives Any (longer limit v) (λ x. x ≤ limit)
  unfolding longer
  longer_most v =
      gives_then (any digit) (λ d _. gives_and (gives_require _ 31 tt)
      (λ _ e. gives_pure (λ x. x ≤ limit) (v * 10 + d) (leb-true (v * 10 + d) limit (both_r (leb 1 v) _ e))))

  another_most : (i v : ℕ) → v ≤ limit → Gives Any (another limit i v) (λ x. x ≤ limit)
  unfolding another
  another_most i v h = gives_look _ _ (λ b. gives_choice (λ x. x ≤ limit) _ _ _ (longer_most v) (gives_pure (λ x. x ≤ limit) v h))

  pub number_most : Gives Any (number limit) (λ x. x ≤ limit)
  unfolding number rest
  number_most =
      gives_then (any digit) (λ d _. gives_and (gives_require _ 31 tt)
      (λ _ e. gives_each (λ _ x. x ≤ limit) 10 (another limit) (λ i _ v h. another_most i v h) d (leb-true d limit e)))

pub named_most : Gives Any named (λ k. k ≤ 511)
unfolding named
named_most = gives_and (any (byte 65)) (λ _ _. number_most 511)

-- ---- targets and template fields
variable_low : Gives Any Fields.variable (λ v. v < 256)
unfolding Fields.variable
variable_low = gives_weaken (number_most 7) (λ v h. omega arith)

held_low : Gives Any Fields.held (λ v. v < 256)
unfolding Fields.held
held_low = gives_and (any (byte 118)) (λ _ _. variable_low)

address_low : (n : ℕ) → Gives Any (Fields.address n) (λ l. l.0 < 256)
unfolding Fields.address
address_low n = gives_then (number_most 15) (λ l h. gives_and (any _) (λ _ _. gives_pure (λ x. x.0 < 256) (address_of l) (omega arith)))

pub target_fits : (n : ℕ) → Gives Any (Fields.target n) fits_target
unfolding Fields.target Fields.own_target Fields.held_target Fields.written_target fits_target
target_fits n = gives_look _ _ (λ b. gives_choice fits_target _ _ _
    (gives_and (any Fields.own) (λ _ _. gives_pure fits_target Target.Own tt))
    (gives_choice fits_target _ _ _ (gives_then held_low (λ v h. gives_pure fits_target (Target.Held v) h))
    (gives_then (address_low n) (λ l h. gives_pure fits_target (Target.Written l) h))))

reading_fits_law : Gives Any Fields.reading fits_reading
unfolding Fields.reading Fields.negative Fields.positive fits_reading
reading_fits_law = gives_look _ _ (λ b. gives_choice fits_reading _ _ _
    (gives_and (any (byte 45)) (λ _ _. gives_then (number_most 2147483648)
    (λ v h. gives_and (any _) (λ _ _. gives_pure fits_reading (ℤ.negsuc (v - 1)) (omega arith)))))
    (gives_then (number_most 2147483647) (λ v h. gives_pure fits_reading (ℤ.pos v) (omega arith))))

fresh_low : (c : Instruction) → Gives Any (Fields.fresh c) (λ v. v < 256)
unfolding Fields.fresh
fresh_low c = gives_then variable_low (λ v h. gives_and (any _) (λ _ _. gives_pure (λ x. x < 256) v h))

bound_fits : (c : Instruction) → Gives Any (Fields.bound c) fits_pattern
unfolding Fields.bound Fields.formal_reading Fields.formal_address fits_pattern
bound_fits c = gives_look _ _ (λ b. gives_choice fits_pattern _ _ _
    (gives_and (any (byte 120)) (λ _ _. gives_then (fresh_low c) (λ v h. gives_pure fits_pattern (Pattern.FormalReading v) h)))
    (gives_and (any (byte 117)) (λ _ _. gives_then (fresh_low c) (λ v h. gives_pure fits_pattern (Pattern.FormalAddress v) h))))

pattern_fits_law : (formals : Bool) (n : ℕ) (c : Instruction) → Gives Any (Fields.pattern formals n c) fits_pattern
unfolding Fields.pattern Fields.formal Fields.address_pattern Fields.at_address Fields.own_pattern Fields.held_pattern Fields.reading_pattern fits_pattern
pattern_fits_law formals n c = gives_look _ _ (λ b. gives_choice fits_pattern _ _ _
    (gives_and (any _) (λ _ _. gives_and (any (byte 33)) (λ _ _. bound_fits c)))
    (gives_choice fits_pattern _ _ _
    (gives_then (gives_and (any (byte 64)) (λ _ _. address_low n)) (λ l h. gives_pure fits_pattern (Pattern.Address l) h))
    (gives_choice fits_pattern _ _ _ (gives_and (any Fields.own) (λ _ _. gives_pure fits_pattern Pattern.Own tt))
    (gives_choice fits_pattern _ _ _ (gives_then held_low (λ v h. gives_pure fits_pattern (Pattern.Held v) h))
    (gives_then reading_fits_law (λ x h. gives_pure fits_pattern (Pattern.Reading x) h))))))

-- ---- templates
field_set :
    (c : Instruction) (f : TemplateField) (k i : ℕ) (d : TemplateField) → length c.template ≡ 4 → i < 4 → fits_pattern f.pattern
    → fits_pattern (get_or c.template i d).pattern → fits_pattern (get_or (set c.template k f) i d).pattern
field_set c f k i d l h g e = go (dec_le i k) (dec_le k i)
  where
    other : (i ≡ k → ⊥) → fits_pattern (get_or (set c.template k f) i d).pattern
    other z = rw (get_or-set_other c.template k i f d z) e

    go : Dec (i ≤ k) → Dec (k ≤ i) → fits_pattern (get_or (set c.template k f) i d).pattern
    go (yes y) (yes z) =
        let same : k ≡ i = omega arith in rw (same, get_or-set_same c.template i f d (omega (arith, l, h))) g
    go (yes y) (no z) = other (λ w. z (omega arith))
    go (no y) z = other (λ w. y (omega arith))

with_fits : (c : Instruction) (x : Pattern) → FitsTemplate c → fits_pattern x → FitsTemplate (with_pattern c (record { pattern = x }))
unfolding with_pattern pattern_at choose
with_fits c x f g = go (ltb c.count 4)
  where
    go : (b : Bool) → FitsTemplate (choose b (record { action = c.action; count = c.count + 1; template = set c.template c.count (record { pattern = x }) }) c)
    go true = record {
      four = length-set c.template c.count (record { pattern = x }) ∙ f.four;
      fields = λ i h. field_set c (record { pattern = x }) c.count i _ f.four h g (f.fields i h);
    }
    go false = f

patterns_fit : (k : ℕ) (formals : Bool) (n : ℕ) (c : Instruction) → FitsTemplate c → Gives Any (Fields.fields k (Fields.templateField formals n) c) FitsTemplate
unfolding Fields.fields Fields.templateField fail
patterns_fit zero formals n c f = record { run = λ s p. stopped tt }
patterns_fit (suc k) formals n c f =
    gives_then (gives_then (pattern_fits_law formals n c) (λ x h. gives_pure FitsTemplate _ (with_fits c x f h)))
    (λ d h. gives_then (any _) (λ more _. gives_choice FitsTemplate more _ _ (patterns_fit k formals n d h) (gives_pure FitsTemplate d h)))

pub template_fits : (formals : Bool) (n : ℕ) → Gives Any (Fields.template formals n) FitsTemplate
unfolding Fields.template
template_fits formals n = patterns_fit 4 formals n zero_instruction zero_fits

-- ---- actions and processes
target_after : (n : ℕ) → Gives Any (at_target n) fits_target
unfolding at_target
target_after n = gives_and (any _) (λ _ _. target_fits n)

group_fits : (n : ℕ) → Gives Any (group n) (λ g. g.0 < 65536)
unfolding group
group_fits n =
    gives_and (any (byte 123)) (λ _ _. gives_then (any (listed n))
    (λ marks _. gives_and (any (byte 125)) (λ _ _. gives_pure (λ g. g.0 < 65536) (group_of marks) (group_low marks))))

module _ (inner : Reader Process) (g : Gives Any inner fits) (x : Scope) where
  talk_fits :
      (opening : List ℕ) (make : Instruction → Target → Action)
      → ((c : Instruction) (t : Target) → FitsTemplate c → fits_target t → fits_in (make c t)) → Gives Any (communication opening make x) fits_in
  unfolding communication
  talk_fits opening make f =
      gives_and (any (word opening)) (λ _ _. gives_then (template_fits true x.addresses)
      (λ c h. gives_then (target_after x.addresses) (λ t k. gives_pure fits_in (make c t) (f c t h k))))

  put_fits : Gives Any (putting x) fits_in
  unfolding putting receiving to_one to_all fits_in
  put_fits =
      gives_and (any _) (λ _ _. gives_then (template_fits false x.addresses) (λ c h. gives_and (any _) (λ _ _. gives_look _ _ (λ b. gives_choice fits_in _ _ _
      (gives_then (group_fits x.addresses) (λ s k. gives_pure fits_in (out_all c s) (h, k)))
      (gives_then (target_fits x.addresses) (λ t k. gives_pure fits_in (out c t) (h, k)))))))

  action_fits_law : Gives Any (action inner x) fits_in
  unfolding action simple evaluation creation fits_in
  action_fits_law = gives_look _ _ (λ b. gives_choice fits_in _ _ _
      (gives_and (any _) (λ _ _. gives_then g (λ p h. gives_then (target_after x.addresses) (λ t k. gives_pure fits_in (eval p t) (h, k)))))
      (gives_look _ _ (λ b. gives_choice fits_in _ _ _ put_fits
      (gives_choice fits_in _ _ _ (talk_fits _ input (λ c t h k. (h, k)))
      (gives_choice fits_in _ _ _ (talk_fits _ read (λ c t h k. (h, k)))
      (gives_and (any _) (λ _ _. gives_then variable_low (λ v h. gives_and (any (byte 41)) (λ _ _. gives_pure fits_in (newloc v) h)))))))))

  ended_fits : Gives Any (ended inner) fits
  unfolding ended called forked Reading.stopped fits
  ended_fits = gives_look _ _ (λ b. gives_choice fits _ _ _
      (gives_then named_most (λ k h. gives_pure fits (name k) (omega arith)))
      (gives_choice fits _ _ _
      (gives_and (any (byte 40)) (λ _ _. gives_then g (λ p h. gives_and (any _) (λ _ _. gives_then g (λ q k. gives_and (any (byte 41)) (λ _ _. gives_pure fits (fork p q) (h, k)))))))
      (gives_and (any _) (λ _ _. gives_pure fits nil tt))))

  chain_fits : (k : ℕ) → Gives Any (chain k inner x) fits
  unfolding chain fail acting fits
  chain_fits zero = record { run = λ s p. stopped tt }
  chain_fits (suc k) = record {
    run = λ s p. (gives_choice fits (ends_chain (byte_at s p) (byte_at s (p + 1))) _ _ ended_fits
        (gives_then action_fits_law (λ a h. gives_and (any (byte 46)) (λ _ _. gives_then (chain_fits k) (λ r l. gives_pure fits (act a r) (h, l)))))).run s p;
  }

-- every process that is read fits its words
pub process_fits_law : (d : ℕ) (x : Scope) → Gives Any (process_at d x) fits
unfolding process_at fail
process_fits_law zero x = record { run = λ s p. stopped tt }
process_fits_law (suc d) x = record { run = λ s p. (chain_fits (process_at d x) (process_fits_law d x) x (length s)).run s p }
