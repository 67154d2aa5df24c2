-- The nets that the layout of an image gives (`WrittenNet.antt`), said of the net alone: what stands at each address and
-- at each place of the code. Assumes nothing.
use Prim.Native.Nat.{ℕ, zero, suc, ◌<◌}
use mathlib.Core.Path.{◌≡◌, refl, sym, ap, subst, ◌∙◌}
use mathlib.Core.List.{List, [], ◌∷◌, map}
use native.Mathlib.Omega.{arith}
use lib.ListN.{length, get_or, length-map}
use Rattle.written.specs.Types.{Node, Instruction, Net}
use Rattle.net.specs.Records.{alike, zero_node, zero_instruction, empty_net}
use Rattle.written.specs.ImageOf.{net_bits}
use Rattle.net.proofs.Every.{Every, Filled}
use Rattle.written.proofs.ReadsWrites.{Reads, Ranged, reads_as}
use Rattle.written.proofs.ReadsCells.{Through}
use Rattle.written.proofs.WrittenCode.{InstructionOk}
use Rattle.written.proofs.WrittenPasses.{net_is, pass_over, vacated}
use Rattle.written.proofs.WrittenPasses.{emptied, code_of, RowsPass, ProcessesPass, TuplesPass, CodePass}
use Rattle.written.proofs.WrittenStages.{AtEach, Staged, Blank, WithTuples, ruled, peopled, stocked}
use Rattle.written.proofs.WrittenNet.{body, FromTuples, FromProcesses, FromRows, FromHeader, reads_from_header}
use Rattle.written.proofs.WrittenNet.{empty_at}
use Rattle.net.proofs.Past.{past_node, past_instruction}
use Rattle.written.proofs.WrittenProcesses.{bare_node, free}

-- the code of the net s
abbrev pub CodeOk : Net → List Instruction → Type 0
CodeOk s =
    Every (Filled (InstructionOk s.format s.addresses s.length) (λ c. zero_instruction ≡ c) s.length) past_instruction
    512

pub record NetOk (s : Net) : Type 0 where
  pub format_ok : Ranged 1 3 s.format
  pub addresses_ok : Ranged 1 17 s.addresses
  pub length_ok : Ranged 1 513 s.length
  pub nodes_ok : AtEach (λ a. WithTuples a s.format s.addresses s.length) s.addresses s.nodes
  pub code_ok : CodeOk s s.code

-- ---- what the passes give
module _ (s b : Net) (g : Staged WithTuples s) (t : Through (code_of s) s s.length b) where
  -- the net before its code is read, in the words of the net after it
  before : s ≡ record { format = b.format; addresses = b.addresses; length = b.length; nodes = b.nodes; code = s.code }
  before = λ i. record {
    format = t.frame.format_is i;
    addresses = t.frame.addresses_are i;
    length = t.frame.length_is i;
    nodes = t.frame.nodes_are i;
    code = s.code;
  }

  placed : CodeOk s b.code
  placed = record {
    size_is = t.cells_ok.size_is;
    holds = λ p h. record {
      used = (t.cells_ok.holds p h).good;
      unused = λ l.
          sym (empty_at p h) ∙ ap (λ xs. get_or xs p past_instruction) g.code_is ∙ (t.cells_ok.holds p h).kept l;
    };
  }

  coded : NetOk b
  coded =
      let stage = subst (Staged WithTuples) before g in
      record {
        format_ok = stage.format_ok;
        addresses_ok = stage.addresses_ok;
        length_ok = stage.length_ok;
        nodes_ok = stage.nodes_ok;
        code_ok = subst (λ (x : Net). CodeOk x b.code) before placed;
      }

from_ok : (b : Net) → FromHeader b → NetOk b
unfolding FromHeader FromRows FromProcesses FromTuples CodePass
from_ok b (s₁, g, (s₂, r, (s₃, p, (s₄, t, c)))) =
    coded s₄ b (stocked s₃ s₄ (peopled s₂ s₃ (ruled s₁ s₂ g r) p) t) c

-- ---- the nets between the passes, made from the last one
map_at : {A B : Type 0} (f : A → B) (xs : List A) (j : ℕ) (d : A) (e : B) → j < length xs
    → get_or (map f xs) j e ≡ f (get_or xs j d)
map_at f [] j d e h = absurd (omega arith)
map_at f (x ∷ xs) zero d e h = refl
map_at f (x ∷ xs) (suc j) d e h = map_at f xs j d e (omega arith)

map_same : {A : Type 0} (xs : List A) → map (λ x. x) xs ≡ xs
map_same [] = refl
map_same (x ∷ xs) = ap (λ ys. x ∷ ys) (map_same xs)

stage : (Node → Node) → Net → Net
stage f b = record {
  format = b.format;
  addresses = b.addresses;
  length = b.length;
  nodes = map f b.nodes;
  code = empty_net.code;
}

module _ (b : Net) (ok : NetOk b) where
  node_at_law : (f : Node → Node) (a : ℕ) → a < 16 → get_or (map f b.nodes) a past_node ≡ f (get_or b.nodes a past_node)
  node_at_law f a h = map_at f b.nodes a past_node past_node (omega (arith, ok.nodes_ok.size_is))

  pass : (f g undo : Node → Node) (Good : ℕ → Node → Type 0) → ((x : Node) → undo (g x) ≡ f x) → f zero_node ≡ g zero_node
      → ((a : ℕ) (x : Node) → WithTuples a b.format b.addresses b.length x → Good a (g x))
      → Through (pass_over (stage f b) Good undo) (stage f b) b.addresses (stage g b)
  unfolding stage
  pass f g undo Good u z good = record {
    frame = record { format_is = refl; addresses_are = refl; length_is = refl; code_is = refl };
    cells_ok = record {
      size_is = length-map b.nodes g ∙ ok.nodes_ok.size_is;
      holds = λ a h. record {
        good = λ l. subst (Good a) (sym (node_at_law g a h)) (good a _ ((ok.nodes_ok.holds a h).used l));
        undone = λ l. ap undo (node_at_law g a h) ∙ u _ ∙ sym (node_at_law f a h);
        kept = λ l.
            let e = (ok.nodes_ok.holds a h).unused l in
            node_at_law f a h ∙ ap f (sym e) ∙ z ∙ ap g e ∙ sym (node_at_law g a h);
      };
    };
  }

  staged_blank : Staged Blank (stage (λ x. zero_node) b)
  unfolding stage
  staged_blank = record {
    format_ok = ok.format_ok;
    addresses_ok = ok.addresses_ok;
    length_ok = ok.length_ok;
    nodes_ok = record {
      size_is = length-map b.nodes _ ∙ ok.nodes_ok.size_is;
      holds = λ a h. record {
        used = λ l. sym (node_at_law (λ x. zero_node) a h);
        unused = λ l. sym (node_at_law (λ x. zero_node) a h);
      };
    };
    code_is = refl;
  }

  code_pass : CodePass (stage (λ x. x) b) b
  unfolding stage CodePass
  code_pass = record {
    frame = record { format_is = refl; addresses_are = refl; length_is = refl; nodes_are = map_same b.nodes };
    cells_ok = record {
      size_is = ok.code_ok.size_is;
      holds = λ p h. record {
        good = (ok.code_ok.holds p h).used;
        undone = λ l. sym (empty_at p h);
        kept = λ l. empty_at p h ∙ (ok.code_ok.holds p h).unused l;
      };
    };
  }

  ok_from : FromHeader b
  unfolding FromHeader FromRows FromProcesses FromTuples RowsPass ProcessesPass TuplesPass stage zero_node bare_node alike
  ok_from = (
    stage (λ x. zero_node) b,
    staged_blank,
    (
      stage (λ x. bare_node x.rows free) b,
      pass (λ x. zero_node) _ (λ x. zero_node) _ (λ x. refl) refl (λ a x k. record { rows_ok = k.rows_ok; bare = refl }),
      (
        stage emptied b,
        pass _ emptied vacated _ (λ x. refl) refl
            (λ a x k. record {
              count = k.slots_ok.count;
              slots = record { few = k.slots_ok.slots.few; slots_ok = k.slots_ok.slots.slots_ok };
            }),
        (stage (λ x. x) b, pass emptied (λ x. x) emptied _ (λ x. refl) refl (λ a x k. k.store_ok), code_pass),
      ),
    ),
  )

pub reads_body : Reads body net_bits NetOk
reads_body = reads_as reads_from_header from_ok ok_from (λ b z. refl)
