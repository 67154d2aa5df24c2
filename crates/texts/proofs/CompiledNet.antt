-- The nodes and instructions of a source's net are sound, and as a text starts them (`FreshParts.antt`), where the source is in
-- range (`Lines.antt`), its names are right and it has 1 to 512 instructions. Assumes nothing.
use Prim.Native.Nat.{ℕ, suc, ◌+◌, ◌<◌, ◌≤◌}
use mathlib.Core.Path.{◌≡◌, refl, sym, ap, subst, ◌∙◌}
use mathlib.Core.Bool.{Bool, true, false}
use mathlib.Core.List.{List, [], ◌∷◌}
use native.Mathlib.Omega.{arith}
use lib.ListN.{length, set, length-append}
use lib.Seq.{sets}
use borrow.Author.Tests.{eqb-true}
use Rattle.net.specs.Choice.{choose}
use Rattle.net.specs.Records.{address_of}
use Rattle.net.proofs.Every.{filled_set}
use Rattle.net.proofs.ReadingLaws.{never}
use Rattle.sound.proofs.NodeFacts.{RowsOk}
use Rattle.text.specs.Buffer.{over}
use Rattle.terms.specs.Terms.{Process, Action, nil, name, fork, act, out, input, read, eval, newloc, out_all}
use Rattle.terms.specs.Numbering.{size, called, start_of, code_of, uses, uses_in}
use Rattle.linking.specs.Source.{Line, definition, process, tuple, Source}
use Rattle.linking.specs.Names.{uses_line, used, names_right}
use Rattle.linking.specs.Compiled.{size_of, total, is_here, settled, place_in, line_code, code_from, rows_of, ruled, placed, peopled, with_code}
use Rattle.linking.specs.Compiled.{governed, compiled}
use Rattle.linking.proofs.Governed.{length_rows}
use Rattle.linking.proofs.Settles.{here_below, name_below, used_settles}
use Rattle.notation.specs.Scopes.{scope_of}
use Rattle.texts.specs.Types.{Scope, Row, Instruction, Net}
use Rattle.texts.proofs.Terms.{Fit, FitIn}
use Rattle.texts.proofs.Each.{Each, none, more, each_both}
use Rattle.texts.proofs.Lines.{LineOk, SourceOk}
use Rattle.texts.proofs.FreshParts.{InstructionFresh, CodeFresh, NetFresh, empty_fresh, fresh_at, fresh_with}
use Rattle.texts.proofs.FreshParts.{fresh_rows, fresh_process, fresh_tuple, owned_at, owned_rows, owned_process, owned_tuple}
use Rattle.texts.proofs.Compiled.{in_first, in_second, code_length, code_good, start_below}

-- ---- rows
ruled_fresh :
    (x : Scope) (k i : ℕ) (rss : List (List Row)) (s : Net) → x.addresses ≤ 16 → i + length rss ≤ x.addresses
    → Each (RowsOk x.format x.addresses) rss → NetFresh x k s → NetFresh x k (ruled i rss s)
unfolding ruled
ruled_fresh x k i [] s few h none ok = ok
ruled_fresh x k i (rs ∷ rss) s few h (more g e) ok =
    let l : i < x.addresses = omega arith in
    ruled_fresh x k (suc i) rss _ few (omega arith) e
    (fresh_with few s ok (address_of i) l _ (fresh_rows x k _ (fresh_at few s ok (address_of i) l) rs g)
    (owned_rows (address_of i) _ (owned_at few s ok (address_of i) l) rs))

-- ---- all lines: their names are right, and they have k instructions
module _ (x : Scope) (k : ℕ) (few : x.addresses ≤ 16) (all : List Line) (whole : total all ≤ k) (right : names_right all ≡ true) where
  abbrev Right : ℕ → Type 0
  Right j = is_here (settled all (called j)) ≡ true

  -- the names of a line are among those of all lines, and below 512
  abbrev UsedLine : Line → Type 0
  UsedLine l = (j : ℕ) → uses_line j l ≡ true → Right j

  module _ (m : ℕ) (p : Process) (h : m + size p ≤ k) (u : (j : ℕ) → uses j p ≡ true → Right j) where
    body_below : (place_in all (start_of m p)).0 < k
    body_below = start_below x k (place_in all) Right (here_below all k whole) (name_below all k whole) m p h u

    body_good : Fit x p → Each (InstructionFresh x k) (code_of (place_in all) m p)
    body_good f = code_good x k (place_in all) Right (here_below all k whole) (name_below all k whole) m p h f u

  placed_fresh :
      (m : ℕ) (l : Line) (s : Net) → m + size_of l ≤ k → LineOk x l → UsedLine l → NetFresh x k s
      → NetFresh x k (placed (place_in all) m l s)
  unfolding placed size_of LineOk uses_line
  placed_fresh m (definition j p) s h f u ok = ok
  placed_fresh m (process a p) s h f u ok =
      fresh_with few s ok a f.0 _ (fresh_process x k _ (fresh_at few s ok a f.0) a _ _ f.0 (body_below m p h u))
      (owned_process a _ (owned_at few s ok a f.0) _ _)
  placed_fresh m (tuple a t) s h f u ok =
      fresh_with few s ok a f.0 _ (fresh_tuple x k _ (fresh_at few s ok a f.0) a t f.0 f.1)
      (owned_tuple a _ (owned_at few s ok a f.0) t)

  line_good : (m : ℕ) (l : Line) → m + size_of l ≤ k → LineOk x l → UsedLine l → Each (InstructionFresh x k) (line_code (place_in all) m l)
  unfolding line_code size_of LineOk uses_line
  line_good m (definition j p) h f u = body_good m p h u f.1
  line_good m (process a p) h f u = body_good m p h u f.1
  line_good m (tuple a t) h f u = none

  line_length : (m : ℕ) (l : Line) → length (line_code (place_in all) m l) ≡ size_of l
  unfolding line_code size_of
  line_length m (definition j p) = code_length (place_in all) m p
  line_length m (process a p) = code_length (place_in all) m p
  line_length m (tuple a t) = refl

  -- the lines from one on, each with its names
  abbrev Used : List Line → Type 0
  Used ls = (j : ℕ) → used j ls ≡ true → Right j

  peopled_fresh :
      (m : ℕ) (ls : List Line) (s : Net) → m + total ls ≤ k → Each (LineOk x) ls → Used ls → NetFresh x k s
      → NetFresh x k (peopled (place_in all) m ls s)
  unfolding peopled total used
  peopled_fresh m [] s h none u ok = ok
  peopled_fresh m (l ∷ ls) s h (more f e) u ok =
      peopled_fresh (m + size_of l) ls _ (omega arith) e (λ j g. u j (in_second (uses_line j l) (used j ls) g))
      (placed_fresh m l s (omega arith) f (λ j g. u j (in_first (uses_line j l) (used j ls) g)) ok)

  code_from_law : (m : ℕ) (ls : List Line) → m + total ls ≤ k → Each (LineOk x) ls → Used ls → Each (InstructionFresh x k) (code_from (place_in all) m ls)
  unfolding code_from total used
  code_from_law m [] h none u = none
  code_from_law m (l ∷ ls) h (more f e) u =
      each_both _ _ (line_good m l (omega arith) f (λ j g. u j (in_first (uses_line j l) (used j ls) g)))
      (code_from_law (m + size_of l) ls (omega arith) e (λ j g. u j (in_second (uses_line j l) (used j ls) g)))

  from_length : (m : ℕ) (ls : List Line) → length (code_from (place_in all) m ls) ≡ total ls
  unfolding code_from total
  from_length m [] = refl
  from_length m (l ∷ ls) =
      length-append (line_code (place_in all) m l) (code_from (place_in all) (m + size_of l) ls)
      ∙ ap (λ (i : ℕ). i + length (code_from (place_in all) (m + size_of l) ls)) (line_length m l)
      ∙ ap (λ (i : ℕ). size_of l + i) (from_length (m + size_of l) ls)

-- ---- instructions stored one after another
stored :
    (x : Scope) (k i : ℕ) (cs xs : List Instruction) → i + length cs ≤ k → Each (InstructionFresh x k) cs → CodeFresh x k xs
    → CodeFresh x k (sets xs i cs)
stored x k i [] xs h none e = e
stored x k i (c ∷ cs) xs h (more g d) e = stored x k (suc i) cs (set xs i c) (omega arith) d (filled_set i c (omega arith) g e)

-- ---- a name that is used is below 512
one_of : {C : Type 0} (a b : Bool) → choose a true b ≡ true → (a ≡ true → C) → (b ≡ true → C) → C
unfolding choose
one_of true b e f g = f refl
one_of false b e f g = g e

mutual
  unfolding uses Fit

  uses_below : (x : Scope) (j : ℕ) (p : Process) → Fit x p → uses j p ≡ true → j < 512
  uses_below x j nil f e = never e
  uses_below x j (name i) f e = subst (λ (m : ℕ). m < 512) (sym (eqb-true j i e)) f
  uses_below x j (fork p q) f e = one_of (uses j p) (uses j q) e (λ g. uses_below x j p f.0 g) (λ g. uses_below x j q f.1 g)
  uses_below x j (act a p) f e = one_of (uses_in j a) (uses j p) e (λ g. inner_below x j a f.0 g) (λ g. uses_below x j p f.1 g)

  inner_below : (x : Scope) (j : ℕ) (a : Action) → FitIn x a → uses_in j a ≡ true → j < 512
  inner_below x j (out c t) f e = never e
  inner_below x j (input c t) f e = never e
  inner_below x j (read c t) f e = never e
  inner_below x j (eval p t) f e = uses_below x j p f.0 e
  inner_below x j (newloc v) f e = never e
  inner_below x j (out_all c g) f e = never e

line_below : (x : Scope) (j : ℕ) (l : Line) → LineOk x l → uses_line j l ≡ true → j < 512
unfolding LineOk uses_line
line_below x j (definition i p) f e = uses_below x j p f.1 e
line_below x j (process a p) f e = uses_below x j p f.1 e
line_below x j (tuple a t) f e = never e

used_below : (x : Scope) (j : ℕ) (ls : List Line) → Each (LineOk x) ls → used j ls ≡ true → j < 512
unfolding used
used_below x j [] none e = never e
used_below x j (l ∷ ls) (more f d) e = one_of (uses_line j l) (used j ls) e (line_below x j l f) (λ g. used_below x j ls d g)

-- ---- the whole
pub compiled_parts :
    (f : ℕ) (x : Source) → SourceOk f x → names_right x.lines ≡ true → NetFresh (scope_of x.policy) (total x.lines) (compiled x)
unfolding compiled governed scope_of with_code over
compiled_parts f x ok right =
    let scope : Scope = scope_of x.policy in
    let k : ℕ = total x.lines in
    let u : (j : ℕ) → used j x.lines ≡ true → is_here (settled x.lines (called j)) ≡ true =
    λ j e. used_settles x.lines right j (used_below scope j x.lines ok.lines_ok e) e in
    let few = ok.policy_ok.few in
    let net = peopled_fresh scope k few x.lines (omega arith) right 0 x.lines _ (omega arith) ok.lines_ok u
    (ruled_fresh scope k 0 (rows_of x.policy) _ few (omega (arith, length_rows x.policy)) ok.policy_ok.each (empty_fresh scope k)) in
    record {
      format_is = net.format_is;
      addresses_are = net.addresses_are;
      length_is = net.length_is;
      nodes = net.nodes;
      owned = net.owned;
      code =
          stored scope k 0 (code_from (place_in x.lines) 0 x.lines) _
          (omega (arith, from_length scope k few x.lines (omega arith) right 0 x.lines))
          (code_from_law scope k few x.lines (omega arith) right 0 x.lines (omega arith) ok.lines_ok u) net.code;
    }
