-- What lines leave as it was in a net, and lines with one more at their end (`specs/Compiled.antt`, `specs/State.antt`).
-- Assumes nothing.
use Prim.Native.Nat.{ℕ, zero, suc, ◌+◌}
use mathlib.Core.Path.{◌≡◌, refl, ap, ◌∙◌}
use mathlib.Core.List.{List, [], ◌∷◌, ◌++◌}
use native.Mathlib.Omega.{arith}
use Rattle.net.specs.Choice.{fold}
use Rattle.net.specs.Records.{node_at, with_node, with_counts}
use Rattle.terms.specs.Numbering.{Start}
use Rattle.linking.specs.Types.{Place, Net}
use Rattle.linking.specs.Source.{Line, definition, process, tuple}
use Rattle.linking.specs.Compiled.{size_of, total, placed, peopled}
use Rattle.linking.specs.Placing.{moved_address, moved_net}
use Rattle.linking.specs.State.{State, unplaced, after, after_all, FitsLine, FitAll}

-- ---- two nets that differ in their nodes alone
pub record SameFrame (s t : Net) : Type 0 where
  pub format_is : t.format ≡ s.format
  pub addresses_are : t.addresses ≡ s.addresses
  pub length_is : t.length ≡ s.length
  pub code_is : t.code ≡ s.code

module _ (place : Start → Place) where
  -- ---- one line
  placed_counts : (n : ℕ) (l : Line) (s : Net) (m k : ℕ) → placed place n l (with_counts s m k) ≡ with_counts (placed place n l s) m k
  unfolding placed with_counts with_node node_at
  placed_counts n (definition j p) s m k = refl
  placed_counts n (process a p) s m k = refl
  placed_counts n (tuple a t) s m k = refl

  pub placed_frame : (n : ℕ) (l : Line) (s : Net) → SameFrame s (placed place n l s)
  unfolding placed with_node
  placed_frame n (definition j p) s = record { format_is = refl; addresses_are = refl; length_is = refl; code_is = refl }
  placed_frame n (process a p) s = record { format_is = refl; addresses_are = refl; length_is = refl; code_is = refl }
  placed_frame n (tuple a t) s = record { format_is = refl; addresses_are = refl; length_is = refl; code_is = refl }

  -- ---- all lines
  pub peopled_any_counts :
      (n : ℕ) (ls : List Line) (s : Net) (m k : ℕ) → peopled place n ls (with_counts s m k) ≡ with_counts (peopled place n ls s) m k
  unfolding peopled
  peopled_any_counts n [] s m k = refl
  peopled_any_counts n (l ∷ ls) s m k =
      ap (peopled place (n + size_of l) ls) (placed_counts n l s m k)
      ∙ peopled_any_counts (n + size_of l) ls (placed place n l s) m k

  pub peopled_counts :
      (n : ℕ) (ls : List Line) (s : Net) (k : ℕ)
      → peopled place n ls (with_counts s s.addresses k) ≡ with_counts (peopled place n ls s) s.addresses k
  peopled_counts n ls s k = peopled_any_counts n ls s s.addresses k

  pub peopled_frame : (n : ℕ) (ls : List Line) (s : Net) → SameFrame s (peopled place n ls s)
  unfolding peopled
  peopled_frame n [] s = record { format_is = refl; addresses_are = refl; length_is = refl; code_is = refl }
  peopled_frame n (l ∷ ls) s =
      let first = placed_frame n l s in
      let rest = peopled_frame (n + size_of l) ls (placed place n l s) in
      record {
        format_is = rest.format_is ∙ first.format_is;
        addresses_are = rest.addresses_are ∙ first.addresses_are;
        length_is = rest.length_is ∙ first.length_is;
        code_is = rest.code_is ∙ first.code_is;
      }

  -- ---- one line more
  pub peopled_more :
      (n : ℕ) (ls : List Line) (l : Line) (s : Net)
      → peopled place n (ls ++ (l ∷ [])) s ≡ placed place (n + total ls) l (peopled place n ls s)
  unfolding peopled total
  peopled_more n [] l s = ap (λ (m : ℕ). placed place m l s) (omega arith)
  peopled_more n (x ∷ ls) l s =
      peopled_more (n + size_of x) ls l (placed place n x s)
      ∙ ap (λ (m : ℕ). placed place m l (peopled place (n + size_of x) ls (placed place n x s))) (omega arith)

-- ---- processes moved to their places
module _ (resolve : ℕ → Place) (starts : List ℕ) (s : Net) where
  folded_frame : (n : ℕ) → SameFrame s (fold n (moved_address resolve starts) s)
  unfolding fold moved_address with_node
  folded_frame zero = record { format_is = refl; addresses_are = refl; length_is = refl; code_is = refl }
  folded_frame (suc n) =
      let before = folded_frame n in
      record { format_is = before.format_is; addresses_are = before.addresses_are; length_is = before.length_is; code_is = before.code_is }

  pub moved_frame : SameFrame s (moved_net resolve starts s)
  unfolding moved_net
  moved_frame = folded_frame 16

-- ---- how many instructions one line more has
pub total_more : (ls : List Line) (l : Line) → total (ls ++ (l ∷ [])) ≡ total ls + size_of l
unfolding total
total_more [] l = omega arith
total_more (x ∷ ls) l = let rest = total_more ls l in omega (arith, rest)

-- ---- the state after lines
pub after_more : (ls : List Line) (l : Line) (s : State) → after_all (ls ++ (l ∷ [])) s ≡ after l (after_all ls s)
unfolding after_all
after_more [] l s = refl
after_more (x ∷ ls) l s = after_more ls l (after x s)

pub fit_more :
    (ls : List Line) (l : Line) (s : State) → FitAll ls s → FitsLine (after_all ls s).net l → FitAll (ls ++ (l ∷ [])) s
unfolding after_all FitAll
fit_more [] l s h f = (f, tt)
fit_more (x ∷ ls) l s h f = (h.0, fit_more ls l (after x s) h.1 f)

pub after_count_one : (l : Line) (s : State) → (after l s).count ≡ s.count + size_of l
unfolding after size_of
after_count_one (definition k x) s = refl
after_count_one (process a x) s = refl
after_count_one (tuple a t) s = omega arith

pub after_count : (ls : List Line) (s : State) → (after_all ls s).count ≡ s.count + total ls
unfolding after_all total
after_count [] s = omega arith
after_count (l ∷ ls) s = after_count ls (after l s) ∙ omega (arith, after_count_one l s)

-- its net is that of the lines, with every process at place 0
pub after_net_one : (l : Line) (s : State) → (after l s).net ≡ placed unplaced s.count l s.net
unfolding after placed
after_net_one (definition k x) s = refl
after_net_one (process a x) s = refl
after_net_one (tuple a t) s = refl

pub after_net : (ls : List Line) (s : State) → (after_all ls s).net ≡ peopled unplaced s.count ls s.net
unfolding after_all peopled
after_net [] s = refl
after_net (l ∷ ls) s = after_net ls (after l s) ∙ rw (after_count_one l s, after_net_one l s) refl
