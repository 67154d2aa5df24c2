-- Where names are right, every start of a source is resolved to one of its instructions (`specs/Names.antt` and
-- `specs/Compiled.antt`). Assumes nothing.
use Prim.Native.Nat.{ℕ, zero, suc, ◌+◌, ◌<◌, ◌≤◌}
use mathlib.Core.Path.{◌≡◌}
use mathlib.Core.Bool.{Bool, true, false}
use mathlib.Core.List.{List, [], ◌∷◌}
use native.Mathlib.Omega.{arith}
use lib.Dec.{eqb, leb}
use Rattle.net.specs.Choice.{choose, implies}
use Rattle.net.proofs.Laws.{both_l, both_r, implies_e, all_e}
use Rattle.net.proofs.ReadingLaws.{never}
use Rattle.terms.specs.Terms.{Process, nil, name, fork, act}
use Rattle.terms.specs.Numbering.{size, Start, here, called, start_of}
use Rattle.linking.specs.Source.{Line, definition, process, tuple}
use Rattle.linking.specs.Compiled.{size_of, total, defined_in, settle, number_of, is_here, settled, place_in}
use Rattle.linking.specs.Names.{used, defined, name_right, names_right}

-- a start at an instruction below k, or a name
Below : ℕ → Start → Type 0
Below k (here m) = m < k
Below k (called j) = Unit {0}

start_below : (k m : ℕ) (p : Process) → m + size p ≤ k → Below k (start_of m p)
unfolding start_of size Below
start_below k m nil h = omega arith
start_below k m (name j) h = tt
start_below k m (fork p q) h = omega arith
start_below k m (act a p) h = omega arith

either : (k : ℕ) (b : Bool) (x y : Start) → Below k x → Below k y → Below k (choose b x y)
unfolding choose
either k true x y h g = h
either k false x y h g = g

defined_below : (j k m : ℕ) (ls : List Line) → m + total ls ≤ k → Below k (defined_in j m ls)
unfolding defined_in total size_of Below
defined_below j k m [] h = tt
defined_below j k m (definition i p ∷ ls) h =
    either k (eqb j i) _ _ (start_below k m p (omega arith)) (defined_below j k (m + size p) ls (omega arith))
defined_below j k m (process a p ∷ ls) h = defined_below j k (m + size p) ls (omega arith)
defined_below j k m (tuple a t ∷ ls) h = defined_below j k m ls (omega arith)

module _ (ls : List Line) (k : ℕ) (whole : total ls ≤ k) where
  settle_below : (h : ℕ) (x : Start) → Below k x → Below k (settle h ls x)
  unfolding settle Below
  settle_below zero x b = b
  settle_below (suc h) (here m) b = b
  settle_below (suc h) (called j) b = settle_below h (defined_in j 0 ls) (defined_below j k 0 ls (omega arith))

  number_below : (x : Start) → Below k x → is_here x ≡ true → number_of x < k
  unfolding is_here number_of Below
  number_below (here m) b e = b
  number_below (called j) b e = never e

  number_most : (x : Start) → Below k x → number_of x ≤ k
  unfolding number_of Below
  number_most (here m) b = omega arith
  number_most (called j) b = omega arith

  pub name_most : (j : ℕ) → number_of (settled ls (called j)) ≤ k
  unfolding settled Below
  name_most j = number_most (settle 512 ls (called j)) (settle_below 512 (called j) tt)

  -- an instruction stands for itself, and a name that settles for one of the instructions
  pub here_below : (m : ℕ) → m < k → (place_in ls (here m)).0 < k
  unfolding place_in settled settle number_of
  here_below m h = h

  pub name_below : (j : ℕ) → is_here (settled ls (called j)) ≡ true → (place_in ls (called j)).0 < k
  unfolding place_in settled Below
  name_below j e = number_below (settle 512 ls (called j)) (settle_below 512 (called j) tt) e

-- a name that is used settles, where the names are right
pub used_settles : (ls : List Line) → names_right ls ≡ true → (j : ℕ) → j < 512 → used j ls ≡ true → is_here (settled ls (called j)) ≡ true
unfolding names_right name_right
used_settles ls h j l u =
    let right = all_e 512 _ h j l in
    let rest = both_r (leb (defined j ls) 1) _ right in
    implies_e (leb 1 (defined j ls)) _ (both_r (implies (used j ls) (leb 1 (defined j ls))) _ rest)
    (implies_e (used j ls) _ (both_l _ _ rest) u)
