-- The lines at addresses of a net's source: processes, each the name of an instruction below k, and tuples. They have no
-- instructions of their own and define no name. Assumes nothing.
use Prim.Native.Nat.{ℕ, ◌+◌, ◌<◌}
use mathlib.Core.Path.{◌≡◌, refl}
use mathlib.Core.List.{List, []}
use native.Mathlib.Omega.{arith}
use borrow.Author.Tests.{eqb-true}
use Rattle.net.proofs.ReadingLaws.{never}
use Rattle.terms.specs.Numbering.{size, Start, code_of, uses}
use Rattle.linking.specs.Source.{Line, process, tuple}
use Rattle.linking.specs.Compiled.{size_of, total, line_code, code_from}
use Rattle.linking.specs.Names.{uses_line, defines, defined}
use Rattle.sources.specs.WellFormed.{Each, none, more}
use Rattle.read_back.specs.Types.{Locality, Place, Tuple}
use Rattle.read_back.specs.NetSource.{named}
use Rattle.read_back.proofs.LineLists.{UsesBelow}

pub data Located (k : ℕ) : Line → Type 0 where
  starts : {a : Locality} {p : Place} → p.0 < k → Located k (process a (named p))
  stores : {a : Locality} {t : Tuple} → Located k (tuple a t)

pub located_below : (k : ℕ) (l : Line) → Located k l → UsesBelow k l
unfolding uses_line uses named
located_below k _ (starts {p = p} h) j e = omega (arith, eqb-true j p.0 e)
located_below k _ stores j e = never e

module _ {k : ℕ} where
  located_size : (l : Line) → Located k l → size_of l ≡ 0
  unfolding size_of size named
  located_size _ (starts h) = refl
  located_size _ stores = refl

  located_nothing : (place : Start → Place) (m : ℕ) (l : Line) → Located k l → line_code place m l ≡ []
  unfolding line_code code_of named
  located_nothing place m _ (starts h) = refl
  located_nothing place m _ stores = refl

  located_unnamed : (j : ℕ) (l : Line) → Located k l → defines j l ≡ 0
  unfolding defines
  located_unnamed j _ (starts h) = refl
  located_unnamed j _ stores = refl

  pub located_total : {ms : List Line} (ls : List Line) → Each (λ before. Located k) ms ls → total ls ≡ 0
  unfolding total
  located_total _ none = refl
  located_total _ (more {y = l} {ys = ls} h e) =
      let rest = located_total ls e in
      omega (arith, located_size l h)

  pub located_code :
      (place : Start → Place) (m : ℕ) {ms : List Line} (ls : List Line) → Each (λ before. Located k) ms ls
      → code_from place m ls ≡ []
  unfolding code_from
  located_code place m _ none = refl
  located_code place m _ (more {y = l} {ys = ls} h e) = rw (located_nothing place m l h) (located_code place (m + size_of l) ls e)

  pub located_defined : (j : ℕ) {ms : List Line} (ls : List Line) → Each (λ before. Located k) ms ls → defined j ls ≡ 0
  unfolding defined
  located_defined j _ none = refl
  located_defined j _ (more {y = l} {ys = ls} h e) =
      let rest = located_defined j ls e in
      omega (arith, located_unnamed j l h)
