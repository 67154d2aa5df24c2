-- Rows with at least the rights of another, and that each row of a creator has these after a new. Assumes nothing.
use Prim.Native.Nat.{ℕ, zero, suc, ◌<◌}
use mathlib.Core.Path.{◌≡◌, refl, sym, ap, subst, ◌∙◌}
use mathlib.Core.Bool.{Bool, true, false}
use mathlib.Core.List.{List, [], ◌∷◌}
use lib.Dec.{eqb, ltb}
use lib.ListN.{get_or, set, get_or-replicate}
use borrow.Author.Tests.{ltb-true}
use Rattle.net.specs.Choice.{choose}
use Rattle.net.specs.Records.{rights_at, row_at, row_for, all_rights, alike, zero_row, with_rights, with_rows}
use Rattle.net.proofs.Every.{chosen}
use Rattle.net.proofs.GroupLaws.{members_map}
use Rattle.net.proofs.NodeLaws.{row_in_law}
use Rattle.net.proofs.Past.{past_rights, past_row}
use Rattle.keeping.specs.Keeping.{may_take, may_read, may_put, may_put_all, may_send, may_create, at_target, permits}
use Rattle.keeping.proofs.KeepingPromise.{keeping_promise as promise}
use Rattle.sound.proofs.NodeFacts.{RowsOk}
use Rattle.plans.specs.Additions.{gaining, creator_rows}
use Rattle.lean_step.specs.Types.{Locality, Rights, Row, Process, Node, Target, Action}

-- an element of a list after a store: the one stored, or the one that stood there
pub at_set :
    {A : Type 0} (P : A → Type 0) (xs : List A) (i j : ℕ) (y d : A) → (j ≡ i → P y) → P (get_or xs j d)
    → P (get_or (set xs i y) j d)
at_set P [] i j y d f h = h
at_set P (x ∷ xs) zero zero y d f h = f refl
at_set P (x ∷ xs) zero (suc j) y d f h = h
at_set P (x ∷ xs) (suc i) zero y d f h = h
at_set P (x ∷ xs) (suc i) (suc j) y d f h = at_set P xs i j y d (λ e. f (ap suc e)) h

-- ---- the row r' has every right of r
pub record Covers (r r' : Row) : Type 0 where
  pub take : (l : Locality) → may_take r l ≡ true → may_take r' l ≡ true
  pub read : (l : Locality) → may_read r l ≡ true → may_read r' l ≡ true
  pub put : (l : Locality) → may_put r l ≡ true → may_put r' l ≡ true
  pub send : (l : Locality) → may_send r l ≡ true → may_send r' l ≡ true
  pub create : may_create r ≡ true → may_create r' ≡ true

itself_covers : (r : Row) → Covers r r
itself_covers r = record { take = λ l h. h; read = λ l h. h; put = λ l h. h; send = λ l h. h; create = λ h. h }

-- so it permits what r permits
module _ (r r' : Row) (a : Locality) (c : Covers r r') where
  target_covers :
      (t : Target) (may may' : Locality → Bool) → ((l : Locality) → may l ≡ true → may' l ≡ true)
      → at_target t a may ≡ true → at_target t a may' ≡ true
  unfolding at_target
  target_covers (Target.Written l) may may' f h = f l h
  target_covers Target.Own may may' f h = f a h
  target_covers (Target.Held v) may may' f h = refl

  pub permits_more : (x : Action) → permits r a x ≡ true → permits r' a x ≡ true
  unfolding permits may_put_all
  permits_more Action.Stop h = refl
  permits_more (Action.Out t q) h = target_covers t _ _ c.put h
  permits_more (Action.In t q) h = target_covers t _ _ c.take h
  permits_more (Action.Read t q) h = target_covers t _ _ c.read h
  permits_more (Action.Eval t sent q) h = target_covers t _ _ c.send h
  permits_more (Action.New v q) h = c.create h
  permits_more (Action.Fork q q') h = refl
  permits_more (Action.OutAll g q) h = members_map g _ _ c.put h

-- ---- a row with every right on an address besides
module _ (r : Row) (l : Locality) where
  gained_at_law : (P : Rights → Type 0) (m : Locality) → P all_rights → P (rights_at r m) → P (rights_at (gaining r l) m)
  unfolding gaining with_rights rights_at
  gained_at_law P m all h = at_set P r.rights l.0 m.0 all_rights past_rights (λ e. all) h

  gaining_covers : Covers r (gaining r l)
  unfolding all_rights gaining with_rights choose
  gaining_covers = record {
    take = λ m h. promise.takes _ m ∙ gained_at_law (λ x. x.take ≡ true) m refl (sym (promise.takes r m) ∙ h);
    read = λ m h.
        promise.reads _ m
        ∙ gained_at_law (λ x. choose x.take true x.read ≡ true) m refl (sym (promise.reads r m) ∙ h);
    put = λ m h. promise.puts _ m ∙ gained_at_law (λ x. x.put ≡ true) m refl (sym (promise.puts r m) ∙ h);
    send = λ m h. promise.sends _ m ∙ gained_at_law (λ x. x.send ≡ true) m refl (sym (promise.sends r m) ∙ h);
    create = λ h. promise.creates _ ∙ sym (promise.creates r) ∙ h;
  }

-- ---- the rows of a creator after a new, in either format: each has the rights that it had
module _ (f n : ℕ) (x : Node) (ok : RowsOk f n x.rows) (p : Process) (l : Locality) (low : p.origin.0 < 16) where
  own : row_for x p ≡ get_or x.rows p.origin.0 past_row
  unfolding row_at
  own = sym (row_in_law x p low)

  pub creator_covers : (o : ℕ) → o < 16 → Covers (get_or x.rows o past_row) (get_or (creator_rows f x p l) o past_row)
  unfolding creator_rows alike
  creator_covers o h =
      let here : Row = get_or x.rows o past_row in
      chosen (λ rows. Covers here (get_or rows o past_row)) (eqb f 1) _ _
      (λ e.
      let same : row_for x p ≡ here = own ∙ ok.as_first e p.origin.0 low ∙ sym (ok.as_first e o h) in
      subst (Covers here) (ap (λ (r : Row). gaining r l) (sym same) ∙ sym (get_or-replicate 16 o _ past_row h))
      (gaining_covers here l))
      (λ e. at_set (Covers here) x.rows p.origin.0 o _ past_row
      (λ d.
      let same : row_for x p ≡ here = own ∙ ap (λ (i : ℕ). get_or x.rows i past_row) (sym d) in
      subst (Covers here) (ap (λ (r : Row). gaining r l) (sym same)) (gaining_covers here l))
      (itself_covers here))

-- ---- the row by which a process is judged, at a node with other rows
pub row_covers :
    (x : Node) (rows : List Row) (p : Process) → ((o : ℕ) → o < 16 → Covers (get_or x.rows o past_row) (get_or rows o past_row))
    → Covers (row_for x p) (row_for (with_rows x rows) p)
unfolding row_for row_at with_rows choose
row_covers x rows p f =
    go (ltb p.origin.0 16) (λ e. f p.origin.0 (ltb-true p.origin.0 16 e))
  where
    go : (b : Bool) → (b ≡ true → Covers (get_or x.rows p.origin.0 past_row) (get_or rows p.origin.0 past_row))
        → Covers (choose b (get_or x.rows p.origin.0 past_row) zero_row) (choose b (get_or rows p.origin.0 past_row) zero_row)
    go true g = g refl
    go false g = itself_covers zero_row
