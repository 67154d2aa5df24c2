-- The fence between a tenant and the rest, over all numbers, and that every step keeps it.
-- Assumes nothing.
use Prim.Native.Nat.{ℕ, zero, suc, ◌<◌}
use mathlib.Core.Path.{◌≡◌, refl, sym, ap, subst, ◌∙◌}
use mathlib.Core.Bool.{Bool, true, false}
use mathlib.Core.List.{List, [], ◌∷◌}
use native.Mathlib.Omega.{arith}
use lib.ListN.{get_or, set, replicate}
use lib.Seq.{get_or-set_other}
use lib.Dec.{ltb}
use Rattle.std.specs.Prelude.{Option, Some, None}
use Rattle.net.specs.Choice.{choose}
use Rattle.net.specs.Records.{node_at, rights_at, row_at, row_for, no_rights, zero_row, alike, address_of}
use Rattle.net.specs.Records.{with_node, with_counts, with_process, with_tuple, without_tuple, with_rows, with_rights}
use Rattle.keeping.specs.Keeping.{may_create}
use Rattle.net.proofs.Every.{chosen}
use Rattle.net.proofs.Past.{past_row}
use Rattle.plans.specs.Request.{granted}
use Rattle.step.specs.Pick.{unchanged, performed, with_host, stopped, added, out, out_all, taken, in_found, input}
use Rattle.plans.specs.Additions.{gaining, own_row, opened_rows, creator_rows}
use Rattle.step.specs.Pick.{read_found, read, started_in, eval, fork, opened, unused, created_at, created, create, carried_out, acting}
use Rattle.step.specs.Pick.{process_step, slot_step, step_of}
use Rattle.step.proofs.EachMember.{all_kept}
use Rattle.tenant.specs.Types.{Locality, Place, Tuple, Rights, Row, Process, Node, Net, Evaluated, Request}
use Rattle.tenant.specs.Types.{Answer, Picked}

-- what a test comes to
pub tested : {A : Type 0} (b : Bool) → (b ≡ true → A) → (b ≡ false → A) → A
tested true f g = f refl
tested false f g = g refl

pub never : {A : Type 0} (b : Bool) → b ≡ true → b ≡ false → A
never b p q = let z : ◌≡◌ {A = ℕ} 0 1 = cc in absurd (omega arith)

-- the sides of a choice may be equal under its test only
pub choose_both : {A : Type 0} (b : Bool) (x x' y y' : A) → (b ≡ true → x ≡ x') → y ≡ y' → choose b x y ≡ choose b x' y'
unfolding choose
choose_both true x x' y y' f e = f refl
choose_both false x x' y y' f e = e

-- an element after one is set
at_set :
    {A : Type 0} (P : A → Type 0) (xs : List A) (a b : ℕ) (y d : A) → (b ≡ a → P y) → P (get_or xs b d)
    → P (get_or (set xs a y) b d)
at_set P [] a b y d f p = p
at_set P (x ∷ xs) zero zero y d f p = f refl
at_set P (x ∷ xs) zero (suc b) y d f p = p
at_set P (x ∷ xs) (suc a) zero y d f p = p
at_set P (x ∷ xs) (suc a) (suc b) y d f p = at_set P xs a b y d (λ e. f (omega arith)) p

-- an element of a list of equals
at_alike : {A : Type 0} (P : A → Type 0) (n b : ℕ) (y d : A) → P y → P d → P (get_or (replicate n y) b d)
at_alike P zero b y d p q = q
at_alike P (suc n) zero y d p q = p
at_alike P (suc n) (suc b) y d p q = at_alike P n b y d p q

-- ---- what is asked of a row of one address
pub record FencedRow (tenant : Locality → Bool) (a : Locality) (r : Row) : Type 0 where
  pub outside : (l : Locality) → tenant a ≡ false → tenant l ≡ true → rights_at r l ≡ no_rights
  pub no_creation : tenant a ≡ true → r.create ≡ false
  pub no_take : (l : Locality) → tenant a ≡ true → tenant l ≡ false → (rights_at r l).take ≡ false
  pub no_put : (l : Locality) → tenant a ≡ true → tenant l ≡ false → (rights_at r l).put ≡ false
  pub no_send : (l : Locality) → tenant a ≡ true → tenant l ≡ false → (rights_at r l).send ≡ false

-- of each of its rows, whatever the origin: past their end stands a row without rights
pub record FencedRows (tenant : Locality → Bool) (a : Locality) (rs : List Row) : Type 0 where
  pub each : (o : ℕ) → FencedRow tenant a (get_or rs o past_row)

pub record Fence (tenant : Locality → Bool) (s : Net) : Type 0 where
  pub below : (a : Locality) → tenant a ≡ true → a.0 < s.addresses
  pub rows : (a : Locality) → FencedRows tenant a (node_at s a).rows

module _ (tenant : Locality → Bool) where
  -- ---- rows without rights
  bare_fenced :
      (a : Locality) (r : Row) → r.create ≡ false → ((l : Locality) → rights_at r l ≡ no_rights) → FencedRow tenant a r
  unfolding no_rights
  bare_fenced a r e f = record {
    outside = λ l _ _. f l;
    no_creation = λ _. e;
    no_take = λ l _ _. ap (λ (x : Rights). x.take) (f l);
    no_put = λ l _ _. ap (λ (x : Rights). x.put) (f l);
    no_send = λ l _ _. ap (λ (x : Rights). x.send) (f l);
  }

  pub zero_fenced : (a : Locality) → FencedRow tenant a zero_row
  unfolding zero_row rights_at no_rights
  zero_fenced a =
      bare_fenced a zero_row refl (λ l. at_alike (λ (x : Rights). x ≡ no_rights) 16 l.0 no_rights _ refl refl)

  pub past_fenced : (a : Locality) → FencedRow tenant a past_row
  unfolding rights_at no_rights
  past_fenced a = bare_fenced a past_row refl (λ l. refl)

  -- ---- the row that a process is judged by
  row_fenced :
      (s : Net) (a o : Locality) → Fence tenant s → FencedRow tenant a (choose (ltb o.0 16) (row_at (node_at s a) o) zero_row)
  unfolding row_at
  row_fenced s a o f = chosen (FencedRow tenant a) _ _ _ (λ _. (f.rows a).each o.0) (λ _. zero_fenced a)

  pub for_fenced : (s : Net) (a : Locality) (p : Process) → Fence tenant s → FencedRow tenant a (row_for (node_at s a) p)
  unfolding row_for
  for_fenced s a p f = row_fenced s a p.origin f

  -- and the one that a new node takes for itself
  own_fenced : (s : Net) (a : Locality) → Fence tenant s → FencedRow tenant a (own_row (node_at s a) a)
  unfolding own_row
  own_fenced s a f = row_fenced s a a f

  -- ---- lists of rows
  pub alike_fenced : (a : Locality) (r : Row) → FencedRow tenant a r → FencedRows tenant a (alike r)
  unfolding alike
  alike_fenced a r g = record { each = λ o. at_alike (FencedRow tenant a) 16 o r past_row g (past_fenced a) }

  set_fenced :
      (a : Locality) (rs : List Row) (o : ℕ) (r : Row) → FencedRows tenant a rs → FencedRow tenant a r
      → FencedRows tenant a (set rs o r)
  set_fenced a rs o r f g =
      record { each = λ b. at_set (FencedRow tenant a) rs o b r past_row (λ _. g) (f.each b) }

  -- ---- changes that leave rows as they are
  with_node_law :
      (s : Net) (a : Locality) (x : Node) → Fence tenant s → FencedRows tenant a x.rows → Fence tenant (with_node s a x)
  unfolding with_node node_at
  with_node_law s a x f g = record {
    below = f.below;
    rows = λ b. at_set (λ y. FencedRows tenant b y.rows) s.nodes a.0 b.0 x _
        (λ e. subst (λ (c : ℕ). FencedRows tenant (address_of c) x.rows) (sym e) g) (f.rows b);
  }

  with_host_law : (s : Net) (a : Locality) (k : ℕ) (p : Process) → Fence tenant s → Fence tenant (with_host s a k p)
  unfolding with_host with_process
  with_host_law s a k p f = with_node_law s a _ f (f.rows a)

  tuple_rows : (x : Node) (t : Tuple) → (with_tuple x t).rows ≡ x.rows
  unfolding with_tuple
  tuple_rows x t = chosen (λ (y : Node). y.rows ≡ x.rows) _ _ _ (λ _. refl) (λ _. refl)

  added_kept : (s : Net) (l : Locality) (t : Tuple) → Fence tenant s → Fence tenant (added s l t)
  unfolding added
  added_kept s l t f = with_node_law s l _ f (subst (FencedRows tenant l) (sym (tuple_rows _ t)) (f.rows l))

  taken_kept : (s : Net) (l : Locality) (i : ℕ) → Fence tenant s → Fence tenant (taken s l i)
  unfolding taken without_tuple
  taken_kept s l i f = with_node_law s l _ f (f.rows l)

  -- ---- a new address
  pub new_outside : (s : Net) → Fence tenant s → tenant (unused s) ≡ false
  unfolding unused
  new_outside s f = tested (tenant (unused s)) (λ e. absurd (omega (arith, f.below _ e))) (λ e. e)

  -- no row of an outside address has a right over the tenant
  outside_fenced :
      (b : Locality) (r : Row) → tenant b ≡ false → ((l : Locality) → tenant l ≡ true → rights_at r l ≡ no_rights)
      → FencedRow tenant b r
  outside_fenced b r o g = record {
    outside = λ l _ t. g l t;
    no_creation = λ e. never _ e o;
    no_take = λ l e. never _ e o;
    no_put = λ l e. never _ e o;
    no_send = λ l e. never _ e o;
  }

  -- a row of the outside address a serves as one of the outside address b, and so does the same that gains the new address
  module _ (s : Net) (f : Fence tenant s) (a b : Locality) (h : tenant a ≡ false) (o : tenant b ≡ false) where
    moved : (r : Row) → FencedRow tenant a r → FencedRow tenant b r
    moved r g = outside_fenced b r o (λ l. g.outside l h)

    gaining_kept : (r : Row) → FencedRow tenant a r → FencedRow tenant b (gaining r (unused s))
    unfolding gaining unused with_rights rights_at
    gaining_kept r g =
        outside_fenced b _ o
        (λ l t. get_or-set_other r.rights s.addresses l.0 _ _ (λ e. absurd (omega (arith, f.below l t)))
        ∙ g.outside l h t)

  opened_kept : (s : Net) → Fence tenant s → Fence tenant (opened s)
  unfolding opened with_counts node_at
  opened_kept s f = record { below = λ a h. omega (arith, f.below a h); rows = f.rows }

  module _ (s : Net) (a : Locality) (k : ℕ) (p : Process) (v : ℕ) (q : Place) (f : Fence tenant s) (h : tenant a ≡ false) where
    creator_fenced : FencedRows tenant a (creator_rows s.format (node_at s a) p (unused s))
    unfolding creator_rows
    creator_fenced =
        let gained = gaining_kept s f a a h h _ (for_fenced s a p f) in
        chosen (FencedRows tenant a) _ _ _ (λ _. alike_fenced a _ gained) (λ _. set_fenced a _ _ _ (f.rows a) gained)

    opened_fenced : FencedRows tenant (unused s) (opened_rows s.format (node_at s a) a p (unused s))
    unfolding opened_rows
    opened_fenced =
        let l = unused s in
        let o = new_outside s f in
        let own = gaining_kept s f a l h o _ (own_fenced s a f) in
        let copied : FencedRows tenant l (node_at s a).rows =
        record { each = λ i. moved s f a l h o _ ((f.rows a).each i) } in
        chosen (FencedRows tenant l) _ _ _ (λ _. alike_fenced l _ (gaining_kept s f a l h o _ (for_fenced s a p f)))
        (λ _. set_fenced l _ _ _ (set_fenced l _ _ _ copied own) own)

    created_kept : Fence tenant (created s a k p v q)
    unfolding created created_at with_rows
    created_kept = with_node_law _ _ _ (with_node_law _ a _ (opened_kept s f) creator_fenced) opened_fenced

  -- ---- an answer's net
  record Kept (r : Picked) : Type 0 where
    fenced : Fence tenant r.net

  same_kept : (s : Net) (x : Answer) → Fence tenant s → Kept (unchanged x s)
  unfolding unchanged
  same_kept s x f = record { fenced = f }

  performed_kept : (s : Net) → Fence tenant s → Kept (performed s)
  unfolding performed
  performed_kept s f = record { fenced = f }

  module _ (s : Net) (f : Fence tenant s) (a : Locality) (k : ℕ) where
    in_kept : (l : Locality) (q : Place) (i : Option ℕ) (p : Process) → Kept (in_found s a k l q i p)
    unfolding in_found
    in_kept l q (Some i) p = performed_kept _ (taken_kept _ l i (with_host_law s a k _ f))
    in_kept l q None p = same_kept s _ f

    read_kept : (q : Place) (i : Option ℕ) (p : Process) → Kept (read_found s a k q i p)
    unfolding read_found
    read_kept q (Some i) p = performed_kept _ (with_host_law s a k _ f)
    read_kept q None p = same_kept s _ f

    started_kept : (l : Locality) (p copy : Process) (q : Place) (j : Option ℕ) → Kept (started_in s a k l p copy q j)
    unfolding started_in
    started_kept l p copy q (Some j) = performed_kept _ (with_host_law _ l j _ (with_host_law s a k _ f))
    started_kept l p copy q None = same_kept s _ f

    done_kept :
        (p : Process) (e : Evaluated) (r : Request) → granted (row_for (node_at s a) p) r ≡ true → Kept (carried_out s a k p e r)
    unfolding carried_out granted stopped out out_all input read eval create fork may_create
    done_kept p e Request.Lack h = same_kept s _ f
    done_kept p e Request.Stop h = record { fenced = with_host_law s a k _ f }
    done_kept p e (Request.Out l q) h =
        chosen Kept _ _ _ (λ _. performed_kept _ (added_kept _ _ _ (with_host_law s a k _ f))) (λ _. same_kept s _ f)
    done_kept p e (Request.In l q) h = in_kept _ q _ _
    done_kept p e (Request.Read l q) h = read_kept q _ _
    done_kept p e (Request.Eval l sent q) h =
        chosen Kept _ _ _ (λ _. started_kept _ p _ q _) (λ _. same_kept s _ f)
    done_kept p e (Request.New v q) h =
        chosen Kept _ _ _
        (λ _. performed_kept _ (created_kept s a k p v q f
        (tested (tenant a) (λ t. never _ h ((for_fenced s a p f).no_creation t)) (λ t. t)))) (λ _. same_kept s _ f)
    done_kept p e (Request.Fork q r) h = started_kept a p _ q _
    done_kept p e (Request.OutAll g q) h =
        chosen Kept _ _ _
        (λ _. performed_kept _
        (all_kept g _ (Fence tenant) _ (with_host_law s a k _ f) (λ s' l _ f'. added_kept s' l _ f'))) (λ _. same_kept s _ f)

  step_kept : (s : Net) (b : ℕ) → Fence tenant s → Kept (step_of s b)
  unfolding step_of slot_step process_step acting
  step_kept s b f =
      chosen Kept _ _ _
      (λ _. chosen Kept _ _ _
      (λ _. chosen Kept _ _ _
      (λ _. chosen Kept _ _ _ (λ h. done_kept s f _ _ _ _ _ h) (λ _. same_kept s _ f))
      (λ _. same_kept s _ f)) (λ _. same_kept s _ f)) (λ _. same_kept s _ f)

  pub fence_kept : (s : Net) (b : ℕ) → Fence tenant s → Fence tenant (step_of s b).net
  fence_kept s b f = (step_kept s b f).fenced
