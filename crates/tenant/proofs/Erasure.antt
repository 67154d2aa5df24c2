-- The tenant rule of one net, by erasure: a pick outside the tenant commutes with the view, and a pick of a tenant's
-- address leaves the view as it was.
-- Assumes nothing.
use Prim.Native.Nat.{ℕ}
use mathlib.Core.Path.{◌≡◌, refl, ap, ◌∙◌}
use mathlib.Core.Bool.{Bool, true, false}
use Rattle.std.specs.Prelude.{Option, Some, None}
use Rattle.net.specs.Choice.{choose}
use Rattle.net.specs.Records.{node_at, rights_at, row_for, no_rights}
use Rattle.net.specs.declared.locality.Group.{Group}
use Rattle.net.specs.Groups.{member}
use Rattle.net.proofs.GroupLaws.{members_at}
use Rattle.keeping.specs.Keeping.{may_take, may_read, may_put, may_put_all, may_send, may_create}
use Rattle.net.proofs.Every.{chosen}
use Rattle.plans.specs.Request.{granted}
use Rattle.step.specs.Pick.{host_of, unchanged, performed, with_host, stopped, added, out, room_at_all, added_all, out_all, taken, in_found, input}
use Rattle.step.specs.Pick.{read_found, read, started_in, eval, fork, unused, created_at, created, create, carried_out, acting}
use Rattle.step.specs.Pick.{process_step, slot_step, step_of}
use Rattle.step.proofs.EachMember.{room_same, all_kept, all_through}
use Rattle.tenant.specs.Types.{Locality, Place, Tuple, Process, Net, Evaluated, Request, Answer}
use Rattle.tenant.specs.Types.{Rights, Node, Picked}
use Rattle.tenant.proofs.View.{view, view_format, view_addresses, view_code, view_node, view_out, view_in, view_opened}
use Rattle.tenant.proofs.View.{seen, seen_choose, seen_unchanged, seen_performed}
use Rattle.tenant.proofs.Fence.{Fence, tested, never, choose_both, for_fenced, new_outside}

module _ (tenant : Locality → Bool) where
  -- ---- changes outside the tenant
  host_out :
      (s : Net) (a : Locality) (k : ℕ) (p : Process) → tenant a ≡ false
      → view tenant (with_host s a k p) ≡ with_host (view tenant s) a k p
  unfolding with_host
  host_out s a k p h = simp (view_out, view_node)

  added_out :
      (s : Net) (l : Locality) (t : Tuple) → tenant l ≡ false → view tenant (added s l t) ≡ added (view tenant s) l t
  unfolding added
  added_out s l t h = simp (view_out, view_node)

  taken_out : (s : Net) (l : Locality) (i : ℕ) → tenant l ≡ false → view tenant (taken s l i) ≡ taken (view tenant s) l i
  unfolding taken
  taken_out s l i h = simp (view_out, view_node)

  created_out :
      (s : Net) (a : Locality) (k : ℕ) (p : Process) (v : ℕ) (q : Place) → tenant a ≡ false → tenant (unused s) ≡ false
      → view tenant (created s a k p v q) ≡ created (view tenant s) a k p v q
  unfolding created created_at unused
  created_out s a k p v q h g = simp (view_out, view_node, view_opened, view_format, view_addresses)

  -- to each member of a set of outside addresses
  module _ (g : Group) (outside : (l : Locality) → member g l ≡ true → tenant l ≡ false) where
    room_out : (s : Net) → room_at_all (view tenant s) g ≡ room_at_all s g
    room_out s = room_same g (view tenant s) s (λ l m. ap (λ (x : Node). x.stored) (view_node tenant s l (outside l m)))

    added_all_out : (s : Net) (t : Tuple) → view tenant (added_all s g t) ≡ added_all (view tenant s) g t
    added_all_out s t = all_through g t (view tenant) (λ s' l m. added_out s' l t (outside l m)) s

  ruleset outward = (
    seen_choose,
    seen_unchanged,
    seen_performed,
    host_out,
    added_out,
    taken_out,
    created_out,
    view_node,
    view_code,
    view_addresses,
  )

  -- ---- a pick outside the tenant
  module _ (s : Net) (f : Fence tenant s) (a : Locality) (k : ℕ) (o : tenant a ≡ false) where
    -- the target of a right that an outside row has is outside
    target_out :
        (p : Process) (l : Locality) (right : Rights → Bool) → right no_rights ≡ false
        → right (rights_at (row_for (node_at s a) p) l) ≡ true → tenant l ≡ false
    target_out p l right n h =
        tested (tenant l) (λ t. never _ h (ap right ((for_fenced tenant s a p f).outside l o t) ∙ n)) (λ t. t)

    none_reads : choose no_rights.take true no_rights.read ≡ false
    unfolding choose no_rights
    none_reads = refl

    in_out :
        (l : Locality) (q : Place) (i : Option ℕ) (p : Process) → tenant l ≡ false
        → seen tenant (in_found s a k l q i p) ≡ in_found (view tenant s) a k l q i p
    unfolding in_found
    in_out l q (Some i) p h = simp outward
    in_out l q None p h = simp outward

    read_out :
        (q : Place) (i : Option ℕ) (p : Process)
        → seen tenant (read_found s a k q i p) ≡ read_found (view tenant s) a k q i p
    unfolding read_found
    read_out q (Some i) p = simp outward
    read_out q None p = simp outward

    started_out :
        (l : Locality) (p copy : Process) (q : Place) (j : Option ℕ) → tenant l ≡ false
        → seen tenant (started_in s a k l p copy q j) ≡ started_in (view tenant s) a k l p copy q j
    unfolding started_in
    started_out l p copy q (Some j) h = simp outward
    started_out l p copy q None h = simp outward

    stopped_out : seen tenant (stopped s a k) ≡ stopped (view tenant s) a k
    unfolding stopped seen
    stopped_out = simp outward

    all_out :
        (g : Group) (p : Process) (q : Place) (t : Tuple) → ((l : Locality) → member g l ≡ true → tenant l ≡ false)
        → seen tenant (out_all s a k p g q t) ≡ out_all (view tenant s) a k p g q t
    unfolding out_all
    all_out g p q t outside = simp (outward, room_out g outside, added_all_out g outside)

    done_out :
        (p : Process) (e : Evaluated) (r : Request) → granted (row_for (node_at s a) p) r ≡ true
        → seen tenant (carried_out s a k p e r) ≡ carried_out (view tenant s) a k p e r
    unfolding carried_out granted out input read eval create fork may_take may_read may_put may_put_all may_send no_rights
    done_out p e Request.Lack h = simp outward
    done_out p e Request.Stop h = stopped_out
    done_out p e (Request.Out l q) h =
        let t : tenant l ≡ false = target_out p l (λ x. x.put) refl h in simp outward
    done_out p e (Request.In l q) h =
        let t : tenant l ≡ false = target_out p l (λ x. x.take) refl h in simp (outward, in_out)
    done_out p e (Request.Read l q) h =
        let t : tenant l ≡ false = target_out p l (λ x. choose x.take true x.read) none_reads h in simp (outward, read_out)
    done_out p e (Request.Eval l sent q) h =
        let t : tenant l ≡ false = target_out p l (λ x. x.send) refl h in simp (outward, started_out)
    done_out p e (Request.New v q) h = let t = new_outside tenant s f in simp outward
    done_out p e (Request.Fork q r) h = simp (outward, started_out)
    done_out p e (Request.OutAll g q) h =
        all_out g p q _ (λ l m. target_out p l (λ x. x.put) refl (members_at g _ h l m))

    acting_out :
        (p : Process) (e : Evaluated) (r : Request)
        → seen tenant (acting s a k p e r) ≡ acting (view tenant s) a k p e r
    unfolding acting
    acting_out p e r =
        simp outward (choose_both _ _ _ _ _ (λ h. done_out p e r h) refl)

    slot_out : seen tenant (slot_step s a k) ≡ slot_step (view tenant s) a k
    unfolding slot_step process_step
    slot_out = simp (outward, acting_out)

  pub step_out :
      (s : Net) (b : ℕ) → Fence tenant s → tenant (host_of b) ≡ false
      → seen tenant (step_of s b) ≡ step_of (view tenant s) b
  unfolding step_of
  step_out s b f o = simp (outward, slot_out s f)

  -- ---- a pick of the tenant
  host_in : (s : Net) (a : Locality) (k : ℕ) (p : Process) → tenant a ≡ true → view tenant (with_host s a k p) ≡ view tenant s
  unfolding with_host
  host_in s a k p h = simp view_in

  added_in : (s : Net) (l : Locality) (t : Tuple) → tenant l ≡ true → view tenant (added s l t) ≡ view tenant s
  unfolding added
  added_in s l t h = simp view_in

  taken_in : (s : Net) (l : Locality) (i : ℕ) → tenant l ≡ true → view tenant (taken s l i) ≡ view tenant s
  unfolding taken
  taken_in s l i h = simp view_in

  record Unseen (s : Net) (r : Picked) : Type 0 where
    same : view tenant r.net ≡ view tenant s

  unseen_unchanged : (s : Net) (w : Answer) → Unseen s (unchanged w s)
  unfolding unchanged
  unseen_unchanged s w = record { same = refl }

  unseen_performed : (s t : Net) → view tenant t ≡ view tenant s → Unseen s (performed t)
  unfolding performed
  unseen_performed s t e = record { same = e }

  -- to each member of a set of the tenant's addresses
  added_all_in :
      (s : Net) (g : Group) (t : Tuple) → ((l : Locality) → member g l ≡ true → tenant l ≡ true)
      → view tenant (added_all s g t) ≡ view tenant s
  added_all_in s g t inside =
      all_kept g t (λ s'. view tenant s' ≡ view tenant s) s refl (λ s' l m e. added_in s' l t (inside l m) ∙ e)

  ruleset inward = (host_in, added_in, taken_in)

  module _ (s : Net) (f : Fence tenant s) (a : Locality) (k : ℕ) (o : tenant a ≡ true) where
    target_in_law :
        (l : Locality) (x : Bool) → x ≡ true → (tenant l ≡ false → x ≡ false) → tenant l ≡ true
    target_in_law l x h g = tested (tenant l) (λ t. t) (λ t. never x h (g t))

    in_in : (l : Locality) (q : Place) (i : Option ℕ) (p : Process) → tenant l ≡ true → Unseen s (in_found s a k l q i p)
    unfolding in_found
    in_in l q (Some i) p h = unseen_performed s _ (simp inward)
    in_in l q None p h = unseen_unchanged s _

    read_in : (q : Place) (i : Option ℕ) (p : Process) → Unseen s (read_found s a k q i p)
    unfolding read_found
    read_in q (Some i) p = unseen_performed s _ (simp inward)
    read_in q None p = unseen_unchanged s _

    started_in_law :
        (l : Locality) (p copy : Process) (q : Place) (j : Option ℕ) → tenant l ≡ true → Unseen s (started_in s a k l p copy q j)
    unfolding started_in
    started_in_law l p copy q (Some j) h = unseen_performed s _ (simp inward)
    started_in_law l p copy q None h = unseen_unchanged s _

    done_in :
        (p : Process) (e : Evaluated) (r : Request) → granted (row_for (node_at s a) p) r ≡ true → Unseen s (carried_out s a k p e r)
    unfolding carried_out granted stopped out out_all input read eval create fork may_take may_read may_put may_put_all may_send may_create
    done_in p e Request.Lack h = unseen_unchanged s _
    done_in p e Request.Stop h = record { same = host_in s a k _ o }
    done_in p e (Request.Out l q) h =
        let t : tenant l ≡ true = target_in_law l _ h ((for_fenced tenant s a p f).no_put l o) in
        chosen (Unseen s) _ _ _ (λ _. unseen_performed s _ (simp inward)) (λ _. unseen_unchanged s _)
    done_in p e (Request.In l q) h = in_in _ q _ _ (target_in_law l _ h ((for_fenced tenant s a p f).no_take l o))
    done_in p e (Request.Read l q) h = read_in q _ _
    done_in p e (Request.Eval l sent q) h =
        chosen (Unseen s) _ _ _
        (λ _. started_in_law _ p _ q _ (target_in_law l _ h ((for_fenced tenant s a p f).no_send l o)))
        (λ _. unseen_unchanged s _)
    done_in p e (Request.New v q) h = never _ h ((for_fenced tenant s a p f).no_creation o)
    done_in p e (Request.Fork q r) h = started_in_law a p _ q _ o
    done_in p e (Request.OutAll g q) h =
        let inside : (l : Locality) → member g l ≡ true → tenant l ≡ true =
        λ l m. target_in_law l _ (members_at g _ h l m) ((for_fenced tenant s a p f).no_put l o) in
        chosen (Unseen s) _ _ _ (λ _. unseen_performed s _ (added_all_in _ g _ inside ∙ host_in s a k _ o)) (λ _. unseen_unchanged s _)

  step_unseen : (s : Net) (b : ℕ) → Fence tenant s → tenant (host_of b) ≡ true → Unseen s (step_of s b)
  unfolding step_of slot_step process_step acting
  step_unseen s b f o =
      chosen (Unseen s) _ _ _
      (λ _. chosen (Unseen s) _ _ _
      (λ _. chosen (Unseen s) _ _ _
      (λ _. chosen (Unseen s) _ _ _ (λ h. done_in s f _ _ o _ _ _ h) (λ _. unseen_unchanged s _))
      (λ _. unseen_unchanged s _)) (λ _. unseen_unchanged s _)) (λ _. unseen_unchanged s _)

  pub step_in :
      (s : Net) (b : ℕ) → Fence tenant s → tenant (host_of b) ≡ true → view tenant (step_of s b).net ≡ view tenant s
  step_in s b f o = (step_unseen s b f o).same
