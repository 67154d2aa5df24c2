-- The tenant rule of two nets that are sound and fenced and that agree outside the tenant: their views are one net, and
-- the view of a run is the run of the view over the struck list.
-- Assumes nothing.
use Prim.Native.Nat.{ℕ}
use mathlib.Core.Path.{◌≡◌, refl, sym, ap, ◌∙◌}
use mathlib.Core.Bool.{Bool, true, false}
use mathlib.Core.List.{List, [], ◌∷◌}
use Rattle.net.specs.Records.{node_at, address_of}
use Rattle.sound.specs.Soundness.{sound_of}
use Rattle.net.proofs.Laws.{choose_true, choose_false}
use Rattle.step.specs.Pick.{host_of, step_of, pick_of}
use Rattle.net.specs.Shape.{Shaped}
use Rattle.step.proofs.SoundKept.{step_sound_kept}
use Rattle.tenant.specs.Types.{Locality, Node, Net, Answer, Picked}
use Rattle.runs.specs.Run.{Ran, answered, ran_from}
use Rattle.tenant.specs.TenantRule.{struck, remaining, Equal, Agree}
use Rattle.tenant.proofs.View.{blanked_same, counted, view, view_node, seen}
use Rattle.tenant.proofs.Fence.{Fence, tested, fence_kept}
use Rattle.tenant.proofs.Erasure.{step_out, step_in}

-- a run without the soundness test
unfoldable stepped : Net → List ℕ → Ran
stepped s [] = record { answers = []; net = s }
stepped s (b ∷ bs) = answered (step_of s b).answer (stepped (step_of s b).net bs)

-- ---- sound nets stay sound, so that the test changes nothing
same_run : (s : Net) (bs : List ℕ) → Shaped s → sound_of s ≡ true → ran_from s bs ≡ stepped s bs
unfolding ran_from stepped pick_of
same_run s [] g h = refl
same_run s (b ∷ bs) g h =
    let k = step_sound_kept s b g h in
    rw (choose_true (sound_of s) (step_of s b)) (ap (answered (step_of s b).answer) (same_run (step_of s b).net bs k.1 k.0))

-- ---- the view of a run
module _ (tenant : Locality → Bool) where
  unfoldable viewed : List ℕ → Ran → Ran
  viewed bs r = record { answers = remaining tenant bs r.answers; net = view tenant r.net }

  struck_in : (b : ℕ) (bs : List ℕ) → tenant (host_of b) ≡ true → struck tenant (b ∷ bs) ≡ struck tenant bs
  unfolding struck
  struck_in b bs h = choose_true _ _ _ h

  struck_out : (b : ℕ) (bs : List ℕ) → tenant (host_of b) ≡ false → struck tenant (b ∷ bs) ≡ b ∷ struck tenant bs
  unfolding struck
  struck_out b bs h = choose_false _ _ _ h

  viewed_in :
      (b : ℕ) (bs : List ℕ) (x : Answer) (r : Ran) → tenant (host_of b) ≡ true
      → viewed (b ∷ bs) (answered x r) ≡ viewed bs r
  unfolding viewed answered remaining
  viewed_in b bs x r h i =
      let xs = remaining tenant bs r.answers in
      record { answers = choose_true (tenant (host_of b)) xs (x ∷ xs) h i; net = view tenant r.net }

  viewed_out :
      (b : ℕ) (bs : List ℕ) (x : Answer) (r : Ran) → tenant (host_of b) ≡ false
      → viewed (b ∷ bs) (answered x r) ≡ answered x (viewed bs r)
  unfolding viewed answered remaining
  viewed_out b bs x r h i =
      let xs = remaining tenant bs r.answers in
      record { answers = choose_false (tenant (host_of b)) xs (x ∷ xs) h i; net = view tenant r.net }

  empty_viewed : (s : Net) → viewed [] (stepped s []) ≡ stepped (view tenant s) (struck tenant [])
  unfolding viewed stepped struck remaining
  empty_viewed s = refl

  unfoldable next : Picked → List ℕ → Ran
  next r bs = answered r.answer (stepped r.net bs)

  run_viewed :
      (s : Net) (bs : List ℕ) → Fence tenant s → viewed bs (stepped s bs) ≡ stepped (view tenant s) (struck tenant bs)
  unfolding stepped next seen
  run_viewed s [] f = empty_viewed s
  run_viewed s (b ∷ bs) f =
      let later = run_viewed (step_of s b).net bs (fence_kept tenant s b f) in
      tested (tenant (host_of b))
      (λ o. viewed_in b bs _ _ o ∙ later ∙ ap (λ t. stepped t (struck tenant bs)) (step_in tenant s b f o)
      ∙ ap (stepped (view tenant s)) (sym (struck_in b bs o)))
      (λ o. viewed_out b bs _ _ o ∙ ap (answered (step_of s b).answer) later
      ∙ ap (λ r. next r (struck tenant bs)) (step_out tenant s b f o)
      ∙ ap (stepped (view tenant s)) (sym (struck_out b bs o)))

  -- ---- two nets
  same_view :
      (s t : Net) → Shaped s → Shaped t → s.format ≡ t.format → s.addresses ≡ t.addresses → s.code ≡ t.code
      → ((a : Locality) → tenant a ≡ false → node_at s a ≡ node_at t a) → view tenant s ≡ view tenant t
  unfolding view node_at
  same_view s t g g' m n c f =
      let e = blanked_same (counted tenant) s.nodes t.nodes _ (g.nodes_are ∙ sym g'.nodes_are) (λ i. f (address_of i)) in
      λ i. record { format = m i; addresses = n i; length = 0; nodes = e i; code = c i }

  equal_node : (x y : Node) → x ≡ y → Equal x y
  equal_node x y e = record {
    policy = ap (λ (z : Node). z.rows) e;
    count = ap (λ (z : Node). z.stored) e;
    tuples = ap (λ (z : Node). z.tuples) e;
    processes = ap (λ (z : Node). z.processes) e;
  }

  same_count : (s t : Net) → view tenant s ≡ view tenant t → s.addresses ≡ t.addresses
  unfolding view
  same_count s t e = ap (λ (x : Net). x.addresses) e

  agree : (bs bs' : List ℕ) (r r' : Ran) → viewed bs r ≡ viewed bs' r' → Agree tenant bs bs' r r'
  unfolding viewed
  agree bs bs' r r' e =
      let one : view tenant r.net ≡ view tenant r'.net = ap (λ (x : Ran). x.net) e in
      record {
        answers = ap (λ (x : Ran). x.answers) e;
        count = same_count r.net r'.net one;
        nodes = λ a o. equal_node _ _
            (sym (view_node tenant r.net a o) ∙ ap (λ x. node_at x a) one ∙ view_node tenant r'.net a o);
      }

  pub tenant_of_nets :
      (s t : Net) (bs bs' : List ℕ) → sound_of s ≡ true → sound_of t ≡ true → Shaped s → Shaped t
      → s.format ≡ t.format → s.addresses ≡ t.addresses → s.code ≡ t.code
      → ((a : Locality) → tenant a ≡ false → node_at s a ≡ node_at t a) → Fence tenant s → Fence tenant t
      → struck tenant bs ≡ struck tenant bs' → Agree tenant bs bs' (ran_from s bs) (ran_from t bs')
  tenant_of_nets s t bs bs' h h' g g' m n c nodes f f' e =
      agree bs bs' _ _
      (ap (viewed bs) (same_run s bs g h) ∙ run_viewed s bs f
      ∙ ap (stepped (view tenant s)) e
      ∙ ap (λ x. stepped x (struck tenant bs')) (same_view s t g g' m n c nodes)
      ∙ sym (run_viewed t bs' f') ∙ sym (ap (viewed bs') (same_run t bs' g' h')))
