-- The claim of `specs/OriginClaims.antt`: sound nets are alike exactly when they are equal with their origins forgotten, and in
-- format 1 a pick rests on no origin (`Steps.antt`). Both nets stay sound, so that 10 is answered in neither, and in format 1.
-- Assumes nothing.
use Prim.Native.Nat.{ℕ, ◌<◌}
use mathlib.Core.Path.{◌≡◌, refl, sym, ap, ap₂, ◌∙◌}
use mathlib.Core.Bool.{true, false}
use mathlib.Core.List.{List, [], ◌∷◌, map}
use native.Mathlib.Omega.{arith}
use lib.ListN.{length, length-map, get_or-replicate}
use lib.Seq.{ext_get_or}
use Rattle.net.specs.Records.{free_process, zero_node, node_at, process_at, address_of}
use Rattle.net.specs.Shape.{ShapedNode, Shaped}
use Rattle.net.proofs.Laws.{choose_true}
use Rattle.net.proofs.Every.{filled_each}
use Rattle.net.proofs.Past.{past_process, past_node}
use Rattle.sound.specs.Soundness.{sound_of}
use Rattle.sound.proofs.NodeFacts.{of_zero}
use Rattle.sound.proofs.NetFacts.{NetOk, sound_apart}
use Rattle.step.specs.Pick.{pick_of}
use Rattle.step.specs.declared.machine.Picked.{Picked}
use Rattle.step.specs.SoundKept.{SoundKept}
use Rattle.step.proofs.SoundKept.{sound_kept}
use Rattle.runs.specs.Run.{Ran, answered, ran_from}
use Rattle.runs.proofs.SoundRuns.{ran_sound}
use Rattle.origins.specs.Types.{Locality, Process, Node, Net}
use Rattle.origins.specs.OriginClaims.{AlikeProcess, AlikeNode, AlikeNet, OriginIdle}
use Rattle.origins.proofs.Forgetting.{forget_process, forget_node, forget, process_at_law, node_at_law, seen}
use Rattle.origins.proofs.FormatClaims.{format_stays}
use Rattle.origins.proofs.OneRow.{one_row}
use Rattle.origins.proofs.Steps.{step_same}

-- ---- alike nets are equal with their origins forgotten
process_to : (p p' : Process) → AlikeProcess p p' → forget_process p ≡ forget_process p'
unfolding forget_process
process_to p p' h i =
    record { busy = h.busy i; at = h.place i; origin = record { 0 = 0 }; variables = h.variables i }

processes_to :
    (x x' : Node) → ShapedNode x → ShapedNode x' → AlikeNode x x'
    → map forget_process x.processes ≡ map forget_process x'.processes
unfolding process_at forget_node
processes_to x x' z z' h =
    let l = length-map x.processes forget_process ∙ z.processes_are in
    let l' = length-map x'.processes forget_process ∙ z'.processes_are in
    ext_get_or past_process _ _ (l ∙ sym l')
    (λ k g. process_at_law x k ∙ process_to _ _ (h.processes k (omega (arith, l, g))) ∙ sym (process_at_law x' k))

node_to : (x x' : Node) → ShapedNode x → ShapedNode x' → AlikeNode x x' → forget_node x ≡ forget_node x'
unfolding forget_node
node_to x x' z z' h i =
    let ps = processes_to x x' z z' h in
    record { rows = h.rows i; processes = ps i; stored = h.stored i; tuples = h.tuples i }

nodes_to : (s t : Net) → Shaped s → Shaped t → AlikeNet s t → map forget_node s.nodes ≡ map forget_node t.nodes
unfolding node_at forget
nodes_to s t z z' h =
    let l = length-map s.nodes forget_node ∙ z.nodes_are in
    let l' = length-map t.nodes forget_node ∙ z'.nodes_are in
    ext_get_or past_node _ _ (l ∙ sym l')
    (λ j g.
    let a = address_of j in
    let low : j < 16 = omega (arith, l, g) in
    node_at_law s a ∙ node_to _ _ (z.each_node a low) (z'.each_node a low) (h.nodes a low) ∙ sym (node_at_law t a))

net_to : (s t : Net) → Shaped s → Shaped t → AlikeNet s t → forget s ≡ forget t
unfolding forget
net_to s t z z' h i =
    let ns = nodes_to s t z z' h in
    record { format = h.format i; addresses = h.addresses i; length = h.length i; nodes = ns i; code = h.code i }

-- ---- and the other way about, of sound nets: a free slot of theirs is the zero record
record FreeIsZero (x : Node) : Type 0 where
  free_zero : (k : ℕ) → k < 4 → (process_at x k).busy ≡ false → process_at x k ≡ free_process

zero_free : FreeIsZero zero_node
unfolding process_at zero_node
zero_free = record { free_zero = λ k h _. get_or-replicate 4 k free_process _ h }

free_slots : (s : Net) → NetOk s → (a : Locality) → a.0 < 16 → FreeIsZero (node_at s a)
unfolding node_at process_at
free_slots s ok a =
    filled_each ok.nodes_ok (λ x n. record { free_zero = λ k h. (n.processes_ok.holds k h).free })
    (of_zero FreeIsZero zero_free) a.0

process_back :
    (p p' : Process) → forget_process p ≡ forget_process p' → (p.busy ≡ false → p ≡ free_process)
    → (p'.busy ≡ false → p' ≡ free_process) → AlikeProcess p p'
unfolding forget_process
process_back p p' e f f' =
    let busy : p.busy ≡ p'.busy = ap (λ (r : Process). r.busy) e in
    record {
      busy = busy;
      place = ap (λ (r : Process). r.at) e;
      variables = ap (λ (r : Process). r.variables) e;
      free = λ h. ap (λ (r : Process). r.origin) (f h ∙ sym (f' (sym busy ∙ h)));
    }

node_back : (x x' : Node) → FreeIsZero x → FreeIsZero x' → forget_node x ≡ forget_node x' → AlikeNode x x'
unfolding forget_node
node_back x x' f f' e = record {
  rows = ap (λ (y : Node). y.rows) e;
  stored = ap (λ (y : Node). y.stored) e;
  tuples = ap (λ (y : Node). y.tuples) e;
  processes = λ k h.
      process_back _ _ (sym (process_at_law x k) ∙ ap (λ (y : Node). process_at y k) e ∙ process_at_law x' k) (f.free_zero k h)
      (f'.free_zero k h);
}

net_back : (s t : Net) → NetOk s → NetOk t → forget s ≡ forget t → AlikeNet s t
unfolding forget
net_back s t ok ok' e = record {
  format = ap (λ (u : Net). u.format) e;
  addresses = ap (λ (u : Net). u.addresses) e;
  length = ap (λ (u : Net). u.length) e;
  code = ap (λ (u : Net). u.code) e;
  nodes = λ a h.
      node_back _ _ (free_slots s ok a h) (free_slots t ok' a h)
      (sym (node_at_law s a) ∙ ap (λ (u : Net). node_at u a) e ∙ node_at_law t a);
}

-- ---- a run: both nets stay sound and of format 1
record Good (s : Net) : Type 0 where
  shaped : Shaped s
  sound : sound_of s ≡ true
  format_is : s.format ≡ 1

pick_good : (s : Net) (b : ℕ) → Good s → Good (pick_of s b).net
unfolding SoundKept
pick_good s b g =
    let kept = sound_kept s b g.shaped g.sound in
    record { shaped = kept.1; sound = kept.0; format_is = format_stays.pick s b ∙ g.format_is }

pick_same : (s t : Net) (b : ℕ) → Good s → Good t → forget s ≡ forget t → seen (pick_of s b) ≡ seen (pick_of t b)
unfolding pick_of
pick_same s t b g g' e =
    let one = one_row s (sound_apart s g.shaped g.sound) g.format_is in
    let one' = one_row t (sound_apart t g'.shaped g'.sound) g'.format_is in
    ap seen (choose_true _ _ _ g.sound) ∙ step_same s t b one one' e ∙ sym (ap seen (choose_true _ _ _ g'.sound))

record Same (r r' : Ran) : Type 0 where
  answers : r.answers ≡ r'.answers
  forgotten : forget r.net ≡ forget r'.net

run_same : (s t : Net) (picks : List ℕ) → Good s → Good t → forget s ≡ forget t → Same (ran_from s picks) (ran_from t picks)
unfolding ran_from answered seen
run_same s t [] g g' e = record { answers = refl; forgotten = e }
run_same s t (b ∷ bs) g g' e =
    let one = pick_same s t b g g' e in
    let rest =
    run_same (pick_of s b).net (pick_of t b).net bs (pick_good s b g) (pick_good t b g') (ap (λ (r : Picked). r.net) one) in
    record {
      answers = ap₂ (λ x xs. x ∷ xs) (ap (λ (r : Picked). r.answer) one) rest.answers;
      forgotten = rest.forgotten;
    }

pub origin_idle : OriginIdle
unfolding OriginIdle
origin_idle s t picks z z' sound sound' f h =
    let g : Good s = record { shaped = z; sound = sound; format_is = f } in
    let g' : Good t = record { shaped = z'; sound = sound'; format_is = sym h.format ∙ f } in
    let same = run_same s t picks g g' (net_to s t z z' h) in
    record {
      answers = same.answers;
      net = net_back _ _ (ran_sound s picks z sound) (ran_sound t picks z' sound') same.forgotten;
    }
