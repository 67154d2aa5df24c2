-- What a step may rest on in a sound net: counts in range, places below the code length, and targets that exist.
-- Assumes nothing.
use Prim.Native.Nat.{ℕ, ◌<◌, ◌≤◌}
use mathlib.Core.Path.{◌≡◌}
use mathlib.Core.Bool.{true}
use native.Mathlib.Omega.{arith}
use borrow.Author.Tests.{ltb-true, leb-true, lt-ltb}
use Rattle.std.specs.Prelude.{Some}
use Rattle.net.specs.Records.{variable_at, process_at, node_at, instruction_at}
use Rattle.keeping.specs.Reaching.{Follows, out_next, in_next, read_next, eval_next, new_next, fork_first, fork_second, out_all_next}
use Rattle.sound.specs.Soundness.{value_sound, process_sound, tuples_sound, node_sound, target_sound, action_sound}
use Rattle.sound.specs.Soundness.{instruction_sound, nodes_sound, code_sound, sound_of}
use Rattle.net.proofs.Laws.{both_l, both_r, all_e}
use Rattle.plans.specs.Request.{aim_of, target_of}
use Rattle.net.proofs.Laws.{choose_e, in_range_high}
use Rattle.rules.specs.Types.{Locality, Place, Value, Process, Node, Target, Action, Net}

-- ---- the net
pub record Facts (s : Net) : Type 0 where
  pub few : s.addresses ≤ 16
  pub short : s.length ≤ 512
  pub nodes : (a : Locality) → a.0 < s.addresses → node_sound s.format s.addresses s.length (node_at s a) ≡ true
  pub actions :
      (p : Place) → p.0 < s.length
      → action_sound s.format s.addresses s.length (instruction_at s.code p).action ≡ true

pub facts : (s : Net) → sound_of s ≡ true → Facts s
unfolding sound_of nodes_sound code_sound instruction_sound
facts s h =
    let rest = both_r _ _ h in
    let few : s.addresses ≤ 16 = in_range_high 1 _ 16 (both_l _ _ (both_l _ _ rest)) in
    let short : s.length ≤ 512 = in_range_high 1 _ 512 (both_r _ _ (both_l _ _ rest)) in
    record {
      few = few;
      short = short;
      nodes = λ a l. choose_e _ _ _ (all_e 16 _ (both_l _ _ (both_r _ _ rest)) a.0 (omega arith)) (lt-ltb a.0 _ l);
      actions = λ p l.
          both_l _ _ (choose_e _ _ _ (all_e 512 _ (both_r _ _ (both_r _ _ rest)) p.0 (omega arith)) (lt-ltb p.0 _ l));
    }

-- ---- a node
pub stored_few : (f n k : ℕ) (x : Node) → node_sound f n k x ≡ true → x.stored ≤ 16
unfolding node_sound tuples_sound
stored_few f n k x h = leb-true _ _ (both_l _ _ (both_r _ _ (both_r _ _ h)))

pub record Runs (n k : ℕ) (p : Process) : Type 0 where
  pub placed : p.at.0 < k
  pub values : (v : ℕ) → v < 8 → value_sound n (variable_at p v) ≡ true

pub running :
    (f n k : ℕ) (x : Node) (i : ℕ) → node_sound f n k x ≡ true → i < 4 → (process_at x i).busy ≡ true
    → Runs n k (process_at x i)
unfolding node_sound process_sound
running f n k x i h l b =
    let sound : process_sound n k (process_at x i) ≡ true = all_e 4 _ (both_l _ _ (both_r _ _ h)) i l in
    let full = choose_e _ _ _ sound b in
    record {
      placed = ltb-true _ _ (both_l _ _ full);
      values = all_e 8 _ (both_r _ _ (both_r _ _ full));
    }

-- ---- targets and next places
held_exists : (n : ℕ) (x : Value) (l : Locality) → value_sound n x ≡ true → aim_of x ≡ Some l → l.0 < n
unfolding value_sound aim_of
held_exists n Value.Unset l h e = let z : ◌≡◌ {A = ℕ} 0 1 = cc in absurd (omega arith)
held_exists n (Value.Reading x) l h e = let z : ◌≡◌ {A = ℕ} 0 1 = cc in absurd (omega arith)
held_exists n (Value.Address m) l h e = let same : m ≡ l = cc in rw (← same) (ltb-true _ _ h)

pub target_exists :
    (n k : ℕ) (a : Locality) (p : Process) (t : Target) (l : Locality)
    → a.0 < n → Runs n k p → target_sound n t ≡ true → target_of a p t ≡ Some l → l.0 < n
unfolding target_sound target_of
target_exists n k a p (Target.Written m) l h r g e = let same : m ≡ l = cc in rw (← same) (ltb-true _ _ g)
target_exists n k a p Target.Own l h r g e = let same : a ≡ l = cc in rw (← same) h
target_exists n k a p (Target.Held v) l h r g e = held_exists n (variable_at p v) l (r.values v (ltb-true _ _ g)) e

pub follow_low : (f n k : ℕ) (q : Place) (x : Action) → Follows q x → action_sound f n k x ≡ true → q.0 < k
unfolding action_sound
follow_low f n k q _ out_next h = ltb-true _ _ (both_r _ _ h)
follow_low f n k q _ in_next h = ltb-true _ _ (both_r _ _ h)
follow_low f n k q _ read_next h = ltb-true _ _ (both_r _ _ h)
follow_low f n k q _ eval_next h = ltb-true _ _ (both_r _ _ (both_r _ _ h))
follow_low f n k q _ new_next h = ltb-true _ _ (both_r _ _ h)
follow_low f n k q _ fork_first h = ltb-true _ _ (both_l _ _ h)
follow_low f n k q _ fork_second h = ltb-true _ _ (both_r _ _ h)
follow_low f n k q _ out_all_next h = ltb-true _ _ (both_r _ _ (both_r _ _ h))
