-- What is shown of loading and of each action, put together: the picks that the engine makes on a sound net that a program holds.
-- Assumes nothing.
use Prim.Native.Nat.{ℕ, ◌≤◌}
use mathlib.Core.Path.{◌≡◌, ◌∙◌}
use mathlib.Core.Bool.{Bool, true, false}
use mathlib.Core.List.{List}
use lib.ListN.{replicate}
use mir.Val.{Val}
use denote.Laws.{Is}
use denote.Struct.Declared.{row}
use Rattle.net.specs.contracts.network.Net as net
use Rattle.net.proofs.Lengths.{net_shaped}
use Rattle.sound.specs.Soundness.{sound_of}
use Rattle.sound.proofs.NetFacts.{sound_apart}
use Rattle.step.specs.Ran.{numbers}
use Rattle.text.specs.Buffer.{over}
use Rattle.lean_step.specs.LeanStep.{lean_ran_from}
use Rattle.lean.specs.Types.{Net}
use Rattle.lean.specs.Words.{Words, words_with, net_in}
use Rattle.lean.specs.Loading.{tables_of, loaded_slots, loaded_counts, loaded_tuples, loaded_rows}
use Rattle.lean.specs.Standing.{MadeEach}
use Rattle.lean.proofs.LoadTypes.{Fits, NetFits}
use Rattle.lean.proofs.LoadLaws.{load_agrees}
use Rattle.lean.proofs.TableLaws.{heads_agree, fields_agree, sets_agree}
use Rattle.lean.proofs.NeedsLoaded.{needs_agree}
use Rattle.lean.proofs.NetFits.{net_fits_law}
use Rattle.lean.proofs.Starts.{stop_agrees, fork_agrees}
use Rattle.lean.proofs.OutLaws.{out_agrees}
use Rattle.lean.proofs.TakeLaws.{take_agrees, read_agrees}
use Rattle.lean.proofs.Evals.{eval_agrees}
use Rattle.lean.proofs.Creates.{create_agrees}
use Rattle.lean.proofs.OutAllLaws.{out_all_agrees}
use Rattle.lean.proofs.PickLaws.{ActionLaws}
use Rattle.lean.proofs.EngineLaws.{LoadLaws, loaded_net, loaded_answers}

load_laws : LoadLaws
load_laws = record { load = load_agrees; heads = heads_agree; fields = fields_agree; sets = sets_agree; needs = needs_agree }

action_laws : ActionLaws
action_laws = record {
  stop = stop_agrees;
  out = out_agrees;
  take = take_agrees;
  read = read_agrees;
  eval = eval_agrees;
  create = create_agrees;
  fork = fork_agrees;
  out_all_law = out_all_agrees;
}

fits : (s : Net) (vs : List Val) → Is (row net.the_type) s vs → Fits s
unfolding NetFits
fits s vs held = net_fits_law s vs held

-- ---- a net that a running program holds
pub held_length : (s : Net) (vs : List Val) → Is (row net.the_type) s vs → sound_of s ≡ true → s.length ≤ 512
held_length s vs held sound = (sound_apart s (net_shaped s vs held) sound).length_most

module _ (s : Net) (picks : List ℕ) (xs₀ : List ℕ) (w : Words) (xs : List ℕ) where
  pub ran_net :
      (r : Net) (slots : List (List (List ℕ))) (stored : List ℕ) (tuples : List (List (List ℕ))) (rows : List (List (List Bool)))
      (vs : List Val) → r ≡ net_in s w
      → MadeEach (tables_of s.code s.length s.format) (words_with s.addresses slots stored tuples rows) picks xs₀ w xs
      → slots ≡ loaded_slots s.nodes (replicate 16 (replicate 4 (replicate 16 0)))
      → stored ≡ loaded_counts s.nodes (replicate 16 0)
      → tuples ≡ loaded_tuples s.nodes (replicate 16 (replicate 16 (replicate 6 0)))
      → rows ≡ loaded_rows s.nodes (replicate 16 (replicate 16 (replicate 65 false)))
      → Is (row net.the_type) s vs → sound_of s ≡ true
      → r ≡ (lean_ran_from s picks).net
  ran_net r slots stored tuples rows vs e made p q t u held sound =
      e
      ∙ loaded_net load_laws action_laws s (net_shaped s vs held) sound (fits s vs held) picks slots stored tuples rows xs₀ w xs made p q t u

  pub ran_answers :
      (slots : List (List (List ℕ))) (stored : List ℕ) (tuples : List (List (List ℕ))) (rows : List (List (List Bool)))
      (vs : List Val)
      → MadeEach (tables_of s.code s.length s.format) (words_with s.addresses slots stored tuples rows) picks xs₀ w xs
      → slots ≡ loaded_slots s.nodes (replicate 16 (replicate 4 (replicate 16 0)))
      → stored ≡ loaded_counts s.nodes (replicate 16 0)
      → tuples ≡ loaded_tuples s.nodes (replicate 16 (replicate 16 (replicate 6 0)))
      → rows ≡ loaded_rows s.nodes (replicate 16 (replicate 16 (replicate 65 false)))
      → Is (row net.the_type) s vs → sound_of s ≡ true
      → xs ≡ over xs₀ 0 (numbers (lean_ran_from s picks))
  ran_answers slots stored tuples rows vs made p q t u held sound =
      loaded_answers load_laws action_laws s (net_shaped s vs held) sound (fits s vs held) picks slots stored tuples rows xs₀ w xs made p q t u
