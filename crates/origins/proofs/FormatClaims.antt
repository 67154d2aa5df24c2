-- The claim of `specs/FormatClaims.antt`: each change that a pick makes to a net leaves its format. Assumes nothing.
use Prim.Native.Nat.{ℕ}
use mathlib.Core.Path.{◌≡◌, refl, ◌∙◌}
use mathlib.Core.List.{List, [], ◌∷◌}
use Rattle.std.specs.Prelude.{Option, Some, None}
use Rattle.net.specs.Records.{with_node, with_counts}
use Rattle.net.proofs.Every.{chosen}
use Rattle.step.specs.Pick.{unchanged, performed, with_host, stopped, added, out, out_all, taken, in_found, input, read_found, read}
use Rattle.step.specs.Pick.{started_in, eval, fork, opened, created_at, created, create, carried_out, acting, process_step}
use Rattle.step.specs.Pick.{slot_step, step_of, pick_of}
use Rattle.step.proofs.EachMember.{all_kept}
use Rattle.step.specs.Types.{Place, Evaluated, Request, Answer}
use Rattle.step.specs.declared.machine.Picked.{Picked}
use Rattle.runs.specs.Run.{answered, ran_from}
use Rattle.origins.specs.Types.{Locality, Process, Net}
use Rattle.origins.specs.FormatClaims.{FormatStays}

record Stays (s : Net) (r : Picked) : Type 0 where
  same : r.net.format ≡ s.format

module _ (s : Net) where
  refused_stays : (x : Answer) → Stays s (unchanged x s)
  unfolding unchanged
  refused_stays x = record { same = refl }

  performed_stays : (t : Net) → t.format ≡ s.format → Stays s (performed t)
  unfolding performed
  performed_stays t e = record { same = e }

  module _ (a : Locality) (k : ℕ) where
    in_stays : (l : Locality) (q : Place) (i : Option ℕ) (p : Process) → Stays s (in_found s a k l q i p)
    unfolding in_found taken with_host with_node
    in_stays l q (Some i) p = performed_stays _ refl
    in_stays l q None p = refused_stays _

    read_stays : (q : Place) (i : Option ℕ) (p : Process) → Stays s (read_found s a k q i p)
    unfolding read_found with_host with_node
    read_stays q (Some i) p = performed_stays _ refl
    read_stays q None p = refused_stays _

    started_stays : (l : Locality) (p copy : Process) (q : Place) (j : Option ℕ) → Stays s (started_in s a k l p copy q j)
    unfolding started_in with_host with_node
    started_stays l p copy q (Some j) = performed_stays _ refl
    started_stays l p copy q None = refused_stays _

    done_stays : (p : Process) (e : Evaluated) (r : Request) → Stays s (carried_out s a k p e r)
    unfolding carried_out stopped out out_all added input read eval create created created_at opened fork with_host with_node with_counts
    done_stays p e Request.Lack = refused_stays _
    done_stays p e Request.Stop = record { same = refl }
    done_stays p e (Request.Out l q) = chosen (Stays s) _ _ _ (λ _. performed_stays _ refl) (λ _. refused_stays _)
    done_stays p e (Request.In l q) = in_stays l q _ _
    done_stays p e (Request.Read l q) = read_stays q _ _
    done_stays p e (Request.Eval l sent q) = chosen (Stays s) _ _ _ (λ _. started_stays l p _ q _) (λ _. refused_stays _)
    done_stays p e (Request.New v q) = chosen (Stays s) _ _ _ (λ _. performed_stays _ refl) (λ _. refused_stays _)
    done_stays p e (Request.Fork q r) = started_stays a p _ q _
    done_stays p e (Request.OutAll g q) =
        chosen (Stays s) _ _ _ (λ _. performed_stays _ (all_kept g _ (λ t. t.format ≡ s.format) _ refl (λ t l _ h. h)))
        (λ _. refused_stays _)

  pick_stays : (b : ℕ) → Stays s (pick_of s b)
  unfolding pick_of step_of slot_step process_step acting
  pick_stays b =
      chosen (Stays s) _ _ _
      (λ _. chosen (Stays s) _ _ _
      (λ _. chosen (Stays s) _ _ _
      (λ _. chosen (Stays s) _ _ _
      (λ _. chosen (Stays s) _ _ _ (λ _. done_stays _ _ _ _ _) (λ _. refused_stays _))
      (λ _. refused_stays _)) (λ _. refused_stays _)) (λ _. refused_stays _)) (λ _. refused_stays _)

run_stays : (s : Net) (picks : List ℕ) → (ran_from s picks).net.format ≡ s.format
unfolding ran_from answered
run_stays s [] = refl
run_stays s (b ∷ bs) = run_stays (pick_of s b).net bs ∙ (pick_stays s b).same

pub format_stays : FormatStays
format_stays = record { pick = λ s b. (pick_stays s b).same; run = run_stays }
