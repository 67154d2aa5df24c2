-- Laws by which one run is added to the sums: by how it ended, as the call of `run` says. Assumes nothing.
use Prim.Native.Nat.{ℕ, ◌+◌, ◌%◌, ◌≤◌, ◌<◌}
use mathlib.Core.Path.{◌≡◌, refl, sym, ap, ◌∙◌}
use mathlib.Core.Bool.{true}
use mathlib.Core.List.{List, [], ◌∷◌, ◌++◌}
use native.Mathlib.Omega.{arith}
use native.Mathlib.Nat.{add-mod-mod}
use lib.ListN.{length, take, drop, length-map}
use lib.Seq.{sets-eq}
use lib.Dec.{leb}
use borrow.Author.Tests.{le-leb, lt-ltb}
use Rattle.net.proofs.Laws.{choose_true}
use Rattle.text.specs.Buffer.{over}
use Rattle.image.specs.Image.{opened_of}
use Rattle.plans.specs.Answer.{number_of}
use Rattle.run.specs.Run.{Ran, ran, ran_from, run_in, run_of, numbers}
use Rattle.run.specs.Calls.{finished, finished_of, answers_in}
use Rattle.run.proofs.CallLaws.{answers_length}
use Rattle.season.specs.Types.{Net, Verdict, Finish, Finished}
use Rattle.season.specs.Season.{Run, MadeRun, made_in, made_of}
use Rattle.season.specs.Sums.{Sums, with_made, with_each, with_run}
use Rattle.season.specs.Counting.{no_counts, counted, with_counted, CountedIsMade}
use Rattle.season.proofs.Counting.{counted_is_made}

-- ---- a sum, of which the second number is cut first
pub cut_sum : (n more : ℕ) → (n + more % 4294967296) % 4294967296 ≡ (n + more) % 4294967296
cut_sum n more = add-mod-mod n more 4294967296

-- ---- by how the run ended
unfoldable pub added_by : Finish → Sums → Sums → Sums
added_by Finish.Complete sums with-run = with-run
added_by (Finish.Refused f) sums with-run = sums
added_by (Finish.RefusedText n) sums with-run = sums
added_by Finish.NoRoom sums with-run = sums

module _ (sums : Sums) (picks buffer : List ℕ) (room : length picks ≤ length buffer) (few : length picks ≤ 65536) where
  numbers_length : (s : Net) → length (numbers (ran_from s picks)) ≡ length picks
  unfolding numbers
  numbers_length s = length-map (ran_from s picks).answers number_of ∙ answers_length s picks

  -- the answers stand at the front of the buffer
  answers_first :
      (s : Net) → over buffer 0 (numbers (ran_from s picks)) ≡ numbers (ran_from s picks) ++ drop (0 + length (numbers (ran_from s picks))) buffer
  unfolding over
  answers_first s = sets-eq (numbers (ran_from s picks)) buffer 0 (omega (arith, numbers_length s))

  enough : (s : Net) → leb (length (ran_from s picks).answers) (length buffer) ≡ true
  enough s = le-leb (length (ran_from s picks).answers) (length buffer) (omega (arith, answers_length s picks))

  -- of a net that was read, with its verdict
  by_verdict :
      (v : Verdict) (s : Net)
      → added_by (finished_of (run_in v s picks) (length buffer)).finish sums
      (with_counted sums (counted no_counts picks (answers_in (run_in v s picks) buffer)) (finished_of (run_in v s picks) (length buffer)).net)
      ≡ with_each sums (made_in picks (run_in v s picks))
  unfolding run_in finished_of finished answers_in made_in with_each added_by CountedIsMade
  by_verdict Verdict.Accepted s =
      let r : Ran = ran_from s picks in
      let m : MadeRun = record { picks = picks; answers = numbers r; net = r.net } in
      let done : finished_of (ran r) (length buffer) ≡ finished Finish.Complete r.net = choose_true _ _ _ (enough s) in
      let left : answers_in (ran r) buffer ≡ numbers r ++ drop (0 + length (numbers r)) buffer =
      choose_true _ _ _ (enough s) ∙ answers_first s in
      ap (λ (f : Finished). added_by f.finish sums (with_counted sums (counted no_counts picks (answers_in (ran r) buffer)) f.net)) done
      ∙ ap (λ (xs : List ℕ). with_counted sums (counted no_counts picks xs) r.net) left
      ∙ counted_is_made sums m _ (sym (numbers_length s)) few
  by_verdict (Verdict.Refused f) s = refl

  -- of an image, with what the call gives and leaves
  by_finish :
      (image answers : List ℕ) (done : Finished) → done ≡ finished_of (run_of image picks) (length buffer)
      → answers ≡ answers_in (run_of image picks) buffer
      → added_by done.finish sums (with_counted sums (counted no_counts picks answers) done.net)
      ≡ with_each sums (made_in picks (run_of image picks))
  unfolding run_of
  by_finish image answers done e d =
      ap (λ (f : Finished). added_by f.finish sums (with_counted sums (counted no_counts picks answers) f.net)) e
      ∙ ap (λ (xs : List ℕ). added_by (finished_of (run_of image picks) (length buffer)).finish sums (with_counted sums (counted no_counts picks xs) (finished_of (run_of image picks) (length buffer)).net)) d
      ∙ by_verdict (opened_of image).answer (opened_of image).net

  -- and with what the arm of a match gives
  pub added_as :
      (image answers : List ℕ) (done : Finished) (x : Finish) (r : Sums) → done ≡ finished_of (run_of image picks) (length buffer)
      → answers ≡ answers_in (run_of image picks) buffer → done.finish ≡ x
      → r ≡ added_by x sums (with_counted sums (counted no_counts picks answers) done.net)
      → r ≡ with_each sums (made_in picks (run_of image picks))
  added_as image answers done x r e d f g =
      g ∙ ap (λ (z : Finish). added_by z sums (with_counted sums (counted no_counts picks answers) done.net)) (sym f)
      ∙ by_finish image answers done e d

-- ---- a run handed in: the picks that count
pub first_run :
    (sums : Sums) (image picks : List ℕ) (n : ℕ) (r : Sums) → take n picks ≡ take 65536 picks
    → r ≡ with_each sums (made_in (take n picks) (run_of image (take n picks)))
    → r ≡ with_run sums (record { image = image; picks = picks })
unfolding with_run made_of
first_run sums image picks n r e d = d ∙ ap (λ (few : List ℕ). with_each sums (made_in few (run_of image few))) e

-- sums that have stopped
stopped : (sums : Sums) (ms : List MadeRun) → 1000 < sums.runs → with_each sums ms ≡ sums
unfolding with_each with_made
stopped sums [] h = refl
stopped sums (m ∷ ms) h =
    let same : with_made sums m ≡ sums = choose_true _ _ _ (lt-ltb 1000 sums.runs h) in
    ap (λ (s : Sums). with_each s ms) same ∙ stopped sums ms h

pub stopped_run : (sums : Sums) (run : Run) → 1000 < sums.runs → sums ≡ with_run sums run
unfolding with_run
stopped_run sums run h = sym (stopped sums (made_of run) h)
