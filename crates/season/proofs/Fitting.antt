-- How large the counts of a made run and the sums of a season are. Assumes nothing.
use Prim.Native.Nat.{ℕ, ◌*◌, ◌≤◌}
use mathlib.Core.Path.{◌≡◌, refl, sym, subst}
use mathlib.Core.Logic.{◌⊎◌, inl, inr}
use mathlib.Core.Bool.{Bool, true, false}
use mathlib.Core.List.Memᴰ
use mathlib.Core.List.{List, [], ◌∷◌, map, Memᴰ}
use native.Mathlib.Omega.{arith}
use native.Mathlib.Nat.{mul-suc, mul-le-mul}
use lib.ListN.{length, take, length-take}
use Rattle.net.specs.Choice.{choose}
use Rattle.net.proofs.Laws.{both_l}
use Rattle.net.proofs.Every.{chosen, chosen_lt}
use Rattle.sound.proofs.NetFacts.{NetOk}
use Rattle.sound.proofs.NetChanges.{node_at_law}
use Rattle.image.specs.Image.{opened_of}
use Rattle.run.specs.Run.{run_in, run_of}
use Rattle.runs.proofs.SoundRuns.{ran_sound}
use Rattle.run.proofs.CallLaws.{opened_sound}
use Rattle.written.proofs.OpenedShaped.{opened_shaped}
use Rattle.season.specs.Types.{Locality, Verdict}
use Rattle.season.specs.Season.{Run, MadeRun, made_in, made_of, made_runs, tallied, counts, performs, picks_at, performed_at}
use Rattle.season.specs.Season.{left_in, left_at, summed, all_picks, all_performed, all_left}
use Rattle.season.specs.SeasonClaims.{CountsFit, SumsFit, SeasonFits}

-- ---- counts of picks
pub most_one : (t : Bool) → choose t 1 0 ≤ 1
most_one t = chosen (λ (n : ℕ). n ≤ 1) t 1 0 (λ _. omega arith) (λ _. omega arith)

tallied_most : (test : ℕ → ℕ → Bool) (picks answers : List ℕ) → tallied test picks answers ≤ length picks
unfolding tallied
tallied_most test [] answers = omega arith
tallied_most test (b ∷ picks) [] = omega arith
tallied_most test (b ∷ picks) (x ∷ answers) =
    let first = most_one (test b x) in
    let rest = tallied_most test picks answers in
    omega (arith, first, rest)

one_less : (s t : Bool) → (s ≡ true → t ≡ true) → choose s 1 0 ≤ choose t 1 0
unfolding choose
one_less true true h = omega arith
one_less true false h = let z : ◌≡◌ {A = ℕ} 0 1 = cc (h refl) in omega arith
one_less false true h = omega arith
one_less false false h = omega arith

tallied_less :
    (p q : ℕ → ℕ → Bool) (picks answers : List ℕ) → ((b x : ℕ) → p b x ≡ true → q b x ≡ true)
    → tallied p picks answers ≤ tallied q picks answers
unfolding tallied
tallied_less p q [] answers h = omega arith
tallied_less p q (b ∷ picks) [] h = omega arith
tallied_less p q (b ∷ picks) (x ∷ answers) h =
    let first = one_less (p b x) (q b x) (h b x) in
    let rest = tallied_less p q picks answers h in
    omega (arith, first, rest)

-- ---- at most 16 tuples stand at an address of a sound net
left_fits : (l : Locality) (m : MadeRun) → NetOk m.net → left_at l m ≤ 16
unfolding left_at left_in
left_fits l m ok =
    chosen_lt (λ (n : ℕ). n ≤ 16) _ _ _ _ (λ h. (node_at_law m.net ok l h).room) (λ _. omega arith)

-- ---- a run that was made
counts_fit : (m : MadeRun) → length m.picks ≤ 65536 → NetOk m.net → CountsFit m
unfolding picks_at performed_at performs
counts_fit m few ok = record {
  picks_most = λ l. let most = tallied_most (counts l) m.picks m.answers in omega (arith, most);
  performed_most = λ l. tallied_less _ _ m.picks m.answers (λ b x. both_l (counts l b x) _);
  left_most = λ l. left_fits l m ok;
}

in_fits :
    (image picks : List ℕ) (v : Verdict) → (opened_of image).answer ≡ v → length picks ≤ 65536 → (m : MadeRun)
    → Memᴰ m (made_in picks (run_in v (opened_of image).net picks)) → CountsFit m
unfolding made_in run_in
in_fits image picks Verdict.Accepted e few m h =
    subst CountsFit (sym (Memᴰ.eq_of_singleton h))
    (counts_fit _ few (ran_sound (opened_of image).net picks (opened_shaped image) (opened_sound image (opened_of image) refl e)))
in_fits image picks (Verdict.Refused f) e few m h = absurd (Memᴰ.not-nil h)

pub made_fits : (run : Run) (m : MadeRun) → Memᴰ m (made_of run) → CountsFit m
unfolding made_of run_of
made_fits run m h =
    let few : length (take 65536 run.picks) ≤ 65536 = omega (arith, length-take 65536 run.picks) in
    in_fits run.image (take 65536 run.picks) _ refl few m h

pub each_fits : (runs : List Run) (m : MadeRun) → Memᴰ m (made_runs runs) → CountsFit m
unfolding made_runs
each_fits [] m h = absurd (Memᴰ.not-nil h)
each_fits (run ∷ runs) m h = go (made_fits run m) (each_fits runs m) (Memᴰ.append_cases (made_of run) h)
  where
    go : {A B : Type 0} → (A → CountsFit m) → (B → CountsFit m) → A ⊎ B → CountsFit m
    go f g (inl a) = f a
    go f g (inr b) = g b

-- ---- sums
module _ (f : MadeRun → ℕ) where
  summed_most :
      (k : ℕ) (ms : List MadeRun) → ((m : MadeRun) → Memᴰ m ms → f m ≤ k) → summed (map f ms) ≤ k * length ms
  unfolding summed
  summed_most k [] h = omega arith
  summed_most k (m ∷ ms) h =
      let first = h m (Memᴰ.head refl) in
      let rest = summed_most k ms (λ n e. h n (Memᴰ.tail e)) in
      omega (arith, first, rest, mul-suc k (length ms))

  summed_less :
      (g : MadeRun → ℕ) (ms : List MadeRun) → ((m : MadeRun) → Memᴰ m ms → f m ≤ g m)
      → summed (map f ms) ≤ summed (map g ms)
  unfolding summed
  summed_less g [] h = omega arith
  summed_less g (m ∷ ms) h =
      let first = h m (Memᴰ.head refl) in
      let rest = summed_less g ms (λ n e. h n (Memᴰ.tail e)) in
      omega (arith, first, rest)

sums_fit :
    (ms : List MadeRun) → ((m : MadeRun) → Memᴰ m ms → CountsFit m) → length ms ≤ 1000 → SumsFit ms
unfolding all_picks all_performed all_left
sums_fit ms h few = record {
  picks_most = λ l. let most = summed_most (picks_at l) 65536 ms (λ m e. (h m e).picks_most l) in omega (arith, most);
  performed_most = λ l. summed_less (performed_at l) (picks_at l) ms (λ m e. (h m e).performed_most l);
  left_most = λ l. let most = summed_most (left_at l) 16 ms (λ m e. (h m e).left_most l) in omega (arith, most);
}

crossed : (l : Locality) (m n : MadeRun) → CountsFit m → CountsFit n → performed_at l m * picks_at l n ≤ 4294967296
crossed l m n f g =
    let most : performed_at l m ≤ 65536 = omega (arith, f.performed_most l, f.picks_most l) in
    mul-le-mul most (g.picks_most l)

pub season_fits : SeasonFits
season_fits = record {
  each = each_fits;
  cross = λ runs m n e d l. crossed l m n (each_fits runs m e) (each_fits runs n d);
  all = λ runs few. sums_fit (made_runs runs) (each_fits runs) few;
}
