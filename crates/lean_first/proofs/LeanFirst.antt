-- The claim `LeanIsFirst` of `specs/LeanFirst.antt`: an accepted source gives a settled net, picks leave it so, and in a settled net
-- the lean pick is the pick. Assumes nothing.
use Prim.Native.Nat.{ℕ}
use mathlib.Core.Path.{◌≡◌, refl, sym, ap, ◌∙◌}
use mathlib.Core.Bool.{true, false}
use mathlib.Core.List.{List, [], ◌∷◌, ◌++◌}
use Rattle.net.specs.Choice.{both, in_range}
use Rattle.net.specs.Records.{empty_net}
use Rattle.net.proofs.Laws.{choose_false}
use Rattle.sound.specs.Soundness.{sound_of}
use Rattle.image.specs.Image.{opened_of}
use Rattle.notation.specs.Text.{read_of}
use Rattle.fresh.specs.Fresh.{fresh_of}
use Rattle.texts.specs.TextClaims.{TextIsFresh}
use Rattle.texts.proofs.TextClaims.{text_is_fresh}
use Rattle.written.proofs.FreshFits.{fresh_apart}
use Rattle.written.proofs.AcceptedWritten.{accepted_fresh}
use Rattle.step.specs.Pick.{unchanged, pick_of}
use Rattle.step.specs.Ran.{Ran, answered, ran_from}
use Rattle.lean_first.specs.Types.{Net, Verdict, TextVerdict, Picked}
use Rattle.lean_step.specs.LeanStep.{lean_pick_of, lean_ran_from, followed, lean_calls_from}
use Rattle.lean_step.specs.Settled.{Settled, SettledStays, SettledIsLean}
use Rattle.lean_first.specs.LeanFirst.{all_picks, SameAsFirst, LeanIsFirst}
use Rattle.lean_step.proofs.Settled.{settled_stays}
use Rattle.lean_step.proofs.LeanStep.{settled_is_lean}

-- ---- picks one after another
pub ran_append : (s : Net) (xs ys : List ℕ) → ran_from s (xs ++ ys) ≡ followed (ran_from s xs) (ran_from (ran_from s xs).net ys)
unfolding ran_from answered followed
ran_append s [] ys = refl
ran_append s (x ∷ xs) ys = ap (answered (pick_of s x).answer) (ran_append (pick_of s x).net xs ys)

-- ---- of every net of a kind that picks leave, and in which the lean pick is the pick
module _
    (Kind : Net → Type 0) (stays : (s : Net) (b : ℕ) → Kind s → Kind (pick_of s b).net)
    (same : (s : Net) (b : ℕ) → Kind s → lean_pick_of s b ≡ pick_of s b)
  where
    ran_stays : (s : Net) (picks : List ℕ) → Kind s → Kind (ran_from s picks).net
    unfolding ran_from answered
    ran_stays s [] z = z
    ran_stays s (b ∷ bs) z = ran_stays (pick_of s b).net bs (stays s b z)

    ran_same : (s : Net) (picks : List ℕ) → Kind s → lean_ran_from s picks ≡ ran_from s picks
    unfolding lean_ran_from ran_from
    ran_same s [] z = refl
    ran_same s (b ∷ bs) z =
        ap (λ (r : Picked). answered r.answer (lean_ran_from r.net bs)) (same s b z)
        ∙ ap (answered (pick_of s b).answer) (ran_same (pick_of s b).net bs (stays s b z))

    calls_same : (s : Net) (calls : List (List ℕ)) → Kind s → lean_calls_from s calls ≡ ran_from s (all_picks calls)
    unfolding lean_calls_from all_picks ran_from
    calls_same s [] z = refl
    calls_same s (picks ∷ rest) z =
        ap (λ (r : Ran). followed r (lean_calls_from r.net rest)) (ran_same s picks z)
        ∙ ap (followed (ran_from s picks)) (calls_same (ran_from s picks).net rest (ran_stays s picks z))
        ∙ sym (ran_append s picks (all_picks rest))

    pub same_as_first : (s : Net) → Kind s → SameAsFirst s
    same_as_first s z = record {
      one_call = λ picks. ran_same s picks z;
      calls = λ calls. calls_same s calls z;
      each_pick = λ picks b.
          ap (λ (r : Ran). lean_pick_of r.net b) (ran_same s picks z) ∙ same (ran_from s picks).net b (ran_stays s picks z);
    }

-- ---- of settled nets
pub settled_ran : (s : Net) (picks : List ℕ) → Settled s → Settled (ran_from s picks).net
unfolding SettledStays SettledIsLean
settled_ran = ran_stays Settled settled_stays settled_is_lean

pub settled_first : (s : Net) → Settled s → SameAsFirst s
unfolding SettledStays SettledIsLean
settled_first = same_as_first Settled settled_stays settled_is_lean

-- ---- of nets that are not sound, which answer 10 and stay as they are
unsound_pick : (s : Net) (b : ℕ) → sound_of s ≡ false → s ≡ (pick_of s b).net
unfolding pick_of unchanged
unsound_pick s b e = sym (ap (λ (r : Picked). r.net) (choose_false _ _ _ e))

unsound_same : (s : Net) (b : ℕ) → sound_of s ≡ false → lean_pick_of s b ≡ pick_of s b
unfolding lean_pick_of pick_of
unsound_same s b e = choose_false _ _ _ e ∙ sym (choose_false _ _ _ e)

pub unsound_first : (s : Net) → sound_of s ≡ false → SameAsFirst s
unsound_first =
    same_as_first (λ s. sound_of s ≡ false)
    (λ s b e. ap sound_of (sym (unsound_pick s b e)) ∙ e) unsound_same

empty_unsound : sound_of empty_net ≡ false
unfolding sound_of in_range both empty_net
empty_unsound = refl

-- ---- accepted sources
fresh_settled : (s : Net) → fresh_of s ≡ true → Settled s
fresh_settled s h = let f = fresh_apart s h in record { shaped = f.shaped; sound = f.sound; within = f.admitted }

pub image_settled : (image : List ℕ) → (opened_of image).answer ≡ Verdict.Accepted → Settled (opened_of image).net
image_settled image e = fresh_settled _ (accepted_fresh image e)

pub text_settled : (text : List ℕ) → (read_of text).answer ≡ TextVerdict.Accepted → Settled (read_of text).net
unfolding TextIsFresh
text_settled text e = fresh_settled _ (text_is_fresh text e)

-- ---- the claim
pub lean_is_first : LeanIsFirst
lean_is_first = record {
  of_image = λ image e. settled_first _ (image_settled image e);
  of_text = λ text e. settled_first _ (text_settled text e);
  of_empty = unsound_first empty_net empty_unsound;
}
