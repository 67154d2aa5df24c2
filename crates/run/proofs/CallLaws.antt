-- Laws by which the public calls meet their definitions (`specs/Calls.antt`). Assumes nothing.
use Prim.Native.Nat.{ℕ, suc}
use mathlib.Core.Path.{◌≡◌, refl, sym, ap, ◌∙◌}
use mathlib.Core.Bool.{Bool, true, false}
use mathlib.Core.List.{List, [], ◌∷◌}
use lib.ListN.{length}
use lib.Dec.{leb}
use Rattle.net.specs.Choice.{choose}
use Rattle.net.specs.Records.{empty_net}
use Rattle.sound.specs.Soundness.{sound_of}
use Rattle.net.proofs.Laws.{choose_true, choose_false}
use Rattle.image.specs.Image.{opened_of}
use Rattle.accepted.specs.ImageClaims.{AcceptedIsSound}
use Rattle.accepted.proofs.AcceptedSound.{accepted_is_sound}
use Rattle.notation.specs.Text.{read_of}
use Rattle.texts.specs.TextClaims.{TextIsSound}
use Rattle.texts.proofs.TextClaims.{text_is_sound}
use Rattle.text.specs.Buffer.{over}
use Rattle.lean_step.specs.LeanStep.{lean_ran_from, lean_pick_of}
use Rattle.step.specs.Pick.{pick_of}
use Rattle.lean_first.proofs.LeanFirst.{lean_is_first}
use Rattle.lean.specs.Calls.{room_for, net_after, answers_after}
use Rattle.run.specs.Types.{Net, Fault, Opened, Verdict, TextOpened, TextVerdict}
use Rattle.run.specs.Run.{Outcome, refused, refused_text, ran, numbers, answered, ran_from, run_in, run_of, run_text_in, run_text_of}
use Rattle.run.specs.Calls.{Finish, Finished, finished, finished_of, answers_in}

-- ---- an image that was read
module _ (image : List ℕ) (o : Opened) (read : o ≡ opened_of image) where
  pub opened_sound : o.answer ≡ Verdict.Accepted → sound_of o.net ≡ true
  unfolding AcceptedIsSound
  opened_sound a =
      ap (λ (x : Opened). sound_of x.net) read
      ∙ accepted_is_sound image (sym (ap (λ (x : Opened). x.answer) read) ∙ a)

  module _ (picks : List ℕ) where
    -- what is made of the answer and the net is the run of the image
    outcome : run_in o.answer o.net picks ≡ run_of image picks
    unfolding run_of
    outcome = ap (λ (x : Opened). run_in x.answer x.net picks) read

    pub ran_is : o.answer ≡ Verdict.Accepted → ran (ran_from o.net picks) ≡ run_of image picks
    unfolding run_in
    ran_is a = ap (λ (x : Verdict). run_in x o.net picks) (sym a) ∙ outcome

-- ---- a text that was read
module _ (text : List ℕ) (o : TextOpened) (read : o ≡ read_of text) where
  pub text_sound : o.answer ≡ TextVerdict.Accepted → sound_of o.net ≡ true
  unfolding TextIsSound
  text_sound a =
      ap (λ (x : TextOpened). sound_of x.net) read
      ∙ text_is_sound text (sym (ap (λ (x : TextOpened). x.answer) read) ∙ a)

  module _ (picks : List ℕ) where
    -- what is made of the answer and the net is the run of the text
    text_outcome : run_text_in o.answer o.net picks ≡ run_text_of text picks
    unfolding run_text_of
    text_outcome = ap (λ (x : TextOpened). run_text_in x.answer x.net picks) read

    pub text_ran_is : o.answer ≡ TextVerdict.Accepted → ran (ran_from o.net picks) ≡ run_text_of text picks
    unfolding run_text_in
    text_ran_is a = ap (λ (x : TextVerdict). run_text_in x o.net picks) (sym a) ∙ text_outcome

-- ---- what the engine's picks come to: those of the first engine (`LeanIsFirst` of `lean_first`)
module _ (image : List ℕ) (answer : Verdict) (s : Net) (judged : answer ≡ (opened_of image).answer) (net_is : s ≡ (opened_of image).net) (picks : List ℕ) where
  pub engine_ran : answer ≡ Verdict.Accepted → ran (lean_ran_from s picks) ≡ run_of image picks
  unfolding run_of run_in
  engine_ran a =
      ap (λ (t : Net). ran (lean_ran_from t picks)) net_is
      ∙ ap ran ((lean_is_first.of_image image (sym judged ∙ a)).one_call picks)
      ∙ ap (λ (x : Verdict). run_in x (opened_of image).net picks) (sym a ∙ judged)

  pub engine_refused : (f : Fault) → answer ≡ Verdict.Refused f → refused f ≡ run_of image picks
  unfolding run_of run_in
  engine_refused f a = ap (λ (x : Verdict). run_in x (opened_of image).net picks) (sym a ∙ judged)

module _ (text : List ℕ) (answer : TextVerdict) (s : Net) (judged : answer ≡ (read_of text).answer) (net_is : s ≡ (read_of text).net) (picks : List ℕ) where
  pub text_engine_ran : answer ≡ TextVerdict.Accepted → ran (lean_ran_from s picks) ≡ run_text_of text picks
  unfolding run_text_of run_text_in
  text_engine_ran a =
      ap (λ (t : Net). ran (lean_ran_from t picks)) net_is
      ∙ ap ran ((lean_is_first.of_text text (sym judged ∙ a)).one_call picks)
      ∙ ap (λ (x : TextVerdict). run_text_in x (read_of text).net picks) (sym a ∙ judged)

  pub text_engine_refused : (n : ℕ) → answer ≡ TextVerdict.Refused n → refused_text n ≡ run_text_of text picks
  unfolding run_text_of run_text_in
  text_engine_refused n a = ap (λ (x : TextVerdict). run_text_in x (read_of text).net picks) (sym a ∙ judged)

-- ---- what the calls give and leave, by what a run comes to
module _ (y : Outcome) where
  module _ (s : Net) (picks : List ℕ) (a : ran (lean_ran_from s picks) ≡ y) where
    pub ran_finish : (r : Finished) (room : ℕ) → r ≡ finished_of (ran (lean_ran_from s picks)) room → r ≡ finished_of y room
    ran_finish r room e = e ∙ ap (λ (x : Outcome). finished_of x room) a

    pub ran_left : (xs ys : List ℕ) → ys ≡ answers_in (ran (lean_ran_from s picks)) xs → ys ≡ answers_in y xs
    ran_left xs ys e = e ∙ ap (λ (x : Outcome). answers_in x xs) a

  module _ (r : Finished) (f : Fault) (e : r ≡ finished (Finish.Refused f) empty_net) (a : refused f ≡ y) where
    pub refused_finish : (room : ℕ) → r ≡ finished_of y room
    unfolding finished_of
    refused_finish room = e ∙ ap (λ (x : Outcome). finished_of x room) a

    pub refused_left : (xs : List ℕ) → xs ≡ answers_in y xs
    unfolding answers_in
    refused_left xs = ap (λ (x : Outcome). answers_in x xs) a

  module _ (r : Finished) (n : ℕ) (e : r ≡ finished (Finish.RefusedText n) empty_net) (a : refused_text n ≡ y) where
    pub text_refused_finish : (room : ℕ) → r ≡ finished_of y room
    unfolding finished_of
    text_refused_finish room = e ∙ ap (λ (x : Outcome). finished_of x room) a

    pub text_refused_left : (xs : List ℕ) → xs ≡ answers_in y xs
    unfolding answers_in
    text_refused_left xs = ap (λ (x : Outcome). answers_in x xs) a

-- ---- a run
pub answers_length : (s : Net) (picks : List ℕ) → length (ran_from s picks).answers ≡ length picks
unfolding ran_from answered
answers_length s [] = refl
answers_length s (b ∷ bs) = ap suc (answers_length (pick_of s b).net bs)

-- of the engine
pub engine_length : (s : Net) (picks : List ℕ) → length (lean_ran_from s picks).answers ≡ length picks
unfolding lean_ran_from answered
engine_length s [] = refl
engine_length s (b ∷ bs) = ap suc (engine_length (lean_pick_of s b).net bs)

module _ (s : Net) (picks xs : List ℕ) where
  -- whether there is room for its answers, as `make` of the engine has it
  room_for_law : room_for picks xs ≡ leb (length (lean_ran_from s picks).answers) (length xs)
  unfolding room_for
  room_for_law = ap (λ (n : ℕ). leb n (length xs)) (sym (engine_length s picks))

  module _ (room : Bool) (judged : room ≡ room_for picks xs) where
    pub made_finish :
        (last after : Net) → room ≡ true → last ≡ after → after ≡ net_after s picks xs
        → record { finish = Finish.Complete; net = last } ≡ finished_of (ran (lean_ran_from s picks)) (length xs)
    unfolding finished_of finished net_after
    made_finish last after h d e =
        ap {B = Finished} (λ (z : Net). record { finish = Finish.Complete; net = z })
        (d ∙ e ∙ choose_true _ _ _ (sym judged ∙ h))
        ∙ sym (choose_true _ _ _ (sym room_for_law ∙ sym judged ∙ h))

    pub short_finish :
        (r : Finished) → room ≡ false → r ≡ finished Finish.NoRoom empty_net
        → r ≡ finished_of (ran (lean_ran_from s picks)) (length xs)
    unfolding finished_of
    short_finish r h e = e ∙ sym (choose_false _ _ _ (sym room_for_law ∙ sym judged ∙ h))

  pub made_left : (ys : List ℕ) → ys ≡ answers_after s picks xs → ys ≡ answers_in (ran (lean_ran_from s picks)) xs
  unfolding answers_in answers_after numbers
  made_left ys e = e ∙ ap (λ (b : Bool). choose b (over xs 0 (numbers (lean_ran_from s picks))) xs) room_for_law
