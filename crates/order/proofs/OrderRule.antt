-- The claim of `specs/OrderRule.antt`: two picks that are apart concern no address both, so each passes through the edit that
-- the other one makes (`Frame.antt`, `Moves.antt`), and the edits may be exchanged (`Edits.antt`). Accepted nets are sound
-- and picks keep them so, so that a target is an address in use. Assumes nothing.
use Prim.Native.Nat.{ℕ, ◌<◌}
use mathlib.Core.Path.{◌≡◌, sym, ap, subst, ◌∙◌}
use mathlib.Core.Bool.{true, false}
use mathlib.Core.List.{List}
use native.Mathlib.Omega.{arith}
use Rattle.net.specs.Shape.{Shaped}
use Rattle.net.proofs.Laws.{choose_true, both_i}
use Rattle.sound.specs.Soundness.{sound_of}
use Rattle.sound.proofs.NetFacts.{NetOk, sound_apart}
use Rattle.image.specs.Image.{opened_of, accepted}
use Rattle.image.specs.declared.reader.Opened.{Opened}
use Rattle.accepted.specs.ImageClaims.{AcceptedIsSound}
use Rattle.accepted.proofs.AcceptedSound.{accepted_is_sound}
use Rattle.notation.specs.Text.{read_of}
use Rattle.texts.specs.TextClaims.{TextIsSound}
use Rattle.texts.proofs.TextClaims.{text_is_sound}
use Rattle.step.specs.Pick.{host_of, unused, step_of, pick_of}
use Rattle.step.specs.declared.machine.Picked.{Picked}
use Rattle.step.proofs.SoundKept.{step_sound_kept}
use Rattle.runs.specs.Run.{ran_from}
use Rattle.runs.proofs.SoundRuns.{ran_kept}
use Rattle.tenant.proofs.Fence.{tested, never}
use Rattle.written.proofs.OpenedShaped.{opened_shaped}
use Rattle.text_tenant.specs.TextTenantRule.{TextIsImaged}
use Rattle.text_tenant.proofs.TextTenantRule.{text_is_imaged}
use Rattle.order.specs.Types.{Locality, Net, Verdict, TextVerdict}
use Rattle.order.specs.OrderRule.{targets_of, opens, same, among, Apart, EitherOrder, OrderRule}
use Rattle.order.proofs.Edits.{done, exchange}
use Rattle.order.proofs.Concerns.{Concern, is_host, is_target, is_new_law, same_self, targets_below}
use Rattle.order.proofs.Frame.{through, step_through}
use Rattle.order.proofs.Moves.{step_edits}

-- ---- two picks that are apart concern no address both
module _ (s : Net) (ok : NetOk s) (b c : ℕ) (a : Apart s b c) where
  -- an address to be opened is neither a host nor a target
  not_host : (x : ℕ) (l : Locality) → (host_of x).0 < s.addresses → l ≡ host_of x → l ≡ unused s → ⊥
  unfolding unused
  not_host x l used e n = let m : (host_of x).0 ≡ s.addresses = ap (λ (i : Locality). i.0) (sym e ∙ n) in omega arith

  not_target : (x : ℕ) (l : Locality) → (host_of x).0 < s.addresses → among l (targets_of s x) ≡ true → l ≡ unused s → ⊥
  unfolding unused
  not_target x l used h n =
      let below = targets_below s ok x used l h in
      let m : l.0 ≡ s.addresses = ap (λ (i : Locality). i.0) n in omega arith

  apart : (l : Locality) → Concern s b l → Concern s c l → ⊥
  apart l (is_host e) (is_host f) =
      never (same (host_of b) (host_of c)) (ap (same (host_of b)) (sym f ∙ e) ∙ same_self (host_of b)) a.hosts
  apart l (is_host e) (is_target h) = never _ (ap (λ m. among m (targets_of s c)) (sym e) ∙ h) a.host
  apart l (is_host e) (is_new_law _ n) = not_host b l a.used e n
  apart l (is_target h) (is_host f) = never _ (ap (λ m. among m (targets_of s b)) (sym f) ∙ h) a.host'
  apart l (is_target h) (is_target g) = never _ g (a.target l h)
  apart l (is_target h) (is_new_law _ n) = not_target b l a.used h n
  apart l (is_new_law _ n) (is_host f) = not_host c l a.used' f n
  apart l (is_new_law _ n) (is_target g) = not_target c l a.used' g n
  apart l (is_new_law h _) (is_new_law g _) = never _ (both_i _ _ h g) a.one_new

-- ---- a pick after another one
after :
    (s : Net) (b c : ℕ) → ((l : Locality) → Concern s c l → Concern s b l → ⊥) → (host_of b).0 < s.addresses
    → (opens s b ≡ true → opens s c ≡ false) → step_of (step_of s c).net b ≡ through (step_edits s c).edit (step_of s b)
after s b c away used one =
    let f = step_edits s c in
    ap (λ (t : Net). step_of t b) f.is ∙ sym (step_through f.edit s b away used (λ h. f.still (one h)))

-- the same rule over the pick without the soundness test
record Steps (s : Net) (b c : ℕ) : Type 0 where
  answer : (step_of (step_of s c).net b).answer ≡ (step_of s b).answer
  answer' : (step_of (step_of s b).net c).answer ≡ (step_of s c).answer
  net : (step_of (step_of s b).net c).net ≡ (step_of (step_of s c).net b).net

steps : (s : Net) (b c : ℕ) → NetOk s → Apart s b c → Steps s b c
unfolding through
steps s b c ok a =
    let away : (l : Locality) → Concern s b l → Concern s c l → ⊥ = apart s ok b c a in
    let f = step_edits s b in
    let g = step_edits s c in
    let first = after s b c (λ l h i. away l i h) a.used (λ h. tested (opens s c) (λ i. never _ (both_i _ _ h i) a.one_new) (λ i. i)) in
    let second = after s c b away a.used' (λ i. tested (opens s b) (λ h. never _ (both_i _ _ h i) a.one_new) (λ h. h)) in
    record {
      answer = ap (λ (r : Picked). r.answer) first;
      answer' = ap (λ (r : Picked). r.answer) second;
      net =
          ap (λ (r : Picked). r.net) second ∙ ap (done f.edit) g.is ∙ exchange away f.edit g.edit s
          ∙ ap (done g.edit) (sym f.is) ∙ sym (ap (λ (r : Picked). r.net) first);
    }

-- ---- of a sound net, so that the test changes nothing
record Good (s : Net) : Type 0 where
  shaped : Shaped s
  sound : sound_of s ≡ true

picks_as : (s : Net) (b : ℕ) → Good s → pick_of s b ≡ step_of s b
unfolding pick_of
picks_as s b g = choose_true _ _ _ g.sound

step_good : (s : Net) (b : ℕ) → Good s → Good (step_of s b).net
step_good s b g = let kept = step_sound_kept s b g.shaped g.sound in record { shaped = kept.1; sound = kept.0 }

-- two picks, one after the other
pick_pick : (s : Net) (b c : ℕ) → Good s → pick_of (pick_of s b).net c ≡ step_of (step_of s b).net c
pick_pick s b c g = ap (λ (r : Picked). pick_of r.net c) (picks_as s b g) ∙ picks_as (step_of s b).net c (step_good s b g)

order : (s : Net) (b c : ℕ) → Good s → Apart s b c → EitherOrder s b c
order s b c g a =
    let r = steps s b c (sound_apart s g.shaped g.sound) a in
    let answers : Picked → _ = λ x. x.answer in
    let nets : Picked → Net = λ x. x.net in
    record {
      answer = ap answers (pick_pick s c b g) ∙ r.answer ∙ sym (ap answers (picks_as s b g));
      answer' = ap answers (pick_pick s b c g) ∙ r.answer' ∙ sym (ap answers (picks_as s c g));
      net = ap nets (pick_pick s b c g) ∙ r.net ∙ sym (ap nets (pick_pick s c b g));
    }

-- ---- of nets that come from accepted images and texts
run_good : (s : Net) (picks : List ℕ) → Good s → Good (ran_from s picks).net
run_good s picks g = let kept = ran_kept s picks g.shaped g.sound in record { shaped = kept.1; sound = kept.0 }

image_good : (image : List ℕ) → (opened_of image).answer ≡ Verdict.Accepted → Good (opened_of image).net
unfolding AcceptedIsSound
image_good image a = record { shaped = opened_shaped image; sound = accepted_is_sound image a }

text_good : (text : List ℕ) → (read_of text).answer ≡ TextVerdict.Accepted → Good (read_of text).net
unfolding TextIsImaged TextIsSound accepted
text_good text a =
    let (image, _, given) = text_is_imaged text a in
    record {
      shaped = subst Shaped (ap (λ (o : Opened). o.net) given) (opened_shaped image);
      sound = text_is_sound text a;
    }

pub order_rule : OrderRule
unfolding OrderRule
order_rule = record {
  of_image = λ image picks a b c. order _ b c (run_good _ picks (image_good image a));
  of_text = λ text picks a b c. order _ b c (run_good _ picks (text_good text a));
}
