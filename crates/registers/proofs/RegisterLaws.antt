-- Laws by which the writing of a register meets its definitions (`specs/Register.antt`, `specs/Calls.antt`).
-- Assumes nothing.
use Prim.Native.Nat.{ℕ, ◌+◌, ◌<◌, ◌≤◌}
use mathlib.Core.Path.{◌≡◌, refl, sym, ap, subst, ◌∙◌}
use mathlib.Core.Bool.{Bool, true, false}
use mathlib.Core.List.{List, [], ◌∷◌}
use native.Mathlib.Omega.{arith}
use native.Mathlib.Decide.{dec_le}
use lib.ListN.{length, get_or, take, length-map, get_or-append}
use lib.Seq.{sets-eq}
use lib.Dec.{leb}
use borrow.Author.Tests.{le-leb, lt-leb}
use Rattle.net.specs.Choice.{choose}
use Rattle.net.proofs.Laws.{choose_true, choose_false}
use Rattle.text.specs.Buffer.{over}
use Rattle.std.specs.Prelude.{Option, Some, None, if◌then◌else◌, ◌++◌}
use Rattle.text.specs.declared.writer.Writer.{Writer}
use Rattle.text.specs.Writer.{after, fitted}
use Rattle.text.proofs.WritingLaws.{joined_same}
use Rattle.image.specs.Image.{opened_of}
use Rattle.notation.specs.Text.{read_of}
use Rattle.plans.specs.Answer.{number_of}
use Rattle.lean_step.specs.LeanStep.{lean_ran_from}
use Rattle.lean.specs.Calls.{room_for, net_after, answers_after}
use Rattle.run.specs.Run.{Outcome, ran, numbers}
use Rattle.run.proofs.CallLaws.{engine_ran, engine_refused, text_engine_ran, text_engine_refused, engine_length}
use Rattle.registers.specs.Types.{Parts, Net, Fault, Verdict, TextVerdict}
use Rattle.lines.specs.Words.{Word, printed}
use Rattle.lines.specs.Shown.{Shown, unnamed, named, all_parts, current}
use Rattle.lines.specs.Lines.{refusal_line, refused_line, net_line, made_line}
use Rattle.lines.specs.Lines.{pick_lines}
use Rattle.registers.specs.Register.{register_lines, register_in, register_as, register_of, register_text_as, register_text_of}
use Rattle.registers.specs.Register.{named_register_of, named_register_text_of}
use Rattle.lines.specs.Lines.{after_lines}
use Rattle.registers.specs.Calls.{written_in, registered_of, registered_number, room_number}
use Rattle.lines.proofs.LineLaws.{named_none}
use Rattle.lines.proofs.WordLaws.{lines_after}

-- ---- a register
chosen_number : (b : Bool) (n : ℕ) → registered_number (choose b (Some n) None) ≡ choose b 0 35
unfolding choose registered_number
chosen_number true n = refl
chosen_number false n = refl

by_lengths : (n room : ℕ) → registered_number (written_in n room) ≡ room_number n room
unfolding written_in room_number
by_lengths n room = chosen_number (leb n room) n

-- what a writer gives
pub written_as : (text : List ℕ) (room : ℕ) (x : Option ℕ) → x ≡ fitted text room → x ≡ registered_of text room
unfolding fitted registered_of written_in choose
written_as text room x e = e ∙ chosen (leb (length text) room)
  where
    chosen : (b : Bool) → (if b then Some (length text) else None) ≡ choose b (Some (length text)) None
    chosen true = refl
    chosen false = refl

-- and its number
pub number_as : (text : List ℕ) (room : ℕ) (x : Option ℕ) → x ≡ registered_of text room → registered_number x ≡ room_number (length text) room
unfolding registered_of
number_as text room x e = ap registered_number e ∙ by_lengths (length text) room

-- the answers that the buffer holds are those of the run
over_at : (xs text : List ℕ) (i : ℕ) → length text ≤ length xs → i < length text → get_or (over xs 0 text) i 0 ≡ get_or text i 0
unfolding over
over_at xs text i h g =
    ap (λ (ys : List ℕ). get_or ys i 0) (sets-eq text xs 0 (omega arith)) ∙ get_or-append text _ 0 i g

-- where there is room for the answers
module _ (s : Net) (picks xs : List ℕ) (room : length picks ≤ length xs) where
  pub picks_net : (last after : Net) → last ≡ after → after ≡ net_after s picks xs → last ≡ (lean_ran_from s picks).net
  unfolding net_after room_for
  picks_net last after d e = d ∙ e ∙ choose_true _ _ _ (le-leb _ _ room)

  pub picks_answers : (ys : List ℕ) → ys ≡ answers_after s picks xs → ys ≡ over xs 0 (numbers (lean_ran_from s picks))
  unfolding answers_after room_for
  picks_answers ys e = e ∙ choose_true _ _ _ (le-leb _ _ room)

-- the line of a net
pub start_line : (w v : Writer ℕ) (s t : Net) → t ≡ s → v ≡ after w (printed (net_line t.addresses t.length ∷ [])) → v ≡ after w (printed (net_line s.addresses s.length ∷ []))
start_line w v s t e h = subst (λ (z : Net). v ≡ after w (printed (net_line z.addresses z.length ∷ []))) e h

module _
    (shown : Shown) (s : Net) (picks xs ys : List ℕ) (last : Net) (net_is : last ≡ (lean_ran_from s picks).net)
    (left_is : ys ≡ over xs 0 (numbers (lean_ran_from s picks))) (room : length picks ≤ length xs)
  where
    numbers_length : length (numbers (lean_ran_from s picks)) ≡ length picks
    unfolding numbers
    numbers_length = length-map (lean_ran_from s picks).answers number_of ∙ engine_length s picks

    lines_same : pick_lines picks ys ≡ pick_lines picks (numbers (lean_ran_from s picks))
    unfolding pick_lines
    lines_same =
        joined_same (length picks) _ _
        (λ i h. ap (λ (x : ℕ). made_line (i + 1) (get_or picks i 0) x ∷ [])
        (ap (λ (zs : List ℕ). get_or zs i 0) left_is
        ∙ over_at xs _ i (omega (arith, numbers_length)) (omega (arith, numbers_length))))

    pub register_run :
        (w v u z : Writer ℕ) → v ≡ after w (printed (net_line s.addresses s.length ∷ [])) → u ≡ after v (printed (pick_lines picks ys))
        → z ≡ after u (printed (after_lines shown last)) → z ≡ after w (register_in shown s picks (ran (lean_ran_from s picks)))
    unfolding register_in register_lines
    register_run w v u z a b c =
        lines_after w v z (net_line s.addresses s.length ∷ []) (pick_lines picks (numbers (lean_ran_from s picks)) ++ after_lines shown (lean_ran_from s picks).net) a
        (lines_after v u z (pick_lines picks (numbers (lean_ran_from s picks))) (after_lines shown (lean_ran_from s picks).net)
        (subst (λ (t : List (List Word)). u ≡ after v (printed t)) lines_same b)
        (subst (λ (n : Net). z ≡ after u (printed (after_lines shown n))) net_is c))

-- of the net and the outcome that the image or the text has
module _ (w v : Writer ℕ) (parts : Parts) (site office source picks : List ℕ) (s : Net) where
  pub register_accepted :
      (answer : Verdict) → answer ≡ (opened_of source).answer → s ≡ (opened_of source).net → answer ≡ Verdict.Accepted
      → v ≡ after w (register_in (named parts site office) s (take 65536 picks) (ran (lean_ran_from s (take 65536 picks))))
      → v ≡ after w (register_as (named parts site office) source picks)
  unfolding register_as
  register_accepted answer j n a h = rw (← n, ← engine_ran source answer s j n (take 65536 picks) a) h

  pub register_refused :
      (answer : Verdict) (f : Fault) → answer ≡ (opened_of source).answer → s ≡ (opened_of source).net → answer ≡ Verdict.Refused f
      → v ≡ after w (printed (refused_line parts f ∷ [])) → v ≡ after w (register_as (named parts site office) source picks)
  unfolding register_as register_in register_lines named
  register_refused answer f j n a h = rw (← engine_refused source answer s j n (take 65536 picks) f a) h

  pub text_accepted :
      (answer : TextVerdict) → answer ≡ (read_of source).answer → s ≡ (read_of source).net → answer ≡ TextVerdict.Accepted
      → v ≡ after w (register_in (named parts site office) s (take 65536 picks) (ran (lean_ran_from s (take 65536 picks))))
      → v ≡ after w (register_text_as (named parts site office) source picks)
  unfolding register_text_as
  text_accepted answer j n a h = rw (← n, ← text_engine_ran source answer s j n (take 65536 picks) a) h

  pub text_refused :
      (answer : TextVerdict) (k : ℕ) → answer ≡ (read_of source).answer → s ≡ (read_of source).net → answer ≡ TextVerdict.Refused k
      → v ≡ after w (printed (refusal_line k ∷ [])) → v ≡ after w (register_text_as (named parts site office) source picks)
  unfolding register_text_as register_in register_lines
  text_refused answer k j n a h = rw (← text_engine_refused source answer s j n (take 65536 picks) k a) h

-- the picks that count
pub register_first :
    (w v : Writer ℕ) (picks : List ℕ) (n : ℕ) (shown : Shown) (s : Net) → take n picks ≡ take 65536 picks
    → v ≡ after w (register_in shown s (take n picks) (ran (lean_ran_from s (take n picks))))
    → v ≡ after w (register_in shown s (take 65536 picks) (ran (lean_ran_from s (take 65536 picks))))
register_first w v picks n shown s e h = subst (λ (p : List ℕ). v ≡ after w (register_in shown s p (ran (lean_ran_from s p)))) e h

-- ---- what is shown
module _ (source picks : List ℕ) where
  pub unnamed_is :
      (parts given : Parts) (site office : List ℕ) → given ≡ parts → site ≡ [] → office ≡ []
      → register_as (named given site office) source picks ≡ register_as (unnamed parts) source picks
  unnamed_is parts given site office p s o = rw (p, s, o) (ap (λ (shown : Shown). register_as shown source picks) (named_none parts))

  pub current_is : (parts : Parts) → parts ≡ all_parts → register_as (unnamed parts) source picks ≡ register_of source picks
  unfolding register_of current
  current_is parts p = ap (λ (shown : Parts). register_as (unnamed shown) source picks) p

  pub current_text_is :
      (parts given : Parts) (site office : List ℕ) → parts ≡ all_parts → given ≡ parts → site ≡ [] → office ≡ []
      → register_text_as (named given site office) source picks ≡ register_text_of source picks
  unfolding register_text_of current
  current_text_is parts given site office q p s o =
      rw (p, s, o)
      (ap (λ (shown : Shown). register_text_as shown source picks) (named_none parts)
      ∙ ap (λ (shown : Parts). register_text_as (unnamed shown) source picks) q)

  module _ (parts : Parts) (site office : List ℕ) (p : parts ≡ all_parts) where
    pub named_is : register_as (named parts site office) source picks ≡ named_register_of site office source picks
    unfolding named_register_of
    named_is = ap (λ (shown : Parts). register_as (named shown site office) source picks) p

    pub named_text_is : register_text_as (named parts site office) source picks ≡ named_register_text_of site office source picks
    unfolding named_register_text_of
    named_text_is = ap (λ (shown : Parts). register_text_as (named shown site office) source picks) p

module _ (text other : List ℕ) (e : text ≡ other) where
  pub same_value : (room : ℕ) (x : Option ℕ) → x ≡ registered_of text room → x ≡ registered_of other room
  same_value room x h = h ∙ ap (λ (t : List ℕ). registered_of t room) e

  pub same_number : (room : ℕ) (x : Option ℕ) → x ≡ registered_of text room → registered_number x ≡ room_number (length other) room
  same_number room x h = number_as other room x (same_value room x h)

  pub same_out : (xs ys : List ℕ) → ys ≡ over xs 0 text → ys ≡ over xs 0 other
  same_out xs ys h = h ∙ ap (over xs 0) e
