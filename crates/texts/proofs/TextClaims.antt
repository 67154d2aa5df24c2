-- The claims of `specs/TextClaims.antt`. Assumes nothing.
use Prim.Native.Nat.{ℕ}
use mathlib.Core.Path.{◌≡◌, refl, subst}
use mathlib.Core.Bool.{Bool, true, false}
use mathlib.Core.List.{List}
use native.Mathlib.Omega.{arith}
use Rattle.net.specs.Choice.{choose, in_range}
use Rattle.net.proofs.Laws.{both_l, both_r, in_range_low, in_range_high}
use Rattle.fresh.specs.Fresh.{net_fits, fresh_of}
use Rattle.net.specs.Records.{empty_net}
use Rattle.keeping.specs.Admission.{admits}
use Rattle.readers.specs.Reader.{Parsed, got, fault}
use Rattle.linking.specs.Source.{Source}
use Rattle.rows.specs.OriginRows.{is_origin_row}
use Rattle.notation.specs.Lines.{source}
use Rattle.linking.specs.Names.{names_right}
use Rattle.linking.specs.Compiled.{total, compiled}
use Rattle.notation.specs.Text.{refused, accepted, judged_source, judged, read_of}
use Rattle.texts.specs.Types.{Verdict, Opened}
use Rattle.texts.specs.TextClaims.{TextNumber, count, beyond_row_law, name}
use Rattle.texts.specs.TextClaims.{TextIsSound, TextIsFresh, TextHasFormat, RefusedTextIsEmpty, RefusedTextIsNumbered}
use Rattle.texts.proofs.Gives.{Fine, value, stopped}
use Rattle.texts.proofs.Lines.{SourceOk, source_fine}
use Rattle.texts.proofs.Fresh.{compiled_format, compiled_fresh}

-- an answer of the reader: accepted with a fresh net of format f, or refused with one of the numbers and the empty net
data Answered (f : ℕ) : Opened → Type 0 where
  took : {o : Opened} → o.answer ≡ Verdict.Accepted → o.net.format ≡ f → fresh_of o.net ≡ true → Answered f o
  left : {n : ℕ} → TextNumber n → Answered f (refused n)

-- the branch that a test takes, known to hold
either : (f : ℕ) (b : Bool) (x y : Opened) → (b ≡ true → Answered f x) → Answered f y → Answered f (choose b x y)
unfolding choose
either f true x y h g = h refl
either f false x y h g = g

judged_source_law : (f : ℕ) (x : Source) → SourceOk f x → Answered f (judged_source x)
unfolding judged_source accepted
judged_source_law f x ok =
    either f (names_right x.lines) _ _ (λ right.
    either f (in_range 1 (total x.lines) 512) _ _ (λ few.
    either f (admits (compiled x)) _ _ (λ kept.
    took refl (compiled_format f x ok right) (compiled_fresh f x ok right (in_range_low 1 _ 512 few) (in_range_high 1 _ 512 few) kept))
    (left beyond_row_law)) (left count)) (left name)

answered_from : (f : ℕ) (o : Parsed Source) → Fine (SourceOk f) o → Answered f (judged o)
unfolding judged
answered_from f (got x q) (value h) = judged_source_law f x h
answered_from f (fault n) (stopped h) = left h

-- the format that the first line decides
unfoldable format_for : List ℕ → ℕ
format_for text = choose (is_origin_row text 0) 2 1

answered : (text : List ℕ) → Answered (format_for text) (read_of text)
unfolding read_of format_for
answered text = answered_from _ (source text 0) (source_fine text 0)

left_empty : (m : ℕ) → (refused m).net ≡ empty_net
unfolding refused
left_empty m = refl

left_answer : (m : ℕ) → (refused m).answer ≡ Verdict.Refused m
unfolding refused
left_answer m = refl

left_number : (m n : ℕ) → (refused m).answer ≡ Verdict.Refused n → Verdict.Refused m ≡ Verdict.Refused n
unfolding refused
left_number m n e = e

no_both : {C : Type 0} (v : Verdict) (n : ℕ) → v ≡ Verdict.Accepted → v ≡ Verdict.Refused n → C
no_both v n h e = let z : ◌≡◌ {A = ℕ} 0 1 = cc in absurd (omega arith)

same_number : (m n : ℕ) → Verdict.Refused m ≡ Verdict.Refused n → m ≡ n
same_number m n e = cc

pub text_is_fresh : TextIsFresh
unfolding TextIsFresh
text_is_fresh text = go (read_of text) (answered text)
  where
    go : (o : Opened) → Answered (format_for text) o → o.answer ≡ Verdict.Accepted → fresh_of o.net ≡ true
    go o (took h f g) e = g
    go o (left {n = m} h) e = no_both (refused m).answer m e (left_answer m)

pub text_has_format : TextHasFormat
unfolding TextHasFormat format_for
text_has_format text = go (read_of text) (answered text)
  where
    go : (o : Opened) → Answered (format_for text) o → o.answer ≡ Verdict.Accepted → o.net.format ≡ format_for text
    go o (took h f g) e = f
    go o (left {n = m} h) e = no_both (refused m).answer m e (left_answer m)

pub text_is_sound : TextIsSound
unfolding TextIsSound TextIsFresh fresh_of
text_is_sound text e = both_l _ _ (both_r (net_fits (read_of text).net) _ (text_is_fresh text e))

pub refused_text_is_empty : RefusedTextIsEmpty
unfolding RefusedTextIsEmpty
refused_text_is_empty text n = go (read_of text) (answered text)
  where
    go : (o : Opened) → Answered (format_for text) o → o.answer ≡ Verdict.Refused n → o.net ≡ empty_net
    go o (took h f g) e = no_both o.answer n h e
    go o (left h) e = left_empty _

pub refused_text_is_numbered : RefusedTextIsNumbered
unfolding RefusedTextIsNumbered
refused_text_is_numbered text n = go (read_of text) (answered text)
  where
    go : (o : Opened) → Answered (format_for text) o → o.answer ≡ Verdict.Refused n → TextNumber n
    go o (took h f g) e = no_both o.answer n h e
    go o (left {n = m} h) e = subst TextNumber (same_number m n (left_number m n e)) h
