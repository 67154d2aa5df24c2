-- Laws of the text reader: what its parts read, the whole reads.
use Rattle.std.proofs.Common.{◌≡◌, ℕ, suc, ◌+◌, ◌-◌, ◌<◌, ◌≤◌, arith, add-one, length, drop, get_or, drop-cons, Bool, true, false, ◌&&◌, List, Result, Ok, Err, refl, sym, ap, ◌∙◌}
use native.Mathlib.Nat.{sub-zero}
use lib.ListN.{drop_of_length-le}
use lib.Dec.{leb}
use borrow.Author.Tests.{leb-true}
use Rattle.std.specs.Result.{IsErrAnd}
use Rattle.std.proofs.lemmas.Result.{err_from_is_err_and}
use borrow.Author.Tests.{eq-eqb, ne_eqb}
use Rattle.net.specs.Choice.{choose, both}
use Rattle.net.proofs.AllLaws.{and_both}
use Rattle.net.proofs.Laws.{choose_true, choose_false, both_l, both_r}
use Rattle.readers.specs.Reader.{Reader, pure, and_then, ◌>>=◌, ◌>>◌, fault, fault_at, turns, each, require}
use Rattle.readers.specs.Progress.{came}
use Rattle.lexemes.specs.Types.{Fault}
use Rattle.lexemes.specs.Lexemes.{look, byte_at, fail, byte, word, is_digit}
use Rattle.lexemes.specs.Progress.{TextReader, Reads, Resumes, Stands}

module _ {A : Type 0} (r r' : TextReader) where
  pub reads_pure : (a : A) → Reads r (pure a) (Ok a) r
  unfolding came pure
  reads_pure a = record { gave = refl; same = refl }

  pub reads_look : (f : ℕ → Reader A) (b : ℕ) (o : Result A Fault) → b ≡ byte_at r.text.now r.at → Reads r (f b) o r' → Reads r (look f) o r'
  unfolding look
  reads_look f b o e h = record { gave = rw (← e) h.gave; same = h.same }

  pub reads_true : (b : Bool) (m m' : Reader A) (o : Result A Fault) → b ≡ true → Reads r m o r' → Reads r (choose b m m') o r'
  reads_true b m m' o e h = rw (choose_true b m m' e) h

  pub reads_false : (b : Bool) (m m' : Reader A) (o : Result A Fault) → b ≡ false → Reads r m' o r' → Reads r (choose b m m') o r'
  reads_false b m m' o e h = rw (choose_false b m m' e) h

module _ {A B : Type 0} (r r' : TextReader) (m : Reader A) where
  module _ (r'' : TextReader) where
    pub reads_then : (f : A → Reader B) (a : A) (o : Result B Fault) → Reads r m (Ok a) r' → Reads r' (f a) o r'' → Reads r (m >>= f) o r''
    unfolding came ◌>>=◌ and_then
    reads_then f a o h k = record { gave = rw (← h.gave, ← h.same) k.gave; same = k.same ∙ h.same }

    pub reads_next : (f : Reader B) (a : A) (o : Result B Fault) → Reads r m (Ok a) r' → Reads r' f o r'' → Reads r (m >> f) o r''
    unfolding ◌>>◌
    reads_next f a o h k = reads_then (λ _. f) a o h k

  pub reads_failed : (f : A → Reader B) (e : Fault) → Reads r m (Err e) r' → Reads r (m >>= f) (Err e) r'
  unfolding came ◌>>=◌ and_then
  reads_failed f e h = record { gave = rw (← h.gave) refl; same = h.same }

  pub next_failed : (f : Reader B) (e : Fault) → Reads r m (Err e) r' → Reads r (m >> f) (Err e) r'
  unfolding ◌>>◌
  next_failed f e h = reads_failed (λ _. f) e h

  pub reads_fault : (f : A → Reader B) (e : Fault) (o : Result B Fault) → Reads r m (Err e) r' → IsErrAnd o (λ d. d ≡ e) → Reads r (m >>= f) o r'
  reads_fault f e o h k = let p = err_from_is_err_and o k in rw (p.1, p.2) (reads_failed f e h)

  pub next_fault : (f : Reader B) (e : Fault) (o : Result B Fault) → Reads r m (Err e) r' → IsErrAnd o (λ d. d ≡ e) → Reads r (m >> f) o r'
  unfolding ◌>>◌
  next_fault f e o h k = reads_fault (λ _. f) e o h k

pub reads_fail : {A : Type 0} (r : TextReader) (n : ℕ) (e : Fault) → e ≡ fault_at n r.at 0 → Reads {A = A} r (fail n) (Err e) r
unfolding came fail
reads_fail r n e h = record { gave = ap fault h; same = refl }

-- ---- digits
pub digit_least : (b : ℕ) → is_digit b ≡ true → 48 ≤ b
unfolding is_digit
digit_least b h = leb-true 48 b (both_l _ _ h)

pub digit_most : (b : ℕ) → is_digit b ≡ true → b - 48 ≤ 9
unfolding is_digit
digit_most b h = let l = leb-true b 57 (both_r (leb 48 b) _ h) in omega arith

-- a test of two parts
pub require_both : (r r' : TextReader) (a b : Bool) (n : ℕ) (o : Result (Unit {0}) Fault) → Reads r (require (a && b) n) o r' → Reads r (require (both a b) n) o r'
require_both r r' a b n o h = rw (← and_both a b a b refl refl) h

pub ruleset reads = (reads_pure, reads_look, reads_true, reads_false, reads_then, reads_next, reads_fault, next_fault, reads_fail, require_both, eq-eqb, ne_eqb, digit_least, digit_most)

-- ---- loops: what is read so far, and what is left
pub resumes_start : {A : Type 0} (r : TextReader) (m : Reader A) → Resumes r m r m
resumes_start r m = record { rest = refl; same = refl }

module _ {A : Type 0} (r₀ r r' : TextReader) (m m' : Reader A) where
  pub resumed : (o : Result A Fault) → Resumes r₀ m r m' → Reads r m' o r' → Reads r₀ m o r'
  resumed o h k = record { gave = k.gave ∙ sym h.rest; same = k.same ∙ h.same }

module _ {A B : Type 0} (r₀ r r' : TextReader) (m : Reader B) (n : Reader A) (f : A → Reader B) (a : A) where
  pub resumes_then : Resumes r₀ m r (n >>= f) → Reads r n (Ok a) r' → Resumes r₀ m r' (f a)
  unfolding came ◌>>=◌ and_then
  resumes_then h k = record { rest = h.rest ∙ (rw (← k.gave, ← k.same) refl); same = k.same ∙ h.same }

module _ {A : Type 0} (n : ℕ) (f : ℕ → A → Reader A) where
  turns_first : (i : ℕ) (a : A) → i < n → turns (n - i) i f a ≡ f i a >>= turns (n - (i + 1)) (i + 1) f
  unfolding turns
  turns_first i a h = let e : n - i ≡ suc (n - (i + 1)) = omega arith in rw (e, add-one i) refl

  turns_last : (i : ℕ) (a : A) → n ≤ i → turns (n - i) i f a ≡ pure a
  unfolding turns
  turns_last i a h = let e : n - i ≡ 0 = omega arith in rw e refl

  module _ (r₀ r r' : TextReader) (a₀ : A) where
    pub turns_begin : Resumes r₀ (each n f a₀) r₀ (turns (n - 0) 0 f a₀)
    unfolding each
    turns_begin = record { rest = rw sub-zero refl; same = refl }

    pub turns_on : (i : ℕ) (a b : A) → i < n → Resumes r₀ (each n f a₀) r (turns (n - i) i f a) → Reads r (f i a) (Ok b) r'
        → Resumes r₀ (each n f a₀) r' (turns (n - (i + 1)) (i + 1) f b)
    turns_on i a b h k w = resumes_then r₀ r r' _ (f i a) _ b (rw (turns_first i a h) at k) w

    pub turns_fault : (i : ℕ) (a : A) (e : Fault) (o : Result A Fault) → i < n → Resumes r₀ (each n f a₀) r (turns (n - i) i f a)
        → Reads r (f i a) (Err e) r' → IsErrAnd o (λ d. d ≡ e) → Reads r₀ (each n f a₀) o r'
    turns_fault i a e o h k w x = resumed r₀ r r' _ _ o (rw (turns_first i a h) at k) (reads_fault r r' (f i a) _ e o w x)

    pub turns_end : (i : ℕ) (a : A) → n ≤ i → Resumes r₀ (each n f a₀) r (turns (n - i) i f a) → Reads r₀ (each n f a₀) (Ok a) r
    turns_end i a h k = resumed r₀ r r _ _ (Ok a) (rw (turns_last i a h) at k) (reads_pure r r a)

pub ruleset turned = (turns_begin, turns_on, turns_fault, turns_end)

-- ---- answers that stand for what is read
pub stands_fault : {A X : Type 0} (P : A → X → Type 0) (r r' : TextReader) (m : Reader A) (o : Result X Fault) (e : Fault) → Reads r m (Err e) r'
    → IsErrAnd o (λ d. d ≡ e) → Stands P r m o r'
stands_fault P r r' m o e h k = let p = err_from_is_err_and o k in rw (p.1, p.2) (record { told = h })

-- ---- the bytes of a word
module _ (cs : List ℕ) where
  word_first : (i : ℕ) → i < length cs → word (drop i cs) ≡ byte (get_or cs i 0) >> word (drop (i + 1) cs)
  unfolding word
  word_first i h = rw (drop-cons cs i 0 h, add-one i) refl

  word_last : (i : ℕ) → length cs ≤ i → word (drop i cs) ≡ pure tt
  unfolding word
  word_last i h = rw (drop_of_length-le cs h) refl

  module _ (r₀ r r' : TextReader) where
    pub word_begin : Resumes r₀ (word cs) r₀ (word (drop 0 cs))
    word_begin = record { rest = refl; same = refl }

    pub word_on : (i : ℕ) (a : Unit {0}) → i < length cs → Resumes r₀ (word cs) r (word (drop i cs)) → Reads r (byte (get_or cs i 0)) (Ok a) r'
        → Resumes r₀ (word cs) r' (word (drop (i + 1) cs))
    unfolding ◌>>◌
    word_on i a h k w = resumes_then r₀ r r' _ (byte (get_or cs i 0)) _ a (rw (word_first i h) at k) w

    pub word_fault : (i : ℕ) (e : Fault) (o : Result (Unit {0}) Fault) → i < length cs → Resumes r₀ (word cs) r (word (drop i cs))
        → Reads r (byte (get_or cs i 0)) (Err e) r' → IsErrAnd o (λ d. d ≡ e) → Reads r₀ (word cs) o r'
    word_fault i e o h k w x = resumed r₀ r r' _ _ o (rw (word_first i h) at k) (next_fault r r' (byte (get_or cs i 0)) _ e o w x)

    pub word_end : (i : ℕ) → length cs ≤ i → Resumes r₀ (word cs) r (word (drop i cs)) → Reads r₀ (word cs) (Ok tt) r
    word_end i h k = resumed r₀ r r _ _ (Ok tt) (rw (word_last i h) at k) (reads_pure r r tt)

pub ruleset spelled = (word_begin, word_on, word_fault, word_end)
