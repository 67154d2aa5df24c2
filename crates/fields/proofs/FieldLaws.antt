-- Laws of lists of fields (`specs/Fields.antt`), read by the text reader. Assumes nothing.
use Rattle.std.proofs.Common.{◌≡◌, ℕ, suc, ◌+◌, ◌-◌, ◌<◌, ◌≤◌, arith, refl, Bool, true, false, Result, Ok, Err}
use Rattle.std.specs.Result.{IsErrAnd}
use Rattle.net.specs.Choice.{choose}
use Rattle.net.proofs.Laws.{choose_true, choose_false}
use Rattle.readers.specs.Reader.{Reader, fault_at, pure, ◌>>=◌}
use Rattle.lexemes.specs.Lexemes.{fail, optional}
use Rattle.lexemes.specs.Progress.{Reads, Resumes}
use Rattle.lexemes.proofs.Reading.{resumed, resumes_then, resumes_start, reads_then, reads_pure, reads_fault, reads_fail, reads_false}
use Rattle.fields.specs.Types.{Fault, TextReader}
use Rattle.fields.specs.Fields.{fields}

-- ---- items in a list, a comma between two: what one more does
module _ {A B : Type 0} (r₀ r r' r'' : TextReader) (m : Reader B) (n : Reader A) (g h : A → Reader B) (a : A) where
  abbrev one : Reader B
  one = n >>= (λ b. optional 44 >>= (λ more. choose more (g b) (h b)))

  pub one_on : (more : Bool) → more ≡ true → Resumes r₀ m r one → Reads r n (Ok a) r' → Reads r' (optional 44) (Ok more) r'' → Resumes r₀ m r'' (g a)
  one_on more e k w v =
      rw (choose_true more (g a) (h a) e) at (resumes_then r₀ r' r'' m (optional 44) _ more (resumes_then r₀ r r' m n _ a k w) v)

  pub one_last : (more : Bool) (o : Result B Fault) → more ≡ false → Resumes r₀ m r one → Reads r n (Ok a) r' → Reads r' (optional 44) (Ok more) r''
      → Reads r'' (h a) o r'' → Reads r₀ m o r''
  one_last more o e k w v u =
      resumed r₀ r'' r'' m _ o (rw (choose_false more (g a) (h a) e) at (resumes_then r₀ r' r'' m (optional 44) _ more (resumes_then r₀ r r' m n _ a k w) v)) u

  pub comma_fault : (e : Fault) (o : Result B Fault) → Resumes r₀ m r one → Reads r n (Ok a) r' → Reads r' (optional 44) (Err e) r''
      → IsErrAnd o (λ d. d ≡ e) → Reads r₀ m o r''
  comma_fault e o k w v x = resumed r₀ r' r'' m _ o (resumes_then r₀ r r' m n _ a k w) (reads_fault r' r'' (optional 44) _ e o v x)

  pub one_fault : (e : Fault) (o : Result B Fault) → Resumes r₀ m r one → Reads r n (Err e) r' → IsErrAnd o (λ d. d ≡ e) → Reads r₀ m o r'
  one_fault e o k w x = resumed r₀ r r' m _ o k (reads_fault r r' n _ e o w x)

-- ---- fields, one after another
module _ {A : Type 0} (n : ℕ) (field : A → Reader A) where
  fields_first : (i : ℕ) (a : A) → i < n → fields (n - i) field a ≡ field a >>= (λ b. optional 44 >>= (λ more. choose more (fields (n - (i + 1)) field b) (pure b)))
  unfolding fields
  fields_first i a h = let e : n - i ≡ suc (n - (i + 1)) = omega arith in rw e refl

  fields_none : (i : ℕ) (a : A) → n ≤ i → fields (n - i) field a ≡ fail 22
  unfolding fields
  fields_none i a h = let e : n - i ≡ 0 = omega arith in rw e refl

  module _ (r₀ r r' r'' : TextReader) (i : ℕ) (a₀ a b : A) where
    abbrev m : Reader A
    m = fields n field a₀

    abbrev rest : A → Reader A
    rest = fields (n - (i + 1)) field

    pub fields_on : (more : Bool) → more ≡ true → i < n → Resumes r₀ (fields n field a₀) r (fields (n - i) field a) → Reads r (field a) (Ok b) r'
        → Reads r' (optional 44) (Ok more) r'' → Resumes r₀ (fields n field a₀) r'' (fields (n - (i + 1)) field b)
    fields_on more e h k w v = one_on r₀ r r' r'' m (field a) rest pure b more e (rw (fields_first i a h) at k) w v

    pub fields_last : (more : Bool) → more ≡ false → i < n → Resumes r₀ (fields n field a₀) r (fields (n - i) field a)
        → Reads r (field a) (Ok b) r' → Reads r' (optional 44) (Ok more) r'' → Reads r₀ (fields n field a₀) (Ok b) r''
    fields_last more e h k w v = one_last r₀ r r' r'' m (field a) rest pure b more (Ok b) e (rw (fields_first i a h) at k) w v (reads_pure r'' r'' b)

    pub fields_comma : (e : Fault) (o : Result A Fault) → i < n → Resumes r₀ (fields n field a₀) r (fields (n - i) field a)
        → Reads r (field a) (Ok b) r' → Reads r' (optional 44) (Err e) r'' → IsErrAnd o (λ d. d ≡ e) → Reads r₀ (fields n field a₀) o r''
    fields_comma e o h k w v x = comma_fault r₀ r r' r'' m (field a) rest pure b e o (rw (fields_first i a h) at k) w v x

  module _ (r₀ r r' : TextReader) (i : ℕ) (a₀ a : A) where
    pub fields_fault : (e : Fault) (o : Result A Fault) → i < n → Resumes r₀ (fields n field a₀) r (fields (n - i) field a)
        → Reads r (field a) (Err e) r' → IsErrAnd o (λ d. d ≡ e) → Reads r₀ (fields n field a₀) o r'
    fields_fault e o h k w x =
        one_fault r₀ r r' r' (fields n field a₀) (field a) (fields (n - (i + 1)) field) pure a e o (rw (fields_first i a h) at k) w x

    pub fields_over : (e : Fault) → e ≡ fault_at 22 r.at 0 → n ≤ i → Resumes r₀ (fields n field a₀) r (fields (n - i) field a)
        → Reads r₀ (fields n field a₀) (Err e) r
    fields_over e d h k = resumed r₀ r r (fields n field a₀) _ (Err e) (rw (fields_none i a h) at k) (reads_fail r 22 e d)

pub ruleset listing = (resumes_start, fields_on, fields_last, fields_comma, fields_fault, fields_over)
