-- Laws of reading bits (`Reads` and `Turned` of `specs/Progress.antt`): what the parts came to, the whole comes to. Assumes
-- nothing.
use Prim.Native.Nat.{ℕ, ◌+◌, ◌<◌, ◌≤◌}
use mathlib.Core.Path.{◌≡◌, refl, sym, ap, ◌∙◌}
use mathlib.Core.Bool.{Bool, true, false}
use mathlib.Core.List.{List, ◌∷◌}
use lib.ListN.{length, get_or-eq_default}
use Rattle.std.proofs.Common.{Result, Ok, Err}
use Rattle.bitreader.specs.Types.{Fault}
use Rattle.bitreader.specs.Progress.{BitReader, Reads, Turned}
use Rattle.net.specs.Choice.{choose}
use Rattle.readers.specs.Reader.{Reader, pure, ◌>>=◌, ◌>>◌, each, alternative, fault_at, require_in, tested}
use Rattle.readers.specs.Progress.{came}
use Rattle.readers.proofs.CameLaws.{pure_came, then_came, stop_came, turning_first, turning_more, turning_stops, turning_done}
use Rattle.readers.proofs.ReaderLaws.{past2, past5, past7}
use Rattle.readers.proofs.CameLaws.{tested_came, untested_came, tested_stop_came}

-- ---- a value with nothing read
module _ {A : Type 0} where
  pub reads_pure : (r : BitReader) (a : A) → Reads r (pure a) (Ok a) r
  reads_pure r a = record { gave = pure_came _ _ a; same = refl }

  pub reads_pure_as : (r : BitReader) (a b : A) → a ≡ b → Reads r (pure b) (Ok a) r
  reads_pure_as r a b e = rw e (reads_pure r b)

-- ---- one reader, and another with its value; a fault stays
module _ {A B : Type 0} where
  pub reads_then :
      (r r' r'' : BitReader) (m : Reader A) (f : A → Reader B) (a : A) (o : Result B Fault) → Reads r m (Ok a) r'
      → Reads r' (f a) o r'' → Reads r (m >>= f) o r''
  reads_then r r' r'' m f a o g h = record {
    gave = then_came m f a r'.at o r''.at g.gave (h.gave ∙ ap (λ i. f a i.now r'.at) g.same);
    same = h.same ∙ g.same;
  }

  pub reads_stop :
      (r r' : BitReader) (m : Reader A) (f : A → Reader B) (e : Fault) → Reads r m (Err e) r' → Reads r (m >>= f) (Err e) r'
  reads_stop r r' m f e g = record { gave = stop_came m f e r'.at r'.at g.gave; same = g.same }

  pub reads_next :
      (r r' r'' : BitReader) (m : Reader A) (f : Reader B) (a : A) (o : Result B Fault) → Reads r m (Ok a) r'
      → Reads r' f o r'' → Reads r (m >> f) o r''
  unfolding ◌>>◌
  reads_next r r' r'' m f a o g h = reads_then r r' r'' m (λ x. f) a o g h

  pub reads_stop_next :
      (r r' : BitReader) (m : Reader A) (f : Reader B) (e : Fault) → Reads r m (Err e) r' → Reads r (m >> f) (Err e) r'
  unfolding ◌>>◌
  reads_stop_next r r' m f e g = reads_stop r r' m (λ x. f) e g

-- ---- a value that has to pass a test
module _ {A : Type 0} (r r' : BitReader) (w : ℕ) (m : Reader A) (test : A → Bool) (n : ℕ) where
  pub reads_tested : (a : A) → Reads r m (Ok a) r' → test a ≡ true → Reads r (tested w m test n) (Ok a) r'
  reads_tested a g t = record { gave = tested_came w m test n a r'.at g.gave t; same = g.same }

  pub reads_untested : (a : A) (e : Fault) → Reads r m (Ok a) r' → test a ≡ false → e ≡ fault_at n r.at w
      → Reads r (tested w m test n) (Err e) r'
  reads_untested a e g t d = rw d (record { gave = untested_came w m test n a r'.at r'.at g.gave t; same = g.same })

  pub reads_stop_tested : (e : Fault) → Reads r m (Err e) r' → Reads r (tested w m test n) (Err e) r'
  reads_stop_tested e g = record { gave = tested_stop_came w m test n e r'.at r'.at g.gave; same = g.same }

-- ---- a test, as `readers::fault::require_in` answers it
required : (r : BitReader) (at w : ℕ) (ok : Bool) (n : ℕ) → Reads r (require_in at w ok n) (choose ok (Ok tt) (Err (fault_at n at w))) r
unfolding require_in came choose
required r at w true n = record { gave = refl; same = refl }
required r at w false n = record { gave = refl; same = refl }

pub reads_required :
    (r : BitReader) (at w : ℕ) (ok test : Bool) (n : ℕ) (o : Result (Unit {0}) Fault) → ok ≡ test
    → o ≡ choose ok (Ok tt) (Err (fault_at n at w)) → Reads r (require_in at w test n) o r
reads_required r at w ok test n o d e = rw (e, d) (required r at w test n)

-- ---- loops
module _ {A : Type 0} (r₀ : BitReader) (n : ℕ) (f : ℕ → A → Reader A) (a₀ : A) where
  pub turned_first : Turned r₀ n f a₀ r₀ 0 a₀
  turned_first = record { turning = turning_first _ _ n f a₀; same = refl }

  pub turned_more :
      (r r' : BitReader) (i : ℕ) (a b : A) → i < n → Turned r₀ n f a₀ r i a → Reads r (f i a) (Ok b) r'
      → Turned r₀ n f a₀ r' (i + 1) b
  turned_more r r' i a b h t g = record {
    turning =
        turning_more _ _ n f a₀ i r.at r'.at a b h t.turning (g.gave ∙ ap (λ x. f i a x.now r.at) t.same);
    same = g.same ∙ t.same;
  }

  pub turned_stops :
      (r r' : BitReader) (i : ℕ) (a : A) (e : Fault) → i < n → Turned r₀ n f a₀ r i a → Reads r (f i a) (Err e) r'
      → Reads r₀ (each n f a₀) (Err e) r'
  turned_stops r r' i a e h t g = record {
    gave =
        turning_stops _ _ n f a₀ i r.at r'.at r'.at a e h t.turning (g.gave ∙ ap (λ x. f i a x.now r.at) t.same);
    same = g.same ∙ t.same;
  }

  pub turned_done : (r : BitReader) (i : ℕ) (a : A) → n ≤ i → Turned r₀ n f a₀ r i a → Reads r₀ (each n f a₀) (Ok a) r
  turned_done r i a h t = record { gave = turning_done _ _ n f a₀ i r.at a h t.turning; same = t.same }

-- ---- a value that `readers::fault::require_in` has passed, or not
passed_law : (ok : Bool) (u : Unit {0}) (f : Fault) → ◌≡◌ {A = Result (Unit {0}) Fault} (Ok u) (choose ok (Ok tt) (Err f)) → ok ≡ true
unfolding choose
passed_law true u f e = refl
passed_law false u f e = cc

not_passed_law : (ok : Bool) (g f : Fault) → ◌≡◌ {A = Result (Unit {0}) Fault} (Err g) (choose ok (Ok tt) (Err f)) → (ok ≡ false) × (g ≡ f)
unfolding choose
not_passed_law true g f e = cc
not_passed_law false g f e = (refl, cc)

module _ {A : Type 0} (r r' : BitReader) (w at n : ℕ) (m : Reader A) (test : A → Bool) (a : A) (ok : Bool) where
  pub reads_passed :
      (u : Unit {0}) → Reads r m (Ok a) r' → at ≡ r.at → ok ≡ test a → ◌≡◌ {A = Result (Unit {0}) Fault} (Ok u) (choose ok (Ok tt) (Err (fault_at n at w)))
      → Reads r (tested w m test n) (Ok a) r'
  reads_passed u g h t e = reads_tested r r' w m test n a g (sym t ∙ passed_law ok u _ e)

  pub reads_not_passed :
      (e : Fault) → Reads r m (Ok a) r' → at ≡ r.at → ok ≡ test a → ◌≡◌ {A = Result (Unit {0}) Fault} (Err e) (choose ok (Ok tt) (Err (fault_at n at w)))
      → Reads r (tested w m test n) (Err e) r'
  reads_not_passed e g h t d =
      let x = not_passed_law ok e _ d in
      reads_untested r r' w m test n a e g (sym t ∙ x.0) (x.1 ∙ ap (λ p. fault_at n p w) h)

-- ---- an alternative, by a number that is known
module _ {A : Type 0} (r r' : BitReader) (o : Result A Fault) (k : ℕ) (rs : List (Reader A)) (last : Reader A) where
  pub reads_0 : (m₀ : Reader A) → k ≡ 0 → Reads r m₀ o r' → Reads r (alternative (m₀ ∷ rs) last k) o r'
  unfolding alternative
  reads_0 m₀ e g = rw e g

  pub reads_1 : (m₀ m₁ : Reader A) → k ≡ 1 → Reads r m₁ o r' → Reads r (alternative (m₀ ∷ m₁ ∷ rs) last k) o r'
  unfolding alternative
  reads_1 m₀ m₁ e g = rw e g

  pub reads_2 : (m₀ m₁ m₂ : Reader A) → k ≡ 2 → Reads r m₂ o r' → Reads r (alternative (m₀ ∷ m₁ ∷ m₂ ∷ rs) last k) o r'
  unfolding alternative
  reads_2 m₀ m₁ m₂ e g = rw e g

  pub reads_3 : (m₀ m₁ m₂ m₃ : Reader A) → k ≡ 3 → Reads r m₃ o r' → Reads r (alternative (m₀ ∷ m₁ ∷ m₂ ∷ m₃ ∷ rs) last k) o r'
  unfolding alternative
  reads_3 m₀ m₁ m₂ m₃ e g = rw e g

  pub reads_4 : (m₀ m₁ m₂ m₃ m₄ : Reader A) → k ≡ 4 → Reads r m₄ o r' → Reads r (alternative (m₀ ∷ m₁ ∷ m₂ ∷ m₃ ∷ m₄ ∷ rs) last k) o r'
  unfolding alternative
  reads_4 m₀ m₁ m₂ m₃ m₄ e g = rw e g

  pub reads_5 : (m₀ m₁ m₂ m₃ m₄ m₅ : Reader A) → k ≡ 5 → Reads r m₅ o r' → Reads r (alternative (m₀ ∷ m₁ ∷ m₂ ∷ m₃ ∷ m₄ ∷ m₅ ∷ rs) last k) o r'
  unfolding alternative
  reads_5 m₀ m₁ m₂ m₃ m₄ m₅ e g = rw e g

  pub reads_6 : (m₀ m₁ m₂ m₃ m₄ m₅ m₆ : Reader A) → k ≡ 6 → Reads r m₆ o r' → Reads r (alternative (m₀ ∷ m₁ ∷ m₂ ∷ m₃ ∷ m₄ ∷ m₅ ∷ m₆ ∷ rs) last k) o r'
  unfolding alternative
  reads_6 m₀ m₁ m₂ m₃ m₄ m₅ m₆ e g = rw e g

  pub reads_last : length rs ≤ k → Reads r last o r' → Reads r (alternative rs last k) o r'
  unfolding alternative
  reads_last h g = rw (get_or-eq_default rs last h) g

-- with these `search` and `grind` prove what a function of readers reads, one after the other
pub ruleset reading = (reads_pure_as, reads_then, reads_stop, reads_next, reads_stop_next, reads_passed, reads_not_passed, reads_stop_tested)

-- and these, of alternatives
pub ruleset choosing = (reading, reads_0, reads_1, reads_2, reads_3, reads_4, reads_5, reads_6, reads_last, past2, past5, past7)

-- and these, of loops
pub ruleset turning = (turned_first, turned_more, turned_stops, turned_done)
