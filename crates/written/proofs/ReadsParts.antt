-- More laws of readers and writers (`ReadsWrites.antt`): a kind before what it decides on, a part before the rest, and a
-- number that is tested once it is read. Assumes nothing.
use Prim.Native.Nat.{ℕ, ◌+◌}
use mathlib.Core.Path.{◌≡◌, refl, sym, ap, subst, ◌∙◌}
use mathlib.Core.Bool.{Bool, true}
use mathlib.Core.List.{List, ◌++◌, append-nil}
use Rattle.readers.specs.Reader.{Reader, pure, require_in, tested, ◌>>=◌, ◌>>◌}
use Rattle.written.proofs.ReadsWrites.{Reads, reads_then, reads_require}

-- a good value of that kind
pub record Kinded {B : Type 0} (kind_of : B → ℕ) (Good : B → Type 0) (v : ℕ) (b : B) : Type 0 where
  pub kind_is : kind_of b ≡ v
  pub good : Good b

module _ {B : Type 0} {w : ℕ → List Bool} {P : ℕ → Type 0} {u : B → List Bool} {Good : B → Type 0}
    {m : Reader ℕ} {f : ℕ → Reader B} where
  pub reads_kind :
      (kind_of : B → ℕ) (rest : B → List Bool) → Reads m w P → ((b : B) → Good b → P (kind_of b))
      → ((b : B) → u b ≡ w (kind_of b) ++ rest b)
      → ((v : ℕ) → P v → Reads (f v) rest (Kinded kind_of Good v))
      → Reads (m >>= f) u Good
  reads_kind kind_of rest r within starts g =
      reads_then r g
      (record {
        keeps = λ v b h k. k.good;
        writes = λ v b h k. starts b ∙ ap (λ (x : ℕ). w x ++ rest b) k.kind_is;
        parts = λ b h. (kind_of b, within b h, record { kind_is = refl; good = h });
      })

module _ {A B : Type 0} {w : A → List Bool} {P : A → Type 0} {v : A → B → List Bool} {Q : A → B → Type 0}
    {m : Reader A} {f : A → Reader B} where
  -- a part, and what follows it
  pub reads_in :
      (u : B → List Bool) → Reads m w P → ((a : A) → P a → Reads (f a) (v a) (Q a))
      → ((a : A) (b : B) → P a → Q a b → u b ≡ w a ++ v a b)
      → Reads (m >>= f) u (λ b. (a : A) × P a × Q a b)
  reads_in u r g writes =
      reads_then r g (record { keeps = λ a b x y. (a, x, y); writes = writes; parts = λ b z. z })

-- a field that is tested once it is read
reads_through :
    {A : Type 0} {w : A → List Bool} {P : A → Type 0} {m : Reader A} (at k : ℕ) (test : A → Bool) (n : ℕ) → Reads m w P
    → Reads (m >>= (λ a. require_in at k (test a) n >> pure a)) w (λ a. P a × (test a ≡ true))
reads_through {w} {P} at k test n r =
    reads_then r (λ a h. reads_require at k (test a) n a)
    (record {
      keeps = λ a b h k. subst (λ x. P x × (test x ≡ true)) k.1 (h, k.0);
      writes = λ a b h k. ap w (sym k.1) ∙ sym (append-nil (w a));
      parts = λ b h. (b, h.0, (h.1, refl));
    })

pub reads_tested :
    {A : Type 0} {w : A → List Bool} {P : A → Type 0} {m : Reader A} (k : ℕ) (test : A → Bool) (n : ℕ) → Reads m w P
    → Reads (tested k m test n) w (λ a. P a × (test a ≡ true))
unfolding tested
reads_tested k test n r = record {
  only = λ s p. (reads_through p k test n r).only s p;
  back = λ s p. (reads_through p k test n r).back s p;
}
