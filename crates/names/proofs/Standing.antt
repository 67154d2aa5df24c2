-- What stands at a place of a list of names: an entry's first byte b, and the bytes after it. Assumes nothing.
use Prim.Native.Nat.{ℕ, suc, ◌+◌, ◌-◌, ◌/◌, ◌%◌, ◌<◌, ◌≤◌}
use mathlib.Core.Path.{◌≡◌, refl, sym, ap, ◌∙◌}
use mathlib.Core.Bool.{Bool, true, false}
use mathlib.Core.List.{List, [], ◌∷◌, ◌++◌}
use native.Mathlib.Omega.{arith}
use native.Mathlib.Numerals.{add-one}
use lib.ListN.{length, get_or, take, drop, length-drop, take-append-drop}
use lib.Seq.{drop-cons, drop-drop, length-take-le, take_at, drop_at}
use lib.Dec.{eqb, ltb}
use Rattle.net.specs.Choice.{choose}
use Rattle.names.specs.Names.{address_at, size_at, text_at, length_fault, cut_fault, all_letters, letter_fault, entry_fault, first_of}
use Rattle.names.specs.Names.{fault_among}
use Rattle.names.specs.NameClaims.{first_byte}
use Rattle.names.proofs.EntryLaws.{places_after, entry_end, fault_next}

pub record Stands (list : List ℕ) (at b : ℕ) (rest : List ℕ) : Type 0 where
  pub inside : at < length list
  pub first : get_or list at 0 ≡ b
  pub after : drop (at + 1) list ≡ rest

pub stands : (list : List ℕ) (at b : ℕ) (rest : List ℕ) → drop at list ≡ b ∷ rest → Stands list at b rest
stands list at b rest e =
    let long : length list - at ≡ suc (length rest) = sym (length-drop at list) ∙ ap length e in
    let within : at < length list = omega arith in
    let apart : get_or list at 0 ∷ drop (suc at) list ≡ b ∷ rest = sym (drop-cons list at 0 within) ∙ e in
    record { inside = within; first = cc; after = rw add-one (cc) }

-- nothing does
pub ended : (list : List ℕ) (at : ℕ) → drop at list ≡ [] → length list ≤ at
ended list at e = let long : length list - at ≡ 0 = sym (length-drop at list) ∙ ap length e in omega arith

-- ---- the fault of an entry by its three tests, and by its bytes
pub tested_fault : Bool → Bool → Bool → ℕ
tested_fault nought cut letters = first_of (choose nought 51 0) (first_of (choose cut 52 0) (choose letters 0 53))

module _ (P : ℕ → Type 0) where
  pub by_tests :
      (nought cut letters : Bool) → (nought ≡ true → P 51) → (nought ≡ false → cut ≡ true → P 52)
      → (nought ≡ false → cut ≡ false → letters ≡ true → P 0) → (nought ≡ false → cut ≡ false → letters ≡ false → P 53)
      → P (tested_fault nought cut letters)
  unfolding tested_fault first_of choose
  by_tests true cut letters p q r s = p refl
  by_tests false true letters p q r s = q refl refl
  by_tests false false true p q r s = r refl refl refl
  by_tests false false false p q r s = s refl refl refl

unfoldable pub head_fault : ℕ → List ℕ → ℕ
head_fault b rest = tested_fault (eqb (b % 16) 0) (ltb (length rest) (b % 16)) (all_letters (take (b % 16) rest))

module _ (list : List ℕ) (at b : ℕ) (rest : List ℕ) (s : Stands list at b rest) where
  pub size_there : size_at list at ≡ b % 16
  unfolding size_at
  size_there = ap (λ (x : ℕ). x % 16) s.first

  pub address_there : address_at list at ≡ b / 16
  unfolding address_at
  address_there = ap (λ (x : ℕ). x / 16) s.first

  pub text_there : text_at list at ≡ take (b % 16) rest
  unfolding text_at
  text_there = ap (λ (n : ℕ). take n (drop (at + 1) list)) size_there ∙ ap (take (b % 16)) s.after

  fault_there : entry_fault list at ≡ head_fault b rest
  unfolding entry_fault length_fault cut_fault letter_fault tested_fault head_fault text_at size_at
  fault_there = ap (λ (x : ℕ). head_fault x (drop (at + 1) list)) s.first ∙ ap (head_fault b) s.after

  pub faults_there :
      fault_among list (places_after list at) ≡ first_of (head_fault b rest) (fault_among list (places_after list (entry_end list at)))
  faults_there =
      fault_next list at s.inside ∙ ap (λ (n : ℕ). first_of n (fault_among list (places_after list (entry_end list at)))) fault_there

  pub after_there : drop (entry_end list at) list ≡ drop (b % 16) rest
  after_there =
      ap (λ (n : ℕ). drop (at + 1 + n) list) size_there ∙ sym (drop-drop (b % 16) (at + 1) list) ∙ ap (drop (b % 16)) s.after

-- ---- an entry's bytes, taken apart
pub byte_apart : (b : ℕ) → first_byte (b / 16) (b % 16) ≡ b
byte_apart b = omega arith

module _ (b : ℕ) (rest : List ℕ) (h : b % 16 ≤ length rest) where
  pub text_long : length (take (b % 16) rest) ≡ b % 16
  text_long = length-take-le (b % 16) rest h

  pub entry_apart :
      first_byte (b / 16) (length (take (b % 16) rest)) ∷ (take (b % 16) rest ++ drop (b % 16) rest) ≡ b ∷ rest
  entry_apart =
      ap (λ (n : ℕ). first_byte (b / 16) n ∷ (take (b % 16) rest ++ drop (b % 16) rest)) text_long
      ∙ ap (λ (n : ℕ). n ∷ (take (b % 16) rest ++ drop (b % 16) rest)) (byte_apart b)
      ∙ ap (λ (l : List ℕ). b ∷ l) (take-append-drop (b % 16) rest)

-- ---- and as it is written
module _ (a : ℕ) (text rest : List ℕ) (h : length text ≤ 15) where
  pub size_is : first_byte a (length text) % 16 ≡ length text
  size_is = omega arith

  pub address_is : first_byte a (length text) / 16 ≡ a
  address_is = omega arith

  pub text_is : take (first_byte a (length text) % 16) (text ++ rest) ≡ text
  text_is = take_at text rest _ (sym size_is)

  pub rest_is : drop (first_byte a (length text) % 16) (text ++ rest) ≡ rest
  rest_is = drop_at text rest _ (sym size_is)
