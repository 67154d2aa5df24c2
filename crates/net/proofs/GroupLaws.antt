-- Laws of sets of addresses (`specs/Groups.antt`). Assumes nothing.
use Prim.Native.Nat.{ℕ, zero, suc, ◌-◌, ◌<◌, ◌≤◌, ◌/◌, ◌%◌, ◌^◌}
use mathlib.Core.Path.{◌≡◌, refl, sym, ap, ◌∙◌}
use mathlib.Core.Bool.{Bool, true, false}
use native.Mathlib.Nat.{div-one, div-div-eq-div-mul, pow-suc}
use lib.Dec.{eqb, ltb}
use borrow.Author.Tests.{lt-ltb, le-ltb, ltb-true}
use Rattle.net.specs.Choice.{both, implies}
use Rattle.net.specs.Records.{Locality, address_of}
use Rattle.net.specs.Groups.{Group, halved, member, all_members}
use Rattle.net.proofs.Laws.{both_l, implies_i, implies_e, all_i, all_e}
use Rattle.net.proofs.AllLaws.{when_true, when_false}

-- ---- halving
halved_is : (n v : ℕ) → v / 2 ^ n ≡ halved n v
unfolding halved
halved_is zero v = div-one v
halved_is (suc n) v =
    ap (λ (x : ℕ). v / x) (pow-suc 2 n) ∙ sym (div-div-eq-div-mul v (2 ^ n) 2) ∙ ap (λ (x : ℕ). x / 2) (halved_is n v)

-- ---- membership
module _ (g : Group) (l : Locality) where
  pub member_is : l.0 < 16 → eqb (halved (15 - l.0) g.0 % 2) 1 ≡ member g l
  unfolding member both
  member_is h = rw (lt-ltb l.0 16 h) refl

  pub has_in : l.0 < 16 → eqb (g.0 / 2 ^ (15 - l.0) % 2) 1 ≡ member g l
  has_in h = rw (halved_is (15 - l.0) g.0) (member_is h)

  pub has_out : 16 ≤ l.0 → false ≡ member g l
  unfolding member both
  has_out h = rw (le-ltb l.0 16 h) refl

-- a member is an address
pub member_low : (g : Group) (l : Locality) → member g l ≡ true → l.0 < 16
unfolding member
member_low g l h = ltb-true l.0 16 (both_l _ _ h)

-- ---- a test of the members: what a call of `has` answered picks the case
module _ (g : Group) (l : Locality) (answer : Bool) (is : answer ≡ member g l) where
  pub if_member : (r test : Bool) → answer ≡ true → r ≡ test → r ≡ implies (member g l) test
  if_member r test h e = when_true r test (member g l) (sym is ∙ h) e

  pub if_no_member : (test : Bool) → answer ≡ false → true ≡ implies (member g l) test
  if_no_member test h = when_false test (member g l) (sym is ∙ h)

pub ruleset membership = (if_member, if_no_member)

-- ---- a test of each member
pub members_at : (g : Group) (test : Locality → Bool) → all_members g test ≡ true → (l : Locality) → member g l ≡ true → test l ≡ true
unfolding all_members
members_at g test h l m = implies_e (member g l) _ (all_e 16 _ h l.0 (member_low g l m)) m

pub members_all : (g : Group) (test : Locality → Bool) → ((l : Locality) → member g l ≡ true → test l ≡ true) → all_members g test ≡ true
unfolding all_members
members_all g test f = all_i 16 _ (λ i h. implies_i (member g (address_of i)) _ (f (address_of i)))

pub members_map :
    (g : Group) (test more : Locality → Bool) → ((l : Locality) → test l ≡ true → more l ≡ true) → all_members g test ≡ true
    → all_members g more ≡ true
members_map g test more f h = members_all g more (λ l m. f l (members_at g test h l m))
