-- The addresses that a pick concerns in a net (`specs/OrderRule.antt`): its host, its targets, which for a set are its members,
-- and, of a new, the address that it would open. In a sound net a target is an address in use. Assumes nothing.
use Prim.Native.Nat.{ℕ, zero, suc, ◌<◌}
use mathlib.Core.Path.{◌≡◌, refl, sym, ap, subst, ◌∙◌}
use mathlib.Core.Logic.{inl, inr}
use mathlib.Core.Bool.{true, false}
use mathlib.Core.List.{List, [], ◌∷◌, ◌++◌}
use native.Mathlib.Omega.{arith}
use lib.Dec.{eqb}
use borrow.Author.Tests.{eqb-true, eq-eqb, ltb-true}
use Rattle.net.specs.Choice.{choose}
use Rattle.net.specs.Records.{process_at, address_of}
use Rattle.net.specs.Groups.{member, members_below, members_of}
use Rattle.net.proofs.Laws.{choose_true, choose_false, both_i, both_r, split}
use Rattle.net.proofs.GroupLaws.{member_low, members_at}
use Rattle.net.proofs.Every.{chosen}
use Rattle.sound.specs.Soundness.{group_sound}
use Rattle.sound.proofs.NetFacts.{NetOk}
use Rattle.sound.proofs.NetChanges.{node_at_law, instruction_at_law}
use Rattle.plans.specs.Request.{targets, is_new}
use Rattle.step.specs.Pick.{host_of, slot_of, spare_of, unused}
use Rattle.step.specs.Types.{Group, Evaluated}
use Rattle.step.proofs.SoundRequests.{RequestOk, request_ok}
use Rattle.tenant.proofs.Fence.{tested, never}
use Rattle.order.specs.Types.{Locality, Net, Request}
use Rattle.order.specs.OrderRule.{process_of, meets, asks, targets_of, opens, same, among}

-- ---- addresses compared
pub same_self : (l : Locality) → same l l ≡ true
unfolding same
same_self l = eq-eqb l.0 l.0 refl

pub first_among : (l : Locality) → among l (l ∷ []) ≡ true
unfolding among
first_among l = choose_true _ _ _ (same_self l)

among_one : (l m : Locality) → among l (m ∷ []) ≡ true → l.0 ≡ m.0
unfolding among same
among_one l m =
    chosen (λ x. x ≡ true → l.0 ≡ m.0) (same l m) _ _ (λ e _. eqb-true l.0 m.0 e) (λ _ h. never false h refl)

-- ---- the members of a set
module _ (l : Locality) where
  among_first : (ms ns : List Locality) → among l ms ≡ true → among l (ms ++ ns) ≡ true
  unfolding among
  among_first [] ns h = never false h refl
  among_first (m ∷ ms) ns h =
      chosen (λ x. x ≡ true) (same l m) _ _ (λ _. refl) (λ out. among_first ms ns (sym (choose_false _ _ _ out) ∙ h))

  among_second : (ms ns : List Locality) → among l ns ≡ true → among l (ms ++ ns) ≡ true
  unfolding among
  among_second [] ns h = h
  among_second (m ∷ ms) ns h = chosen (λ x. x ≡ true) (same l m) _ _ (λ _. refl) (λ _. among_second ms ns h)

  among_cases :
      {C : Type 0} (ms ns : List Locality) → among l (ms ++ ns) ≡ true → (among l ms ≡ true → C) → (among l ns ≡ true → C) → C
  unfolding among
  among_cases [] ns h f g = g h
  among_cases (m ∷ ms) ns h f g =
      tested (same l m) (λ e. f (choose_true _ _ _ e))
      (λ e. among_cases ms ns (sym (choose_false _ _ _ e) ∙ h) (λ i. f (choose_false _ _ _ e ∙ i)) g)

  module _ (g : Group) where
    -- the address n, where it is a member
    abbrev lone : ℕ → List Locality
    lone n = choose (member g (address_of n)) (address_of n ∷ []) []

    below_in : (n : ℕ) → l.0 < n → member g l ≡ true → among l (members_below n g) ≡ true
    unfolding members_below
    below_in zero h m = absurd (omega arith)
    below_in (suc n) h m =
        elim (split l.0 n h) [
          | inl below ↦ among_first (members_below n g) (lone n) (below_in n below m)
          | inr e ↦
              among_second (members_below n g) (lone n)
              (subst (λ (i : ℕ). among l (lone i) ≡ true) e (ap (among l) (choose_true _ _ _ m) ∙ first_among l))
        ]

    lone_member : (n : ℕ) → among l (lone n) ≡ true → member g l ≡ true
    unfolding among
    lone_member n =
        chosen (λ ms. among l ms ≡ true → member g l ≡ true) (member g (address_of n)) _ _
        (λ m h. let e = among_one l (address_of n) h in subst (λ (i : ℕ). member g (address_of i) ≡ true) (sym e) m)
        (λ _ h. never false h refl)

    below_member : (n : ℕ) → among l (members_below n g) ≡ true → member g l ≡ true
    unfolding members_below among
    below_member zero h = never false h refl
    below_member (suc n) h = among_cases (members_below n g) (lone n) h (below_member n) (lone_member n)

    pub member_in : member g l ≡ true → among l (members_of g) ≡ true
    unfolding members_of
    member_in m = below_in 16 (member_low g l m) m

    in_member : among l (members_of g) ≡ true → member g l ≡ true
    unfolding members_of
    in_member = below_member 16

-- ---- what a pick concerns
pub data Concern (s : Net) (b : ℕ) (l : Locality) : Type 0 where
  is_host : l ≡ host_of b → Concern s b l
  is_target : among l (targets_of s b) ≡ true → Concern s b l
  is_new_law : opens s b ≡ true → l ≡ unused s → Concern s b l

-- a request concerns no more than the addresses in B
pub record Covered (B : Locality → Type 0) (s : Net) (r : Request) : Type 0 where
  pub each : (l : Locality) → among l (targets r) ≡ true → B l
  pub next : is_new r ≡ true → B (unused s)

pub covered : (s : Net) (b : ℕ) → meets s b ≡ true → Covered (Concern s b) s (asks s b)
unfolding targets_of opens
covered s b m = record {
  each = λ l h. is_target (ap (among l) (choose_true _ _ _ m) ∙ h);
  next = λ h. is_new_law (both_i _ _ m h) refl;
}

-- ---- a target in a sound net is an address in use
request_below :
    (a : Locality) (n k : ℕ) (t : Evaluated) (r : Request) → RequestOk a n k t r → (l : Locality) → among l (targets r) ≡ true → l.0 < n
unfolding RequestOk targets among group_sound
request_below a n k t Request.Lack ok l h = never false h refl
request_below a n k t Request.Stop ok l h = never false h refl
request_below a n k t (Request.Out m q) ok l h = let e = among_one l m h in omega (arith, e, ok.0)
request_below a n k t (Request.In m q) ok l h = let e = among_one l m h in omega (arith, e, ok.0)
request_below a n k t (Request.Read m q) ok l h = let e = among_one l m h in omega (arith, e, ok.0)
request_below a n k t (Request.Eval m sent q) ok l h = let e = among_one l m h in omega (arith, e, ok.0)
request_below a n k t (Request.New v q) ok l h = never false h refl
request_below a n k t (Request.Fork q r) ok l h = never false h refl
request_below a n k t (Request.OutAll g q) ok l h = ltb-true _ _ (members_at g _ ok.0 l (in_member l g h))

slot_below : (b : ℕ) → slot_of b < 4
unfolding slot_of
slot_below b = omega arith

module _ (s : Net) (ok : NetOk s) (b : ℕ) (used : (host_of b).0 < s.addresses) where
  asks_below : (l : Locality) → meets s b ≡ true → among l (targets (asks s b)) ≡ true → l.0 < s.addresses
  unfolding meets asks process_of process_at
  asks_below l m h =
      let busy = both_r (eqb (spare_of b) 0) _ m in
      let running = ((node_at_law s ok (host_of b) used).processes_ok.holds (slot_of b) (slot_below b)).running busy in
      let fetched = instruction_at_law s ok _ running.place in
      request_below _ _ _ _ _ (request_ok s.format s.addresses s.length (host_of b) _ _ used running fetched) l h

  pub targets_below : (l : Locality) → among l (targets_of s b) ≡ true → l.0 < s.addresses
  unfolding targets_of among
  targets_below l =
      chosen (λ ls. among l ls ≡ true → l.0 < s.addresses) (meets s b) _ _ (asks_below l) (λ _ h. never false h refl)
