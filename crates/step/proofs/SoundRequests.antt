-- What an instruction of a sound net asks for is within the net (`request_ok`): its target is an address in use, its
-- places are within the code, and the tuple of an out is sound. A process whose formals are bound to the fields of a
-- sound tuple still holds sound values (`bound`). In the facts of `NodeFacts.antt` and `CodeFacts.antt` of `sound`.
-- Assumes nothing.
use Prim.Native.Nat.{ℕ, suc, ◌<◌, ◌≤◌, min}
use mathlib.Core.Path.{◌≡◌, refl, ap, subst, ◌∙◌}
use mathlib.Core.Bool.{true}
use native.Mathlib.Omega.{arith}
use borrow.Author.Tests.{ltb-true}
use Rattle.std.specs.Prelude.{Option, Some, None}
use Rattle.net.specs.Records.{marked, zero_field, zero_tuple, field_at, variable_at}
use Rattle.matching.specs.Matching.{evaluated_of, want_at, fits_of, bound_of}
use Rattle.sound.specs.Soundness.{item_sound, value_sound, target_sound, group_sound}
use Rattle.matching.specs.MatchingPromise.{Holds, reading_met, address_met, as_before}
use Rattle.net.proofs.Every.{chosen, chosen_lt, filled_each}
use Rattle.net.proofs.FoldLaws.{fold_keeps}
use Rattle.matching.proofs.MatchingPromise.{matching_promise as promise}
use Rattle.sound.proofs.NodeFacts.{TupleOk, Running}
use Rattle.sound.proofs.NodeChanges.{Filling, no_field, next_field, all_fields}
use Rattle.sound.proofs.CodeFacts.{TemplateOk, template_sound_law, Acts, InstructionOk}
use Rattle.step.specs.Types.{Locality, Value, Item, Field, Tuple, Process, Target}
use Rattle.step.specs.Types.{Action, Instruction, Want, Evaluated}
use Rattle.step.specs.Types.{Request}
use Rattle.plans.specs.Request.{aim_of, target_of, at, spoken, asked, request_of}
use Rattle.plans.specs.Additions.{item_of, tuple_of}

-- ---- items and values
zero_item : (n : ℕ) (f : Field) → f ≡ zero_field → item_sound n f.item ≡ true
unfolding zero_field item_sound
zero_item n f e = ap (λ (g : Field). item_sound n g.item) e

field_sound : (n : ℕ) (t : Tuple) → TupleOk n t → (i : ℕ) → i < 4 → item_sound n (field_at t i) ≡ true
unfolding field_at
field_sound n t ok = filled_each {Q = λ f. item_sound n f.item ≡ true} ok.fields_ok (λ f e. e) (zero_item n)

value_at : (n k : ℕ) (p : Process) (v : ℕ) → Running n k p → v < 8 → value_sound n (variable_at p v) ≡ true
unfolding variable_at
value_at n k p v r h = r.values.holds v h

-- ---- the formals bound to the fields of a sound tuple
module _ (n k : ℕ) (p : Process) (t : Tuple) (e : Evaluated) (r : Running n k p) (ok : TupleOk n t) where
  held_sound : (v : ℕ) (x : Value) → v < 8 → Holds p t e t.count v x → value_sound n x ≡ true
  unfolding value_sound item_sound
  held_sound v _ l (reading_met m w f) = refl
  held_sound v _ l (address_met {i = i} m w f) = rw f at (field_sound n t ok i (omega (arith, ok.most)))
  held_sound v _ l (as_before none) = value_at n k p v r l

  pub bound : fits_of t e ≡ true → Running n k (bound_of p t e)
  unfolding variable_at
  bound fits =
      let b = promise.sets p t e ok.most fits in
      record {
        is_busy = b.same_busy ∙ r.is_busy;
        place = rw b.same_place r.place;
        origin_ok = rw b.same_origin r.origin_ok;
        values = record {
          size_is = b.same_size ∙ r.values.size_is;
          holds = λ v l. held_sound v _ l (b.holds v (omega (arith, r.values.size_is)));
        };
      }

-- ---- a field of an out
want_item : (n : ℕ) (w : Want) → ((x : Item) → w ≡ Want.Exactly x → item_sound n x ≡ true) → item_sound n (item_of w) ≡ true
unfolding item_of item_sound
want_item n (Want.Exactly x) h = h x refl
want_item n (Want.AnyReading v) h = refl
want_item n (Want.AnyAddress v) h = refl

-- ---- the tuple of an out, field by field
filling_as : (n i j : ℕ) (t : Tuple) → i ≡ j → Filling n i t → Filling n j t
filling_as n i j t e = subst (λ (m : ℕ). Filling n m t) e

tuple_ok :
    (n : ℕ) (a : Locality) (e : Evaluated) → a.0 < n → 1 ≤ e.count → e.count ≤ 4
    → ((i : ℕ) → i < 4 → item_sound n (item_of (want_at e i)) ≡ true) → TupleOk n (marked a (tuple_of e))
unfolding tuple_of
tuple_ok n a e l h g w =
    let c : ℕ = e.count in
    all_fields n (min 4 c) _ a (omega arith) (omega arith) l
    (fold_keeps (λ i. Filling n (min i c)) _ zero_tuple 4 (filling_as n 0 (min 0 c) _ (omega arith) (no_field n))
    (λ i t l b. chosen_lt (Filling n (min (suc i) c)) i c _ _
    (λ u. filling_as n (suc (min i c)) (min (suc i) c) _ (omega arith) (next_field n (min i c) t _ (omega arith) b (w i l)))
    (λ u. filling_as n (min i c) (min (suc i) c) t (omega arith) b)))

said_ok :
    (n k : ℕ) (host : Locality) (p : Process) (c : Instruction) → host.0 < n → Running n k p → TemplateOk n c
    → TupleOk n (marked host (tuple_of (evaluated_of host p c)))
said_ok n k host p c h r ok =
    let same = promise.counts host p c in
    tuple_ok n host (evaluated_of host p c) h (omega (arith, same, ok.least)) (omega (arith, same, ok.most))
    (λ i l. want_item n _ (λ x. promise.ranges n host p c h (λ v. value_at n k p v r) (template_sound_law n c ok) i x l))

-- ---- requests of the host a that are within a net of n addresses and k places
AimOk : ℕ → Option Locality → Type 0
AimOk n (Some l) = l.0 < n
AimOk n None = Unit {0}

unfoldable pub RequestOk : Locality → ℕ → ℕ → Evaluated → Request → Type 0
RequestOk a n k e Request.Lack = Unit {0}
RequestOk a n k e Request.Stop = Unit {0}
RequestOk a n k e (Request.Out l q) = (l.0 < n) × (q.0 < k) × TupleOk n (marked a (tuple_of e))
RequestOk a n k e (Request.In l q) = (l.0 < n) × (q.0 < k)
RequestOk a n k e (Request.Read l q) = (l.0 < n) × (q.0 < k)
RequestOk a n k e (Request.Eval l sent q) = (l.0 < n) × (sent.0 < k) × (q.0 < k)
RequestOk a n k e (Request.New v q) = q.0 < k
RequestOk a n k e (Request.Fork q r) = (q.0 < k) × (r.0 < k)
RequestOk a n k e (Request.OutAll g q) = (group_sound n g ≡ true) × (q.0 < k) × TupleOk n (marked a (tuple_of e))

aim_ok : (n : ℕ) (x : Value) → value_sound n x ≡ true → AimOk n (aim_of x)
unfolding AimOk aim_of value_sound
aim_ok n Value.Unset h = tt
aim_ok n (Value.Reading x) h = tt
aim_ok n (Value.Address l) h = ltb-true l.0 n h

target_ok :
    (n k : ℕ) (a : Locality) (p : Process) (t : Target) → a.0 < n → Running n k p → target_sound n t ≡ true
    → AimOk n (target_of a p t)
unfolding AimOk target_of target_sound
target_ok n k a p (Target.Written l) h r e = ltb-true l.0 n e
target_ok n k a p Target.Own h r e = h
target_ok n k a p (Target.Held v) h r e = aim_ok n _ (value_at n k p v r (ltb-true v 8 e))

module _
    (a : Locality) (n k : ℕ) (e : Evaluated) (f : Locality → Request) (each : (l : Locality) → l.0 < n → RequestOk a n k e (f l))
  where
    at_ok : (aim : Option Locality) → AimOk n aim → RequestOk a n k e (at aim f)
    unfolding at AimOk RequestOk
    at_ok (Some l) h = each l h
    at_ok None h = tt

    spoken_ok : (aim : Option Locality) → AimOk n aim → RequestOk a n k e (spoken e aim f)
    unfolding spoken RequestOk
    spoken_ok aim h = chosen (RequestOk a n k e) e.defined _ _ (λ _. at_ok aim h) (λ _. tt)

module _ (f n k : ℕ) (a : Locality) (p : Process) (c : Instruction) (hosted : a.0 < n) (running : Running n k p) where
  asked_ok : (x : Action) → Acts f n k x c → RequestOk a n k (evaluated_of a p c) (asked a p (evaluated_of a p c) x)
  unfolding asked Acts RequestOk
  asked_ok Action.Stop h = tt
  asked_ok (Action.Out t q) (e, h, ok) =
      spoken_ok a n k _ _ (λ l u. (u, h, said_ok n k a p c hosted running ok.template_ok))
      _ (target_ok n k a p t hosted running e)
  asked_ok (Action.In t q) (e, h, ok) = spoken_ok a n k _ _ (λ l u. (u, h)) _ (target_ok n k a p t hosted running e)
  asked_ok (Action.Read t q) (e, h, ok) = spoken_ok a n k _ _ (λ l u. (u, h)) _ (target_ok n k a p t hosted running e)
  asked_ok (Action.Eval t sent q) (e, g, h, _) =
      at_ok a n k _ _ (λ l u. (u, g, h)) _ (target_ok n k a p t hosted running e)
  asked_ok (Action.New v q) (g, h, _) = h
  asked_ok (Action.Fork q r) (g, h, _) = (g, h)
  asked_ok (Action.OutAll g q) (_, m, h, ok) =
      chosen (RequestOk a n k (evaluated_of a p c)) (evaluated_of a p c).defined _ _
      (λ _. (m, h, said_ok n k a p c hosted running ok.template_ok)) (λ _. tt)

  pub request_ok : InstructionOk f n k c → RequestOk a n k (evaluated_of a p c) (request_of a p c)
  unfolding request_of
  request_ok ok = asked_ok c.action ok
