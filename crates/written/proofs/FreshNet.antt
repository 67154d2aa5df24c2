-- The nets that the layout of an image gives (`WrittenWhole.antt`) pass the tests of `specs/Fresh.antt` on arrays, readings,
-- starting processes, origins and marks; and a net that passes these and is sound is one of them. Assumes nothing.
use Prim.Native.Nat.{ℕ, zero, suc, ◌<◌, ◌≤◌}
use mathlib.Core.Path.{◌≡◌, refl, sym, ap, ◌∙◌}
use mathlib.Core.Bool.{Bool, true, false}
use mathlib.Core.List.{List}
use native.Mathlib.Omega.{arith}
use native.Mathlib.Decide.{dec_le}
use lib.ListN.{get_or}
use lib.Dec.{ltb, eqb}
use borrow.Author.Tests.{eq-eqb, ltb-true, lt-ltb}
use Rattle.net.specs.Choice.{both, implies, all}
use Rattle.net.specs.Records.{starting_at, zero_field, zero_tuple, free_process, zero_node, address_of}
use Rattle.net.specs.Records.{zero_template_field, zero_instruction, field_at, row_at, process_at, tuple_at, pattern_at, node_at}
use Rattle.net.specs.Records.{instruction_at, with_action}
use Rattle.written.specs.Types.{Locality, Place, Tuple, Process, Node, Action, Instruction, Net}
use Rattle.sound.specs.Soundness.{all_unset, sound_of}
use Rattle.fresh.specs.Fresh.{reading_fits, item_fits, pattern_fits, tuple_fits, process_fits, row_fits, node_fits, action_fits}
use Rattle.fresh.specs.Fresh.{instruction_fits, net_fits, node_starts, own_origin, own_origins, own_mark, own_marks, starts_at}
use Rattle.net.proofs.Laws.{both_i, both_l, both_r, implies_i, all_i, all_e}
use Rattle.net.proofs.Every.{Every, every_weaken, Filled, filled_at}
use Rattle.net.proofs.SlotLaws.{slot_busy}
use Rattle.sound.proofs.NetFacts.{sound_apart}
use Rattle.fresh.proofs.FitLaws as FitLaws
use Rattle.fresh.proofs.FitLaws.{array_fits, action_fits_law, zero_node_fits, zero_instruction_fits}
use Rattle.fresh.proofs.StartLaws as StartLaws
use Rattle.fresh.proofs.StartLaws.{free_unset, starting_unset, zero_node_starts}
use Rattle.written.proofs.WrittenTuples.{TupleOk}
use Rattle.written.proofs.WrittenTemplate.{TemplateOk}
use Rattle.written.proofs.WrittenCode.{Communicated, Evaluated, Created, Forked, Acting, InstructionOk}
use Rattle.written.proofs.WrittenStore.{TuplesOk}
use Rattle.written.proofs.WrittenStages.{WithTuples}
use Rattle.written.proofs.WrittenWhole.{NetOk}
use Rattle.written.proofs.FreshFits.{net_fit}
use Rattle.written.proofs.FreshNode.{node_ok}
use Rattle.written.proofs.FreshCode.{instruction_ok}
use Rattle.written.proofs.WrittenProcesses.{Starts, ProcessesOk, first_busy, count_is}

-- ---- a test that good records and the zero record pass
module _ {A : Type 0} {U : ℕ → A → Type 0} {z d : A} {size count : ℕ} {xs : List A} where
  passes_at : (test : ℕ → A → Bool) → Every (λ j. Filled (U j) (λ x. z ≡ x) count j) d size xs
      → ((j : ℕ) (x : A) → U j x → test j x ≡ true) → ((j : ℕ) → test j z ≡ true) → Every (λ j x. test j x ≡ true) d size xs
  passes_at test e f g = record { size_is = e.size_is; holds = λ j h. go j h (dec_le count j) }
    where
      go : (j : ℕ) → j < size → Dec (count ≤ j) → test j (get_or xs j d) ≡ true
      go j h (yes l) = ap (test j) (sym ((e.holds j h).unused l)) ∙ g j
      go j h (no l) = f j _ ((e.holds j h).used (omega arith))

passes : {A : Type 0} {U : A → Type 0} {z d : A} {size count : ℕ} {xs : List A} (test : A → Bool)
    → Every (Filled U (λ x. z ≡ x) count) d size xs → ((x : A) → U x → test x ≡ true) → test z ≡ true
    → Every (λ j x. test x ≡ true) d size xs
passes test e f g = passes_at (λ _. test) e (λ _. f) (λ _. g)

tuple_fits_law : (a : Locality) (n : ℕ) (t : Tuple) → TupleOk a n t → tuple_fits t ≡ true
unfolding tuple_fits field_at zero_field item_fits reading_fits
tuple_fits_law a n t ok =
    array_fits (λ f. item_fits f.item) (passes (λ f. item_fits f.item) ok.fields_ok (λ f i. i.fits) refl)

starts_fit : (a : Locality) (k : ℕ) (p : Process) → Starts a k p → process_fits p ≡ true
unfolding process_fits starting_at
starts_fit a k p s = ap (λ (q : Process). process_fits q) (sym s.is)

node_fits_law : (a f n k : ℕ) (x : Node) → WithTuples a f n k x → node_fits x ≡ true
unfolding node_fits row_at process_at tuple_at row_fits process_fits free_process tuple_fits zero_tuple field_at zero_field item_fits reading_fits all both
node_fits_law a f n k x ok =
    both_i _ _ (array_fits row_fits (every_weaken ok.rows_ok.each_ok (λ o r g. eq-eqb _ _ g.size_is)))
    (both_i _ _ (array_fits process_fits (passes process_fits ok.slots_ok.slots.slots_ok (starts_fit _ k) refl))
    (array_fits tuple_fits (passes tuple_fits ok.store_ok.tuples_ok (tuple_fits_law _ n) refl)))

template_fits : (formals : Bool) (n : ℕ) (c : Instruction) → TemplateOk formals n c → instruction_fits c ≡ true
unfolding instruction_fits action_fits pattern_at zero_template_field pattern_fits reading_fits
template_fits formals n c ok =
    both_i _ _ (ap action_fits (sym ok.no_action))
    (array_fits (λ f. pattern_fits f.pattern)
    (passes (λ f. pattern_fits f.pattern) ok.patterns_ok (λ f i. i.fits) refl))

fits_with : (c b : Instruction) (a : Action) → with_action c a ≡ b → action_fits a ≡ true → instruction_fits c ≡ true
    → instruction_fits b ≡ true
fits_with c b a e h g = ap instruction_fits (sym e) ∙ action_fits_law c a h g

module _ (n k : ℕ) (c : Instruction) where
  spoken_fits : {To : Type 0} {Fine : To → Type 0} (make : To → Place → Action) (formals : Bool)
      → ((t : To) (p : Place) → Fine t → action_fits (make t p) ≡ true) → Communicated Fine make formals n k c
      → instruction_fits c ≡ true
  unfolding Communicated
  spoken_fits make formals fits (t, good, (b, ok, (p, _, e))) =
      fits_with b c (make t p) e (fits t p good) (template_fits formals n b ok)

  bare_fits : (a : Action) → with_action zero_instruction a ≡ c → action_fits a ≡ true → instruction_fits c ≡ true
  bare_fits a e h = fits_with zero_instruction c a e h zero_instruction_fits

  acting_fits : (v : ℕ) → Acting n k v c → instruction_fits c ≡ true
  unfolding action_fits Acting Evaluated Created Forked
  acting_fits zero a = ap instruction_fits (sym a) ∙ zero_instruction_fits
  acting_fits (suc zero) a = spoken_fits Action.Out false (λ t p _. refl) a
  acting_fits (suc (suc zero)) a = spoken_fits Action.In true (λ t p _. refl) a
  acting_fits (suc (suc (suc zero))) a = spoken_fits Action.Read true (λ t p _. refl) a
  acting_fits (suc (suc (suc (suc zero)))) a = bare_fits _ a.2.2.2 refl
  acting_fits (suc (suc (suc (suc (suc zero))))) a = bare_fits _ a.2.2 refl
  acting_fits (suc (suc (suc (suc (suc (suc zero)))))) a = bare_fits _ a.2.2 refl
  acting_fits (suc (suc (suc (suc (suc (suc (suc v))))))) a =
      spoken_fits Action.OutAll false (λ g p ok. lt-ltb g.0 65536 ok.fits) a

  instruction_fits_law : (f : ℕ) → InstructionOk f n k c → instruction_fits c ≡ true
  unfolding InstructionOk
  instruction_fits_law f a = acting_fits a.0 a.2

pub net_fits_law : (s : Net) → NetOk s → net_fits s ≡ true
net_fits_law s ok =
    FitLaws.net_fits_law s (passes_at (λ _. node_fits) ok.nodes_ok (λ a. node_fits_law a _ _ _) (λ _. zero_node_fits))
    (passes instruction_fits ok.code_ok (λ c. instruction_fits_law _ _ c _) zero_instruction_fits)

-- ---- starting processes
node_starts_law : (a : Locality) (k c : ℕ) (x : Node) → ProcessesOk a k c x → node_starts x ≡ true
unfolding process_at
node_starts_law a k c x ok =
    StartLaws.node_starts_law x
    (λ i h. slot_busy x c (first_busy a k c x ok) i h ∙ ap (ltb i) (sym (count_is a k c x ok)))
    (passes all_unset ok.slots_ok (λ p s. ap all_unset (sym s.is) ∙ starting_unset _ _) free_unset).holds

-- ---- processes with their own node as origin
comes_from : Locality → Process → Bool
comes_from a p = implies p.busy (eqb p.origin.0 a.0)

starting_own : (a : Locality) (p : Place) → comes_from a (starting_at a p) ≡ true
unfolding comes_from starting_at
starting_own a p = implies_i _ _ (λ _. eq-eqb a.0 a.0 refl)

free_own : (a : Locality) → comes_from a free_process ≡ true
unfolding comes_from free_process implies
free_own a = refl

own_origins_law : (a : Locality) (k c : ℕ) (x : Node) → ProcessesOk a k c x → own_origins a x ≡ true
unfolding own_origins own_origin process_at comes_from
own_origins_law a k c x ok =
    all_i 4 _ (passes (comes_from a) ok.slots_ok (λ p s. ap (comes_from a) (sym s.is) ∙ starting_own a _) (free_own a)).holds

-- ---- tuples with their own node's mark
own_marks_law : (a : Locality) (n : ℕ) (x : Node) → TuplesOk a n x → own_marks a x ≡ true
unfolding own_marks own_mark tuple_at
own_marks_law a n x ok =
    all_i 16 _ (λ i h. implies_i (ltb i x.stored) _ (λ e.
    eq-eqb _ _ (ap (λ (l : Locality). l.0) (sym ((ok.tuples_ok.holds i h).used (ltb-true i x.stored e)).mark_is))))

zero_node_owns : (a : Locality) → both (own_origins a zero_node) (own_marks a zero_node) ≡ true
unfolding own_origins own_origin own_marks own_mark zero_node process_at free_process implies all both
zero_node_owns a = refl

pub net_starts : (s : Net) → NetOk s → all 16 (λ a. starts_at s (address_of a)) ≡ true
unfolding starts_at node_at
net_starts s ok =
    all_i 16 _
    (passes_at (λ a x. both (node_starts x) (both (own_origins (address_of a) x) (own_marks (address_of a) x))) ok.nodes_ok
    (λ a x g.
    let slots = g.slots_ok.slots in
    both_i _ _ (node_starts_law _ s.length g.slots_ok.count x slots)
    (both_i _ _ (own_origins_law _ s.length g.slots_ok.count x slots) (own_marks_law _ _ x g.store_ok)))
    (λ a. both_i _ _ zero_node_starts (zero_node_owns (address_of a)))).holds

-- ---- and back
pub fresh_ok : (s : Net) → net_fits s ≡ true → sound_of s ≡ true → all 16 (λ a. starts_at s (address_of a)) ≡ true → NetOk s
unfolding starts_at node_at instruction_at
fresh_ok s f h g =
    let fit = net_fit s f in
    let ok = sound_apart s fit.shaped h in
    record {
      format_ok = record { above = ok.format_least; below = omega (arith, ok.format_most) };
      addresses_ok = record { above = ok.addresses_least; below = omega (arith, ok.addresses_most) };
      length_ok = record { above = ok.length_least; below = omega (arith, ok.length_most) };
      nodes_ok = record {
        size_is = ok.nodes_ok.size_is;
        holds = λ a l.
            let b = all_e 16 _ g a l in
            let own = both_r (node_starts (node_at s (address_of a))) _ b in
            record {
              used = λ u.
                  node_ok _ _ _ _ (fit.each_node a l) ((ok.nodes_ok.holds a l).used u) (both_l _ _ b) a
                  (both_l _ _ own) (both_r (own_origins (address_of a) (node_at s (address_of a))) _ own);
              unused = λ u. sym ((ok.nodes_ok.holds a l).unused u);
            };
      };
      code_ok = filled_at ok.code_ok (λ p l. instruction_ok _ _ _ _ (fit.each_instruction p l)) (λ c. sym);
    }
