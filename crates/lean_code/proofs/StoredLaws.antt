-- The oldest tuple of a node that fits a template (`oldest_of` of `matching`), found among the words of its tuples (`oldest_in` of
-- `lean_words`). Assumes nothing.
use Prim.Native.Nat.{ℕ, ◌<◌, ◌≤◌}
use mathlib.Core.Path.{◌≡◌, refl, sym, ap, subst, ◌∙◌}
use mathlib.Core.Bool.{Bool, true, false}
use mathlib.Core.List.{List, []}
use lib.Dec.{ltb}
use lib.ListN.{get_or}
use borrow.Author.Tests.{ltb-true, lt-ltb}
use Rattle.std.specs.Prelude.{Some, None}
use Rattle.net.specs.Choice.{choose, both}
use Rattle.net.specs.Records.{address_of, variable_at, tuple_at}
use Rattle.net.specs.declared.tuple.Tuple.{Tuple}
use Rattle.net.specs.declared.process.Process.{Process}
use Rattle.net.specs.declared.node.Node.{Node}
use Rattle.net.specs.declared.instruction.Instruction.{Instruction}
use Rattle.net.proofs.Laws.{choose_true}
use Rattle.matching.specs.declared.template.Evaluated.{Evaluated}
use Rattle.matching.specs.Matching.{evaluated_of, fits_of, oldest_of, matched_of}
use Rattle.matching.proofs.MatchingPromise.{matching_promise as promise}
use Rattle.sound.proofs.NodeFacts.{TupleOk}
use Rattle.lean_words.specs.Items.{value_in}
use Rattle.lean_words.specs.Stores.{tuple_in, fits_words, oldest_in}
use Rattle.lean_code.specs.Fields.{template_words, defined_words, wants_words}
use Rattle.lean_code.specs.Ranged.{RangedSlot, RangedTuple}
use Rattle.lean_code.proofs.Firsts.{both_as, first_same, first_number}
use Rattle.lean_code.proofs.TemplateLaws.{Fielded, fits_in_law}

both_turned : (a b : Bool) → both a b ≡ both b a
unfolding both
both_turned true true = refl
both_turned true false = refl
both_turned false true = refl
both_turned false false = refl

module _
    (n a : ℕ) (ws : List ℕ) (p : Process) (few : n ≤ 16) (hosted : a < n) (r : RangedSlot ws)
    (values : (v : ℕ) → v < 8 → variable_at p v ≡ value_in (get_or ws v 0)) (c : Instruction) (ok : Fielded n c)
    (known : defined_words ws (template_words c) ≡ true) (x : Node) (ts : List (List ℕ))
    (each : (j : ℕ) → j < 16 → tuple_at x j ≡ tuple_in (get_or ts j [])) (ranged : (j : ℕ) → j < 16 → RangedTuple (get_or ts j []))
    (tuples_ok : (j : ℕ) → j < 16 → j < x.stored → TupleOk n (tuple_at x j))
  where
    abbrev e : Evaluated
    e = evaluated_of (address_of a) p c

    abbrev pub oldest : ℕ
    oldest = oldest_in ts x.stored (wants_words ws a (template_words c) c.count)

    fits_at :
        (j : ℕ) → j < 16 → j < x.stored
        → fits_of (tuple_at x j) e ≡ fits_words (get_or ts j []) (wants_words ws a (template_words c) c.count)
    fits_at j l h =
        ap (λ (t : Tuple). fits_of t e) (each j l)
        ∙ sym (fits_in_law n a ws p few hosted r values c ok known (get_or ts j []) (ranged j l)
        (subst (TupleOk n) (each j l) (tuples_ok j l h)))

    pub oldest_in_law : oldest_of x e ≡ choose (ltb oldest 16) (Some oldest) None
    unfolding oldest_of oldest_in
    oldest_in_law =
        first_same 16 _ _ Some None
        (λ j l. both_as (ltb j x.stored) _ _ (λ h. fits_at j l (ltb-true j x.stored h)) ∙ both_turned _ _)
        ∙ first_number 16 _ Some None

    -- it is stored
    pub oldest_stored : oldest < 16 → oldest < x.stored
    unfolding matched_of
    oldest_stored h = promise.stored p x e oldest (oldest_in_law ∙ choose_true _ _ _ (lt-ltb oldest 16 h))
