-- The words of a process bound to a tuple (`bound_words` of `specs/Fields.antt`) are those of the process that `bound_of` of `matching` gives,
-- moved on. Assumes nothing.
use Prim.Native.Nat.{ℕ, zero, suc, ◌%◌, ◌<◌}
use mathlib.Core.Path.{◌≡◌, refl, sym, ap, ◌∙◌}
use mathlib.Core.Logic.{◌≢◌}
use mathlib.Core.Bool.{true}
use mathlib.Core.List.{List, []}
use native.Mathlib.Omega.{arith}
use native.Mathlib.Decide.{ℕ_discrete}
use lib.Dec.{ltb}
use lib.ListN.{get_or, set, length-set}
use lib.Seq.{get_or-set_same, get_or-set_other}
use borrow.Author.Tests.{ltb-true}
use Rattle.net.specs.Choice.{choose, fold}
use Rattle.net.specs.Records.{address_of, place_of, field_at, pattern_at, with_variable, moved_to}
use Rattle.net.specs.declared.process.Process.{Process}
use Rattle.net.specs.declared.instruction.Pattern.{Pattern}
use Rattle.net.specs.declared.instruction.Instruction.{Instruction}
use Rattle.net.proofs.Every.{chosen_lt}
use Rattle.matching.specs.declared.template.Want.{Want}
use Rattle.matching.specs.declared.template.Evaluated.{Evaluated}
use Rattle.matching.specs.Matching.{want_of, evaluated_of, want_at, bound_field, bound_of}
use Rattle.sound.specs.Soundness.{pattern_sound}
use Rattle.lean_words.specs.Items.{item_in, value_in}
use Rattle.lean_words.specs.Processes.{process_in}
use Rattle.lean_words.specs.Stores.{tuple_in}
use Rattle.lean_code.specs.Fields.{actual_words, formal_words, field_words, template_words, bound_words}
use Rattle.lean_code.specs.Ranged.{RangedItem, RangedSlot, RangedTuple}
use Rattle.lean_code.proofs.WordLaws.{item_value}
use Rattle.lean_code.proofs.Rewritten.{sink_anew, variable_anew, place_anew}
use Rattle.lean_code.proofs.TemplateLaws.{Fielded, template_at, want_in, want_past, field_in_law}

-- a word anew, in range, which is not the origin
pub slot_anew : (ws : List ℕ) (j x : ℕ) → RangedSlot ws → j ≢ 9 → (j < 8 → x < 4294967553) → RangedSlot (set ws j x)
slot_anew ws j x r n h = record {
  size = length-set ws j x ∙ r.size;
  variables = λ v l. go v l (ℕ_discrete v j);
  origin = rw (get_or-set_other ws j 9 x 0 (λ e. n (sym e))) r.origin;
}
  where
    go : (v : ℕ) → v < 8 → Dec (v ≡ j) → get_or (set ws j x) v 0 < 4294967553
    go v l (yes e) = rw (e, get_or-set_same ws j x 0 (omega (arith, r.size))) (h (omega arith))
    go v l (no d) = rw (get_or-set_other ws j v x 0 d) (r.variables v l)

-- two loops side by side, each turn of which keeps a relation
pub fold_pair :
    {A B : Type 0} (R : A → B → Type 0) (f : ℕ → A → A) (g : ℕ → B → B) (n : ℕ) (x : A) (y : B) → R x y
    → ((i : ℕ) (u : A) (v : B) → i < n → R u v → R (f i u) (g i v)) → R (fold n f x) (fold n g y)
unfolding fold
fold_pair R f g zero x y h turn = h
fold_pair R f g (suc n) x y h turn =
    turn n _ _ (omega arith) (fold_pair R f g n x y h (λ i u v l. turn i u v (omega arith)))

-- the words are a busy process's
record Bound (ws : List ℕ) (p : Process) : Type 0 where
  slot : RangedSlot ws
  busy : get_or ws 8 0 < 512
  decoded : process_in ws ≡ p

module _ (n a : ℕ) (p : Process) where
  -- ---- one field
  module _ (ws : List ℕ) (q : Process) (b : Bound ws q) (x : ℕ) (met : RangedItem x) where
    to_sink : Bound (set ws 10 x) q
    to_sink = record {
      slot = slot_anew ws 10 x b.slot (λ e. omega (arith, e)) (λ l. absurd (omega arith));
      busy = rw (get_or-set_other ws 10 8 x 0 (λ e. omega (arith, e))) b.busy;
      decoded = sink_anew ws b.slot.size b.busy x ∙ b.decoded;
    }

    to_variable : (v : ℕ) → v < 8 → Bound (set ws (v % 16) x) (bound_field q (item_in x) (Want.AnyReading v))
    unfolding bound_field
    to_variable v l =
        let here : v % 16 ≡ v = omega arith in
        rw here (record {
          slot = slot_anew ws v x b.slot (λ e. omega arith) (λ _. met.below);
          busy = rw (get_or-set_other ws v 8 x 0 (λ e. omega arith)) b.busy;
          decoded =
              variable_anew ws b.slot.size b.busy v x l
              ∙ ap (λ (y : Process). with_variable y v (value_in x)) b.decoded
              ∙ ap (with_variable q v) (sym (item_value x met.there));
        })

    field_bound :
        (k : Pattern) → pattern_sound n k ≡ true
        → Bound (set ws (get_or (field_words k) 3 0 % 16) x) (bound_field q (item_in x) (want_of (address_of a) p k))
    unfolding field_words actual_words formal_words bound_field want_of pattern_sound
    field_bound (Pattern.Reading z) s = to_sink
    field_bound (Pattern.Address l) s = to_sink
    field_bound Pattern.Own s = to_sink
    field_bound (Pattern.Held v) s = to_sink
    field_bound (Pattern.FormalReading v) s = to_variable v (ltb-true v 8 s)
    field_bound (Pattern.FormalAddress v) s = to_variable v (ltb-true v 8 s)

  -- ---- all of them, then the next place
  module _ (c : Instruction) (ok : Fielded n c) (tw : List ℕ) (fields : RangedTuple tw) where
    abbrev e : Evaluated
    e = evaluated_of (address_of a) p c

    -- a field past the count binds nothing
    bound_past :
        (i : ℕ) (q : Process) → i < 4
        → bound_field q (item_in (get_or tw i 0)) (want_of (address_of a) p (pattern_at c i))
        ≡ choose (ltb i e.count) (bound_field q (field_at (tuple_in tw) i) (want_at e i)) q
    unfolding bound_field evaluated_of
    bound_past i q l =
        rw (field_in_law tw i l, want_in n a p c ok i l)
        (chosen_lt (λ (x : Process). bound_field q (item_in (get_or tw i 0)) (want_of (address_of a) p (pattern_at c i)) ≡ x) i c.count _ _
        (λ h. refl) (λ h. ap (bound_field q (item_in (get_or tw i 0))) (want_past n a p c ok i l h)))

    bound_turn :
        (i : ℕ) (us : List ℕ) (q : Process) → i < 4 → Bound us q
        → Bound (set us (get_or (get_or (template_words c) i []) 3 0 % 16) (get_or tw i 0))
        (choose (ltb i e.count) (bound_field q (field_at (tuple_in tw) i) (want_at e i)) q)
    bound_turn i us q l b =
        rw (template_at c i l, ← (bound_past i q l))
        (field_bound us q b (get_or tw i 0) (fields.fields i l) (pattern_at c i) (ok.each i l))

    module _ (ws : List ℕ) (slot : RangedSlot ws) (busy : get_or ws 8 0 < 512) (decoded : process_in ws ≡ p) where
      all_bound : Bound (fold 4 (λ i q. set q (get_or (get_or (template_words c) i []) 3 0 % 16) (get_or tw i 0)) ws) (bound_of p (tuple_in tw) e)
      unfolding bound_of
      all_bound = fold_pair Bound _ _ 4 ws p (record { slot = slot; busy = busy; decoded = decoded }) bound_turn

      pub bound_in :
          (next : ℕ) → next < 512
          → process_in (bound_words ws (template_words c) tw next) ≡ moved_to (bound_of p (tuple_in tw) e) (place_of next)
      unfolding bound_words
      bound_in next h =
          place_anew _ all_bound.slot.size all_bound.busy next h
          ∙ ap (λ (q : Process). moved_to q (place_of next)) all_bound.decoded

      pub bound_ranged : (next : ℕ) → RangedSlot (bound_words ws (template_words c) tw next)
      unfolding bound_words
      bound_ranged next = slot_anew _ 8 next all_bound.slot (λ e. omega (arith, e)) (λ l. absurd (omega arith))
