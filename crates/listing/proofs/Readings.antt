-- Every reading of a net that an accepted image comes to by picks has 32 bits: those of its tuples, its variables and its code.
-- A pick makes no other.
-- Assumes nothing.
use Prim.Native.Nat.{ℕ, zero, suc, ◌+◌, ◌<◌, ◌≤◌}
use mathlib.Core.Path.{◌≡◌, refl, sym, subst}
use mathlib.Core.Logic.{◌⊎◌, inl, inr}
use mathlib.Core.Bool.{true, not}
use mathlib.Core.List.{List, [], ◌∷◌}
use native.Mathlib.Omega.{arith}
use native.Mathlib.Decide.{dec_le}
use lib.ListN.{length, get_or, set, replicate, get_or-eq_default}
use lib.Dec.{ltb}
use lib.IntN.{ℤ}
use Rattle.std.specs.Prelude.{Option, Some, None}
use Rattle.net.specs.Choice.{choose, all}
use Rattle.net.specs.Records.{field_at, variable_at, process_at, tuple_at, pattern_at, node_at, instruction_at, address_of}
use Rattle.net.specs.Records.{zero_field, zero_tuple, unset_variable, free_process, zero_node, with_field, marked, with_variable, with_rows, with_process}
use Rattle.net.specs.Records.{with_tuple, with_node, moved_to, copied_to, sent_from, after_taking, without_tuple, process_count}
use Rattle.net.specs.Records.{zero_template_field, zero_instruction, empty_net, with_counts}
use Rattle.net.specs.declared.instruction.TemplateField.{TemplateField}
use Rattle.net.proofs.Laws.{both_l, both_r, all_e}
use Rattle.net.proofs.Every.{chosen}
use Rattle.net.proofs.FoldLaws.{fold_keeps}
use Rattle.net.proofs.Past.{past_field, past_variable, past_process, past_tuple, past_node, past_template, past_instruction}
use Rattle.sound.specs.Soundness.{is_unset, all_unset}
use Rattle.fresh.specs.Fresh.{reading_fits, item_fits, pattern_fits, slot_starts, node_starts, starts_at}
use Rattle.written.proofs.FreshFits.{TupleFit, tuple_fit, NodeFit, node_fit, InstructionFit, instruction_fit, NetFit, net_fit}
use Rattle.written.proofs.FreshNet.{net_fits_law, net_starts}
use Rattle.written.proofs.WrittenWhole as Written
use Rattle.written.proofs.AcceptedWritten.{opened_ok as opened-is}
use Rattle.image.specs.Image.{opened_of}
use Rattle.matching.specs.declared.template.Want.{Want}
use Rattle.matching.specs.declared.template.Wanted.{Wanted}
use Rattle.matching.specs.Matching.{held_item, want_of, zero_wanted, wants_of, evaluated_of, want_at, value_of, bound_field, bound_of, bound_at, matched_of, oldest_of}
use Rattle.plans.specs.Additions.{item_of, tuple_of}
use Rattle.step.specs.Types.{Locality, Place, Value, Variable, Item, Field, Tuple, Row, Process, Node, Pattern, Instruction, Net}
use Rattle.step.specs.Types.{Evaluated, Answer, Request}
use Rattle.step.specs.declared.machine.Picked.{Picked}
use Rattle.step.specs.Pick.{unchanged, performed, with_host, stopped, added, out, out_all, taken, in_found, input, read_found, read, started_in, eval}
use Rattle.step.specs.Pick.{fork, opened, unused, created_at, created, create, carried_out, acting, process_step, slot_step, step_of, pick_of}
use Rattle.step.proofs.EachMember.{all_kept}
use Rattle.run.specs.Run.{ran_from, answered}

-- ---- a place of a list, once one is set
set_at :
    {A : Type 0} (P : A → Type 0) (d : A) (xs : List A) (i j : ℕ) (y : A) → P y → P (get_or xs j d) → P (get_or (set xs i y) j d)
set_at P d [] i j y q p = p
set_at P d (x ∷ xs) zero zero y q p = q
set_at P d (x ∷ xs) zero (suc j) y q p = p
set_at P d (x ∷ xs) (suc i) zero y q p = p
set_at P d (x ∷ xs) (suc i) (suc j) y q p = set_at P d xs i j y q p

-- a list of one element all over
same_at : {A : Type 0} (P : A → Type 0) (d : A) (n : ℕ) (x : A) (j : ℕ) → P x → P d → P (get_or (replicate n x) j d)
same_at P d zero x j p q = q
same_at P d (suc n) x zero p q = p
same_at P d (suc n) x (suc j) p q = same_at P d n x j p q

-- ---- readings of 32 bits
abbrev ItemOk : Item → Type 0
ItemOk x = item_fits x ≡ true

nought_ok : ItemOk (Item.Reading (ℤ.pos 0))
unfolding item_fits reading_fits
nought_ok = refl

pub record TupleOk (t : Tuple) : Type 0 where
  pub each : (j : ℕ) → ItemOk (field_at t j)

pub record ProcessOk (p : Process) : Type 0 where
  pub each : (v : ℕ) → ItemOk (held_item (variable_at p v))

pub record NodeOk (x : Node) : Type 0 where
  pub processes : (k : ℕ) → ProcessOk (process_at x k)
  pub tuples : (i : ℕ) → TupleOk (tuple_at x i)

pub record NetOk (s : Net) : Type 0 where
  pub nodes : (a : Locality) → NodeOk (node_at s a)
  pub code : (p : Place) (i : ℕ) → pattern_fits (pattern_at (instruction_at s.code p) i) ≡ true

-- ---- the zero records
zero_tuple_law : TupleOk zero_tuple
unfolding zero_tuple zero_field field_at
zero_tuple_law = record { each = λ j. same_at (λ (f : Field). ItemOk f.item) past_field 4 _ j nought_ok nought_ok }

free_process_law : ProcessOk free_process
unfolding free_process unset_variable variable_at held_item
free_process_law = record { each = λ v. same_at (λ (x : Variable). ItemOk (held_item x.value)) past_variable 8 _ v nought_ok nought_ok }

past_tuple_law : TupleOk past_tuple
unfolding field_at
past_tuple_law = record { each = λ j. nought_ok }

past_process_law : ProcessOk past_process
unfolding variable_at held_item
past_process_law = record { each = λ v. nought_ok }

zero_node_law : NodeOk zero_node
unfolding zero_node process_at tuple_at
zero_node_law = record {
  processes = λ k. same_at ProcessOk past_process 4 free_process k free_process_law past_process_law;
  tuples = λ i. same_at TupleOk past_tuple 16 zero_tuple i zero_tuple_law past_tuple_law;
}

-- ---- changes of a process
module _ (p : Process) (ok : ProcessOk p) where
  moved : (q : Place) → ProcessOk (moved_to p q)
  unfolding moved_to variable_at
  moved q = record { each = ok.each }

  copied : (q : Place) → ProcessOk (copied_to p q)
  unfolding copied_to variable_at
  copied q = record { each = ok.each }

  sent : (a : Locality) (q : Place) → ProcessOk (sent_from a p q)
  unfolding sent_from variable_at
  sent a q = record { each = ok.each }

  with_variable_law : (v : ℕ) (x : Value) → ItemOk (held_item x) → ProcessOk (with_variable p v x)
  unfolding with_variable variable_at
  with_variable_law v x h = record {
    each = λ w. set_at (λ (y : Variable). ItemOk (held_item y.value)) past_variable p.variables v w _ h (ok.each w);
  }

held_back : (x : Item) → ItemOk x → ItemOk (held_item (value_of x))
unfolding held_item value_of
held_back (Item.Reading x) h = h
held_back (Item.Address l) h = h

bound_field_law : (p : Process) (x : Item) (w : Want) → ProcessOk p → ItemOk x → ProcessOk (bound_field p x w)
unfolding bound_field
bound_field_law p x (Want.Exactly y) ok h = ok
bound_field_law p x (Want.AnyReading v) ok h = with_variable_law p ok v _ (held_back x h)
bound_field_law p x (Want.AnyAddress v) ok h = with_variable_law p ok v _ (held_back x h)

bound : (p : Process) (t : Tuple) (e : Evaluated) → ProcessOk p → TupleOk t → ProcessOk (bound_of p t e)
unfolding bound_of
bound p t e ok h =
    fold_keeps (λ _. ProcessOk) _ p 4 ok
    (λ i q _ g. chosen ProcessOk _ _ _ (λ _. bound_field_law q (field_at t i) _ g (h.each i)) (λ _. g))

bound_at_law : (f : Option ℕ) (p : Process) (x : Node) (e : Evaluated) → ProcessOk p → NodeOk x → ProcessOk (bound_at f p x e)
unfolding bound_at
bound_at_law (Some i) p x e ok h = bound p (tuple_at x i) e ok (h.tuples i)
bound_at_law None p x e ok h = ok

matched : (p : Process) (x : Node) (e : Evaluated) → ProcessOk p → NodeOk x → ProcessOk (matched_of p x e).process
unfolding matched_of
matched p x e ok h = bound_at_law (oldest_of x e) p x e ok h

-- ---- changes of a tuple
with_field_law : (t : Tuple) (f : Field) → TupleOk t → ItemOk f.item → TupleOk (with_field t f)
unfolding with_field field_at
with_field_law t f ok h =
    chosen TupleOk _ _ _
    (λ _. record { each = λ j. set_at (λ (g : Field). ItemOk g.item) past_field t.fields t.count j f h (ok.each j) }) (λ _. ok)

marked_ok : (a : Locality) (t : Tuple) → TupleOk t → TupleOk (marked a t)
unfolding marked field_at
marked_ok a t ok = record { each = ok.each }

-- the tuple of an out
want_ok : (a : Locality) (p : Process) (x : Pattern) → ProcessOk p → pattern_fits x ≡ true → ItemOk (item_of (want_of a p x))
unfolding want_of item_of pattern_fits item_fits
want_ok a p (Pattern.Reading x) ok h = h
want_ok a p (Pattern.Address l) ok h = refl
want_ok a p Pattern.Own ok h = refl
want_ok a p (Pattern.Held v) ok h = ok.each v
want_ok a p (Pattern.FormalReading v) ok h = nought_ok
want_ok a p (Pattern.FormalAddress v) ok h = nought_ok

WantsOk : List Wanted → Type 0
WantsOk ws = (i : ℕ) → ItemOk (item_of (get_or ws i (record { want = Want.Exactly (Item.Reading (ℤ.pos 0)) })).want)

wants_ok : (a : Locality) (p : Process) (c : Instruction) → ProcessOk p → ((i : ℕ) → pattern_fits (pattern_at c i) ≡ true) → WantsOk (wants_of a p c)
unfolding wants_of WantsOk zero_wanted item_of
wants_ok a p c ok h =
    fold_keeps (λ _. WantsOk) _ _ 4
    (λ i. same_at (λ (w : Wanted). ItemOk (item_of w.want)) _ 4 _ i nought_ok nought_ok)
    (λ i ws _ g. chosen WantsOk _ _ _
    (λ _ j. set_at (λ (w : Wanted). ItemOk (item_of w.want)) _ ws i j _ (want_ok a p (pattern_at c i) ok (h i)) (g j)) (λ _. g))

tuple_ok : (e : Evaluated) → WantsOk e.wants → TupleOk (tuple_of e)
unfolding tuple_of WantsOk want_at
tuple_ok e h =
    fold_keeps (λ _. TupleOk) _ zero_tuple 4 zero_tuple_law
    (λ i t _ g. chosen TupleOk _ _ _ (λ _. with_field_law t _ g (h i)) (λ _. g))

-- ---- changes of a node
module _ (x : Node) (ok : NodeOk x) where
  with_rows_law : (rows : List Row) → NodeOk (with_rows x rows)
  unfolding with_rows process_at tuple_at
  with_rows_law rows = record { processes = ok.processes; tuples = ok.tuples }

  with_process_law : (k : ℕ) (p : Process) → ProcessOk p → NodeOk (with_process x k p)
  unfolding with_process process_at tuple_at
  with_process_law k p h = record {
    processes = λ j. set_at ProcessOk past_process x.processes k j p h (ok.processes j);
    tuples = ok.tuples;
  }

  with_tuple_law : (t : Tuple) → TupleOk t → NodeOk (with_tuple x t)
  unfolding with_tuple process_at tuple_at
  with_tuple_law t h =
      chosen NodeOk _ _ _
      (λ _. record {
        processes = ok.processes;
        tuples = λ j. set_at TupleOk past_tuple x.tuples x.stored j t h (ok.tuples j);
      })
      (λ _. ok)

  after_taking_law : (i j : ℕ) → TupleOk (after_taking x i j)
  unfolding after_taking
  after_taking_law i j =
      chosen TupleOk _ _ _ (λ _. ok.tuples j)
      (λ _. chosen TupleOk _ _ _ (λ _. ok.tuples (j + 1)) (λ _. zero_tuple_law))

  without_tuple_law : (i : ℕ) → NodeOk (without_tuple x i)
  unfolding without_tuple process_at tuple_at
  without_tuple_law i = record {
    processes = ok.processes;
    tuples =
        fold_keeps (λ _ (ts : List Tuple). (j : ℕ) → TupleOk (get_or ts j past_tuple)) _ x.tuples 16 ok.tuples
        (λ j ts _ g k. set_at TupleOk past_tuple ts j k _ (after_taking_law i j) (g k));
  }

-- ---- changes of a net
module _ (s : Net) (ok : NetOk s) where
  with_node_law : (l : Locality) (x : Node) → NodeOk x → NetOk (with_node s l x)
  unfolding with_node node_at
  with_node_law l x h = record {
    nodes = λ a. set_at NodeOk past_node s.nodes l.0 a.0 x h (ok.nodes a);
    code = ok.code;
  }

  with_host_law : (a : Locality) (k : ℕ) (p : Process) → ProcessOk p → NetOk (with_host s a k p)
  unfolding with_host
  with_host_law a k p h = with_node_law a _ (with_process_law _ (ok.nodes a) k p h)

  added_ok : (l : Locality) (t : Tuple) → TupleOk t → NetOk (added s l t)
  unfolding added
  added_ok l t h = with_node_law l _ (with_tuple_law _ (ok.nodes l) t h)

  opened_ok : NetOk (opened s)
  unfolding opened with_counts node_at
  opened_ok = record { nodes = ok.nodes; code = ok.code }

created_ok : (s : Net) → NetOk s → (a : Locality) (k : ℕ) (p : Process) (v : ℕ) (q : Place) → ProcessOk p → NetOk (created s a k p v q)
unfolding created created_at held_item item_fits
created_ok s ok a k p v q h =
    with_node_law _
    (with_node_law (opened s) (opened_ok s ok) a _
    (with_rows_law _ (with_process_law _ (ok.nodes a) k _ (moved _ (with_variable_law p h v (Value.Address (unused s)) refl) q)) _))
    (unused s) _ (with_rows_law zero_node zero_node_law _)

-- ---- a pick
pub record After (r : Picked) : Type 0 where
  pub net_ok : NetOk r.net

module _ (s : Net) (ok : NetOk s) where
  stays : (x : Answer) → After (unchanged x s)
  unfolding unchanged
  stays x = record { net_ok = ok }

  does : (t : Net) → NetOk t → After (performed t)
  unfolding performed
  does t h = record { net_ok = h }

  module _ (a : Locality) (k : ℕ) (p : Process) (h : ProcessOk p) where
    in_after : (l : Locality) (q : Place) (f : Option ℕ) (r : Process) → ProcessOk r → After (in_found s a k l q f r)
    unfolding in_found taken
    in_after l q (Some i) r g =
        let t = with_host_law s ok a k _ (moved r g q) in
        does _ (with_node_law _ t l _ (without_tuple_law _ (t.nodes l) i))
    in_after l q None r g = stays _

    read_after : (q : Place) (f : Option ℕ) (r : Process) → ProcessOk r → After (read_found s a k q f r)
    unfolding read_found
    read_after q (Some i) r g = does _ (with_host_law s ok a k _ (moved r g q))
    read_after q None r g = stays _

    start_after : (l : Locality) (copy : Process) (q : Place) → ProcessOk copy → (j : Option ℕ) → After (started_in s a k l p copy q j)
    unfolding started_in
    start_after l copy q g (Some j) = does _ (with_host_law _ (with_host_law s ok a k _ (moved p h q)) l j _ g)
    start_after l copy q g None = stays _

    done : (e : Evaluated) → WantsOk e.wants → (r : Request) → After (carried_out s a k p e r)
    unfolding carried_out stopped out out_all input read eval fork create
    done e g Request.Lack = stays _
    done e g Request.Stop = record { net_ok = with_host_law s ok a k _ free_process_law }
    done e g (Request.Out l q) =
        chosen After _ _ _
        (λ _. does _ (added_ok _ (with_host_law s ok a k _ (moved p h q)) l _ (marked_ok a _ (tuple_ok e g)))) (λ _. stays _)
    done e g (Request.In l q) = in_after l q _ _ (matched p (node_at s l) e h (ok.nodes l))
    done e g (Request.Read l q) = read_after q _ _ (matched p (node_at s l) e h (ok.nodes l))
    done e g (Request.Eval l r q) = chosen After _ _ _ (λ _. start_after l _ q (sent p h a r) _) (λ _. stays _)
    done e g (Request.New v q) = chosen After _ _ _ (λ _. does _ (created_ok s ok a k p v q h)) (λ _. stays _)
    done e g (Request.Fork q r) = start_after a _ q (copied p h r) _
    done e g (Request.OutAll members q) =
        chosen After _ _ _
        (λ _. does _
        (all_kept members _ NetOk _ (with_host_law s ok a k _ (moved p h q))
        (λ s' l _ ok'. added_ok s' ok' l _ (marked_ok a _ (tuple_ok e g))))) (λ _. stays _)

  step_after : (a : Locality) (k : ℕ) → After (slot_step s a k)
  unfolding slot_step process_step acting evaluated_of
  step_after a k =
      let p = (ok.nodes a).processes k in
      chosen After _ _ _
      (λ _. chosen After _ _ _ (λ _. done a k _ p _ (wants_ok a _ _ p (ok.code _)) _) (λ _. stays _)) (λ _. stays _)

  pub picked_after : (b : ℕ) → After (pick_of s b)
  unfolding pick_of step_of
  picked_after b =
      chosen After _ _ _
      (λ _. chosen After _ _ _ (λ _. chosen After _ _ _ (λ _. step_after _ _) (λ _. stays _)) (λ _. stays _)) (λ _. stays _)

pub ran_after : (s : Net) (picks : List ℕ) → NetOk s → NetOk (ran_from s picks).net
unfolding ran_from answered
ran_after s [] ok = ok
ran_after s (b ∷ bs) ok = ran_after (pick_of s b).net bs (picked_after s ok b).net_ok

-- ---- the net of an image
at_any :
    {A : Type 0} (P : A → Type 0) (d : A) (xs : List A) (n : ℕ) → length xs ≡ n → ((i : ℕ) → i < n → P (get_or xs i d)) → P d
    → (i : ℕ) → P (get_or xs i d)
at_any P d xs n e f p i = go (dec_le n i)
  where
    go : Dec (n ≤ i) → P (get_or xs i d)
    go (yes h) = subst P (sym (get_or-eq_default xs d {n = i} (omega arith))) p
    go (no h) = f i (omega arith)

unset_ok : (x : Value) → is_unset x ≡ true → ItemOk (held_item x)
unfolding is_unset held_item
unset_ok Value.Unset h = nought_ok
unset_ok (Value.Reading x) h = let z : ◌≡◌ {A = ℕ} 0 1 = cc in absurd (omega arith)
unset_ok (Value.Address l) h = let z : ◌≡◌ {A = ℕ} 0 1 = cc in absurd (omega arith)

starting_process : (p : Process) → length p.variables ≡ 8 → all_unset p ≡ true → ProcessOk p
unfolding all_unset variable_at held_item
starting_process p long h = record {
  each =
      at_any (λ (x : Variable). ItemOk (held_item x.value)) past_variable p.variables 8 long
      (λ v l. unset_ok _ (all_e 8 _ h v l)) nought_ok;
}

fitting_tuple : (t : Tuple) → TupleFit t → TupleOk t
unfolding field_at
fitting_tuple t fit = record {
  each =
      at_any (λ (f : Field). ItemOk f.item) past_field t.fields 4 fit.shaped.fields_are fit.each_item nought_ok;
}

starting_node : (x : Node) → NodeFit x → node_starts x ≡ true → NodeOk x
unfolding node_starts slot_starts process_at tuple_at
starting_node x fit h = record {
  processes =
      at_any ProcessOk past_process x.processes 4 fit.shaped.processes_are
      (λ k l. starting_process _ (fit.shaped.each_process k l).variables_are
      (both_r (choose (ltb k (process_count x)) (process_at x k).busy (not (process_at x k).busy)) _ (all_e 4 _ h k l)))
      past_process_law;
  tuples =
      at_any TupleOk past_tuple x.tuples 16 fit.shaped.tuples_are
      (λ i l. fitting_tuple _ (tuple_fit _ (fit.each_tuple i l))) past_tuple_law;
}

past_node_law : NodeOk past_node
unfolding process_at tuple_at
past_node_law = record { processes = λ k. past_process_law; tuples = λ i. past_tuple_law }

abbrev CodeOk : Instruction → Type 0
CodeOk c = (i : ℕ) → pattern_fits (pattern_at c i) ≡ true

past_code : CodeOk past_instruction
unfolding pattern_at pattern_fits reading_fits
past_code i = refl

fitting_code : (c : Instruction) → InstructionFit c → CodeOk c
unfolding pattern_at pattern_fits reading_fits
fitting_code c fit =
    at_any (λ (f : TemplateField). pattern_fits f.pattern ≡ true) past_template c.template 4 fit.shaped.template_is
    fit.each_pattern refl

starting_net : (s : Net) → NetFit s → all 16 (λ a. starts_at s (address_of a)) ≡ true → NetOk s
unfolding starts_at node_at instruction_at
starting_net s fit h = record {
  nodes = λ a.
      at_any NodeOk past_node s.nodes 16 fit.shaped.nodes_are
      (λ i l. starting_node _ (node_fit _ (fit.each_node i l)) (both_l _ _ (all_e 16 _ h i l))) past_node_law a.0;
  code = λ p.
      at_any CodeOk past_instruction s.code 512 fit.shaped.code_is
      (λ i l. fitting_code _ (instruction_fit _ (fit.each_instruction i l))) past_code p.0;
}

empty_ok : NetOk empty_net
unfolding empty_net node_at instruction_at zero_instruction zero_template_field pattern_at pattern_fits reading_fits
empty_ok = record {
  nodes = λ a. same_at NodeOk past_node 16 zero_node a.0 zero_node_law past_node_law;
  code = λ p.
      same_at CodeOk past_instruction 512 zero_instruction p.0
      (λ i. same_at (λ (f : TemplateField). pattern_fits f.pattern ≡ true) past_template 4 zero_template_field i refl refl) past_code;
}

pub opened_readings : (image : List ℕ) → NetOk (opened_of image).net
opened_readings image = go (opened-is image)
  where
    go : Written.NetOk (opened_of image).net ⊎ (empty_net ≡ (opened_of image).net) → NetOk (opened_of image).net
    go (inl ok) = starting_net _ (net_fit _ (net_fits_law _ ok)) (net_starts _ ok)
    go (inr e) = subst NetOk e empty_ok
