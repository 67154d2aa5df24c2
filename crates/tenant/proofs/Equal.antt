-- Two nets that an image can write and that agree below their counts (`specs/TenantRule.antt`) have one code, and one node
-- at each outside address: what stands past a count is zero in both, every variable is unset, and every origin and every mark is
-- the node's own.
-- Assumes nothing.
use Prim.Native.Nat.{ℕ, zero, suc, ◌<◌, ◌≤◌}
use mathlib.Core.Path.{◌≡◌, refl, sym, ap, subst, subst₂, ◌∙◌}
use mathlib.Core.Bool.{Bool, false}
use mathlib.Core.List.{List}
use native.Mathlib.Omega.{arith}
use native.Mathlib.Decide.{dec_le}
use lib.ListN.{get_or, get_or-eq_default}
use lib.Seq.{ext_get_or}
use lib.Dec.{eqb}
use Rattle.net.specs.Choice.{choose}
use Rattle.net.specs.Records.{zero_row, free_process, starting_at, zero_template_field, zero_instruction, with_action}
use Rattle.net.specs.Records.{field_at, rights_at, row_at, process_at, tuple_at, pattern_at, node_at, instruction_at, address_of, place_of}
use Rattle.net.proofs.Every.{Every, every_replicate, Filled, filled_map}
use Rattle.net.proofs.Past.{past_row, past_process, past_tuple}
use Rattle.net.proofs.Past.{past_field, past_rights, past_template, past_node, past_instruction}
use Rattle.sound.proofs.NodeFacts.{RowOk, RowsOk}
use Rattle.written.proofs.ReadsWrites.{Ranged}
use Rattle.written.proofs.WrittenProcesses.{Starts, ProcessesOk, node_is}
use Rattle.written.proofs.WrittenTuples.{TupleOk}
use Rattle.written.proofs.WrittenStore.{TuplesOk}
use Rattle.written.proofs.WrittenStages.{WithTuples}
use Rattle.written.proofs.WrittenTemplate.{TemplateOk}
use Rattle.written.proofs.WrittenCode.{Communicated, Created, Forked, Acting, InstructionOk}
use Rattle.written.proofs.WrittenCode.{Evaluated}
use Rattle.written.proofs.WrittenWhole.{NetOk}
use Rattle.tenant.specs.Types.{Locality, Tuple, Row, Process, Node, Action, Instruction, Net}
use Rattle.tenant.specs.TenantRule.{SameInstruction, SameCode, SamePolicy, SameTuple, SameTuples, SameStart, SameNode}
use Rattle.tenant.proofs.Fence.{tested, choose_both}

-- ---- a number is below a bound or not
pub under : {A : Type 0} (i n : ℕ) → (i < n → A) → (n ≤ i → A) → A
under {A} i n f g = go (dec_le n i)
  where
    go : Dec (n ≤ i) → A
    go (yes p) = g p
    go (no p) = f (omega arith)

-- ---- two arrays of one size are equal where they agree at each place
every_same :
    {A : Type 0} {P Q : ℕ → A → Type 0} (d : A) (size : ℕ) (xs ys : List A) → Every P d size xs → Every Q d size ys
    → ((j : ℕ) → j < size → P j (get_or xs j d) → Q j (get_or ys j d) → get_or xs j d ≡ get_or ys j d) → xs ≡ ys
every_same d size xs ys e e' f =
    let l = e.size_is in
    ext_get_or d xs ys (l ∙ sym e'.size_is)
    (λ j h. let g : j < size = omega arith in f j g (e.holds j g) (e'.holds j g))

-- and, filled up to one count with one record past it, where they agree below the count
filled_same :
    {A : Type 0} {U W : A → Type 0} {z : A} (d : A) (size n m : ℕ) (xs ys : List A) → n ≡ m
    → Every (Filled U (λ x. z ≡ x) n) d size xs → Every (Filled W (λ x. z ≡ x) m) d size ys
    → ((j : ℕ) → j < n → U (get_or xs j d) → W (get_or ys j d) → get_or xs j d ≡ get_or ys j d) → xs ≡ ys
filled_same d size n m xs ys c e e' f =
    every_same d size xs ys e e'
    (λ j h a b. under j n (λ l. f j l (a.used l) (b.used (omega arith)))
    (λ l. sym (a.unused l) ∙ b.unused (omega arith)))

-- ---- policies
row_same : (n : ℕ) (r r' : Row) → RowOk n r → RowOk n r' → SamePolicy n r r' → r ≡ r'
unfolding rights_at
row_same n r r' ok ok' same =
    let rights = filled_same past_rights 16 n n r.rights r'.rights refl (filled_map (λ x u. u) (λ x. sym) ok)
    (filled_map (λ x u. u) (λ x. sym) ok') (λ l h _ _. same.rights (address_of l) h) in
    λ i. record { create = same.creation i; rights = rights i }

-- what the rows for each origin in use have, and rows without rights, the rows for every origin have: in format 1 they are as the
-- first, in format 2 the others have no rights
pub rows_both :
    (Q : Row → Row → Type 0) (f n : ℕ) (rs rs' : List Row) → 1 ≤ n → RowsOk f n rs → RowsOk f n rs'
    → ((o : ℕ) → o < n → Q (get_or rs o past_row) (get_or rs' o past_row)) → Q zero_row zero_row
    → (o : ℕ) → o < 16 → Q (get_or rs o past_row) (get_or rs' o past_row)
rows_both Q f n rs rs' some ok ok' g z o h =
    under o n (g o)
    (λ past. tested (eqb f 1)
    (λ e. subst₂ Q (sym (ok.as_first e o h)) (sym (ok'.as_first e o h)) (g 0 (omega arith)))
    (λ e. subst₂ Q (sym (ok.barred e o past h)) (sym (ok'.barred e o past h)) z))

rows_same :
    (f n f' n' : ℕ) (rs rs' : List Row) → f ≡ f' → n ≡ n' → Ranged 1 17 n → RowsOk f n rs → RowsOk f' n' rs'
    → ((o : ℕ) → o < n → SamePolicy n (get_or rs o past_row) (get_or rs' o past_row)) → rs ≡ rs'
rows_same f n f' n' rs rs' c e count ok ok' same =
    let other : RowsOk f n rs' = subst₂ (λ (g m : ℕ). RowsOk g m rs') (sym c) (sym e) ok' in
    every_same past_row 16 rs rs' ok.each_ok other.each_ok
    (λ o h _ _. rows_both ◌≡◌ f n rs rs' count.above ok other
    (λ j l. let u : j < 16 = omega (arith, count.below) in
    row_same n _ _ (ok.each_ok.holds j u) (other.each_ok.holds j u) (same j l)) refl o h)

-- ---- tuples
tuple_same : (a : Locality) (n m : ℕ) (u u' : Tuple) → TupleOk a n u → TupleOk a m u' → SameTuple u u' → u ≡ u'
unfolding field_at
tuple_same a n m u u' ok ok' same =
    let fields = filled_same past_field 4 u.count u'.count u.fields u'.fields same.count ok.fields_ok
    ok'.fields_ok (λ j h _ _ i. record { item = same.fields j h i }) in
    let mark : u.mark ≡ u'.mark = sym ok.mark_is ∙ ok'.mark_is in
    λ i. record { count = same.count i; fields = fields i; mark = mark i }

tuples_same :
    (a : Locality) (n m : ℕ) (x x' : Node) → TuplesOk a n x → TuplesOk a m x' → SameTuples x x' → x.tuples ≡ x'.tuples
unfolding tuple_at
tuples_same a n m x x' ok ok' same =
    filled_same past_tuple 16 x.stored x'.stored x.tuples x'.tuples same.count ok.tuples_ok
    ok'.tuples_ok (λ j h t u. tuple_same a n m _ _ t u (same.tuples j h))

-- ---- starting processes of the node at address a: a slot is free, or its process stands at its first place with every variable
-- unset and a as its origin
unfoldable begun : Locality → Process → Process
begun a p = choose p.busy (starting_at a p.at) free_process

slot_begun :
    (a : Locality) (k c j : ℕ) (p : Process) → Filled (Starts a k) (λ y. free_process ≡ y) c j p → begun a p ≡ p
unfolding begun starting_at free_process choose
slot_begun a k c j p f =
    under j c (λ l. subst (λ (y : Process). begun a y ≡ y) (f.used l).is refl)
    (λ l. subst (λ (y : Process). begun a y ≡ y) (f.unused l) refl)

start_same : (a : Locality) (p p' : Process) → SameStart p p' → begun a p ≡ begun a p'
unfolding begun
start_same a p p' same =
    choose_both p.busy _ _ _ _ (λ h. ap (starting_at a) (same.place h)) refl
    ∙ ap (λ (b : Bool). choose b (starting_at a p'.at) free_process) same.busy

slots_same :
    (a : Locality) (k c k' c' : ℕ) (x x' : Node) → ProcessesOk a k c x → ProcessesOk a k' c' x'
    → ((j : ℕ) → j < 4 → SameStart (process_at x j) (process_at x' j)) → x.processes ≡ x'.processes
unfolding process_at
slots_same a k c k' c' x x' ok ok' same =
    every_same past_process 4 x.processes x'.processes ok.slots_ok ok'.slots_ok
    (λ j h f g. sym (slot_begun a k c j _ f) ∙ start_same a _ _ (same j h) ∙ slot_begun a k' c' j _ g)

-- ---- nodes
node_same :
    (a f n k f' m l : ℕ) (x x' : Node) → f ≡ f' → n ≡ m → Ranged 1 17 n → WithTuples a f n k x → WithTuples a f' m l x'
    → SameNode n x x' → x ≡ x'
unfolding row_at
node_same a f n k f' m l x x' c e count ok ok' same =
    node_is x' _ _ _ _
    (rows_same f n f' m x.rows x'.rows c e count ok.rows_ok ok'.rows_ok (λ o h. same.policy (address_of o) h))
    (slots_same (address_of a) k _ l _ x x' ok.slots_ok.slots ok'.slots_ok.slots same.processes)
    same.tuples.count
    (tuples_same (address_of a) n m x x' ok.store_ok ok'.store_ok same.tuples)

-- ---- instructions: the template is zero past its count, whatever the action
record Templated (c : Instruction) : Type 0 where
  template_ok : Every (Filled (λ f. Unit {0}) (λ f. zero_template_field ≡ f) c.count) past_template 4 c.template

zero_templated : Templated zero_instruction
unfolding zero_instruction
zero_templated = record {
  template_ok = every_replicate _ past_template 4 zero_template_field
      (λ j _. record { used = λ _. tt; unused = λ _. refl });
}

templated_with : (c b : Instruction) (a : Action) → with_action c a ≡ b → Templated c → Templated b
unfolding with_action
templated_with c b a e t = subst Templated e (record { template_ok = t.template_ok })

spoken_templated : (formals : Bool) (n : ℕ) (c : Instruction) → TemplateOk formals n c → Templated c
spoken_templated formals n c ok = record {
  template_ok = record {
    size_is = ok.patterns_ok.size_is;
    holds = λ j h. record { used = λ _. tt; unused = (ok.patterns_ok.holds j h).unused };
  };
}

module _ (n k : ℕ) (c : Instruction) where
  acting_templated : (v : ℕ) → Acting n k v c → Templated c
  unfolding Acting Communicated Evaluated Created Forked
  acting_templated zero a = subst Templated a zero_templated
  acting_templated (suc zero) (t, _, (b, ok, (p, _, e))) = templated_with b c _ e (spoken_templated _ n b ok)
  acting_templated (suc (suc zero)) (t, _, (b, ok, (p, _, e))) = templated_with b c _ e (spoken_templated _ n b ok)
  acting_templated (suc (suc (suc zero))) (t, _, (b, ok, (p, _, e))) = templated_with b c _ e (spoken_templated _ n b ok)
  acting_templated (suc (suc (suc (suc zero)))) a = templated_with zero_instruction c _ a.2.2.2 zero_templated
  acting_templated (suc (suc (suc (suc (suc zero))))) a = templated_with zero_instruction c _ a.2.2 zero_templated
  acting_templated (suc (suc (suc (suc (suc (suc zero)))))) a = templated_with zero_instruction c _ a.2.2 zero_templated
  acting_templated (suc (suc (suc (suc (suc (suc (suc v))))))) (g, _, (b, ok, (p, _, e))) =
      templated_with b c _ e (spoken_templated _ n b ok)

  templated : (f : ℕ) → InstructionOk f n k c → Templated c
  unfolding InstructionOk
  templated f a = acting_templated a.0 a.2

instruction_same : (c c' : Instruction) → Templated c → Templated c' → SameInstruction c c' → c ≡ c'
unfolding pattern_at
instruction_same c c' ok ok' same =
    let template = filled_same past_template 4 c.count c'.count c.template c'.template same.count
    ok.template_ok ok'.template_ok (λ j h _ _ i. record { pattern = same.fields j h i }) in
    λ i. record { action = same.action i; count = same.count i; template = template i }

-- ---- nets
module _ (s t : Net) (ok : NetOk s) (ok' : NetOk t) where
  pub code_same : SameCode s t → s.code ≡ t.code
  unfolding instruction_at
  code_same same =
      filled_same past_instruction 512 s.length t.length s.code t.code same.length ok.code_ok
      ok'.code_ok
      (λ p h a b. instruction_same _ _ (templated _ _ _ _ a) (templated _ _ _ _ b) (same.instructions (place_of p) h))

  pub nodes_same :
      (tenant : Locality → Bool) → s.format ≡ t.format → s.addresses ≡ t.addresses
      → ((a : Locality) → a.0 < s.addresses → tenant a ≡ false → SameNode s.addresses (node_at s a) (node_at t a))
      → (a : Locality) → tenant a ≡ false → node_at s a ≡ node_at t a
  unfolding node_at
  nodes_same tenant c e f a o =
      under a.0 16
      (λ u. let x = ok.nodes_ok.holds a.0 u in let y = ok'.nodes_ok.holds a.0 u in
      under a.0 s.addresses
      (λ h. node_same a.0 _ _ _ _ _ _ _ _ c e ok.addresses_ok (x.used h) (y.used (omega arith)) (f a h o))
      (λ h. sym (x.unused h) ∙ y.unused (omega arith)))
      (λ u. get_or-eq_default s.nodes past_node (omega (arith, ok.nodes_ok.size_is))
      ∙ sym (get_or-eq_default t.nodes past_node (omega (arith, ok'.nodes_ok.size_is))))
