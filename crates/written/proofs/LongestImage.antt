-- A net of each format whose image is the longest, of 14,749 bytes in format 1 and 17,339 in format 2: 16 addresses, each with 4
-- processes and 16 tuples of 4 readings, and 512 outs of 4 readings, in format 1 at a written address and in format 2 to every
-- address; every row holds every right but n. The format, f, tells one net from the other. Assumes nothing.
use Prim.Native.Nat.{ℕ, zero, suc, ◌+◌, ◌*◌, ◌/◌, ◌<◌, ◌≤◌}
use mathlib.Core.Path.{◌≡◌, refl, sym, ap, subst, ◌∙◌}
use mathlib.Core.Bool.{Bool, true, false}
use mathlib.Core.List.{List, ◌++◌}
use native.Mathlib.Omega.{arith}
use lib.ListN.{length, replicate, length-append, length-replicate, get_or-replicate}
use lib.Dec.{eqb}
use borrow.Author.Tests.{eq-eqb}
use Rattle.net.specs.Choice.{choose, both, implies, all, fold, in_range}
use Rattle.net.specs.Records.{starting_at, zero_field, unset_variable, all_rights, alike, zero_template_field, address_of, place_of}
use Rattle.net.specs.Records.{field_at, variable_at, rights_at, row_at, process_at, tuple_at, pattern_at, node_at, instruction_at, row_for}
use Rattle.net.specs.Records.{process_count}
use Rattle.net.specs.Groups.{halved, member, all_members}
use Rattle.written.specs.Types.{Locality, Place, Tuple, Row, Process, Node, Target, Action, Instruction, Net}
use Rattle.sound.specs.Soundness.{item_sound, is_unset, all_unset, target_sound, group_sound, pattern_sound, template_sound, is_actual}
use Rattle.sound.specs.Soundness.{actuals_only, action_sound, template_for, instruction_sound, sound_of}
use Rattle.keeping.specs.Keeping.{may_put, may_put_all, at_target, permits, permits_marked, keeps_of}
use Rattle.keeping.specs.Admission.{admits_process, admits_node, admits_at, admits}
use Rattle.image.specs.Image.{accepted, opened_of}
use Rattle.written.specs.Types.{Opened}
use Rattle.written.specs.ImageOf.{bits_of, address_bits, place_bits, reading_bits, header_bits, rights_bits, row_bits, node_rows_bits}
use Rattle.text.specs.Joined.{joined}
use Rattle.written.specs.ImageOf.{processes_bits, item_bits, tuple_bits, tuples_bits, target_bits, pattern_bits}
use Rattle.written.specs.ImageOf.{template_bits, action_bits, instruction_bits, rows_bits, all_processes_bits, all_tuples_bits}
use Rattle.written.specs.ImageOf.{code_bits, net_bits, image_of}
use Rattle.fresh.specs.Fresh.{reading_fits, item_fits, pattern_fits, tuple_fits, process_fits, row_fits, node_fits, action_fits}
use Rattle.fresh.specs.Fresh.{instruction_fits, net_fits, slot_starts, node_starts, own_origin, own_origins, own_mark, own_marks, starts_at, fresh_of}
use Rattle.written.specs.WrittenClaims.{Longest, LongestIsReached}
use Rattle.accepted.specs.LengthClaims.{longest_in}
use Rattle.net.proofs.Laws.{both_i, implies_i, all_i}
use Rattle.net.proofs.NodeLaws.{row_in_law}
use Rattle.net.proofs.Every.{Filled, every_replicate}
use Rattle.sound.proofs.NodeFacts.{TupleOk, RowOk, NodeOk}
use Rattle.sound.proofs.NodeChanges.{runs, starting}
use Rattle.sound.proofs.CodeFacts.{instruction_apart}
use Rattle.sound.proofs.NetFacts as sound
use Rattle.written.proofs.FreshFits.{instruction_fit}
use Rattle.net.proofs.Past.{past_field, past_rights, past_row, past_process, past_tuple, past_node, past_instruction}
use Rattle.written.proofs.WrittenBytes.{listed, listed_length, listed_at, bytes_length, bytes_small}
use Rattle.written.proofs.AcceptedWritten.{fresh_accepted}

full_tuple : Locality → Tuple
full_tuple a = record { count = 4; fields = replicate 4 zero_field; mark = a }

full_row : Row
full_row = record { create = false; rights = replicate 16 all_rights }

-- the node at address a
full_node : Locality → Node
full_node a = record {
  rows = alike full_row;
  processes = replicate 4 (starting_at a (place_of 0));
  stored = 16;
  tuples = replicate 16 (full_tuple a);
}

-- in format 1, and in format 2
full_action : Bool → Action
full_action true = Action.Out (Target.Written (address_of 0)) (place_of 0)
full_action false = Action.OutAll (record { 0 = 65535 }) (place_of 0)

full_instruction : Bool → Instruction
full_instruction first = record { action = full_action first; count = 4; template = replicate 4 zero_template_field }

full_net : ℕ → Net
full_net f = record {
  format = f;
  addresses = 16;
  length = 512;
  nodes = listed (λ a. full_node (address_of a)) 16;
  code = replicate 512 (full_instruction (eqb f 1));
}

node_is_full : (f : ℕ) (a : Locality) → a.0 < 16 → node_at (full_net f) a ≡ full_node a
unfolding node_at full_net
node_is_full f a h = listed_at (λ b. full_node (address_of b)) past_node 16 a.0 h

code_is_full : (f : ℕ) (p : Place) → p.0 < 512 → instruction_at (full_net f).code p ≡ full_instruction (eqb f 1)
unfolding instruction_at full_net
code_is_full f p h = get_or-replicate 512 p.0 (full_instruction (eqb f 1)) past_instruction h

-- ---- it is fresh
node_fits_law : (a : Locality) → node_fits (full_node a) ≡ true
unfolding node_fits full_node alike full_row row_fits row_at process_fits process_at starting_at tuple_fits tuple_at full_tuple field_at zero_field item_fits reading_fits all both
node_fits_law a = refl

tuple_ok : (a : Locality) → a.0 < 16 → TupleOk 16 (full_tuple a)
unfolding full_tuple zero_field item_sound
tuple_ok a h = record {
  mark_ok = h;
  least = omega arith;
  most = omega arith;
  fields_ok = every_replicate _ past_field 4 zero_field (λ j l. record { used = λ _. refl; unused = λ u. absurd (omega arith) });
}

row_ok : RowOk 16 full_row
unfolding full_row
row_ok = every_replicate _ past_rights 16 all_rights (λ j l. record { used = λ _. tt; unused = λ u. absurd (omega arith) })

-- no origin is unused, and all rows are alike
node_ok : (f : ℕ) (a : Locality) → a.0 < 16 → NodeOk f 16 512 (full_node a)
unfolding full_node alike
node_ok f a h = record {
  rows_ok = record {
    each_ok = every_replicate _ past_row 16 full_row (λ o l. row_ok);
    as_first = λ _ o l. get_or-replicate 16 o full_row past_row l;
    barred = λ _ o u l. absurd (omega arith);
  };
  processes_ok =
      every_replicate _ past_process 4 (starting_at a (place_of 0))
      (λ i l. runs 16 512 _ (starting 16 512 a (place_of 0) h (omega arith)));
  room = omega arith;
  tuples_ok =
      every_replicate _ past_tuple 16 (full_tuple a)
      (λ i l. record { used = λ _. tuple_ok a h; unused = λ u. absurd (omega arith) });
}

node_starts_law : (a : Locality) → node_starts (full_node a) ≡ true
unfolding node_starts slot_starts full_node process_count process_at starting_at all_unset variable_at unset_variable is_unset fold all both choose
node_starts_law a = refl

node_sent : (a : Locality) → own_origins a (full_node a) ≡ true
unfolding own_origins own_origin full_node process_at starting_at
node_sent a =
    all_i 4 _ (λ i h. implies_i _ _ (λ _.
    eq-eqb _ _ (ap (λ (p : Process). p.origin.0) (get_or-replicate 4 i (starting_at a (place_of 0)) past_process h))))

node_owns : (a : Locality) → own_marks a (full_node a) ≡ true
unfolding own_marks own_mark full_node tuple_at full_tuple
node_owns a =
    all_i 16 _ (λ i h. implies_i _ _ (λ _.
    eq-eqb _ _ (ap (λ (t : Tuple). t.mark.0) (get_or-replicate 16 i (full_tuple a) past_tuple h))))

instruction_fits_law : (first : Bool) → instruction_fits (full_instruction first) ≡ true
unfolding instruction_fits action_fits full_instruction full_action pattern_at zero_template_field pattern_fits reading_fits all both
instruction_fits_law true = refl
instruction_fits_law false = refl

instruction_sound_law : (f : ℕ) (first : Bool) → eqb f 1 ≡ first → instruction_sound f 16 512 (full_instruction first) ≡ true
unfolding instruction_sound full_instruction full_action action_sound target_sound group_sound all_members member halved template_for template_sound actuals_only is_actual pattern_sound pattern_at zero_template_field in_range all both choose implies
instruction_sound_law f true e = refl
instruction_sound_law f false e = rw e refl

module _ (f : ℕ) where
  nodes_length : length (full_net f).nodes ≡ 16
  unfolding full_net
  nodes_length = listed_length (λ a. full_node (address_of a)) 16

  code_length : length (full_net f).code ≡ 512
  unfolding full_net
  code_length = length-replicate 512 (full_instruction (eqb f 1))

  net_fits_law : net_fits (full_net f) ≡ true
  unfolding net_fits
  net_fits_law =
      both_i _ _
      (both_i _ _ (eq-eqb _ _ nodes_length) (all_i 16 _ (λ a h. ap node_fits (node_is_full f (address_of a) h) ∙ node_fits_law _)))
      (both_i _ _ (eq-eqb _ _ code_length)
      (all_i 512 _ (λ p h. ap instruction_fits (code_is_full f (place_of p) h) ∙ instruction_fits_law _)))

  net_sound : 1 ≤ f → f ≤ 2 → sound_of (full_net f) ≡ true
  unfolding full_net
  net_sound least most = sound.net_sound (full_net f) (record {
    format_least = least;
    format_most = most;
    addresses_least = omega arith;
    addresses_most = omega arith;
    length_least = omega arith;
    length_most = omega arith;
    nodes_ok = record {
      size_is = listed_length (λ a. full_node (address_of a)) 16;
      holds = λ a l. subst (Filled _ _ 16 a) (sym (listed_at (λ b. full_node (address_of b)) past_node 16 a l)) (record {
        used = λ _. node_ok f (address_of a) l;
        unused = λ u. absurd (omega arith);
      });
    };
    code_ok =
        let full = full_instruction (eqb f 1) in
        every_replicate _ past_instruction 512 full (λ p l. record {
          used = λ _.
              instruction_apart f 16 512 full (instruction_fit full (instruction_fits_law _)).shaped (instruction_sound_law f _ refl);
          unused = λ u. absurd (omega arith);
        });
  })

permitted : (a : Locality) (first : Bool) → permits full_row a (full_instruction first).action ≡ true
unfolding permits full_row full_instruction full_action at_target may_put may_put_all all_members member halved rights_at all_rights all both implies
permitted a true = refl
permitted a false = refl

-- the row that a process of a full node is judged by
judged_by : (a : Locality) → a.0 < 16 → (i : ℕ) → i < 4 → row_for (full_node a) (process_at (full_node a) i) ≡ full_row
unfolding process_at row_at full_node starting_at alike
judged_by a h i l =
    ap (row_for (full_node a)) (get_or-replicate 4 i (starting_at a (place_of 0)) past_process l)
    ∙ sym (row_in_law (full_node a) (starting_at a (place_of 0)) h)
    ∙ get_or-replicate 16 a.0 full_row past_row h

module _ (f : ℕ) where
  kept : (p : Place) (a : Locality) → keeps_of (full_net f).code p a full_row ≡ true
  unfolding keeps_of permits_marked
  kept p a =
      all_i 512 _ (λ q h. implies_i _ _ (λ _.
      ap (λ (c : Instruction). permits full_row a c.action) (code_is_full f (place_of q) h) ∙ permitted a _))

  net_admitted : admits (full_net f) ≡ true
  unfolding admits admits_at admits_node admits_process
  net_admitted =
      all_i 16 _ (λ a h. implies_i _ _ (λ _.
      ap (admits_node (full_net f).code (address_of a)) (node_is_full f (address_of a) h)
      ∙ all_i 4 _ (λ i l. implies_i _ _ (λ _.
      ap (keeps_of (full_net f).code _ (address_of a)) (judged_by (address_of a) h i l) ∙ kept _ _))))

  net_fresh : 1 ≤ f → f ≤ 2 → fresh_of (full_net f) ≡ true
  unfolding fresh_of starts_at
  net_fresh least most =
      both_i _ _ (net_fits_law f)
      (both_i _ _ (net_sound f least most)
      (both_i _ _ (all_i 16 _ (λ a h.
      let e = node_is_full f (address_of a) h in
      both_i _ _ (ap node_starts e ∙ node_starts_law _)
      (both_i _ _ (ap (own_origins (address_of a)) e ∙ node_sent _) (ap (own_marks (address_of a)) e ∙ node_owns _)))) net_admitted))

-- ---- its bits
joined_length : (m w : ℕ) (f : ℕ → List Bool) → ((i : ℕ) → i < m → length (f i) ≡ w) → length (joined m f) ≡ m * w
unfolding joined
joined_length zero w f e = omega arith
joined_length (suc m) w f e =
    let h = length-append (joined m f) (f m) in
    let g = joined_length m w f (λ i l. e i (omega arith)) in
    let d = e m (omega arith) in
    omega arith

-- ---- each part, and the whole. The rows of a node: one in format 1, 16 in format 2
node_rows_length : (f : ℕ) (a : Locality) → length (node_rows_bits f 16 (full_node a)) ≡ choose (eqb f 1) 65 1040
unfolding node_rows_bits row_bits full_node alike full_row row_at joined rights_bits choose
node_rows_length f a = go (eqb f 1)
  where
    go : (b : Bool)
        → length (choose b (row_bits 16 (row_at (full_node a) (address_of 0)))
        (joined 16 (λ o. row_bits 16 (row_at (full_node a) (address_of o)))))
        ≡ choose b 65 1040
    go true = refl
    go false = refl

processes_length : (a : Locality) → length (processes_bits (full_node a)) ≡ 39
unfolding processes_bits process_count full_node process_at starting_at fold choose joined place_bits bits_of
processes_length a = refl

tuples_length : (a : Locality) → length (tuples_bits (full_node a)) ≡ 2149
unfolding tuples_bits full_node tuple_at tuple_bits full_tuple field_at zero_field item_bits reading_bits joined bits_of
tuples_length a = refl

instruction_length : (first : Bool) → length (instruction_bits (full_instruction first)) ≡ choose first 160 170
unfolding instruction_bits full_instruction full_action action_bits target_bits address_bits template_bits pattern_at zero_template_field pattern_bits reading_bits place_bits joined bits_of choose
instruction_length true = refl
instruction_length false = refl

-- the bits and bytes of the whole
bytes_of : (b : Bool) → (35027 + 16 * choose b 65 1040 + 512 * choose b 160 170 + 7) / 8 ≡ choose b 14749 17339
unfolding choose
bytes_of true = refl
bytes_of false = refl

module _ (f : ℕ) where
  header_length : length (header_bits (full_net f)) ≡ 19
  unfolding header_bits full_net bits_of
  header_length = refl

  rows_length : length (rows_bits (full_net f)) ≡ 16 * choose (eqb f 1) 65 1040
  unfolding rows_bits full_net
  rows_length =
      joined_length 16 (choose (eqb f 1) 65 1040) _
      (λ a h. ap (λ (x : Node). length (node_rows_bits f 16 x)) (node_is_full f (address_of a) h) ∙ node_rows_length f _)

  all_processes_length : length (all_processes_bits (full_net f)) ≡ 624
  unfolding all_processes_bits full_net
  all_processes_length =
      joined_length 16 39 _
      (λ a h. ap (λ (x : Node). length (processes_bits x)) (node_is_full f (address_of a) h) ∙ processes_length _)

  all_tuples_length : length (all_tuples_bits (full_net f)) ≡ 34384
  unfolding all_tuples_bits full_net
  all_tuples_length =
      joined_length 16 2149 _
      (λ a h. ap (λ (x : Node). length (tuples_bits x)) (node_is_full f (address_of a) h) ∙ tuples_length _)

  code_bits_length : length (code_bits (full_net f)) ≡ 512 * choose (eqb f 1) 160 170
  unfolding code_bits full_net
  code_bits_length =
      joined_length 512 (choose (eqb f 1) 160 170) _
      (λ p h. ap (λ (c : Instruction). length (instruction_bits c)) (code_is_full f (place_of p) h) ∙ instruction_length _)

  net_length : length (net_bits (full_net f)) ≡ 35027 + 16 * choose (eqb f 1) 65 1040 + 512 * choose (eqb f 1) 160 170
  unfolding net_bits
  net_length =
      let s = full_net f in
      let a = length-append (all_tuples_bits s) (code_bits s) in
      let b = length-append (all_processes_bits s) (all_tuples_bits s ++ code_bits s) in
      let c = length-append (rows_bits s) (all_processes_bits s ++ (all_tuples_bits s ++ code_bits s)) in
      length-append (header_bits s) (rows_bits s ++ (all_processes_bits s ++ (all_tuples_bits s ++ code_bits s)))
      ∙ omega (arith, header_length, rows_length, all_processes_length, all_tuples_length, code_bits_length)

  full_length : length (image_of (full_net f)) ≡ longest_in f
  unfolding image_of longest_in
  full_length =
      bytes_length (net_bits (full_net f)) ∙ ap (λ (m : ℕ). (m + 7) / 8) net_length ∙ bytes_of (eqb f 1)

  -- ---- the claim, of each format
  reached : 1 ≤ f → f ≤ 2 → Longest f
  unfolding image_of accepted full_net
  reached least most =
      let opens = fresh_accepted (full_net f) (net_fresh f least most) in
      record {
        image = image_of (full_net f);
        bytes = bytes_small (net_bits (full_net f));
        accepted = ap (λ (r : Opened). r.answer) opens;
        format = ap (λ (r : Opened). r.net.format) opens;
        long = full_length;
      }

pub longest_is_reached : LongestIsReached
unfolding LongestIsReached
longest_is_reached = (reached 1 (omega arith) (omega arith), reached 2 (omega arith) (omega arith))
