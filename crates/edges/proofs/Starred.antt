-- The claim of `specs/Starred.antt`, by computing. Assumes nothing.
use Prim.Native.Nat.{ℕ}
use mathlib.Core.Path.{refl}
use Rattle.net.specs.Choice as Choice
use Rattle.net.specs.Groups as Groups
use Rattle.net.specs.Readings as Readings
use Rattle.net.specs.Records as Records
use Rattle.matching.specs.Matching as Matching
use Rattle.keeping.specs.Reaching as Reaching
use Rattle.keeping.specs.Keeping as Keeping
use Rattle.keeping.specs.Admission as Admission
use Rattle.sound.specs.Soundness as Soundness
use Rattle.readers.specs.Reader as Reader
use Rattle.bitreader.specs.BitReader as BitReader
use Rattle.bitreader.specs.Fields as Fields
use Rattle.bitreader.specs.Ending as Ending
use Rattle.instructions.specs.Instruction as Instruction
use Rattle.image.specs.Image as Image
use Rattle.plans.specs.Additions as Additions
use Rattle.plans.specs.Answer as Answer
use Rattle.plans.specs.Request as Request
use Rattle.step.specs.Pick as Pick
use Rattle.text.specs.Bytes as Bytes
use Rattle.text.specs.Decimal as Decimal
use Rattle.text.specs.Signed as Signed
use Rattle.text.specs.Joined as Joined
use Rattle.run.specs.Run as Run
use Rattle.lines.specs.Words as Words
use Rattle.lines.specs.Shown as Shown
use Rattle.lines.specs.Lines as Lines
use Rattle.registers.specs.Register as Register
use Rattle.edges.specs.Starred.{StarredEdges}

-- every definition that a register is made of
unfoldable opened : ℕ
unfolding Bytes.bytes Choice.choose Choice.both Choice.implies Choice.all Choice.fold Choice.first_from Choice.first_below Records.zero_field Records.zero_tuple Records.unset_variable Records.free_process Records.starting_at Records.no_rights Records.all_rights Records.zero_row Records.alike Records.zero_node Records.zero_template_field Records.zero_instruction Records.empty_net Records.field_at Records.variable_at Records.rights_at Records.row_at Records.process_at Records.tuple_at Records.pattern_at Records.node_at Records.instruction_at Records.with_field Records.marked Records.with_variable Records.with_rights Records.with_rows Records.with_row Records.with_process Records.with_tuple Records.with_pattern Records.with_action Records.with_node Records.with_instruction Records.with_counts Records.with_format Records.moved_to Records.copied_to Records.sent_from Records.after_taking Records.without_tuple Records.free_slot Groups.halved Groups.member Groups.all_members Matching.is_set Matching.held_item Matching.defined_field Matching.want_of Matching.zero_wanted Matching.wants_of Matching.evaluated_of Matching.want_at Readings.same_reading Matching.same_item Matching.is_reading Matching.is_address Matching.fits_field Matching.fits_of Matching.oldest_of Matching.value_of Matching.bound_field Matching.bound_of Matching.bound_at Matching.matched_of Reaching.followers Reaching.meet Reaching.meet_all Reaching.visit_first Reaching.visit Reaching.visits Reaching.started_at Reaching.reached_of Keeping.may_take Keeping.may_read Keeping.may_put Keeping.may_send Keeping.may_create Keeping.may_put_all Keeping.at_target Keeping.permits Keeping.permits_marked Keeping.keeps_of Choice.in_range Soundness.item_sound Soundness.is_zero_item Soundness.fields_sound Soundness.tuple_sound Soundness.no_fields Soundness.is_zero_tuple Soundness.tuples_sound Soundness.is_none Soundness.row_sound Soundness.is_zero_row Soundness.same_bool Soundness.same_rights Soundness.same_row Soundness.rows_alike Soundness.unused_barred Soundness.rows_sound Soundness.no_rows Soundness.value_sound Soundness.is_unset Soundness.all_unset Soundness.is_free Soundness.process_sound Soundness.node_sound Soundness.is_zero_node Soundness.target_sound Soundness.pattern_sound Soundness.is_zero_pattern Soundness.template_sound Soundness.no_template Soundness.is_actual Soundness.actuals_only Soundness.binds_not Soundness.unbound_before Soundness.binds_anew Soundness.formals_apart Soundness.group_sound Soundness.action_sound Soundness.template_for Soundness.instruction_sound Soundness.is_stop Soundness.is_zero_instruction Soundness.nodes_sound Soundness.code_sound Soundness.sound_of Reader.pure Reader.and_then Reader.◌>>=◌ Reader.◌>>◌ Reader.turns Reader.each Reader.alternative Reader.fault_at Reader.require_in Reader.require Reader.tested BitReader.bit_at BitReader.number_at BitReader.judged BitReader.field BitReader.bits Image.each_address Image.each_place Fields.address Fields.place Fields.variable Signed.signed Fields.reading Image.header Image.is_set_bit Image.rights_of Image.creating Image.rights Image.row Image.single_row Image.row_from Image.node_rows Image.rows_of Image.rows Image.process Image.processes Image.processes_of Image.all_processes Image.reading_item Image.address_item Image.item Image.tupleField Image.tuple Image.stored Image.tuples Image.tuples_of Image.all_tuples Instruction.written_target Instruction.held_target Instruction.target Instruction.reading_pattern Instruction.address_pattern Instruction.held_pattern Instruction.fresh Instruction.formal_reading Instruction.formal_address Instruction.kind Instruction.pattern Instruction.templateField Instruction.template Instruction.communication Instruction.evaluation Instruction.creation Instruction.forking Instruction.group Instruction.spreading Instruction.actions_in Instruction.instruction Image.instruction_of Image.code Ending.padding Ending.ends_at Ending.ending Image.layout Admission.admits_process Admission.admits_node Admission.admits_at Admission.admits Image.entry Image.entries Image.entries_of Image.all_entries Image.end_of Image.beyond_row Image.refused Image.accepted Image.judged_net Image.opened_of Image.number_of Answer.number_of Request.aim_of Request.target_of Request.at Request.spoken Request.asked Request.request_of Request.granted Pick.host_of Pick.slot_of Pick.spare_of Pick.unchanged Pick.performed Pick.with_host Pick.stopped Pick.added Pick.out Pick.room_at_all Pick.added_all Pick.out_all Pick.taken Pick.in_found Pick.input Pick.read_found Pick.read Pick.started_in Pick.eval Pick.fork Pick.opened Pick.unused Pick.created_at Pick.created Pick.create Pick.carried_out Pick.acting Pick.process_step Pick.slot_step Pick.step_of Pick.pick_of Run.answered Run.ran_from Run.run_in Run.run_of Run.numbers Decimal.digit Decimal.digits Decimal.decimal Decimal.signed_decimal Joined.joined Records.process_count Words.word_text Words.spaced Words.line_text Words.printed Shown.unnamed Shown.all_parts Shown.current Lines.fewer Lines.refusal_line Lines.place_words Lines.refused_line Lines.net_line Lines.pick_line Lines.name_words Lines.node_line Lines.item_word Lines.field_words Lines.mark_words Lines.tuple_line Lines.tuple_lines Lines.node_lines Lines.address_lines Lines.net_lines Lines.made_line Lines.pick_lines Lines.tuples_below Lines.tuple_count Lines.total_line Lines.closing_lines Lines.after_lines Register.register_lines Register.register_in Register.register_as Register.register_of Records.row_for Additions.item_of Additions.tuple_of Additions.gaining Additions.own_row Additions.opened_rows Additions.creator_rows
opened = 0

pub starred_edges : StarredEdges
unfolding opened
starred_edges = record {
  no_bytes = refl;
  one_stop = refl;
  last_byte = refl;
  sixth_byte = λ b. refl;
  no_put = refl;
  listing = refl;
  all_ones = refl;
  first_bit = refl;
  nothing_to_take = refl;
  full = refl;
  room = refl;
  covered = refl;
  covered_none = refl;
  other_sort = refl;
  oldest = refl;
}
