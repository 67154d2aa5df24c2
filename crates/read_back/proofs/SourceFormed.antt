-- The source of a fresh net is well formed (`WellFormed.antt` of `sources`). Assumes nothing.
use Prim.Native.Nat.{ℕ, ◌<◌}
use mathlib.Core.Path.{◌≡◌, sym, ap, subst, ◌∙◌}
use mathlib.Core.Bool.{true}
use mathlib.Core.List.{[]}
use native.Mathlib.Omega.{arith}
use Rattle.net.specs.Records.{tuple_at}
use Rattle.keeping.specs.Admission.{admits}
use Rattle.sources.specs.WellFormed.{Each, ProcessFormed, calls, LineFormed, defines, runs, holds, WellFormed}
use Rattle.written.proofs.WrittenWhole.{NetOk}
use Rattle.read_back.specs.Types.{Place, Net, Scope}
use Rattle.read_back.specs.NetSource.{named, definitions_of, process_lines, tuple_lines, lines_at, lines_of, source_of}
use Rattle.read_back.proofs.EachLaws.{each_append, each_joined, each_listed, each_chosen}
use Rattle.read_back.proofs.FieldsFormed.{tuple_formed}
use Rattle.read_back.proofs.PolicyAgain.{scope_again, policy_formed}
use Rattle.read_back.proofs.LinesCounted.{processes_before, tuples_before}
use Rattle.read_back.proofs.NetLines.{scope, code_at, located, busy_within, few_instructions, node_ok, code_ok, lines_total, names_are_right}
use Rattle.read_back.proofs.NetAgain.{compiled_again}

name_formed : (x : Scope) (d : ℕ) (p : Place) → p.0 < 512 → ProcessFormed x d (named p)
unfolding named
name_formed x d p h = calls h

module _ (s : Net) (ok : NetOk s) where
  lines_formed : Each (LineFormed (scope s)) [] (lines_of s)
  unfolding lines_of definitions_of lines_at process_lines tuple_lines tuple_at
  lines_formed =
      each_append (located s)
      (each_listed [] s.length _ (λ i h. let few = few_instructions s ok in defines (omega arith) (code_ok s ok i h).formed))
      (each_joined _ s.addresses _ (λ a h.
      let node = node_ok s ok a h in
      each_append _
      (each_joined _ 4 _ (λ j l. each_chosen _ _ _ (λ e.
      let within = busy_within _ _ _ _ node.slots_ok.slots j l e in
      let room = processes_before s (code_at s) s.length a j in
      let few = few_instructions s ok in
      runs h (omega arith) (name_formed (scope s) 32 _ (omega arith)))))
      (each_listed _ _ _ (λ j l.
      let room = tuples_before s (code_at s) s.length a j in
      let stored = node.store_ok.few in
      holds h (omega arith) (tuple_formed _ _ _ ((node.store_ok.tuples_ok.holds j (omega arith)).used l))))))

  pub source_formed : admits s ≡ true → WellFormed (source_of s)
  unfolding source_of
  source_formed admitted =
      let count = lines_total s ok in
      let few = few_instructions s ok in
      record {
        policies = policy_formed s ok;
        each_line = subst (λ (x : Scope). Each (LineFormed x) [] (lines_of s)) (sym (scope_again s ok)) lines_formed;
        names = names_are_right s ok;
        least = omega (arith, ok.length_ok.above);
        most = omega arith;
        admitted = ap admits (compiled_again s ok) ∙ admitted;
      }
