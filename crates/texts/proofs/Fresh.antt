-- The net of a source is fresh (`Fresh.antt` of `fresh`), where the source is in range (`Lines.antt`), its names are right, it
-- has 1 to 512 instructions, and each process keeps within its row. Assumes nothing.
use Prim.Native.Nat.{ℕ, ◌<◌, ◌≤◌}
use mathlib.Core.Path.{◌≡◌, sym, ap, ◌∙◌}
use mathlib.Core.Bool.{true}
use native.Mathlib.Omega.{arith}
use lib.Dec.{ltb}
use Rattle.net.specs.Choice.{both, all}
use Rattle.net.specs.Records.{address_of, process_at, node_at}
use Rattle.net.proofs.Laws.{both_i, all_i}
use Rattle.net.proofs.Every.{filled_each, filled_map}
use Rattle.sound.specs.Soundness.{all_unset, sound_of}
use Rattle.sound.proofs.NodeFacts.{of_zero}
use Rattle.sound.proofs.NetFacts.{net_sound}
use Rattle.keeping.specs.Admission.{admits}
use Rattle.fresh.specs.Fresh.{node_fits, instruction_fits, net_fits, own_origins, own_marks, starts_at, fresh_of}
use Rattle.fresh.proofs.FitLaws.{net_fits_law, zero_node_fits, zero_instruction_fits}
use Rattle.fresh.proofs.StartLaws.{node_starts_law}
use Rattle.linking.specs.Source.{Policy, plain, by_origin, Source}
use Rattle.linking.specs.Names.{names_right}
use Rattle.linking.specs.Compiled.{total, format_of, place_in, with_code, compiled}
use Rattle.linking.specs.NodeCounts.{Counts}
use Rattle.linking.proofs.NodeCounts.{counts_governed, counts_all}
use Rattle.notation.specs.Scopes.{scope_of}
use Rattle.texts.specs.Types.{Locality}
use Rattle.texts.proofs.FreshParts.{zero_fresh, node_fits_law, own_origins_law, own_marks_law, NetFresh}
use Rattle.texts.proofs.Lines.{SourceOk}
use Rattle.texts.proofs.CompiledNet.{compiled_parts}

format_range : (x : Policy) → (1 ≤ format_of x) × (format_of x ≤ 2)
unfolding format_of
format_range (plain rs) = omega arith
format_range (by_origin rss) = omega arith

module _ (f : ℕ) (x : Source) (ok : SourceOk f x) (right : names_right x.lines ≡ true) where
  parts : NetFresh (scope_of x.policy) (total x.lines) (compiled x)
  parts = compiled_parts f x ok right

  pub compiled_format : (compiled x).format ≡ f
  unfolding scope_of
  compiled_format = parts.format_is ∙ ok.policy_ok.format_is

  fits : net_fits (compiled x) ≡ true
  fits =
      net_fits_law (compiled x)
      (record {
        size_is = parts.nodes.size_is;
        holds = filled_each {Q = λ y. node_fits y ≡ true} parts.nodes (node_fits_law _ _) (of_zero _ zero_node_fits);
      })
      (record {
        size_is = parts.code.size_is;
        holds = filled_each {Q = λ c. instruction_fits c ≡ true} parts.code (λ c g. g.1) (of_zero _ zero_instruction_fits);
      })

  sound : 1 ≤ total x.lines → total x.lines ≤ 512 → sound_of (compiled x) ≡ true
  unfolding scope_of
  sound some few =
      net_sound (compiled x)
      (rw (parts.format_is, parts.addresses_are, parts.length_is) (record {
        format_least = (format_range x.policy).0;
        format_most = (format_range x.policy).1;
        addresses_least = ok.policy_ok.some;
        addresses_most = ok.policy_ok.few;
        length_least = some;
        length_most = few;
        nodes_ok = filled_map (λ y g. g.sound) (λ y e. e) parts.nodes;
        code_ok = filled_map (λ c g. g.0) (λ c e. e) parts.code;
      }))

  -- ---- each node as it starts
  counts : Counts x.lines (compiled x)
  unfolding compiled with_code node_at
  counts =
      let c = counts_all _ (counts_governed x.policy _ ok.policy_ok.few) (place_in x.lines) x.lines ok.room in
      record { nodes_are = c.nodes_are; at = c.at }

  unset : (a : Locality) → a.0 < 16 → (i : ℕ) → i < 4 → all_unset (process_at (node_at (compiled x) a) i) ≡ true
  unfolding node_at process_at
  unset a h =
      filled_each {Q = λ y. (i : ℕ) → i < 4 → all_unset (process_at y i) ≡ true} parts.nodes
      (λ y g. g.unset.holds) (of_zero _ (zero_fresh (scope_of x.policy) 1).unset.holds) a.0 h

  own : (a : Locality) → a.0 < 16 → both (own_origins a (node_at (compiled x) a)) (own_marks a (node_at (compiled x) a)) ≡ true
  unfolding node_at
  own a h =
      let o = parts.owned.holds a.0 h in
      both_i _ _ (own_origins_law a _ o) (own_marks_law a _ o)

  starts : all 16 (λ a. starts_at (compiled x) (address_of a)) ≡ true
  unfolding starts_at
  starts = all_i 16 _ (λ a h.
      let c = counts.at (address_of a) h in
      both_i _ _ (node_starts_law _ (λ i l. c.slots i l ∙ ap (ltb i) (sym c.processes)) (unset (address_of a) h)) (own (address_of a) h))

  pub compiled_fresh :
      1 ≤ total x.lines → total x.lines ≤ 512 → admits (compiled x) ≡ true → fresh_of (compiled x) ≡ true
  unfolding fresh_of
  compiled_fresh some few kept = both_i _ _ fits (both_i _ _ (sound some few) (both_i _ _ starts kept))
