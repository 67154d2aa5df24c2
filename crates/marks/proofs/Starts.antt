-- What an accepted source's net has, and what picks keep of it: it is sound, its arrays have their lengths, and its tuples
-- bear their own nodes' addresses.
-- Assumes nothing.
use Prim.Native.Nat.{ℕ, ◌<◌, ◌≤◌}
use mathlib.Core.Path.{◌≡◌, ap}
use native.Mathlib.Omega.{arith}
use native.Mathlib.Decide.{dec_le}
use lib.ListN.{get_or-eq_default}
use borrow.Author.Tests.{lt-ltb, eqb-true}
use Rattle.net.specs.Records.{zero_node, address_of, node_at, tuple_at}
use Rattle.net.proofs.Laws.{both_l, both_r, implies_e, all_e}
use Rattle.net.proofs.Past.{past_node}
use Rattle.sound.proofs.NetFacts.{NetOk, sound_apart}
use Rattle.sound.proofs.NetChanges.{node_at_law}
use Rattle.fresh.specs.Fresh.{node_starts, own_origins, own_mark, own_marks, starts_at}
use Rattle.texts.specs.TextClaims.{TextIsFresh}
use Rattle.texts.proofs.TextClaims.{text_is_fresh}
use Rattle.written.proofs.FreshFits.{FreshParts, fresh_apart}
use Rattle.written.proofs.AcceptedWritten.{accepted_fresh}
use Rattle.runs.proofs.SoundRuns.{ran_sound}
use Rattle.marks.specs.Types.{Locality, Node, Net}
use Rattle.marks.specs.MarkClaims.{Given, by_image, by_text, Comes, by_picks}

-- ---- the net of an accepted source
given_fresh : (s : Net) → Given s → FreshParts s
unfolding TextIsFresh
given_fresh _ (by_image image a) = fresh_apart _ (accepted_fresh image a)
given_fresh _ (by_text text a) = fresh_apart _ (text_is_fresh text a)

-- ---- its tuples

-- a node that has tuples is in use
in_use : (s : Net) → NetOk s → (a : Locality) (i : ℕ) → i < (node_at s a).stored → a.0 < s.addresses
unfolding node_at zero_node
in_use s ok a i h = go (dec_le s.addresses a.0) (dec_le 16 a.0)
  where
    none : {C : Type 0} → (node_at s a).stored ≡ 0 → C
    none e = absurd (omega arith)

    go : Dec (s.addresses ≤ a.0) → Dec (16 ≤ a.0) → a.0 < s.addresses
    go (no low) d = omega arith
    go (yes high) (yes past) =
        none
        (ap (λ (x : Node). x.stored)
        (get_or-eq_default s.nodes past_node (omega (arith, ok.nodes_ok.size_is))))
    go (yes high) (no within) =
        none (ap (λ (x : Node). x.stored) ((ok.nodes_ok.holds a.0 (omega arith)).unused high))

pub own_marks_law :
    (s : Net) → Given s → (a : Locality) (i : ℕ) → i < (node_at s a).stored → (tuple_at (node_at s a) i).mark ≡ a
unfolding starts_at own_marks own_mark
own_marks_law s g a i h =
    let z = given_fresh s g in
    let ok = sound_apart s z.shaped z.sound in
    let l = in_use s ok a i h in
    let few = (node_at_law s ok a l).room in
    let own = both_r (node_starts (node_at s a)) _ (all_e 16 _ z.starts a.0 (omega (arith, ok.addresses_most))) in
    let here = both_r (own_origins a (node_at s a)) _ own in
    let e = eqb-true _ _ (implies_e _ _ (all_e 16 _ here i (omega arith)) (lt-ltb _ _ h)) in
    λ j. record { 0 = e j }

-- ---- after picks
pub comes_ok : (s : Net) → Comes s → NetOk s
comes_ok _ (by_picks {s} picks g) = let z = given_fresh s g in ran_sound s picks z.shaped z.sound
