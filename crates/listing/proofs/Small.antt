-- No number of the wanted lines has more than ten digits: each is below 10,000,000,000.
-- Assumes nothing.
use Prim.Native.Nat.{ℕ, suc, ◌+◌, ◌*◌, ◌/◌, ◌%◌, ◌<◌, ◌≤◌}
use mathlib.Core.Path.{◌≡◌, refl, ap, ◌∙◌}
use mathlib.Core.Bool.{true}
use mathlib.Core.List.{List}
use native.Mathlib.Omega.{arith}
use lib.ListN.{get_or, take, length-take}
use lib.IntN.{ℤ}
use borrow.Author.Tests.{ltb-true}
use Rattle.net.specs.Records.{field_at, tuple_at, node_at, address_of, process_count}
use Rattle.net.proofs.Every.{chosen, chosen_lt}
use Rattle.net.proofs.FoldLaws.{fold_keeps}
use Rattle.sound.specs.Soundness.{item_sound}
use Rattle.sound.proofs.NodeFacts.{TupleOk as TupleSound, NodeOk as NodeSound}
use Rattle.sound.proofs.NetFacts.{NetOk as NetSound, sound_apart}
use Rattle.sound.proofs.NetChanges.{node_at_law}
use Rattle.fresh.specs.Fresh.{reading_fits, item_fits}
use Rattle.text.proofs.DecimalLaws.{decimal_below}
use Rattle.image.specs.Image.{opened_of, number_of}
use Rattle.accepted.specs.ImageClaims.{AcceptedIsSound, RefusedIsNumbered}
use Rattle.accepted.specs.LengthClaims.{longest_image, FirstBytesDecide}
use Rattle.accepted.proofs.AcceptedSound.{accepted_is_sound, refused_is_numbered}
use Rattle.accepted.proofs.LengthClaims.{first_bytes_decide}
use Rattle.faults.specs.FaultClaims.{RefusedWith, FaultInside}
use Rattle.faults.proofs.FaultClaims.{fault_inside}
use Rattle.step.specs.Pick.{host_of, slot_of}
use Rattle.run.specs.Run.{Ran, ran, numbers, ran_from, run_in, run_of}
use Rattle.runs.proofs.SoundRuns.{ran_sound}
use Rattle.registers.specs.Types.{Item, Tuple, Node, Net, Fault, Opened, Verdict}
use Rattle.registers.proofs.Longest.{fewer_below, answers_small, take_small}
use Rattle.lines.specs.Lines.{fewer, item_word, tuples_below, tuple_count}
use Rattle.written.proofs.OpenedShaped.{opened_shaped}
use Rattle.listing.proofs.Agreeing.{Fine, upward, downward, located, Short}
use Rattle.listing.proofs.Wanted.{TupleHas, NodeHas, NetHas, PickHas, OutcomeHas, of_refused, of_run}
use Rattle.listing.proofs.Readings.{TupleOk, NodeOk, NetOk, ran_after, opened_readings}

-- ---- a number below a power of ten
short : (n : ℕ) → n < 10000000000 → Short n
short n h = record { few = decimal_below 9 n (omega arith) }

-- ---- a refusal: its number is one of the table, and its place one of the first bytes' bits
module _ (image : List ℕ) (f : Fault) (e : (opened_of image).answer ≡ Verdict.Refused f) where
  number_short : Short f.number
  unfolding RefusedIsNumbered number_of
  number_short =
      let is = ap number_of e in
      let most = ((refused_is_numbered image).when_refused f e).1 in
      short _ (omega (arith, is, most))

  place_short : Short f.place
  unfolding FirstBytesDecide FaultInside RefusedWith
  place_short =
      let same = ap (λ (o : Opened). o.answer) (first_bytes_decide image (suc longest_image) (omega arith)) in
      let inside = fault_inside (take (suc longest_image) image) f (same ∙ e) in
      short _ (omega (arith, inside, length-take (suc longest_image) image))

-- ---- counts
fewer_count : (count size : ℕ) → fewer count size ≤ count
unfolding fewer
fewer_count count size = chosen_lt (λ (n : ℕ). n ≤ count) count size _ _ (λ l. omega arith) (λ l. omega arith)

busy_few : (x : Node) → process_count x ≤ 4
unfolding process_count
busy_few x =
    fold_keeps (λ i (n : ℕ). n ≤ i) _ 0 4 (omega arith)
    (λ i n _ h. chosen (λ (m : ℕ). m ≤ suc i) _ _ _ (λ _. omega arith) (λ _. omega arith))

total_few : (s : Net) → tuple_count s ≤ 256
unfolding tuple_count tuples_below
total_few s =
    let some = fewer_below s.addresses 16 in
    let each = fold_keeps (λ i (n : ℕ). n ≤ i * 16) (λ a count. count + fewer (node_at s (address_of a)).stored 16) 0
    (fewer s.addresses 16) (omega arith) (λ i n _ h. let more = fewer_below (node_at s (address_of i)).stored 16 in omega (arith, more, h)) in
    omega (arith, some, each)

-- ---- a sound net whose readings have 32 bits
item_short : (n : ℕ) (x : Item) → n ≤ 16 → item_sound n x ≡ true → item_fits x ≡ true → Fine Short (item_word x)
unfolding item_sound item_fits reading_fits item_word
item_short n (Item.Reading (ℤ.pos v)) m h g = upward (short v (omega (arith, ltb-true v 2147483648 g)))
item_short n (Item.Reading (ℤ.negsuc v)) m h g = downward (short (v + 1) (omega (arith, ltb-true v 2147483648 g)))
item_short n (Item.Address l) m h g = located (short l.0 (omega (arith, ltb-true l.0 n h)))

tuple_short : (n : ℕ) (t : Tuple) → n ≤ 16 → TupleSound n t → TupleOk t → TupleHas Short t
unfolding field_at
tuple_short n t m h g = record {
  mark = short _ (omega (arith, h.mark_ok));
  fields = λ i l.
      let size = fewer_below t.count 4 in
      let count = fewer_count t.count 4 in
      item_short n _ m ((h.fields_ok.holds i (omega (arith, size))).used (omega (arith, count))) (g.each i);
}

node_short : (a f n k : ℕ) (x : Node) → a < 16 → n ≤ 16 → NodeSound f n k x → NodeOk x → NodeHas Short a x
unfolding tuple_at
node_short a f n k x l m h g = record {
  at = short a (omega arith);
  stored = short _ (omega (arith, h.room));
  busy = short _ (omega (arith, busy_few x));
  tuples = λ i j.
      let size = fewer_below x.stored 16 in
      let count = fewer_count x.stored 16 in
      tuple_short n _ m ((h.tuples_ok.holds i (omega (arith, size))).used (omega (arith, count))) (g.tuples i);
}

net_short : (s : Net) → NetSound s → NetOk s → NetHas Short s
net_short s h g = record {
  total = short _ (omega (arith, total_few s));
  nodes = λ a l.
      let size = fewer_below s.addresses 16 in
      let count = fewer_count s.addresses 16 in
      node_short a _ _ _ _ (omega (arith, size)) h.addresses_most (node_at_law s h (address_of a) (omega (arith, count)))
      (g.nodes (address_of a));
}

-- ---- picks and their answers
pick_short : (i b x : ℕ) → i < 100000 → b < 256 → x < 100 → PickHas Short i b x
unfolding host_of slot_of
pick_short i b x h g l = record {
  at = short i (omega arith);
  host = short (b / 16) (omega arith);
  slot = short (b / 4 % 4) (omega arith);
  answer = short x (omega arith);
}

-- ---- the whole
module _ (image picks : List ℕ) (bytes : (i : ℕ) → get_or picks i 0 < 256) where
  run_short :
      (opened_of image).answer ≡ Verdict.Accepted
      → OutcomeHas Short (opened_of image).net (take 65536 picks) (ran (ran_from (opened_of image).net (take 65536 picks)))
  unfolding AcceptedIsSound numbers
  run_short a =
      let s : Net = (opened_of image).net in
      let sound = accepted_is_sound image a in
      let shaped = opened_shaped image in
      let begins = sound_apart s shaped sound in
      let few = length-take 65536 picks in
      let r : Ran = ran_from s (take 65536 picks) in
      of_run (short _ (omega (arith, begins.addresses_most))) (short _ (omega (arith, begins.length_most)))
      (λ i l. pick_short (i + 1) _ _ (omega (arith, few)) (take_small picks 65536 bytes i) (answers_small r.answers i))
      (net_short r.net (ran_sound s (take 65536 picks) shaped sound) (ran_after s (take 65536 picks) (opened_readings image)))

  pub outcome_short : OutcomeHas Short (opened_of image).net (take 65536 picks) (run_of image (take 65536 picks))
  unfolding run_of run_in
  outcome_short = go (opened_of image).answer refl
    where
      go : (v : Verdict) → (opened_of image).answer ≡ v
          → OutcomeHas Short (opened_of image).net (take 65536 picks) (run_in v (opened_of image).net (take 65536 picks))
      go Verdict.Accepted e = run_short e
      go (Verdict.Refused f) e = of_refused (number_short image f e) (place_short image f e)
