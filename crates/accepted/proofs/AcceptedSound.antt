-- An accepted net is sound, and a refused image gives the empty net and a number from 21 to 30: the claims of
-- `specs/ImageClaims.antt`. The net under construction is sound at all times, since zero records are.
-- Assumes nothing.
use Prim.Native.Nat.{ℕ, ◌<◌, ◌≤◌}
use mathlib.Core.Path.{◌≡◌, refl, sym, subst}
use mathlib.Core.Bool.{true}
use mathlib.Core.List.{List}
use native.Mathlib.Omega.{arith}
use lib.ListN.{length}
use Rattle.accepted.specs.Types.{Locality, Place, Node, Instruction, Net}
use Rattle.net.specs.Records.{empty_net, node_at, address_of, place_of}
use Rattle.net.specs.Records.{with_node, with_instruction, with_counts, with_format}
use Rattle.sound.specs.Soundness.{sound_of}
use Rattle.accepted.specs.Types.{Fault}
use Rattle.readers.specs.Reader.{Parsed, Reader, each, fault_at}
use Rattle.accepted.specs.Types.{Verdict, Opened}
use Rattle.image.specs.Image.{each_address, each_place, header, node_rows, rows_of, rows, processes, processes_of, all_processes}
use Rattle.image.specs.Image.{tuples, tuples_of, all_tuples, instruction_of, code}
use Rattle.instructions.specs.Instruction.{instruction}
use Rattle.bitreader.specs.Ending.{ends_at, ending}
use Rattle.image.specs.Image.{layout, beyond_row, refused, accepted, judged_net, opened_of, number_of}
use Rattle.keeping.specs.Admission.{admits}
use Rattle.accepted.specs.ImageClaims.{AcceptedIsSound, RefusedIsEmpty, Numbered, RefusedIsNumbered}
use Rattle.net.proofs.Every.{chosen}
use Rattle.sound.proofs.NodeFacts.{NodeOk}
use Rattle.sound.proofs.CodeFacts.{InstructionOk}
use Rattle.sound.proofs.NetFacts.{NetWith, net_sound}
use Rattle.sound.proofs.NetChanges.{empty_net_law, node_at_law, with_node_law, with_instruction_law}
use Rattle.accepted.proofs.Gives.{Fine, value, stopped, Gives, gives_pure, gives_weaken, gives_then, gives_and}
use Rattle.accepted.proofs.Gives.{gives_each, gives_require, Between, gives_field}
use Rattle.accepted.proofs.AcceptedNode.{gives_node_rows, gives_processes, gives_tuples}
use Rattle.accepted.proofs.AcceptedCode.{gives_instruction}

-- ---- the net under construction
record Making (f n k : ℕ) (s : Net) : Type 0 where
  format_is : s.format ≡ f
  addresses_are : s.addresses ≡ n
  length_is : s.length ≡ k
  facts : NetWith f n k s

-- what the whole layout gives: a sound net, with room for no more than a net has
pub record Laid (s : Net) : Type 0 where
  pub sound : sound_of s ≡ true
  pub few : s.addresses ≤ 16
  pub short : length s.code ≤ 512

facts_at : {f n k g m j : ℕ} (s : Net) → g ≡ f → m ≡ n → j ≡ k → NetWith f n k s → NetWith g m j s
facts_at s a b c facts = rw (a, b, c) facts

net_laid : (f n k : ℕ) (s : Net) → Making f n k s → Laid s
net_laid f n k s ok = record {
  sound = net_sound s (facts_at s ok.format_is ok.addresses_are ok.length_is ok.facts);
  few = omega (arith, ok.addresses_are, ok.facts.addresses_most);
  short = omega (arith, ok.facts.code_ok.size_is);
}

-- a reader over a number, at an equal number
gives_at : {A : Type 0} {P : A → Type 0} {m n : ℕ} (f : ℕ → Reader A) → m ≡ n → Gives (f n) P → Gives (f m) P
gives_at {P} f e g = subst (λ x. Gives (f x) P) (sym e) g

-- ---- 1. the header: every record is zero
record Begun (s : Net) : Type 0 where
  f : ℕ
  n : ℕ
  k : ℕ
  making : Making f n k s

begin :
    (f n k : ℕ) → Between 1 f 3 → Between 1 n 17 → Between 1 k 513 → Making f n k (with_counts (with_format empty_net f) n k)
unfolding with_counts with_format
begin f n k d h g = record {
  format_is = refl;
  addresses_are = refl;
  length_is = refl;
  facts =
      empty_net_law f n k f n k d.above (omega (arith, d.below)) h.above (omega (arith, h.below)) g.above
      (omega (arith, g.below));
}

gives_header : Gives header Begun
unfolding header
gives_header =
    gives_then (gives_field 4 1 3 21 (omega arith))
    (λ f d. gives_then (gives_field 5 1 17 22 (omega arith))
    (λ n h. gives_then (gives_field 10 1 513 22 (omega arith))
    (λ k g. gives_pure _ _ (record { f = f; n = n; k = k; making = begin f n k d h g }))))

module _ (f n k : ℕ) where
  -- ---- 2 to 4. what stands at each address
  set_node : (s : Net) (a : Locality) (x : Node) → a.0 < n → Making f n k s → NodeOk f n k x → Making f n k (with_node s a x)
  unfolding with_node
  set_node s a x h ok x-ok =
      record {
        format_is = ok.format_is;
        addresses_are = ok.addresses_are;
        length_is = ok.length_is;
        facts = with_node_law s ok.facts a x h x-ok;
      }

  node_ok : (s : Net) (a : Locality) → a.0 < n → Making f n k s → NodeOk f n k (node_at s a)
  node_ok s a h ok = node_at_law s ok.facts a h

  -- turns that keep the net sound, one for each address or for each place
  gives_all :
      (r : ℕ → Net → Reader Net) (m i : ℕ) → m ≡ i
      → ((j : ℕ) (s : Net) → j < i → Making f n k s → Gives (r j s) (Making f n k)) → (s : Net) → Making f n k s
      → Gives (each m r s) (Making f n k)
  gives_all r m i e turn s ok =
      gives_at (λ j. each j r s) e (gives_each (λ j. Making f n k) i r (λ j h t t-ok. turn j t h t-ok) s ok)

  gives_rows_of : (a : Locality) (s : Net) → a.0 < n → Making f n k s → Gives (rows_of a s) (Making f n k)
  unfolding rows_of
  gives_rows_of a s h ok =
      gives_then
      (gives_at (λ g. node_rows g s.addresses (node_at s a)) ok.format_is
      (gives_at (λ m. node_rows f m (node_at s a)) ok.addresses_are (gives_node_rows f n k _ (node_ok s a h ok))))
      (λ x x-ok. gives_pure _ _ (set_node s a x h ok x-ok))

  gives_rows : (s : Net) → Making f n k s → Gives (rows s) (Making f n k)
  unfolding rows each_address
  gives_rows s ok =
      gives_all (λ i. rows_of (address_of i)) _ n ok.addresses_are (λ i. gives_rows_of (address_of i)) s ok

  gives_processes_of : (a : Locality) (s : Net) → a.0 < n → Making f n k s → Gives (processes_of a s) (Making f n k)
  unfolding processes_of
  gives_processes_of a s h ok =
      gives_then
      (gives_at (λ m. processes a m (node_at s a)) ok.length_is (gives_processes f n k a _ h (node_ok s a h ok)))
      (λ x x-ok. gives_pure _ _ (set_node s a x h ok x-ok))

  gives_all_processes : (s : Net) → Making f n k s → Gives (all_processes s) (Making f n k)
  unfolding all_processes each_address
  gives_all_processes s ok =
      gives_all (λ i. processes_of (address_of i)) _ n ok.addresses_are (λ i. gives_processes_of (address_of i)) s ok

  gives_tuples_of : (a : Locality) (s : Net) → a.0 < n → Making f n k s → Gives (tuples_of a s) (Making f n k)
  unfolding tuples_of
  gives_tuples_of a s h ok =
      gives_then
      (gives_at (λ m. tuples a m (node_at s a)) ok.addresses_are (gives_tuples f n k a _ h (node_ok s a h ok)))
      (λ x x-ok. gives_pure _ _ (set_node s a x h ok x-ok))

  gives_all_tuples : (s : Net) → Making f n k s → Gives (all_tuples s) (Making f n k)
  unfolding all_tuples each_address
  gives_all_tuples s ok =
      gives_all (λ i. tuples_of (address_of i)) _ n ok.addresses_are (λ i. gives_tuples_of (address_of i)) s ok

  -- ---- 5. the code
  set_instruction :
      (s : Net) (p : Place) (c : Instruction) → p.0 < k → Making f n k s → InstructionOk f n k c
      → Making f n k (with_instruction s p c)
  unfolding with_instruction
  set_instruction s p c h ok e = record {
    format_is = ok.format_is;
    addresses_are = ok.addresses_are;
    length_is = ok.length_is;
    facts = with_instruction_law s ok.facts p c h e;
  }

  gives_instruction_of : (p : Place) (s : Net) → p.0 < k → Making f n k s → Gives (instruction_of p s) (Making f n k)
  unfolding instruction_of
  gives_instruction_of p s h ok =
      gives_then
      (gives_at (λ m. instruction m s.addresses s.length) ok.format_is
      (gives_at (λ m. instruction f m s.length) ok.addresses_are
      (gives_at (instruction f n) ok.length_is (gives_instruction f n k))))
      (λ c e. gives_pure _ _ (set_instruction s p c h ok e))

  gives_code : (s : Net) → Making f n k s → Gives (code s) (Making f n k)
  unfolding code each_place
  gives_code s ok =
      gives_all (λ i. instruction_of (place_of i)) _ k ok.length_is (λ i. gives_instruction_of (place_of i)) s ok

-- ---- 6. the end
gives_ending : Gives ending (λ u. Unit {0})
unfolding ending
gives_ending =
    record { run = λ s p. (gives_weaken (gives_require (ends_at s p) 29 (omega arith)) (λ _ _. tt)).run s p }

-- ---- the whole
pub gives_layout : Gives layout Laid
unfolding layout
gives_layout =
    gives_then gives_header
    (λ s₁ ok. let f = ok.f in let n = ok.n in let k = ok.k in
    gives_then (gives_rows f n k s₁ ok.making)
    (λ s₂ ok₂. gives_then (gives_all_processes f n k s₂ ok₂)
    (λ s₃ ok₃. gives_then (gives_all_tuples f n k s₃ ok₃)
    (λ s₄ ok₄. gives_then (gives_code f n k s₄ ok₄)
    (λ s₅ ok₅. gives_and gives_ending (λ _ _. gives_pure _ _ (net_laid f n k s₅ ok₅)))))))

-- ---- the claims, of what is opened
record Claimed (r : Opened) : Type 0 where
  when_accepted : r.answer ≡ Verdict.Accepted → sound_of r.net ≡ true
  when_refused : (f : Fault) → r.answer ≡ Verdict.Refused f → r.net ≡ empty_net
  is_numbered : Numbered r.answer

pub never : {P : Type 0} (f : Fault) → Verdict.Refused f ≡ Verdict.Accepted → P
never f e = let z : ◌≡◌ {A = ℕ} 0 1 = cc in absurd (omega arith)

claimed_refused : (f : Fault) → 21 ≤ f.number → f.number ≤ 30 → Claimed (refused f)
unfolding refused number_of
claimed_refused f l m = record {
  when_accepted = never f;
  when_refused = λ g e. refl;
  is_numbered = record { when_accepted = (λ e. absurd (omega arith), never f); when_refused = λ g e. (l, m) };
}

claimed_accepted : (s : Net) → sound_of s ≡ true → Claimed (accepted s)
unfolding accepted number_of
claimed_accepted s h = record {
  when_accepted = λ e. h;
  when_refused = λ f e. never f (sym e);
  is_numbered = record { when_accepted = (λ e. refl, λ e. refl); when_refused = λ f e. never f (sym e) };
}

claimed : (image : List ℕ) (o : Parsed Net) → Fine Laid o → Claimed (judged_net image o)
unfolding judged_net beyond_row fault_at
claimed image _ (value {a = s} h) =
    chosen Claimed (admits s) _ _ (λ e. claimed_accepted s h.sound)
    (λ e. claimed_refused (beyond_row image s) (omega arith) (omega arith))
claimed image _ (stopped {f} l) = claimed_refused f l.least (omega (arith, l.most))

opened_claimed : (s : List ℕ) → Claimed (opened_of s)
unfolding opened_of
opened_claimed s = claimed s (layout s 0) (gives_layout.run s 0)

pub accepted_is_sound : AcceptedIsSound
unfolding AcceptedIsSound
accepted_is_sound s e = (opened_claimed s).when_accepted e

pub refused_is_empty : RefusedIsEmpty
unfolding RefusedIsEmpty
refused_is_empty s f e = (opened_claimed s).when_refused f e

pub refused_is_numbered : RefusedIsNumbered
unfolding RefusedIsNumbered
refused_is_numbered s = (opened_claimed s).is_numbered
