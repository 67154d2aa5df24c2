-- Laws of actions that hold no process (`Alone` of `specs/Progress.antt`). Assumes nothing.
use Rattle.std.proofs.Common.{◌≡◌, ℕ, refl}
use Rattle.net.specs.Records.{zero_instruction}
use Rattle.terms.specs.Terms.{out, input, read, newloc, out_all}
use Rattle.terms.specs.Numbering.{size_in}
use Rattle.terms.specs.Table.{target_word, action_words, words_in, marked_in}
use Rattle.processes.specs.Types.{Target, Group, Kind, Entry, Instruction}
use Rattle.processes.proofs.Keeping.{keeping}
use Rattle.processes.specs.Progress.{entry_for, Alone}

-- by what the entry is
module _ (c : Instruction) (w : ℕ) (e : Entry) where
  pub out_alone : (t : Target) → w ≡ target_word t → e ≡ entry_for Kind.Out w c → Alone (out c t) e
  unfolding action_words words_in size_in marked_in
  out_alone t h d = rw (d, h) (record { words = λ n i. refl; none = λ n. refl; small = refl; unmarked = λ used. refl })

  pub all_alone : (g : Group) → w ≡ g.0 → e ≡ entry_for Kind.OutAll w c → Alone (out_all c g) e
  unfolding action_words words_in size_in marked_in
  all_alone g h d = rw (d, h) (record { words = λ n i. refl; none = λ n. refl; small = refl; unmarked = λ used. refl })

  pub input_alone : (t : Target) → w ≡ target_word t → e ≡ entry_for Kind.In w c → Alone (input c t) e
  unfolding action_words words_in size_in marked_in
  input_alone t h d = rw (d, h) (record { words = λ n i. refl; none = λ n. refl; small = refl; unmarked = λ used. refl })

  pub read_alone : (t : Target) → w ≡ target_word t → e ≡ entry_for Kind.Read w c → Alone (read c t) e
  unfolding action_words words_in size_in marked_in
  read_alone t h d = rw (d, h) (record { words = λ n i. refl; none = λ n. refl; small = refl; unmarked = λ used. refl })

pub newloc_alone : (v : ℕ) (c : Instruction) (e : Entry) → c ≡ zero_instruction → e ≡ entry_for Kind.New v c → Alone (newloc v) e
unfolding action_words words_in size_in marked_in
newloc_alone v c e z d = rw (d, z) (record { words = λ n i. refl; none = λ n. refl; small = refl; unmarked = λ used. refl })

pub ruleset singles = (keeping, out_alone, all_alone, input_alone, read_alone, newloc_alone)
