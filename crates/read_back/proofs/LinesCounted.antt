-- How many processes and tuples an address has by the lines of a net's source (`Counts.antt` of `linking`): before each line of its own
-- fewer than there is room for. Assumes nothing.
use Prim.Native.Nat.{ℕ, zero, suc, ◌+◌, ◌<◌, ◌≤◌}
use mathlib.Core.Path.{◌≡◌, refl}
use mathlib.Core.List.{List, [], ◌∷◌, ◌++◌}
use native.Mathlib.Omega.{arith}
use lib.Dec.{eqb}
use borrow.Author.Tests.{ne_eqb}
use Rattle.net.specs.Choice.{choose}
use Rattle.net.specs.Records.{zero_tuple, process_at, tuple_at, node_at, address_of, marked}
use Rattle.net.proofs.Laws.{choose_false}
use Rattle.net.proofs.Every.{chosen}
use Rattle.text.specs.Joined.{joined}
use Rattle.linking.specs.Source.{Line, process, tuple}
use Rattle.linking.specs.Counts.{processes_in, tuples_in, counted}
use Rattle.sources.specs.WellFormed.{Each, none, more}
use Rattle.read_back.specs.Types.{Locality, Instruction, Net}
use Rattle.read_back.specs.NetSource.{listed, named, process_lines, tuple_lines, lines_at}
use Rattle.read_back.proofs.EachLaws.{each_append, each_joined, each_listed, each_chosen}
use Rattle.read_back.proofs.LineLists.{counted_append}
use Rattle.read_back.proofs.Definitions.{definitions, definitions_count}

-- ---- lines that count for nothing, and parts that count for one at most
module _ (f : Line → ℕ) where
  none_counted : {ms : List Line} (ls : List Line) → Each (λ before l. f l ≡ 0) ms ls → counted f ls ≡ 0
  unfolding counted
  none_counted _ none = refl
  none_counted _ (more {y = l} {ys = ls} h e) = let rest = none_counted ls e in omega arith

  few_counted : (n : ℕ) (g : ℕ → List Line) → ((i : ℕ) → counted f (g i) ≤ 1) → counted f (joined n g) ≤ n
  unfolding joined counted
  few_counted zero g h = omega arith
  few_counted (suc n) g h =
      let before = few_counted n g h in
      let last = h n in
      omega (arith, counted_append f (joined n g) (g n))

-- ---- the lines at an address, by a count that looks at no definition
module _ (s : Net) (c : ℕ → Instruction) (k : ℕ) (a : ℕ) where
  abbrev here : Locality
  here = address_of a

  abbrev earlier : List Line
  earlier = definitions c k ++ joined a (λ b. lines_at s (address_of b))

  abbrev process_line : ℕ → List Line
  process_line j = choose (process_at (node_at s here) j).busy (process here (named (process_at (node_at s here) j).at) ∷ []) []

  abbrev tuple_line : ℕ → Line
  tuple_line j = tuple here (marked zero_tuple.mark (tuple_at (node_at s here) j))

  elsewhere : (b : ℕ) → b < a → choose {A = ℕ} (eqb a b) 1 0 ≡ 0
  elsewhere b h = choose_false (eqb a b) 1 0 (ne_eqb a b (λ e. omega arith))

  no_processes : counted (processes_in here) earlier ≡ 0
  unfolding processes_in lines_at process_lines tuple_lines
  no_processes =
      let defined = definitions_count c (processes_in here) (λ i. refl) k in
      let others = none_counted (processes_in here) {ms = []} (joined a (λ b. lines_at s (address_of b)))
      (each_joined [] a _ (λ b h. each_append _
      (each_joined _ 4 _ (λ j l. each_chosen _ _ _ (λ e. elsewhere b h))) (each_listed _ _ _ (λ j l. refl)))) in
      omega (arith, counted_append (processes_in here) (definitions c k) (joined a (λ b. lines_at s (address_of b))))

  no_tuples : counted (tuples_in here) earlier ≡ 0
  unfolding tuples_in lines_at process_lines tuple_lines
  no_tuples =
      let defined = definitions_count c (tuples_in here) (λ i. refl) k in
      let others = none_counted (tuples_in here) {ms = []} (joined a (λ b. lines_at s (address_of b)))
      (each_joined [] a _ (λ b h. each_append _
      (each_joined _ 4 _ (λ j l. each_chosen _ _ _ (λ e. refl))) (each_listed _ _ _ (λ j l. elsewhere b h)))) in
      omega (arith, counted_append (tuples_in here) (definitions c k) (joined a (λ b. lines_at s (address_of b))))

  one_at_most : (b : ℕ) → choose (eqb a b) 1 0 ≤ 1
  one_at_most b = chosen (λ (n : ℕ). n ≤ 1) (eqb a b) 1 0 (λ e. omega arith) (λ e. omega arith)

  -- before its process j
  pub processes_before : (j : ℕ) → counted (processes_in here) (earlier ++ joined j process_line) ≤ j
  unfolding counted processes_in
  processes_before j =
      let none = no_processes in
      let own = few_counted (processes_in here) j process_line (λ i.
      chosen (λ (ls : List Line). counted (processes_in here) ls ≤ 1) (process_at (node_at s here) i).busy _ []
      (λ e. omega (arith, one_at_most a)) (λ e. omega arith)) in
      omega (arith, counted_append (processes_in here) earlier (joined j process_line))

  -- before its tuple j
  pub tuples_before : (j : ℕ) → counted (tuples_in here) ((earlier ++ process_lines here (node_at s here)) ++ listed j tuple_line) ≤ j
  unfolding counted tuples_in process_lines listed
  tuples_before j =
      let none = no_tuples in
      let slots = none_counted (tuples_in here) {ms = []} (joined 4 process_line)
      (each_joined [] 4 _ (λ i l. each_chosen _ _ _ (λ e. refl))) in
      let own = few_counted (tuples_in here) j (λ i. tuple_line i ∷ []) (λ i. omega (arith, one_at_most a)) in
      let middle = counted_append (tuples_in here) earlier (joined 4 process_line) in
      omega (arith, counted_append (tuples_in here) (earlier ++ joined 4 process_line) (joined j (λ i. tuple_line i ∷ [])))
