-- Rows by origin (`OriginRows.antt` of `rows`): node after node they are read up to the first line that is none, as they are
-- printed. What a row names is settled by its first bytes. Assumes nothing.
use Prim.Native.Nat.{ℕ, suc, ◌+◌, ◌-◌, ◌<◌, ◌≤◌}
use mathlib.Core.Path.{◌≡◌, refl, sym, ap, subst, ◌∙◌}
use mathlib.Core.Logic.{inl, inr}
use mathlib.Core.Bool.{Bool, true, false}
use mathlib.Core.List.{List, [], ◌∷◌, ◌++◌}
use native.Mathlib.Omega.{arith}
use lib.ListN.{length, get_or}
use lib.Dec.{eqb}
use borrow.Author.Tests.{eq-eqb, ne_eqb}
use Rattle.net.specs.Choice.{choose, both, all}
use Rattle.net.specs.Records.{zero_row}
use Rattle.net.proofs.Laws.{all_i, all_e}
use Rattle.readers.specs.Reader.{got, Reader, pure, and_then, ◌>>=◌, ◌>>◌}
use Rattle.text.specs.Bytes.{bytes}
use Rattle.text.specs.Decimal.{decimal}
use Rattle.lexemes.specs.Lexemes.{is_digit, fail, number}
use Rattle.rows.specs.Rows.{within}
use Rattle.rows.specs.OriginRows.{is_origin_row, is_number, names_node, origin_row, fault_where, first_after, first_rows, node_rows_after, seventeenth}
use Rattle.rows.specs.OriginRows.{node_rows, nodes_after, number_over, all_nodes_within, origin_rows}
use Rattle.sources.specs.Types.{Row}
use Rattle.sources.specs.Printed.{row_rest_text, origin_row_text, node_text, nodes_text}
use Rattle.sources.specs.WellFormed.{Each, more, NodeFormed}
use Rattle.sources.proofs.Stands.{Stands, stands_first_law, stands_rest, stands_opens}
use Rattle.sources.proofs.ReadsBefore.{ReadsBefore, Is, Then, Or, Settles, still, before_as, before_equal, before_pure, before_fail, before_then}
use Rattle.sources.proofs.ReadsBefore.{before_require, before_kept, before_choice}
use Rattle.sources.proofs.ReadsPrints.{before}
use Rattle.sources.proofs.Numbers.{low_byte, reads_number}
use Rattle.sources.proofs.Elements.{each_as, each_tested, test_each}
use Rattle.sources.proofs.Openings.{both_none, opens_here}
use Rattle.sources.proofs.Rows.{reads_origin_row}
use Rattle.sources.proofs.Sequences.{Anything, Sequence, Later, One, Next, next_to, next_from, reads_up_to, exactly_opens, reads_exactly}
use Rattle.sources.proofs.AllRows.{Whole, rows_formed, rows_whole, rows_within}

-- ---- the fault n where the test holds of what stands here
unless_then : {A : Type 0} (test : List ℕ → ℕ → Bool) (n : ℕ) (f : Reader A) (s : List ℕ) (p : ℕ)
    → (fault_where test n >> f) s p ≡ choose (test s p) (fail n) f s p
unfolding fault_where ◌>>◌ ◌>>=◌ and_then pure fail choose
unless_then test n f s p = go (test s p)
  where
    go : (b : Bool) → and_then (choose b (fail n) (pure {A = Unit {0}} tt) s p) s (λ a. f) ≡ choose b (fail n) f s p
    go true = refl
    go false = refl

module _ {A : Type 0} {R : A → List ℕ → Type 0} {F : List ℕ → ℕ → Type 0} (test : List ℕ → ℕ → Bool) (n : ℕ) {f : Reader A} where
  before_unless : ReadsBefore f R F → Settles R F test false → ReadsBefore (fault_where test n >> f) R F
  before_unless r other =
      before_as (before_equal _ (unless_then test n f) (before_choice test (before_fail n) r (λ a u s p x. absurd x) other)) to (λ a u x. inr x) (λ s q e. e)
    where
      to : (a : A) (u : List ℕ) → Or (λ b v. ⊥) R a u → R a u
      to a u (inl x) = absurd x
      to a u (inr x) = x

-- ---- what a line names

-- what stands behind the rows is none of them
abbrev pub NoOriginRow : List ℕ → ℕ → Type 0
NoOriginRow s q = is_origin_row s q ≡ false

-- what stands behind a node's rows is none of them
abbrev Passed : ℕ → List ℕ → ℕ → Type 0
Passed i s q = names_node i s q ≡ false

module _ (i j : ℕ) (r : Row) (v s : List ℕ) (p : ℕ) (h : i ≤ 15) (st : Stands s p (origin_row_text i j r ++ v)) where
  pub origin_here : is_origin_row s p ≡ true
  unfolding is_origin_row origin_row_text bytes
  origin_here =
      opens_here i s p h (102 ∷ 114 ∷ 111 ∷ 109 ∷ []) (32 ∷ (decimal j ++ (bytes " has" ++ row_rest_text r))) (stands_first_law s p (origin_row_text i j r) v st)

  number_here : number 15 s p ≡ got i (p + length (decimal i))
  unfolding origin_row_text bytes
  number_here =
      let whole = stands_first_law s p (origin_row_text i j r) v st in
      let rest = bytes " from " ++ (decimal j ++ (bytes " has" ++ row_rest_text r)) in
      (reads_number 15 (omega arith)).back s p i (decimal i) (h, refl) (stands_first_law s p (decimal i) rest whole)
      (ap is_digit (stands_opens s (p + length (decimal i)) rest (stands_rest s p (decimal i) rest whole)) ∙ low_byte 32 (omega arith))

  names_as : (k : ℕ) → names_node k s p ≡ eqb i k
  unfolding names_node is_number both
  names_as k = ap (λ (b : Bool). both b (is_number k (number 15 s p))) origin_here ∙ ap (is_number k) number_here

names_none : (i : ℕ) (s : List ℕ) (q : ℕ) → NoOriginRow s q → Passed i s q
unfolding names_node both
names_none i s q e = ap (λ (b : Bool). both b (is_number i (number 15 s q))) e

-- ---- the rows of node i
node_sequence : (i : ℕ) → Sequence (origin_row_text i) (node_text i)
unfolding node_text
node_sequence i = record { empty = λ j. refl; first = λ j r rs. refl }

reads_one : (i : ℕ) (rs : List Row) → i ≤ 15 → length rs < 16
    → ReadsBefore (origin_row i (length rs)) (One Whole (origin_row_text i) rs) Anything
reads_one i rs h g =
    before_as (before (reads_origin_row i (length rs) h (omega arith))) (λ r u x. (x.whole, x.prints)) (λ r u x. record { whole = x.0; prints = x.1 })
    (λ s q e. e)

-- those of node 0, up to the first row that names another
abbrev Some : ℕ → Type 0
Some l = (1 ≤ l) × (l ≤ 16)

abbrev First : List Row → List ℕ → Type 0
First = Later Whole (node_text 0) Some []

first_from_law : (rs : List Row) (u : List ℕ) → First rs u → Next Whole (origin_row_text 0) (node_text 0) (λ l. l ≤ 15) [] rs u
first_from_law rs u x = go (next_from (node_sequence 0) Whole (λ l. l ≤ 15) Some (λ l (a, b). omega arith) [] rs u x)
  where
    go : Or (Next Whole (origin_row_text 0) (node_text 0) (λ l. l ≤ 15) []) (λ a v. Some 0 × Is [] a v) rs u
        → Next Whole (origin_row_text 0) (node_text 0) (λ l. l ≤ 15) [] rs u
    go (inl y) = y
    go (inr ((a, b), y)) = absurd (omega arith)

reads_first : ReadsBefore first_rows First (Passed 0)
unfolding first_rows first_after
reads_first =
    before_as
    (before_then (reads_one 0 [] (omega arith) (omega arith))
    (λ r u x.
    reads_up_to (node_sequence 0) Whole 16 (names_node 0) (λ rs. origin_row 0 (length rs)) first_after 22
    (λ rs h. reads_one 0 rs (omega arith) h)
    (λ rs y v s p h w st. names_as 0 (length rs) y v s p (omega arith) st 0 ∙ eq-eqb 0 0 refl)
    (λ rs s p. unless_then (names_node 0) 22 (pure rs) s p) (λ k rs s p. refl) 15 (r ∷ []) refl)
    (λ r rs u v s q x y st e. tt))
    (λ rs u x. next_to (node_sequence 0) Whole (λ l. l ≤ 15) Some (λ l h. (omega arith, omega arith)) [] rs u x)
    first_from_law (λ s q e. e)

-- ---- the n rows of node i
record NodeWhole (n : ℕ) (rs : List Row) : Type 0 where
  each_origin : length rs ≡ n
  rows : Each Whole [] rs

nodes_sequence : Sequence (λ i. node_text i 0) nodes_text
unfolding nodes_text
nodes_sequence = record { empty = λ i. refl; first = λ i rs rss. refl }

module _ (n : ℕ) (few : n ≤ 16) where
  abbrev Node : List (List Row) → List Row → List ℕ → Type 0
  Node = One (λ _. NodeWhole n) (λ i. node_text i 0)

  reads_node : (rss : List (List Row)) → length rss < n → ReadsBefore (node_rows n (length rss)) (Node rss) (Passed (length rss))
  unfolding node_rows node_rows_after seventeenth
  reads_node rss h =
      let i = length rss in
      before_as
      (before_kept (λ rs. Unit {0})
      (reads_exactly (node_sequence i) Whole n (λ rs. origin_row i (length rs)) (λ k rs. node_rows_after k i rs) (Passed i) (λ j. Anything)
      (λ rs g. reads_one i rs (omega arith) (omega arith)) (λ j s q e. tt) (λ rs r v s j q g m w st. tt) (λ rs s p. refl) (λ k rs s p. refl) n [] (omega arith))
      (λ rs.
      before_as
      (before_unless (seventeenth n i) 22 (before_pure rs) (λ a u s p x st e. both_none (eqb n 16) _ (still (Passed i) u s p x.1 e)))
      (λ b u x. (tt, x)) (λ b u x. x.1) (λ s q e. e)))
      (λ rs u (x, _). (
        record { each_origin = sym (ap length x.is) ∙ x.size; rows = subst (Each Whole []) x.is x.each },
        ap (node_text i 0) (sym x.is) ∙ x.prints,
      ))
      (λ rs u (x, e). (record { later = rs; each = x.rows; size = x.each_origin; is = refl; prints = e }, tt))
      (λ s q e. e)

  -- the rows of another node
  follows : (rss : List (List Row)) (rs : List Row) (v s : List ℕ) (i q : ℕ) → length rss < n → length rss ≡ suc i → NodeWhole n rs
      → Stands s q (node_text (length rss) 0 rs ++ v) → Passed i s q
  unfolding node_text
  follows rss [] v s i q h m w st = let e = w.each_origin in absurd (omega arith)
  follows rss (r ∷ rs) v s i q h m w st =
      let k = length rss in
      names_as k 0 r (node_text k 1 rs) s q (omega arith) (stands_first_law s q _ v st) i ∙ ne_eqb k i (λ e. omega arith)

  abbrev Nodes : ℕ → List (List Row) → List (List Row) → List ℕ → Type 0
  Nodes k = Later (λ _. NodeWhole n) nodes_text (λ l. l ≡ k)

  module _ (k : ℕ) (rss : List (List Row)) (h : k + length rss ≡ n) where
    reads_nodes : ReadsBefore (nodes_after k n rss) (Nodes k rss) NoOriginRow
    unfolding nodes_after
    reads_nodes =
        reads_exactly nodes_sequence (λ _. NodeWhole n) n (λ xs. node_rows n (length xs)) (λ j xs. nodes_after j n xs)
        NoOriginRow Passed reads_node names_none follows (λ xs s p. refl) (λ j xs s p. refl) k rss h

    nodes_open : (i : ℕ) (xss : List (List Row)) (v s : List ℕ) (q : ℕ) → length rss ≡ suc i → Nodes k rss xss v → Stands s q v
        → NoOriginRow s (q + length v) → Passed i s q
    unfolding nodes_after
    nodes_open i xss v s q m y st e =
        exactly_opens nodes_sequence (λ _. NodeWhole n) n (λ xs. node_rows n (length xs)) (λ j xs. nodes_after j n xs)
        NoOriginRow Passed reads_node names_none follows (λ xs s p. refl) (λ j xs s p. refl) k i rss xss v s q h m y st e

-- ---- no right over an address without rows
nodes_formed : (n : ℕ) (rss : List (List Row)) → Each (λ _. NodeWhole n) [] rss
    → ((i : ℕ) → i < length rss → all n (λ j. within n (get_or (get_or rss i []) j zero_row)) ≡ true) → Each (λ _. NodeFormed n) [] rss
nodes_formed n rss =
    each_tested (λ rs. all n (λ j. within n (get_or rs j zero_row))) []
    (λ xs rs w t. record {
      each_origin = w.each_origin;
      rows = rows_formed n rs w.rows (λ j h. all_e n _ t j (let e = w.each_origin in omega arith));
    })
    [] rss

nodes_whole : (n : ℕ) (rss : List (List Row)) → Each (λ _. NodeFormed n) [] rss → Each (λ _. NodeWhole n) [] rss
nodes_whole n rss = each_as (λ xs rs f. record { each_origin = f.each_origin; rows = rows_whole n rs f.rows }) [] rss

nodes_within : (n : ℕ) (rss : List (List Row)) → Each (λ _. NodeFormed n) [] rss → (i : ℕ) → i < length rss
    → all n (λ j. within n (get_or (get_or rss i []) j zero_row)) ≡ true
nodes_within n rss =
    test_each (λ rs. all n (λ j. within n (get_or rs j zero_row))) []
    (λ xs rs f. all_i n _ (λ j h. rows_within n rs f.rows j (let e = f.each_origin in omega arith))) [] rss

-- ---- all rows
pub record NodesText (rss : List (List Row)) (u : List ℕ) : Type 0 where
  pub some : 1 ≤ length rss
  pub few : length rss ≤ 16
  pub each : Each (λ _. NodeFormed (length rss)) [] rss
  pub prints : nodes_text 0 rss ≡ u

abbrev Judged : List (List Row) → Type 0
Judged rss = all_nodes_within rss ≡ true

-- node 0's rows tell how many nodes follow
abbrev All : List (List Row) → List ℕ → Type 0
All = Then First (λ rs rss u. Later (λ _. NodeWhole (length rs)) nodes_text (λ l. l ≡ length rs - 1) (rs ∷ []) rss u × Judged rss)

all_to : (rss : List (List Row)) (u : List ℕ) → All rss u → NodesText rss u
unfolding all_nodes_within
all_to rss u x =
    let rs = x.one in
    let n = length rs in
    let first = x.prints in
    let size : length rs ≡ length first.later = ap length (sym first.is) in
    let (some, few) = first.size in
    let y : Later (λ _. NodeWhole n) nodes_text (λ l. l ≡ n) [] rss u =
    next_to nodes_sequence (λ _. NodeWhole n) (λ l. l ≡ n - 1) (λ l. l ≡ n) (λ l h. omega arith) [] rss u (record {
      one = rs;
      text = x.text;
      rest = x.rest;
      prints = (
        record { each_origin = refl; rows = subst (Each Whole []) first.is first.each },
        ap (node_text 0 0) (sym first.is) ∙ first.prints,
      );
      goes_on = x.goes_on.0;
      is = x.is;
    }) in
    let is : length rss ≡ n = ap length (sym y.is) ∙ y.size in
    record {
      some = omega arith;
      few = omega arith;
      each =
          nodes_formed (length rss) rss
          (subst (λ (k : ℕ). Each (λ _. NodeWhole k) [] rss) (sym is) (subst (Each (λ _. NodeWhole n) []) y.is y.each))
          (all_e (length rss) _ x.goes_on.1);
      prints = ap (nodes_text 0) (sym y.is) ∙ y.prints;
    }

all_from : (rss : List (List Row)) (u : List ℕ) → NodesText rss u → All rss u
unfolding all_nodes_within nodes_text
all_from [] u x = let some = x.some in absurd (omega arith)
all_from (rs ∷ rss) u x = go (nodes_whole (suc (length rss)) (rs ∷ rss) x.each)
  where
    go : Each (λ _. NodeWhole (suc (length rss))) [] (rs ∷ rss) → All (rs ∷ rss) u
    go (more w e) =
        let is = w.each_origin in
        let few = x.few in record {
          one = rs;
          text = node_text 0 0 rs;
          rest = nodes_text 1 rss;
          prints = record { later = rs; each = w.rows; size = (omega arith, omega arith); is = refl; prints = refl };
          goes_on = (
            record {
              later = rss;
              each = subst (λ (k : ℕ). Each (λ _. NodeWhole k) (rs ∷ []) rss) (sym is) e;
              size = omega arith;
              is = refl;
              prints = refl;
            },
            all_i (suc (length rss)) _ (nodes_within (suc (length rss)) (rs ∷ rss) x.each),
          );
          is = x.prints;
        }

pub reads_origin_rows : ReadsBefore origin_rows NodesText NoOriginRow
unfolding origin_rows
reads_origin_rows =
    before_as
    (before_then reads_first
    (λ rs u x.
    let size : length rs ≡ length x.later = ap length (sym x.is) in
    let (some, few) = x.size in
    before_kept Judged (reads_nodes (length rs) (omega arith) (length rs - 1) (rs ∷ []) (omega arith))
    (λ rss.
    before_unless is_origin_row (number_over (length rs)) (before_require _ 23 (before_pure rss))
    (λ a v s p y st e. still NoOriginRow v s p y.1.1 e)))
    (λ rs rss u v s q x y st e.
    let size : length rs ≡ length x.later = ap length (sym x.is) in
    let (some, few) = x.size in
    nodes_open (length rs) (omega arith) (length rs - 1) (rs ∷ []) (omega arith) 0 rss v s q refl y.0 st e))
    all_to all_from (λ s q e. e)
