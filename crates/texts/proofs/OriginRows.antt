-- What the readers of rows by origin and of policies give (`OriginRows.antt` and `Policies.antt` of `rows`): a row for each origin
-- at each of 1 to 16 nodes, with no right over an address without rows, so that the sixteen rows of each node are sound.
-- Assumes nothing.
use Prim.Native.Nat.{ℕ, zero, suc, ◌+◌, ◌-◌, ◌<◌, ◌≤◌}
use mathlib.Core.Path.{◌≡◌, refl, sym, subst, ◌∙◌}
use mathlib.Core.Bool.{Bool, true, false}
use mathlib.Core.List.{List, [], ◌∷◌, ◌++◌}
use native.Mathlib.Omega.{arith}
use lib.ListN.{get_or, length, replicate, length-append, length-replicate, get_or-eq_default}
use lib.Dec.{eqb}
use borrow.Author.Tests.{ne_eqb}
use Rattle.net.specs.Choice.{choose}
use Rattle.net.specs.Records.{zero_row}
use Rattle.net.proofs.Laws.{all_e}
use Rattle.net.proofs.Every.{chosen}
use Rattle.net.proofs.Past.{past_row}
use Rattle.net.proofs.ReadingLaws.{never}
use Rattle.sound.proofs.NodeFacts.{RowOk, RowsOk}
use Rattle.sound.proofs.NodeChanges.{zero_row_law}
use Rattle.linking.specs.Source.{plain, by_origin}
use Rattle.linking.specs.Compiled.{format_of, addresses_of, filled, rows_of}
use Rattle.rows.specs.OriginRows.{is_origin_row, names_node, numbered, origin_row, fault_where, first_after, first_rows, node_rows_after, node_rows}
use Rattle.rows.specs.OriginRows.{nodes_after, number_over, all_nodes_within, origin_rows}
use Rattle.rows.specs.Policies.{plain_rows, rows_by_origin}
use Rattle.rows.proofs.RuledLaws.{padded_at}
use Rattle.texts.specs.Types.{Row}
use Rattle.texts.specs.TextClaims.{TextNumber, count, astray}
use Rattle.texts.specs.TextClaims as Number
use Rattle.texts.proofs.Gives.{Any, Gives, gives_pure, gives_weaken, gives_then, gives_and, gives_choice, gives_require}
use Rattle.texts.proofs.Gives.{gives_fail, gives_word, gives_number}
use Rattle.texts.proofs.Each.{Each, none, more, each_append, each_or, each_at, each_map}
use Rattle.texts.proofs.Rows.{gives_row_rest, row_within, PolicyOk, Some, next_some, gives_rows}

-- ---- one row
gives_numbered : (i : ℕ) → Gives (numbered i) Any
unfolding numbered
gives_numbered i = gives_then (gives_number 15) (λ v _. gives_weaken (gives_require _ 31 astray) (λ _ _. tt))

gives_origin_row : (i j : ℕ) → Gives (origin_row i j) (RowOk 16)
unfolding origin_row
gives_origin_row i j =
    gives_and (gives_numbered i) (λ _ _. gives_and (gives_word _) (λ _ _.
    gives_and (gives_numbered j) (λ _ _. gives_and (gives_word _) (λ _ _. gives_row_rest))))

-- ---- those of node 0
gives_fault_where : (test : List ℕ → ℕ → Bool) (n : ℕ) → TextNumber n → Gives (fault_where test n) Any
unfolding fault_where
gives_fault_where test n h = record {
  run = λ s p. (gives_choice Any (test s p) _ _ (gives_fail Any n h) (gives_pure Any tt tt)).run s p;
}

gives_first_after : (k : ℕ) (rs : List Row) → k + length rs ≡ 16 → Some 1 rs → Gives (first_after k rs) (Some 1)
unfolding first_after
gives_first_after zero rs e ok = gives_and (gives_fault_where (names_node 0) 22 count) (λ _ _. gives_pure (Some 1) rs ok)
gives_first_after (suc k) rs e ok = record {
  run = λ s p. (gives_choice (Some 1) (names_node 0 s p) _ _
      (gives_then (gives_origin_row 0 (length rs)) (λ r h.
      gives_first_after k (rs ++ (r ∷ [])) (let l = length-append rs (r ∷ []) in omega arith) (next_some 1 rs r (omega arith) ok h)))
      (gives_pure (Some 1) rs ok)).run s p;
}

gives_first_rows : Gives first_rows (Some 1)
unfolding first_rows
gives_first_rows =
    gives_then (gives_origin_row 0 0) (λ r h.
    gives_first_after 15 (r ∷ []) refl (record { least = omega arith; most = omega arith; each = more h none }))

-- ---- those of the other nodes: n good elements
abbrev Counted : {A : Type 0} → (A → Type 0) → ℕ → List A → Type 0
Counted P n xs = (length xs ≡ n) × Each P xs

gives_node_rows_after :
    (n k i : ℕ) (rs : List Row) → k + length rs ≡ n → Each (RowOk 16) rs → Gives (node_rows_after k i rs) (Counted (RowOk 16) n)
unfolding node_rows_after
gives_node_rows_after n zero i rs e ok = gives_pure _ rs (omega arith, ok)
gives_node_rows_after n (suc k) i rs e ok =
    gives_then (gives_origin_row i (length rs)) (λ r h.
    gives_node_rows_after n k i (rs ++ (r ∷ [])) (let l = length-append rs (r ∷ []) in omega arith) (each_append rs r ok h))

gives_node_rows : (n i : ℕ) → Gives (node_rows n i) (Counted (RowOk 16) n)
unfolding node_rows
gives_node_rows n i =
    gives_then (gives_node_rows_after n n i [] (omega arith) none) (λ rs ok.
    gives_and (gives_fault_where _ 22 count) (λ _ _. gives_pure _ rs ok))

gives_nodes_after :
    (m k n : ℕ) (rss : List (List Row)) → k + length rss ≡ m → Each (Counted (RowOk 16) n) rss
    → Gives (nodes_after k n rss) (Counted (Counted (RowOk 16) n) m)
unfolding nodes_after
gives_nodes_after m zero n rss e ok = gives_pure _ rss (omega arith, ok)
gives_nodes_after m (suc k) n rss e ok =
    gives_then (gives_node_rows n (length rss)) (λ rs h.
    gives_nodes_after m k n (rss ++ (rs ∷ [])) (let l = length-append rss (rs ∷ []) in omega arith) (each_append rss rs ok h))

-- ---- all: a row for each origin in use, and none for the others
filled_rows : (n : ℕ) (rs : List Row) → n ≤ 16 → length rs ≡ n → Each (RowOk n) rs → RowsOk 2 n (filled rs)
unfolding filled
filled_rows n rs few e ok =
    let rest : ℕ = 16 - length rs in
    let at : (o : ℕ) → o < 16 → get_or (rs ++ replicate rest zero_row) o past_row ≡ get_or rs o zero_row =
    λ o h. padded_at rs rest o zero_row past_row (omega arith) in
    record {
      each_ok = record {
        size_is = omega (arith, length-append rs (replicate rest zero_row), length-replicate rest zero_row);
        holds = λ o h. subst (RowOk n) (sym (at o h)) (each_or rs zero_row ok (zero_row_law n) o);
      };
      as_first = λ g. never (sym (ne_eqb 2 1 (λ d. absurd (omega arith))) ∙ g);
      barred = λ g o l h. at o h ∙ get_or-eq_default rs zero_row (omega arith);
    }

origin_ok :
    (n : ℕ) (rss : List (List Row)) → 1 ≤ n → n ≤ 16 → Counted (Counted (RowOk 16) n) n rss → all_nodes_within rss ≡ true
    → PolicyOk 2 (by_origin rss)
unfolding format_of addresses_of rows_of all_nodes_within
origin_ok n rss some few (e, ok) h = record {
  format_is = refl;
  some = omega arith;
  few = omega arith;
  each =
      each_map (RowsOk 2 (length rss)) filled rss
      (each_at _ [] rss ok (λ i l (c, g).
      filled_rows (length rss) _ (omega arith) (omega arith)
      (each_at _ zero_row _ g (λ j m r. row_within (length rss) _ r (all_e (length rss) _ (all_e (length rss) _ h i l) j (omega arith))))));
}

over_number : (n : ℕ) → TextNumber (number_over n)
unfolding number_over
over_number n = chosen TextNumber (eqb n 16) 22 31 (λ _. count) (λ _. astray)

gives_origin_rows : Gives origin_rows (λ rss. PolicyOk 2 (by_origin rss))
unfolding origin_rows
gives_origin_rows =
    gives_then gives_first_rows (λ rs ok. gives_then
    (gives_nodes_after (length rs) (length rs - 1) (length rs) (rs ∷ []) (omega (arith, ok.least)) (more (refl, ok.each) none))
    (λ rss all. gives_and (gives_fault_where is_origin_row _ (over_number (length rs))) (λ _ _.
    gives_and (gives_require _ 23 Number.address) (λ _ h. gives_pure _ rss (origin_ok (length rs) rss ok.least ok.most all h)))))

-- ---- policies: rows by origin where the first line is one
pub gives_policy : (first : Bool) → Gives (choose first rows_by_origin plain_rows) (PolicyOk (choose first 2 1))
unfolding choose rows_by_origin plain_rows
gives_policy true = gives_then gives_origin_rows (λ rss ok. gives_pure _ (by_origin rss) ok)
gives_policy false = gives_then gives_rows (λ rs ok. gives_pure _ (plain rs) ok)
