-- What the reader of rows of format 1 gives (`Rows.antt` of `rows`): 1 to 16 rows, with no right over an address without a row, so
-- that the sixteen rows of each node are sound. Assumes nothing.
use Prim.Native.Nat.{ℕ, zero, suc, ◌+◌, ◌<◌, ◌≤◌}
use mathlib.Core.Path.{◌≡◌, refl, sym, ◌∙◌}
use mathlib.Core.Bool.{Bool, true, false, not}
use mathlib.Core.List.{List, [], ◌∷◌, ◌++◌}
use native.Mathlib.Omega.{arith}
use lib.ListN.{length, length-append}
use lib.Dec.{leb}
use borrow.Author.Tests.{leb-true, le-leb, eq-eqb}
use Rattle.net.specs.Choice.{choose}
use Rattle.net.specs.Records.{no_rights, zero_row, alike, rights_at, with_rights}
use Rattle.net.proofs.Laws.{implies_e, all_e}
use Rattle.net.proofs.Every.{filled_set}
use Rattle.net.proofs.ReadingLaws.{never}
use Rattle.sound.proofs.NodeFacts.{RowOk, RowsOk}
use Rattle.sound.proofs.NodeChanges.{zero_row_law, alike_rows}
use Rattle.linking.specs.Source.{Policy, plain}
use Rattle.linking.specs.Compiled.{format_of, addresses_of, rows_of}
use Rattle.rows.specs.Rows.{is_row, any_right, rights, granted, grants, creates, opening, row_rest, row, rows_after, within, all_within, rows}
use Rattle.texts.specs.Types.{Row}
use Rattle.texts.specs.TextClaims.{count, astray}
use Rattle.texts.specs.TextClaims as Number
use Rattle.texts.proofs.Gives.{Any, Gives, gives_pure, gives_then, gives_and, gives_choice, gives_require}
use Rattle.texts.proofs.Gives.{gives_fail, gives_byte, gives_word, gives_optional, gives_number}
use Rattle.texts.proofs.Each.{Each, none, each_append, each_at, each_map}

-- ---- one row
gives_rights : Gives rights Any
unfolding rights
gives_rights =
    gives_then (gives_optional 105) (λ i _. gives_then (gives_optional 114) (λ r _. gives_then (gives_optional 111) (λ o _.
    gives_then (gives_optional 101) (λ e _. gives_and (gives_require _ 31 astray) (λ _ _. gives_pure Any _ tt)))))

gives_granted : (low : ℕ) → Gives (granted low) (λ l. l < 16)
unfolding granted
gives_granted low =
    gives_then (gives_number 15) (λ l h. gives_and (gives_require _ 31 astray) (λ _ _.
    gives_and (gives_byte 58) (λ _ _. gives_pure _ l (omega arith))))

gives_grants : (k low : ℕ) (r : Row) → RowOk 16 r → Gives (grants k low r) (RowOk 16)
unfolding grants with_rights
gives_grants zero low r ok = gives_pure _ r ok
gives_grants (suc k) low r ok =
    gives_then (gives_optional 32) (λ more _. gives_choice _ more _ _
    (gives_then (gives_granted low) (λ l h. gives_then gives_rights (λ x _.
    gives_grants k (l + 1) _ (filled_set l x h tt ok))))
    (gives_pure _ r ok))

gives_creates : Gives creates Any
unfolding creates
gives_creates = record {
  run = λ s p. (gives_choice Any _ _ _ (gives_and (gives_word _) (λ _ _. gives_pure Any _ tt)) (gives_pure Any _ tt)).run s p;
}

gives_opening : (i : ℕ) → Gives (opening i) Any
unfolding opening
gives_opening i =
    gives_then (gives_number 15) (λ l _. gives_and (gives_require _ 31 astray) (λ _ _. gives_word _))

pub gives_row_rest : Gives row_rest (RowOk 16)
unfolding row_rest
gives_row_rest =
    gives_then gives_creates (λ c _. gives_then (gives_grants 16 0 _ (zero_row_law 16)) (λ r ok.
    gives_and (gives_byte 10) (λ _ _. gives_pure _ r ok)))

gives_row : (i : ℕ) → Gives (row i) (RowOk 16)
unfolding row
gives_row i = gives_and (gives_opening i) (λ _ _. gives_row_rest)

-- ---- no right over an address without a row
no_rights_law : (take read put send : Bool)
    → not (any_right (record { take = take; read = read; put = put; send = send })) ≡ true
    → record { take = take; read = read; put = put; send = send } ≡ no_rights
unfolding any_right no_rights choose
no_rights_law false false false false h = refl
no_rights_law false false false true h = never h
no_rights_law false false true send h = never h
no_rights_law false true put send h = never h
no_rights_law true read put send h = never h

pub row_within : (n : ℕ) (r : Row) → RowOk 16 r → within n r ≡ true → RowOk n r
unfolding within rights_at
row_within n r ok h = record {
  size_is = ok.size_is;
  holds = λ l g. record {
    used = λ _. tt;
    unused = λ m. no_rights_law _ _ _ _ (implies_e (leb n l) _ (all_e 16 _ h l g) (le-leb n l m));
  };
}

-- ---- policies of format f: 1 to 16 addresses, each with sixteen sound rows
pub record PolicyOk (f : ℕ) (x : Policy) : Type 0 where
  pub format_is : format_of x ≡ f
  pub some : 1 ≤ addresses_of x
  pub few : addresses_of x ≤ 16
  pub each : Each (RowsOk (format_of x) (addresses_of x)) (rows_of x)

-- from `low` to 16 rows
pub record Some (low : ℕ) (rs : List Row) : Type 0 where
  pub least : low ≤ length rs
  pub most : length rs ≤ 16
  pub each : Each (RowOk 16) rs

pub next_some : (low : ℕ) (rs : List Row) (r : Row) → length rs < 16 → Some low rs → RowOk 16 r → Some low (rs ++ (r ∷ []))
next_some low rs r h ok g =
    let l = length-append rs (r ∷ []) in
    record { least = omega (arith, ok.least); most = omega arith; each = each_append rs r ok.each g }

-- ---- format 1
gives_rows_after : (k : ℕ) (rs : List Row) → k + length rs ≡ 16 → Some 0 rs → Gives (rows_after k rs) (Some 0)
unfolding rows_after
gives_rows_after zero rs e ok = record {
  run = λ s p. (gives_choice (Some 0) (is_row s p) _ _ (gives_fail (Some 0) 22 count) (gives_pure (Some 0) rs ok)).run s p;
}
gives_rows_after (suc k) rs e ok = record {
  run = λ s p. (gives_choice (Some 0) (is_row s p) _ _
      (gives_then (gives_row (length rs)) (λ r h.
      gives_rows_after k (rs ++ (r ∷ [])) (let l = length-append rs (r ∷ []) in omega arith) (next_some 0 rs r (omega arith) ok h)))
      (gives_pure (Some 0) rs ok)).run s p;
}

plain_ok : (rs : List Row) → 1 ≤ length rs → Some 0 rs → all_within rs ≡ true → PolicyOk 1 (plain rs)
unfolding format_of addresses_of rows_of all_within
plain_ok rs some ok h = record {
  format_is = refl;
  some = some;
  few = ok.most;
  each =
      each_map (RowsOk 1 (length rs)) alike rs
      (each_at _ zero_row rs ok.each (λ i l g.
      alike_rows 1 (length rs) _ (row_within (length rs) _ g (all_e (length rs) _ h i l)) (λ e. never (sym e ∙ eq-eqb 1 1 refl))));
}

pub gives_rows : Gives rows (λ rs. PolicyOk 1 (plain rs))
unfolding rows
gives_rows =
    gives_then (gives_rows_after 16 [] refl (record { least = omega arith; most = omega arith; each = none })) (λ rs ok.
    gives_and (gives_require _ 31 astray) (λ _ h. gives_and (gives_require _ 23 Number.address) (λ _ g.
    gives_pure _ rs (plain_ok rs (leb-true 1 (length rs) h) ok g))))
