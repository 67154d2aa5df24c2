-- Laws of all rows of a text of format 1 (`specs/Rows.antt`), and of the net that they are read into. Assumes nothing.
use Prim.Native.Nat.{ℕ, zero, suc, ◌+◌, ◌-◌, ◌<◌, ◌≤◌}
use mathlib.Core.Path.{◌≡◌, refl, sym, ap, ◌∙◌}
use mathlib.Core.Bool.{Bool, true, false, not}
use mathlib.Core.List.{List, [], ◌∷◌, ◌++◌}
use native.Mathlib.Omega.{arith}
use lib.ListN.{length, length-append}
use lib.Dec.{leb}
use Rattle.std.proofs.Common.{Result, Ok, Err}
use Rattle.std.specs.Result.{IsErrAnd}
use Rattle.net.specs.Choice.{choose, all}
use Rattle.net.specs.Records.{empty_net, row_at, node_at, alike, with_node, with_rows, with_counts, with_format, address_of}
use Rattle.net.proofs.Laws.{choose_true, choose_false}
use Rattle.readers.specs.Reader.{got, Reader, pure, and_then, ◌>>=◌, ◌>>◌, require_in, require}
use Rattle.readers.specs.Progress.{came}
use Rattle.lexemes.specs.Lexemes.{fail}
use Rattle.lexemes.specs.Progress.{Reads, Resumes, Stood, Stands}
use Rattle.lexemes.proofs.Reading.{resumed, resumes_start, resumes_then, reads_pure, reads_then, reads_next, reads_failed, next_failed, stands_fault}
use Rattle.linking.specs.Source.{plain}
use Rattle.linking.specs.Compiled.{format_of, addresses_of, rows_of, ruled, unruled}
use Rattle.linking.proofs.Governed.{governed_addresses}
use Rattle.rows.specs.Types.{TextReader, Fault, Row, Net}
use Rattle.rows.specs.Rows.{is_row, row, rows_after, within, all_within, rows}
use Rattle.rows.specs.Policies.{plain_rows}
use Rattle.rows.specs.Progress.{Plain, Ruling, Ruled}
use Rattle.rows.proofs.RuledLaws.{plain_more, counted_anew, rows_within}

-- ---- row after row
rows_first : (k : ℕ) (rs : List Row) (s : List ℕ) (p : ℕ) → is_row s p ≡ true → rows_after (suc k) rs s p ≡ (row (length rs) >>= (λ r. rows_after k (rs ++ (r ∷ [])))) s p
unfolding rows_after
rows_first k rs s p t = ap (λ (m : Reader (List Row)). m s p) (choose_true _ _ _ t)

none_more : (k : ℕ) (rs : List Row) (s : List ℕ) (p : ℕ) → is_row s p ≡ false → rows_after k rs s p ≡ got rs p
unfolding rows_after pure
none_more zero rs s p f = ap (λ (m : Reader (List Row)). m s p) (choose_false _ _ _ f)
none_more (suc k) rs s p f = ap (λ (m : Reader (List Row)). m s p) (choose_false _ _ _ f)

over_law : (rs : List Row) (s : List ℕ) (p : ℕ) (b : Bool) → b ≡ is_row s p → rows_after 0 rs s p ≡ (require (not b) 22 >> pure rs) s p
unfolding rows_after require require_in choose fail ◌>>◌ ◌>>=◌ and_then pure
over_law rs s p true e = rw (← e) refl
over_law rs s p false e = rw (← e) refl

-- k rows more are left, a row is next: the reader of it, and the rest
module _ (r₀ r : TextReader) (m : Reader (List Row)) (k j : ℕ) (rs : List Row) where
  row_next : k ≡ suc j → is_row r.text.now r.at ≡ true → Resumes r₀ m r (rows_after k rs)
      → Resumes r₀ m r (row (length rs) >>= (λ x. rows_after j (rs ++ (x ∷ []))))
  row_next e t h = record { rest = h.rest ∙ rw e (rows_first j rs r.text.now r.at t); same = h.same }

module _ (r₀ r : TextReader) (n : ℕ) (net : Net) (l : Ruling r₀ r n net) where
  rest_at : n < 16 → is_row r.text.now r.at ≡ true → Resumes r₀ (rows_after 16 []) r (row n >>= (λ x. rows_after (16 - (n + 1)) (l.read ++ (x ∷ []))))
  rest_at h t = rw l.count at (row_next r₀ r (rows_after 16 []) (16 - n) (16 - (n + 1)) l.read (omega arith) t l.rest)

  module _ (b : Bool) (e : b ≡ is_row r.text.now r.at) where
    -- no row is next
    pub ruling_none : b ≡ false → Stood Plain r₀ (rows_after 16 []) (with_counts net n net.length) r
    unfolding format_of addresses_of came
    ruling_none f = record {
      read = l.read;
      stands = record { within = omega (arith, l.count, l.within); standing = counted_anew (plain l.read) net n l.standing l.count };
      went = resumed r₀ r r _ _ (Ok l.read) l.rest
          (record { gave = sym (none_more (16 - n) l.read r.text.now r.at (sym e ∙ f)); same = refl });
    }

    -- a fault in the next one
    pub ruling_fault : (r' : TextReader) (f : Fault) (o : Result Net Fault) → b ≡ true → n < 16 → Reads r (row n) (Err f) r'
        → IsErrAnd o (λ d. d ≡ f) → Stands Plain r₀ (rows_after 16 []) o r'
    ruling_fault r' f o t h w x =
        stands_fault Plain r₀ r' (rows_after 16 []) o f
        (resumed r₀ r r' _ _ (Err f) (rest_at h (sym e ∙ t)) (reads_failed r r' (row n) _ f w)) x

    -- one row more
    pub ruling_on : (r' : TextReader) (x : Row) (rows : List Row) (net' : Net) → b ≡ true → n < 16 → Reads r (row n) (Ok x) r' → rows ≡ alike x
        → net' ≡ with_node net (address_of n) (with_rows (node_at net (address_of n)) rows) → Ruling r₀ r' (n + 1) net'
    ruling_on r' x rows net' t h w same put = record {
      read = l.read ++ (x ∷ []);
      count = omega (arith, l.count, length-append l.read (x ∷ []));
      within = omega arith;
      standing = put ∙ plain_more l.read n x rows (unruled 1 0 0) net l.count same l.standing;
      rest = resumes_then r₀ r r' _ (row n) _ x (rest_at h (sym e ∙ t)) w;
    }

    -- one row over the sixteen
    over : 16 ≤ n → Resumes r₀ (rows_after 16 []) r (require (not b) 22 >> pure l.read)
    over h =
        let z : 16 - n ≡ 0 = omega arith in
        record {
          rest = l.rest.rest ∙ ap (λ (k : ℕ). rows_after k l.read r.text.now r.at) z ∙ over_law l.read r.text.now r.at b e;
          same = l.rest.same;
        }

    pub ruling_over : (r' : TextReader) (f : Fault) (o : Result Net Fault) → 16 ≤ n → Reads r (require (not b) 22) (Err f) r'
        → IsErrAnd o (λ d. d ≡ f) → Stands Plain r₀ (rows_after 16 []) o r'
    ruling_over r' f o h w x =
        stands_fault Plain r₀ r' (rows_after 16 []) o f (resumed r₀ r r' _ _ (Err f) (over h) (next_failed r r' _ _ f w)) x

    pub ruling_all : (r' : TextReader) (a : Unit {0}) (k : ℕ) → 16 ≤ n → k ≡ 16 → Reads r (require (not b) 22) (Ok a) r'
        → Stood Plain r₀ (rows_after 16 []) (with_counts net k net.length) r'
    unfolding format_of addresses_of
    ruling_all r' a k h d w = record {
      read = l.read;
      stands = record {
        within = omega (arith, l.count, l.within);
        standing = counted_anew (plain l.read) net k l.standing (omega (arith, l.count, l.within));
      };
      went = resumed r₀ r r' _ _ (Ok l.read) (over h) (reads_next r r' _ r' (pure l.read) a (Ok l.read) w (reads_pure r' r' l.read));
    }

pub ruling_begin : (r : TextReader) (net : Net) → net ≡ empty_net → Ruling r r 0 (with_format net 1)
unfolding rows_of ruled unruled with_counts empty_net with_format
ruling_begin r net e = record {
  read = [];
  count = refl;
  within = omega arith;
  standing = ap (λ (x : Net). with_format x 1) e;
  rest = resumes_start r _;
}

pub ruleset ruling = (ruling_begin, ruling_none, ruling_fault, ruling_on, ruling_over, ruling_all)

-- ---- the rows, judged
pub few_plain : (rs : List Row) (net : Net) → Plain rs net → net.addresses ≤ 16
unfolding addresses_of
few_plain rs net g = omega (arith, ap (λ (x : Net). x.addresses) g.standing, governed_addresses (plain rs) 0, g.within)

pub few_gathered : (r r' : TextReader) (net : Net) → Stood Plain r (rows_after 16 []) net r' → net.addresses ≤ 16
few_gathered r r' net g = few_plain g.read net g.stands

module _ (r : TextReader) (o : Result Net Fault) (f : Fault) (x : IsErrAnd o (λ d. d ≡ f)) where
  plain_fault : (r' : TextReader) → Reads r rows (Err f) r' → Stands Ruled r plain_rows o r'
  unfolding plain_rows
  plain_fault r' w = stands_fault Ruled r r' _ o f (reads_failed r r' rows _ f w) x

  pub judged_fault : (r' : TextReader) → Reads r (rows_after 16 []) (Err f) r' → Stands Ruled r plain_rows o r'
  unfolding rows
  judged_fault r' w = plain_fault r' (reads_failed r r' (rows_after 16 []) _ f w)

module _ (r r₁ : TextReader) (net : Net) (g : Stood Plain r (rows_after 16 []) net r₁) where
  counted : net.addresses ≡ length g.read
  unfolding addresses_of
  counted = ap (λ (x : Net). x.addresses) g.stands.standing ∙ governed_addresses (plain g.read) 0

  module _ (r₂ : TextReader) where
    pub judged_none : (o : Result Net Fault) (f : Fault) → Reads r₁ (require (leb 1 net.addresses) 31) (Err f) r₂ → IsErrAnd o (λ d. d ≡ f)
        → Stands Ruled r plain_rows o r₂
    unfolding rows
    judged_none o f w x =
        plain_fault r o f x r₂ (reads_then r r₁ (rows_after 16 []) r₂ _ g.read (Err f) g.went (next_failed r₁ r₂ _ _ f (rw counted at w)))

    module _ (a : Unit {0}) (u : Reads r₁ (require (leb 1 net.addresses) 31) (Ok a) r₂) (good : Bool)
        (e : good ≡ all net.addresses (λ i. within net.addresses (row_at (node_at net (address_of i)) (address_of i)))) (r₃ : TextReader) where
      fits : good ≡ all_within g.read
      fits = e ∙ rows_within g.read net g.stands.within g.stands.standing

      pub judged_within : (o : Result Net Fault) (f : Fault) → Reads r₂ (require good 23) (Err f) r₃ → IsErrAnd o (λ d. d ≡ f)
          → Stands Ruled r plain_rows o r₃
      unfolding rows
      judged_within o f w x =
          plain_fault r o f x r₃
          (reads_then r r₁ (rows_after 16 []) r₃ _ g.read (Err f) g.went
          (reads_next r₁ r₂ _ r₃ _ a (Err f) (rw counted at u) (next_failed r₂ r₃ _ _ f (rw fits at w))))

      pub judged_all : (b : Unit {0}) → Reads r₂ (require good 23) (Ok b) r₃ → Stood Ruled r plain_rows net r₃
      unfolding rows plain_rows addresses_of
      judged_all b w = record {
        read = plain g.read;
        stands = record { within = g.stands.within; standing = g.stands.standing };
        went =
            reads_then r r₃ rows r₃ _ g.read (Ok (plain g.read))
            (reads_then r r₁ (rows_after 16 []) r₃ _ g.read (Ok g.read) g.went
            (reads_next r₁ r₂ _ r₃ _ a (Ok g.read) (rw counted at u)
            (reads_next r₂ r₃ _ r₃ _ b (Ok g.read) (rw fits at w) (reads_pure r₃ r₃ g.read))))
            (reads_pure r₃ r₃ (plain g.read));
      }

pub ruleset judged = (few_gathered, judged_fault, judged_none, judged_within, judged_all)
