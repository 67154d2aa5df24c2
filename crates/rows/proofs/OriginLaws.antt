-- Laws of rows by origin (`specs/OriginRows.antt`), and of the net that they are read into. Assumes nothing.
use Prim.Native.Nat.{ℕ, zero, suc, ◌+◌, ◌-◌, ◌<◌, ◌≤◌}
use mathlib.Core.Path.{◌≡◌, refl, sym, ap, ◌∙◌}
use mathlib.Core.Bool.{Bool, true, false, not}
use mathlib.Core.List.{List, [], ◌∷◌, ◌++◌}
use native.Mathlib.Omega.{arith}
use lib.ListN.{length, set, length-append}
use lib.Dec.{eqb}
use Rattle.std.proofs.Common.{Result, Ok, Err}
use Rattle.std.specs.Result.{IsErrAnd}
use Rattle.net.specs.Choice.{choose, all}
use Rattle.net.specs.Records.{empty_net, zero_row, alike, row_at, node_at, address_of, with_node, with_rows, with_counts, with_format}
use Rattle.net.proofs.Laws.{choose_true}
use Rattle.readers.specs.Reader.{got, Reader, pure, and_then, ◌>>=◌, ◌>>◌, require_in, require}
use Rattle.readers.specs.Progress.{came}
use Rattle.lexemes.specs.Lexemes.{fail, number}
use Rattle.lexemes.specs.Progress.{Reads, Resumes, Stood, Stands}
use Rattle.lexemes.proofs.Reading.{resumed, resumes_start, resumes_then, reads_pure, reads_then, reads_next, reads_failed, next_failed, stands_fault}
use Rattle.linking.specs.Source.{by_origin}
use Rattle.linking.specs.Compiled.{format_of, addresses_of, rows_of, ruled, unruled}
use Rattle.linking.proofs.Governed.{governed_addresses}
use Rattle.rows.specs.Types.{TextReader, Fault, Row, Net}
use Rattle.rows.specs.Rows.{within}
use Rattle.rows.specs.OriginRows.{is_origin_row, is_number, names_node, origin_row, fault_where, first_after, first_rows, node_rows_after}
use Rattle.rows.specs.OriginRows.{seventeenth, node_rows, nodes_after, number_over, all_nodes_within, origin_rows}
use Rattle.rows.specs.Policies.{rows_by_origin}
use Rattle.rows.specs.Progress.{FirstRows, number_is, First, Filled, FirstRowing, NodeRowing, Origins, NodesRuling, Ruled}
use Rattle.rows.proofs.RuledLaws.{none_filled, one_filled, origin_more, counted_anew, nodes_within}

-- ---- which lines are such rows
module _ (r r' : TextReader) (i : ℕ) where
  pub number_here : (v : ℕ) (ok : Bool) → Reads r (number 15) (Ok v) r' → ok ≡ eqb v i → ok ≡ number_is i r.text.now r.at
  unfolding number_is is_number came
  number_here v ok h e = e ∙ ap (is_number i) h.gave

  pub no_number : (f : Fault) → Reads r (number 15) (Err f) r' → false ≡ number_is i r.text.now r.at
  unfolding number_is is_number came
  no_number f h = ap (is_number i) h.gave

pub ruleset numbered = (number_here, no_number)

-- ---- a fault where a test holds
module _ (test : List ℕ → ℕ → Bool) (n : ℕ) where
  fault_there : (s : List ℕ) (p : ℕ) (b : Bool) → b ≡ test s p → require (not b) n s p ≡ fault_where test n s p
  unfolding fault_where require require_in choose fail pure
  fault_there s p true e = rw (← e) refl
  fault_there s p false e = rw (← e) refl

  pub reads_where : (r r' : TextReader) (b : Bool) (o : Result (Unit {0}) Fault) → b ≡ test r.text.now r.at → Reads r (require (not b) n) o r'
      → Reads r (fault_where test n) o r'
  reads_where r r' b o e w = record { gave = w.gave ∙ fault_there r.text.now r.at b e; same = w.same }

-- ---- node 0's rows
first_first : (k : ℕ) (rs : List Row) (s : List ℕ) (p : ℕ) → names_node 0 s p ≡ true → first_after (suc k) rs s p ≡ (origin_row 0 (length rs) >>= (λ x. first_after k (rs ++ (x ∷ [])))) s p
unfolding first_after
first_first k rs s p t = ap (λ (m : Reader (List Row)). m s p) (choose_true _ _ _ t)

none_more : (k : ℕ) (rs : List Row) (s : List ℕ) (p : ℕ) → names_node 0 s p ≡ false → first_after k rs s p ≡ got rs p
unfolding first_after fault_where ◌>>◌ ◌>>=◌ and_then pure choose
none_more zero rs s p f = rw f refl
none_more (suc k) rs s p f = rw f refl

over_law : (rs : List Row) (s : List ℕ) (p : ℕ) (b : Bool) → b ≡ names_node 0 s p → first_after 0 rs s p ≡ (require (not b) 22 >> pure rs) s p
unfolding first_after fault_where require require_in choose fail ◌>>◌ ◌>>=◌ and_then pure
over_law rs s p true e = rw (← e) refl
over_law rs s p false e = rw (← e) refl

module _ (r₀ r : TextReader) (n : ℕ) (rows : List Row) (l : FirstRowing r₀ r n rows) where
  row_next : n < 16 → names_node 0 r.text.now r.at ≡ true
      → Resumes r₀ first_rows r (origin_row 0 n >>= (λ x. first_after (16 - (n + 1)) (l.read ++ (x ∷ []))))
  row_next h t =
      let e : 16 - n ≡ suc (16 - (n + 1)) = omega arith in
      let first = first_first (16 - (n + 1)) l.read r.text.now r.at t in
      record { rest = l.rest.rest ∙ rw e (rw l.count at first); same = l.rest.same }

  module _ (b : Bool) (e : b ≡ names_node 0 r.text.now r.at) where
    pub first_none : (f : FirstRows) → b ≡ false → f.count ≡ n → f.rows ≡ rows → Stood First r₀ first_rows f r
    unfolding came
    first_none f t c d = record {
      read = l.read;
      stands = record { count = l.count ∙ sym c; standing = d ∙ l.standing };
      went = resumed r₀ r r _ _ (Ok l.read) l.rest
          (record { gave = sym (none_more (16 - n) l.read r.text.now r.at (sym e ∙ t)); same = refl });
    }

    pub first_on : (r' : TextReader) (x : Row) → b ≡ true → n < 16 → Reads r (origin_row 0 n) (Ok x) r' → FirstRowing r₀ r' (n + 1) (set rows n x)
    first_on r' x t h w = record {
      read = l.read ++ (x ∷ []);
      count = omega (arith, l.count, length-append l.read (x ∷ []));
      standing = one_filled l.read n x rows l.standing l.count h;
      rest = resumes_then r₀ r r' _ (origin_row 0 n) _ x (row_next h (sym e ∙ t)) w;
    }

    pub first_fault : (r' : TextReader) (f : Fault) (o : Result FirstRows Fault) → b ≡ true → n < 16 → Reads r (origin_row 0 n) (Err f) r'
        → IsErrAnd o (λ d. d ≡ f) → Stands First r₀ first_rows o r'
    first_fault r' f o t h w x =
        stands_fault First r₀ r' first_rows o f
        (resumed r₀ r r' _ _ (Err f) (row_next h (sym e ∙ t)) (reads_failed r r' (origin_row 0 n) _ f w)) x

    over : 16 ≤ n → Resumes r₀ first_rows r (require (not b) 22 >> pure l.read)
    over h =
        let z : 16 - n ≡ 0 = omega arith in
        record {
          rest = l.rest.rest ∙ ap (λ (k : ℕ). first_after k l.read r.text.now r.at) z ∙ over_law l.read r.text.now r.at b e;
          same = l.rest.same;
        }

    pub first_over : (r' : TextReader) (f : Fault) (o : Result FirstRows Fault) → 16 ≤ n → Reads r (require (not b) 22) (Err f) r'
        → IsErrAnd o (λ d. d ≡ f) → Stands First r₀ first_rows o r'
    first_over r' f o h w x =
        stands_fault First r₀ r' first_rows o f (resumed r₀ r r' _ _ (Err f) (over h) (next_failed r r' _ _ f w)) x

    pub first_all : (r' : TextReader) (a : Unit {0}) (f : FirstRows) → 16 ≤ n → f.count ≡ n → f.rows ≡ rows
        → Reads r (require (not b) 22) (Ok a) r' → Stood First r₀ first_rows f r'
    first_all r' a f h c d w = record {
      read = l.read;
      stands = record { count = l.count ∙ sym c; standing = d ∙ l.standing };
      went = resumed r₀ r r' _ _ (Ok l.read) (over h) (reads_next r r' _ r' (pure l.read) a (Ok l.read) w (reads_pure r' r' l.read));
    }

module _ (r r' : TextReader) where
  pub first_begin : (x z : Row) (rows : List Row) → Reads r (origin_row 0 0) (Ok x) r' → z ≡ zero_row → rows ≡ alike z
      → FirstRowing r r' 1 (set rows 0 x)
  unfolding first_rows
  first_begin x z rows w e d = record {
    read = x ∷ [];
    count = refl;
    standing = one_filled [] 0 x rows (none_filled z rows e d) refl (omega arith);
    rest = resumes_then r r r' _ (origin_row 0 0) _ x (resumes_start r _) w;
  }

  pub first_failed : (f : Fault) (o : Result FirstRows Fault) → Reads r (origin_row 0 0) (Err f) r' → IsErrAnd o (λ d. d ≡ f)
      → Stands First r first_rows o r'
  unfolding first_rows
  first_failed f o w x = stands_fault First r r' _ o f (reads_failed r r' (origin_row 0 0) _ f w) x

pub ruleset firsts = (first_none, first_on, first_fault, first_over, first_all, first_begin, first_failed)

-- ---- the rows of another node
module _ (n i : ℕ) where
  pub node_begin : (r : TextReader) (z : Row) (rows : List Row) → z ≡ zero_row → rows ≡ alike z → NodeRowing n i r r 0 rows
  node_begin r z rows e d = record {
    read = [];
    count = refl;
    within = omega arith;
    standing = none_filled z rows e d;
    rest = record { rest = ap (λ (k : ℕ). node_rows_after k i [] r.text.now r.at) (omega arith); same = refl };
  }

  rows_first : (j : ℕ) (rs : List Row) → j < n → node_rows_after (n - j) i rs ≡ origin_row i (length rs) >>= (λ x. node_rows_after (n - (j + 1)) i (rs ++ (x ∷ [])))
  unfolding node_rows_after
  rows_first j rs h = let e : n - j ≡ suc (n - (j + 1)) = omega arith in rw e refl

  rows_none : (j : ℕ) (rs : List Row) → n ≤ j → node_rows_after (n - j) i rs ≡ pure rs
  unfolding node_rows_after
  rows_none j rs h = let e : n - j ≡ 0 = omega arith in rw e refl

  module _ (r₀ r : TextReader) (j : ℕ) (rows : List Row) (l : NodeRowing n i r₀ r j rows) where
    node_next : j < n → Resumes r₀ (node_rows_after n i []) r (origin_row i j >>= (λ x. node_rows_after (n - (j + 1)) i (l.read ++ (x ∷ []))))
    node_next h = let first = rows_first j l.read h in rw (rw l.count at first) at l.rest

    pub node_on : (r' : TextReader) (x : Row) → n ≤ 16 → j < n → Reads r (origin_row i j) (Ok x) r' → NodeRowing n i r₀ r' (j + 1) (set rows j x)
    node_on r' x few h w = record {
      read = l.read ++ (x ∷ []);
      count = omega (arith, l.count, length-append l.read (x ∷ []));
      within = omega arith;
      standing = one_filled l.read j x rows l.standing l.count (omega arith);
      rest = resumes_then r₀ r r' _ (origin_row i j) _ x (node_next h) w;
    }

    pub node_fault : (r' : TextReader) (f : Fault) (o : Result (List Row) Fault) → j < n → Reads r (origin_row i j) (Err f) r'
        → IsErrAnd o (λ d. d ≡ f) → Stands (Filled n) r₀ (node_rows n i) o r'
    unfolding node_rows
    node_fault r' f o h w x =
        stands_fault (Filled n) r₀ r' _ o f
        (reads_failed r₀ r' _ _ f (resumed r₀ r r' _ _ (Err f) (node_next h) (reads_failed r r' (origin_row i j) _ f w))) x

    all_read : n ≤ j → Reads r₀ (node_rows_after n i []) (Ok l.read) r
    all_read h = resumed r₀ r r _ _ (Ok l.read) (rw (rows_none j l.read h) at l.rest) (reads_pure r r l.read)

    module _ (b : Bool) (e : b ≡ seventeenth n i r.text.now r.at) (r' : TextReader) where
      pub node_over : (f : Fault) (o : Result (List Row) Fault) → n ≤ j → Reads r (require (not b) 22) (Err f) r'
          → IsErrAnd o (λ d. d ≡ f) → Stands (Filled n) r₀ (node_rows n i) o r'
      unfolding node_rows
      node_over f o h w x =
          stands_fault (Filled n) r₀ r' _ o f
          (reads_then r₀ r (node_rows_after n i []) r' _ l.read (Err f) (all_read h)
          (next_failed r r' _ _ f (reads_where (seventeenth n i) 22 r r' b (Err f) e w))) x

      pub node_all : (a : Unit {0}) → n ≤ j → Reads r (require (not b) 22) (Ok a) r' → Stood (Filled n) r₀ (node_rows n i) rows r'
      unfolding node_rows
      node_all a h w = record {
        read = l.read;
        stands = record { count = omega (arith, l.count, l.within); standing = l.standing };
        went =
            reads_then r₀ r (node_rows_after n i []) r' _ l.read (Ok l.read) (all_read h)
            (reads_next r r' _ r' _ a (Ok l.read) (reads_where (seventeenth n i) 22 r r' b (Ok a) e w) (reads_pure r' r' l.read));
      }

pub ruleset node = (node_begin, node_on, node_fault, node_over, node_all)

-- ---- all nodes
nodes_first : (n i : ℕ) (rss : List (List Row)) → i < n → nodes_after (n - i) n rss ≡ node_rows n (length rss) >>= (λ rs. nodes_after (n - (i + 1)) n (rss ++ (rs ∷ [])))
unfolding nodes_after
nodes_first n i rss h = let e : n - i ≡ suc (n - (i + 1)) = omega arith in rw e refl

nodes_none : (n i : ℕ) (rss : List (List Row)) → n ≤ i → nodes_after (n - i) n rss ≡ pure rss
unfolding nodes_after
nodes_none n i rss h = let e : n - i ≡ 0 = omega arith in rw e refl

module _ (n : ℕ) (rs : List Row) (r₀ : TextReader) where
  pub nodes_begin :
      (f : FirstRows) (net with : Net) → First rs f → f.count ≡ n → 1 ≤ n → net ≡ empty_net
      → with ≡ with_node (with_format net 2) (address_of 0) (with_rows (node_at (with_format net 2) (address_of 0)) f.rows)
      → NodesRuling n rs r₀ r₀ 1 with
  unfolding unruled with_counts empty_net with_format rows_of ruled
  nodes_begin f net with g c h e put = record {
    read = rs ∷ [];
    count = refl;
    within = h;
    standing = put ∙ origin_more [] 0 rs f.rows (unruled 2 0 0) (with_format net 2) refl g.standing (ap (λ (x : Net). with_format x 2) e);
    rest = resumes_start r₀ _;
  }

  module _ (r : TextReader) (i : ℕ) (net : Net) (l : NodesRuling n rs r₀ r i net) where
    nodes_next : i < n → Resumes r₀ (nodes_after (n - 1) n (rs ∷ [])) r (node_rows n i >>= (λ x. nodes_after (n - (i + 1)) n (l.read ++ (x ∷ []))))
    nodes_next h = let first = nodes_first n i l.read h in rw (rw l.count at first) at l.rest

    pub nodes_on : (r' : TextReader) (rows : List Row) (with : Net) → i < n → Stood (Filled n) r (node_rows n i) rows r'
        → with ≡ with_node net (address_of i) (with_rows (node_at net (address_of i)) rows) → NodesRuling n rs r₀ r' (i + 1) with
    nodes_on r' rows with h g put = record {
      read = l.read ++ (g.read ∷ []);
      count = omega (arith, l.count, length-append l.read (g.read ∷ []));
      within = omega arith;
      standing = put ∙ origin_more l.read i g.read rows (unruled 2 0 0) net l.count g.stands.standing l.standing;
      rest = resumes_then r₀ r r' _ (node_rows n i) _ g.read (nodes_next h) g.went;
    }

    pub nodes_fault : (r' : TextReader) (f : Fault) (o : Result Net Fault) → i < n → Reads r (node_rows n i) (Err f) r'
        → IsErrAnd o (λ d. d ≡ f) → Stands (Origins n) r₀ (nodes_after (n - 1) n (rs ∷ [])) o r'
    nodes_fault r' f o h w x =
        stands_fault (Origins n) r₀ r' _ o f (resumed r₀ r r' _ _ (Err f) (nodes_next h) (reads_failed r r' (node_rows n i) _ f w)) x

    pub nodes_all : n ≤ i → n ≤ 16 → Stood (Origins n) r₀ (nodes_after (n - 1) n (rs ∷ [])) (with_counts net n net.length) r
    unfolding format_of addresses_of
    nodes_all h few = record {
      read = l.read;
      stands = record {
        count = omega (arith, l.count, l.within);
        within = few;
        standing = counted_anew (by_origin l.read) net n l.standing (omega (arith, l.count, l.within));
      };
      went = resumed r₀ r r _ _ (Ok l.read) (rw (nodes_none n i l.read h) at l.rest) (reads_pure r r l.read);
    }

-- ---- the rows, judged
module _ (r : TextReader) (o : Result Net Fault) (f : Fault) (x : IsErrAnd o (λ d. d ≡ f)) where
  origin_fault : (r' : TextReader) → Reads r origin_rows (Err f) r' → Stands Ruled r rows_by_origin o r'
  unfolding rows_by_origin
  origin_fault r' w = stands_fault Ruled r r' _ o f (reads_failed r r' origin_rows _ f w) x

  pub judged_first : (r' : TextReader) → Reads r first_rows (Err f) r' → Stands Ruled r rows_by_origin o r'
  unfolding origin_rows
  judged_first r' w = origin_fault r' (reads_failed r r' first_rows _ f w)

module _ (r r₁ r₂ : TextReader) (h : FirstRows) (g : Stood First r first_rows h r₁) where
  -- the nodes after the first, by the count beside node 0's rows
  counted : {B : Type 0} (m : ℕ → Reader B) (o : Result B Fault) (q : TextReader) (p : TextReader) → Reads p (m h.count) o q → Reads p (m (length g.read)) o q
  counted m o q p w = rw g.stands.count w

  pub judged_nodes : (o : Result Net Fault) (f : Fault) → Reads r₁ (nodes_after (h.count - 1) h.count (g.read ∷ [])) (Err f) r₂
      → IsErrAnd o (λ d. d ≡ f) → Stands Ruled r rows_by_origin o r₂
  unfolding origin_rows
  judged_nodes o f w x =
      origin_fault r o f x r₂
      (reads_then r r₁ first_rows r₂ _ g.read (Err f) g.went
      (reads_failed r₁ r₂ _ _ f (counted (λ n. nodes_after (n - 1) n (g.read ∷ [])) (Err f) r₂ r₁ w)))

  module _ (net : Net) (u : Stood (Origins h.count) r₁ (nodes_after (h.count - 1) h.count (g.read ∷ [])) net r₂) where
    nodes_counted : net.addresses ≡ length u.read
    unfolding addresses_of
    nodes_counted = ap (λ (x : Net). x.addresses) u.stands.standing ∙ governed_addresses (by_origin u.read) 0

    pub few_nodes : net.addresses ≤ 16
    few_nodes = omega (arith, nodes_counted, u.stands.count, u.stands.within)

    -- what follows node 0's rows and the others
    onward : {o : Result (List (List Row)) Fault} (q : TextReader)
        → Reads r₂ (fault_where is_origin_row (number_over h.count) >> (require (all_nodes_within u.read) 23 >> pure u.read)) o q
        → Reads r origin_rows o q
    unfolding origin_rows
    onward {o} q w =
        reads_then r r₁ first_rows q _ g.read o g.went
        (reads_then r₁ r₂ (nodes_after (length g.read - 1) (length g.read) (g.read ∷ [])) q _ u.read o
        (counted (λ n. nodes_after (n - 1) n (g.read ∷ [])) (Ok u.read) r₂ r₁ u.went)
        (counted (λ n. fault_where is_origin_row (number_over n) >> (require (all_nodes_within u.read) 23 >> pure u.read)) o q r₂ w))

    module _ (over : Bool) (e : over ≡ is_origin_row r₂.text.now r₂.at) (r₃ : TextReader) where
      pub judged_over : (o : Result Net Fault) (f : Fault) → Reads r₂ (require (not over) (number_over h.count)) (Err f) r₃
          → IsErrAnd o (λ d. d ≡ f) → Stands Ruled r rows_by_origin o r₃
      judged_over o f w x =
          origin_fault r o f x r₃
          (onward {o = Err f} r₃ (next_failed r₂ r₃ _ _ f (reads_where is_origin_row (number_over h.count) r₂ r₃ over (Err f) e w)))

      module _ (a : Unit {0}) (v : Reads r₂ (require (not over) (number_over h.count)) (Ok a) r₃) (good : Bool)
          (d : good ≡ all net.addresses (λ i. all net.addresses (λ j. within net.addresses (row_at (node_at net (address_of i)) (address_of j)))))
          (r₄ : TextReader) where
        fits : good ≡ all_nodes_within u.read
        fits = d ∙ nodes_within u.read net (omega (arith, u.stands.count, u.stands.within)) u.stands.standing

        pub judged_within : (o : Result Net Fault) (f : Fault) → Reads r₃ (require good 23) (Err f) r₄ → IsErrAnd o (λ d. d ≡ f)
            → Stands Ruled r rows_by_origin o r₄
        judged_within o f w x =
            origin_fault r o f x r₄
            (onward {o = Err f} r₄
            (reads_next r₂ r₃ _ r₄ _ a (Err f) (reads_where is_origin_row (number_over h.count) r₂ r₃ over (Ok a) e v)
            (next_failed r₃ r₄ _ _ f (rw fits at w))))

        pub judged_all : (b : Unit {0}) → Reads r₃ (require good 23) (Ok b) r₄ → Stood Ruled r rows_by_origin net r₄
        unfolding rows_by_origin addresses_of
        judged_all b w = record {
          read = by_origin u.read;
          stands = record { within = omega (arith, u.stands.count, u.stands.within); standing = u.stands.standing };
          went =
              reads_then r r₄ origin_rows r₄ _ u.read (Ok (by_origin u.read))
              (onward {o = Ok u.read} r₄
              (reads_next r₂ r₃ _ r₄ _ a (Ok u.read) (reads_where is_origin_row (number_over h.count) r₂ r₃ over (Ok a) e v)
              (reads_next r₃ r₄ _ r₄ _ b (Ok u.read) (rw fits at w) (reads_pure r₄ r₄ u.read))))
              (reads_pure r₄ r₄ (by_origin u.read));
        }
