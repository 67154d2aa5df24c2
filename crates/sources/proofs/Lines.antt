-- The lines after the rows, and the whole text (`Lines.antt` of `notation`): what is read is what is printed. The scope is what
-- addresses and sets of lines are judged by. Assumes nothing.
use Prim.Native.Nat.{ℕ, zero, suc, ◌+◌, ◌≤◌}
use mathlib.Core.Path.{◌≡◌, refl, sym, ap, subst, ◌∙◌}
use mathlib.Core.Logic.{inl, inr}
use mathlib.Core.Bool.{Bool, true, false}
use mathlib.Core.List.{List, [], ◌∷◌, ◌++◌, append-nil, append_assoc}
use native.Mathlib.Omega.{arith}
use lib.ListN.{length, get_or, length-append, get_or-eq_default}
use lib.Dec.{leb, ltb}
use borrow.Author.Tests.{leb-true, le-leb, lt-leb, ltb-true, lt-ltb}
use Rattle.net.specs.Choice.{choose}
use Rattle.net.proofs.Laws.{choose_true, choose_false}
use Rattle.readers.specs.Reader.{Parsed, got, fault, Reader, pure, and_then, ◌>>=◌}
use Rattle.readers.proofs.ReaderLaws.{no_fault}
use Rattle.text.specs.Bytes.{bytes}
use Rattle.text.specs.Decimal.{decimal}
use Rattle.lexemes.specs.Lexemes.{byte_at, is_digit}
use Rattle.terms.specs.Terms.{Process, Action, nil, name, fork, act, out, input, read, eval, newloc, out_all}
use Rattle.processes.specs.Reading as Reading
use Rattle.rows.specs.Rows.{opens_with, is_row}
use Rattle.rows.specs.OriginRows.{is_origin_row}
use Rattle.rows.specs.Policies.{policy}
use Rattle.linking.specs.Source.{Line, definition, process, tuple, Policy, Source}
use Rattle.linking.specs.Compiled.{addresses_of}
use Rattle.linking.specs.Counts.{processes_in, tuples_in, counted}
use Rattle.notation.specs.Lines.{definition_line, process_line, tuple_line, placed_line, located_line, line, lines_after, lines, source}
use Rattle.notation.specs.Scopes.{scope_of}
use Rattle.sources.specs.Types.{Locality, Scope}
use Rattle.sources.specs.Printed.{newline, address_text, tuple_text, process_text, action_text, line_text, lines_text, policy_text, printed}
use Rattle.sources.specs.WellFormed.{Each, none, more, LineFormed, defines, runs, holds, PolicyFormed, one_row, each_origin}
use Rattle.sources.proofs.Stands.{Stands, stands_append, stands_first_law, stands_rest, stands_opens, stands_fits, stands_whole, stands_self}
use Rattle.sources.proofs.ReadsPrints.{opens_with_law, opens_append, Bears, bears_as, Reads, Any, After, Or, Then, Image, reads_as, reads_pure, reads_then}
use Rattle.sources.proofs.ReadsPrints.{reads_from_word, reads_require, reads_closed, reads_choice, reads_last}
use Rattle.sources.proofs.Numbers.{low_byte, high_byte, NoDigit, no_other}
use Rattle.sources.proofs.Fields.{AddressText, reads_address, address_opens, TupleText, reads_tuple}
use Rattle.sources.proofs.Actions.{ProcessText}
use Rattle.sources.proofs.Processes.{NameText, reads_named, reads_process}
use Rattle.sources.proofs.Openings.{opens_other, opens_none}
use Rattle.sources.proofs.Policies.{PolicyText, NoPolicy, reads_policy}

-- no process opens with a tuple's bracket
action_other : (a : Action) (v : List ℕ) (d : ℕ) → get_or (action_text a ++ v) 0 d ≡ 60 → ⊥
unfolding action_text bytes
action_other (out c t) v d e = omega arith
action_other (input c t) v d e = omega arith
action_other (read c t) v d e = omega arith
action_other (eval p t) v d e = omega arith
action_other (newloc k) v d e = omega arith
action_other (out_all c g) v d e = omega arith

process_other : (p : Process) (v : List ℕ) (d : ℕ) → get_or (process_text p ++ v) 0 d ≡ 60 → ⊥
unfolding process_text bytes
process_other nil v d e = omega arith
process_other (name k) v d e = omega arith
process_other (fork p q) v d e = omega arith
process_other (act a p) v d e =
    action_other a ((46 ∷ process_text p) ++ v) d (ap (λ (w : List ℕ). get_or w 0 d) (sym (append_assoc (action_text a) (46 ∷ process_text p) v)) ∙ e)

-- the text of a line, from its parts
assembled : (a sep b c v w rest u : List ℕ) → a ≡ c → b ≡ v → v ++ (10 ∷ []) ≡ w → sep ++ w ≡ rest → c ++ rest ≡ u
    → a ++ (sep ++ (b ++ (10 ∷ []))) ≡ u
assembled a sep b c v w rest u d e f g h =
    ap (λ (z : List ℕ). a ++ (sep ++ (z ++ (10 ∷ [])))) e ∙ ap (λ (z : List ℕ). a ++ (sep ++ z)) f ∙ ap (λ (z : List ℕ). a ++ z) g
    ∙ ap (λ (z : List ℕ). z ++ rest) d ∙ h

-- ---- one line, ls being those before it
module _ (scope : Scope) where
  -- a process and the line's end
  abbrev Closed : (Process → Line) → Line → List ℕ → Type 0
  Closed make = Image make (λ p t. (u : List ℕ) × ProcessText scope 32 p u × (u ++ (10 ∷ []) ≡ t))

  abbrev Definition : Line → List ℕ → Type 0
  Definition = Then NameText (λ k. After (bytes " = ") (Closed (definition k)))

  module _ (ls : List Line) where
    abbrev Tuples : Locality → Line → List ℕ → Type 0
    Tuples a l t =
        (ltb (counted (tuples_in a) ls) 16 ≡ true) × Image (tuple a) (λ b t. (u : List ℕ) × TupleText scope.addresses b u × (u ++ (10 ∷ []) ≡ t)) l t

    abbrev Processes : Locality → Line → List ℕ → Type 0
    Processes a l t = (ltb (counted (processes_in a) ls) 4 ≡ true) × Closed (process a) l t

    abbrev Located : Line → List ℕ → Type 0
    Located = Then (AddressText scope.addresses) (λ a. After (bytes " :: ") (Or (Tuples a) (Processes a)))

    pub record LineText (l : Line) (u : List ℕ) : Type 0 where
      pub formed : LineFormed scope ls l
      pub prints : line_text l ≡ u

    line_to : (l : Line) (u : List ℕ) → Or Definition Located l u → LineText l u
    unfolding line_text newline bytes
    line_to l u (inl x) =
        let (w, (p, (v, y, e), is), f) = x.goes_on in
        let k = x.one in
        subst (λ (z : Line). LineText z u) is (record {
          formed = defines x.prints.in_range_law y.formed;
          prints = assembled (65 ∷ decimal k) (bytes " = ") (process_text p) _ v w _ u x.prints.prints y.prints e f x.is;
        })
    line_to l u (inr x) = go x.goes_on.1
      where
        go : Or (Tuples x.one) (Processes x.one) l x.goes_on.0 → LineText l u
        go (inl (few, (b, (v, y, e), is))) =
            subst (λ (z : Line). LineText z u) is (record {
              formed = holds x.prints.in_range_law (ltb-true _ 16 few) y.formed;
              prints = assembled (address_text x.one) (bytes " :: ") (tuple_text b) _ v _ _ u x.prints.prints y.prints e x.goes_on.2 x.is;
            })
        go (inr (few, (p, (v, y, e), is))) =
            subst (λ (z : Line). LineText z u) is (record {
              formed = runs x.prints.in_range_law (ltb-true _ 4 few) y.formed;
              prints = assembled (address_text x.one) (bytes " :: ") (process_text p) _ v _ _ u x.prints.prints y.prints e x.goes_on.2 x.is;
            })

    line_from : (l : Line) (u : List ℕ) → LineFormed scope ls l → line_text l ≡ u → Or Definition Located l u
    unfolding line_text newline bytes
    line_from l u (defines {k = k} {p = p} h x) e = inl (record {
      one = k;
      text = 65 ∷ decimal k;
      rest = bytes " = " ++ (process_text p ++ (10 ∷ []));
      prints = record { in_range_law = h; prints = refl };
      goes_on = (process_text p ++ (10 ∷ []), (p, (process_text p, record { formed = x; prints = refl }, refl), refl), refl);
      is = e;
    })
    line_from l u (runs {a = a} {p = p} h few x) e = inr (record {
      one = a;
      text = address_text a;
      rest = bytes " :: " ++ (process_text p ++ (10 ∷ []));
      prints = record { in_range_law = h; prints = refl };
      goes_on = (
        process_text p ++ (10 ∷ []),
        inr (lt-ltb _ 4 few, (p, (process_text p, record { formed = x; prints = refl }, refl), refl)),
        refl,
      );
      is = e;
    })
    line_from l u (holds {a = a} {t = t} h few x) e = inr (record {
      one = a;
      text = address_text a;
      rest = bytes " :: " ++ (tuple_text t ++ (10 ∷ []));
      prints = record { in_range_law = h; prints = refl };
      goes_on = (
        tuple_text t ++ (10 ∷ []),
        inl (lt-ltb _ 16 few, (t, (tuple_text t, record { formed = x; prints = refl }, refl), refl)),
        refl,
      );
      is = e;
    })

    module _ (h : scope.addresses ≤ 16) where
      reads_definition_line : Reads (definition_line scope) Definition Any
      unfolding definition_line Reading.process bytes
      reads_definition_line =
          reads_then reads_named
          (λ k u x. reads_from_word (bytes " = ") (reads_closed 10 (definition k) (reads_process scope h 32) (low_byte 10 (omega arith))))
          (λ k l u v d x y e. subst NoDigit (sym (opens_with_law _ v d y.2)) (low_byte 32 (omega arith)))

      reads_tuple_line : (a : Locality) → Reads (tuple_line scope ls a) (Tuples a) Any
      unfolding tuple_line
      reads_tuple_line a = reads_require _ 22 (reads_closed 10 (tuple a) (reads_tuple scope.addresses h) tt)

      reads_process_line : (a : Locality) → Reads (process_line scope ls a) (Processes a) Any
      unfolding process_line Reading.process
      reads_process_line a = reads_require _ 22 (reads_closed 10 (process a) (reads_process scope h 32) (low_byte 10 (omega arith)))

      tuple_opens : (a : Locality) (l : Line) (u : List ℕ) (d : ℕ) → Tuples a l u → get_or u 0 d ≡ 60
      unfolding tuple_text bytes
      tuple_opens a l u d (few, (b, (v, x, e), is)) =
          opens_with_law _ u d (ap (λ (w : List ℕ). w ++ (10 ∷ [])) x.prints ∙ e)

      process_opens : (a : Locality) (l : Line) (u : List ℕ) (d : ℕ) → Processes a l u → get_or u 0 d ≡ 60 → ⊥
      process_opens a l u d (few, (p, (v, x, e), is)) f =
          process_other p (10 ∷ []) d (sym (opens_with_law _ u d (ap (λ (w : List ℕ). w ++ (10 ∷ [])) x.prints ∙ e)) ∙ f)

      reads_located_line : Reads (located_line scope ls) Located Any
      unfolding located_line placed_line bytes
      reads_located_line =
          reads_then (reads_address scope.addresses h)
          (λ a u x. reads_from_word (bytes " :: ")
          (reads_choice 60 (reads_tuple_line a) (reads_last (reads_process_line a))
          (λ l u d y e. tuple_opens a l u d y) (λ l u d y e. process_opens a l u d y)
          ).looked)
          (λ a l u v d x y e. subst NoDigit (sym (opens_with_law _ v d y.2)) (low_byte 32 (omega arith)))

      definition_opens : (l : Line) (u : List ℕ) (d : ℕ) → Definition l u → get_or u 0 d ≡ 65
      unfolding bytes
      definition_opens l u d x = opens_with_law _ u d (ap (λ (w : List ℕ). w ++ x.rest) x.prints.prints ∙ x.is)

      located_opens : (l : Line) (u : List ℕ) (d : ℕ) → Located l u → is_digit (get_or u 0 d) ≡ true
      located_opens l u d x =
          ap is_digit (opens_with_law _ u d x.is ∙ opens_append x.text x.rest d)
          ∙ address_opens scope.addresses h x.one x.text (get_or x.rest 0 d) x.prints

      pub reads_line : Reads (line scope ls) LineText Any
      unfolding line
      reads_line =
          reads_as
          (reads_choice 65 reads_definition_line (reads_last reads_located_line)
          (λ l u d x e. definition_opens l u d x) (λ l u d x e. no_other _ 65 (located_opens l u d x) (high_byte 65 (omega arith)))
          ).looked
          line_to (λ l u x. line_from l u x.formed x.prints) (λ d e. e)

-- a line has a byte at least
line_some : (l : Line) → 1 ≤ length (line_text l)
unfolding line_text bytes
line_some (definition k p) = omega arith
line_some (process a p) = let e = length-append (address_text a) (bytes " :: " ++ (process_text p ++ newline)) in omega arith
line_some (tuple a t) = let e = length-append (address_text a) (bytes " :: " ++ (tuple_text t ++ newline)) in omega arith

definition_here : (s : List ℕ) (p : ℕ) (v : List ℕ) (k : ℕ) (q : Process) → Stands s p (line_text (definition k q) ++ v) → byte_at s p ≡ 65
unfolding line_text bytes
definition_here s p v k q st = stands_opens s p (line_text (definition k q) ++ v) st

-- and opens with no word of rows: ` :: ` has a colon (58) behind its space
line_opens_none : (scope : Scope) (ls : List Line) (l : Line) (s : List ℕ) (p : ℕ) (v : List ℕ) (c : ℕ) (w : List ℕ) → scope.addresses ≤ 16
    → LineFormed scope ls l → Stands s p (line_text l ++ v) → (c ≡ 58 → ⊥) → opens_with (32 ∷ c ∷ w) s p ≡ false
unfolding line_text address_text bytes
line_opens_none scope ls l s p v c w h (defines {k = k} {p = q} g x) st f =
    opens_none _ s p (ap is_digit (definition_here s p v k q st) ∙ (high_byte 65 (omega arith)))
line_opens_none scope ls l s p v c w h (runs {a = a} {p = q} g few x) st f =
    opens_other a.0 s p (omega arith) c 58 w (58 ∷ 32 ∷ (process_text q ++ newline)) f (stands_first_law s p _ v st)
line_opens_none scope ls l s p v c w h (holds {a = a} {t = t} g few x) st f =
    opens_other a.0 s p (omega arith) c 58 w (58 ∷ 32 ∷ (tuple_text t ++ newline)) f (stands_first_law s p _ v st)

-- ---- lines up to the end of the text
record Later (scope : Scope) (before : List Line) (ls : List Line) (u : List ℕ) : Type 0 where
  later : List Line
  each : Each (LineFormed scope) before later
  is : before ++ later ≡ ls
  prints : lines_text later ≡ u

module _ (scope : Scope) (h : scope.addresses ≤ 16) (s : List ℕ) where
  none_later : (before : List Line) (p : ℕ) (ls : List Line) (q : ℕ) → length s ≤ p → pure before s p ≡ got ls q
      → Bears (Later scope before) s p ls q × (length s ≤ q)
  unfolding lines_text
  none_later before p ls q g e =
      let x = (reads_pure {E = Any} before).only s p ls q e in
      let l = ap length x.prints.1 in
      let end = x.ends in
      (bears_as (λ u (is, m). record { later = []; each = none; is = append-nil before ∙ is; prints = m }) x, omega arith)

  module _ (k : ℕ) (before : List Line)
      (after : (l : Line) (p : ℕ) (ls : List Line) (q : ℕ) → length s ≤ k + p → lines_after k scope (before ++ (l ∷ [])) s p ≡ got ls q
      → Bears (Later scope (before ++ (l ∷ []))) s p ls q × (length s ≤ q)) where
    one_later : (p : ℕ) (ls : List Line) (q : ℕ) → length s ≤ suc k + p → (o : Parsed Line) → line scope before s p ≡ o
        → and_then o s (λ l. lines_after k scope (before ++ (l ∷ []))) ≡ got ls q → Bears (Later scope before) s p ls q × (length s ≤ q)
    unfolding and_then lines_text
    one_later p ls q g (fault m) d e = no_fault e
    one_later p ls q g (got l j) d e =
        let x = (reads_line scope before h).only s p l j d in
        let some = line_some l in
        let same = ap length x.prints.prints in
        let at = x.ends in
        let (y, end) = after l j ls q (omega arith) e in
        let z = y.prints in
        let m = length-append x.text y.text in (
          record {
            text = x.text ++ y.text;
            prints = record {
              later = l ∷ z.later;
              each = more x.prints.formed z.each;
              is = sym (append_assoc before (l ∷ []) z.later) ∙ z.is;
              prints = ap (λ (w : List ℕ). w ++ lines_text z.later) x.prints.prints ∙ ap (λ (w : List ℕ). x.text ++ w) z.prints;
            };
            stands = stands_append s p x.text y.text x.stands (subst (λ (i : ℕ). Stands s i y.text) at y.stands);
            ends = omega (arith, y.ends);
          },
          end,
        )

    by_end : (p : ℕ) (ls : List Line) (q : ℕ) → length s ≤ suc k + p → (b : Bool) → leb (length s) p ≡ b
        → choose b (pure before) (line scope before >>= (λ l. lines_after k scope (before ++ (l ∷ [])))) s p ≡ got ls q
        → Bears (Later scope before) s p ls q × (length s ≤ q)
    unfolding choose ◌>>=◌
    by_end p ls q g true b e = none_later before p ls q (leb-true (length s) p b) e
    by_end p ls q g false b e = one_later p ls q g (line scope before s p) refl e

  only_lines : (k : ℕ) (before : List Line) (p : ℕ) (ls : List Line) (q : ℕ) → length s ≤ k + p → lines_after k scope before s p ≡ got ls q
      → Bears (Later scope before) s p ls q × (length s ≤ q)
  unfolding lines_after
  only_lines zero before p ls q g e = none_later before p ls q (omega arith) e
  only_lines (suc k) before p ls q g e =
      by_end k before (λ l p ls q f i. only_lines k (before ++ (l ∷ [])) p ls q f i) p ls q g (leb (length s) p) refl e

  back_none : (k : ℕ) (before : List Line) (p : ℕ) → length s ≤ p → lines_after k scope before s p ≡ got before p
  unfolding lines_after pure
  back_none zero before p g = refl
  back_none (suc k) before p g = ap (λ (m : Reader (List Line)). m s p) (choose_true _ _ _ (le-leb (length s) p g))

  back_lines : (k : ℕ) (before later : List Line) (p : ℕ) → Each (LineFormed scope) before later → length s ≤ k + p → Stands s p (lines_text later)
      → p + length (lines_text later) ≡ length s → lines_after k scope before s p ≡ got (before ++ later) (length s)
  unfolding lines_text lines_after ◌>>=◌ and_then
  back_lines k before [] p e g st end =
      let at : p ≡ length s = omega arith in
      back_none k before p (omega arith) ∙ ap (λ ls. got ls p) (sym (append-nil before)) ∙ ap (got (before ++ [])) at
  back_lines zero before (l ∷ later) p e g st end =
      let m = length-append (line_text l) (lines_text later) in
      let some = line_some l in absurd (omega arith)
  back_lines (suc k) before (l ∷ later) p (more f e) g st end =
      let u = line_text l in
      let v = lines_text later in
      let m = length-append u v in
      let some = line_some l in
      let here = stands_first_law s p u v st in
      ap (λ (m : Reader (List Line)). m s p) (choose_false _ _ _ (lt-leb (length s) p (omega arith)))
      ∙ ap (λ o. and_then o s (λ l. lines_after k scope (before ++ (l ∷ []))))
      ((reads_line scope before h).back s p l u (record { formed = f; prints = refl }) here tt)
      ∙ back_lines k (before ++ (l ∷ [])) later (p + length u) e (omega arith) (stands_rest s p u v st) (omega arith)
      ∙ ap (λ ls. got ls (length s)) (append_assoc before (l ∷ []) later)

  -- what stands behind the rows is no row
  lines_open_none : (later : List Line) (p c : ℕ) (w : List ℕ) → Each (LineFormed scope) [] later → Stands s p (lines_text later)
      → p + length (lines_text later) ≡ length s → (c ≡ 58 → ⊥) → opens_with (32 ∷ c ∷ w) s p ≡ false
  unfolding lines_text byte_at
  lines_open_none [] p c w e st end f =
      opens_none _ s p (ap is_digit (get_or-eq_default s 0 (omega arith)) ∙ (low_byte 0 (omega arith)))
  lines_open_none (l ∷ later) p c w (more g e) st end f = line_opens_none scope [] l s p (lines_text later) c w h g st f

  lines_no_policy : (later : List Line) (p : ℕ) → Each (LineFormed scope) [] later → Stands s p (lines_text later)
      → p + length (lines_text later) ≡ length s → NoPolicy s p
  unfolding is_row is_origin_row bytes
  lines_no_policy later p e st end = record {
    no_row = lines_open_none later p 104 (97 ∷ 115 ∷ []) e st end (λ f. omega arith);
    no_origin_row = lines_open_none later p 102 (114 ∷ 111 ∷ 109 ∷ []) e st end (λ f. omega arith);
  }

-- ---- the whole text
pub record Formed (x : Source) : Type 0 where
  pub policies : PolicyFormed x.policy
  pub each_line : Each (LineFormed (scope_of x.policy)) [] x.lines

-- there are at most 16 addresses
few_addresses : (x : Policy) → PolicyFormed x → (scope_of x).addresses ≤ 16
unfolding scope_of addresses_of
few_addresses x (one_row some few each) = few
few_addresses x (each_origin some few each) = few

-- what a reader gives of a whole text
record Whole (s : List ℕ) (x : Source) : Type 0 where
  formed : Formed x
  prints : printed x ≡ s

whole_of : (s : List ℕ) (x : Policy) (ls : List Line) (j q : ℕ) → Bears PolicyText s 0 x j → Bears (Later (scope_of x) []) s j ls q → length s ≤ q
    → Whole s (record { policy = x; lines = ls })
unfolding printed
whole_of s x ls j q y z end =
    let u = y.text in
    let v = z.text in
    let l = length-append u v in
    let at = y.ends in
    let to = z.ends in
    let st = stands_append s 0 u v y.stands (subst (λ (i : ℕ). Stands s i v) at z.stands) in
    let fits = stands_fits s (u ++ v) st in
    record {
      formed = record {
        policies = y.prints.formed;
        each_line = subst (λ ms. Each (LineFormed (scope_of x)) [] ms) z.prints.is z.prints.each;
      };
      prints =
          ap (λ (w : List ℕ). w ++ lines_text ls) y.prints.prints
          ∙ ap (λ (w : List ℕ). u ++ w) (ap lines_text (sym z.prints.is) ∙ z.prints.prints)
          ∙ stands_whole s (u ++ v) (omega arith) st;
    }

pub only_source : (s : List ℕ) (x : Source) (q : ℕ) → source s 0 ≡ got x q → Formed x × (printed x ≡ s)
unfolding source lines ◌>>=◌ and_then pure
only_source s x q e = go (policy s 0) refl e
  where
    after : (y : Policy) (j : ℕ) → Bears PolicyText s 0 y j → (o : Parsed (List Line)) → lines_after (length s) (scope_of y) [] s j ≡ o
        → and_then o s (λ ls. pure (record { policy = y; lines = ls })) ≡ got x q → Formed x × (printed x ≡ s)
    after y j b (fault n) d f = no_fault f
    after y j b (got ls i) d f =
        let (z, end) = only_lines (scope_of y) (few_addresses y b.prints.formed) s (length s) [] j ls i (omega arith) d in
        let is : record { policy = y; lines = ls } ≡ x = cc f in
        let w = subst (Whole s) is (whole_of s y ls j i b z end) in
        (w.formed, w.prints)

    go : (o : Parsed Policy) → policy s 0 ≡ o
        → and_then o s (λ y. lines (scope_of y) >>= (λ ls. pure (record { policy = y; lines = ls }))) ≡ got x q → Formed x × (printed x ≡ s)
    go (fault n) d f = no_fault f
    go (got y j) d f = after y j (reads_policy.only s 0 y j d) (lines_after (length s) (scope_of y) [] s j) refl f

pub back_source : (s : List ℕ) (x : Source) → Formed x → printed x ≡ s → source s 0 ≡ got x (length s)
unfolding source lines ◌>>=◌ and_then pure printed
back_source s x f e =
    let u = policy_text x.policy in
    let v = lines_text x.lines in
    let st : Stands s 0 (u ++ v) = subst (Stands s 0) (sym e) (stands_self s) in
    let l = length-append u v in
    let m : length (u ++ v) ≡ length s = ap length e in
    let rest = stands_rest s 0 u v st in
    let end : 0 + length u + length v ≡ length s = omega arith in
    let scope = scope_of x.policy in
    let few = few_addresses x.policy f.policies in
    ap (λ o. and_then o s (λ y. lines (scope_of y) >>= (λ ls. pure (record { policy = y; lines = ls }))))
    (reads_policy.back s 0 x.policy u (record { formed = f.policies; prints = refl }) (stands_first_law s 0 u v st)
    (lines_no_policy scope few s x.lines (0 + length u) f.each_line rest end))
    ∙ ap (λ o. and_then o s (λ ls. pure (record { policy = x.policy; lines = ls })))
    (back_lines scope few s (length s) [] x.lines (0 + length u) f.each_line (omega arith) rest end)
