-- Processes (`Reading.antt` of `processes`): what is read is what is printed. Their scope is what addresses and sets are judged
-- by. Assumes nothing.
use Prim.Native.Nat.{ℕ, zero, suc, ◌+◌, ◌<◌, ◌≤◌}
use mathlib.Core.Path.{◌≡◌, refl, sym, ap, subst, ◌∙◌}
use mathlib.Core.Logic.{inl, inr}
use mathlib.Core.Bool.{Bool, true, false}
use mathlib.Core.List.{List, [], ◌∷◌, ◌++◌}
use native.Mathlib.Omega.{arith}
use lib.ListN.{length, get_or, length-append}
use Rattle.net.specs.Choice.{choose, both}
use Rattle.readers.specs.Reader.{Reader}
use Rattle.text.specs.Bytes.{bytes}
use Rattle.text.specs.Decimal.{decimal}
use Rattle.lexemes.specs.Lexemes.{byte_at}
use Rattle.terms.specs.Terms.{Process, Action, nil, name, fork, act, out, input, read, eval, newloc, out_all}
use Rattle.processes.specs.Reading.{named}
use Rattle.processes.specs.Reading.{forked, stopped, called, ends_chain, ended, acting, chain, process_at}
use Rattle.sources.specs.Types.{Scope}
use Rattle.sources.specs.Printed.{process_text, action_text}
use Rattle.sources.specs.WellFormed.{ProcessFormed, stops, calls, forks, acts}
use Rattle.sources.proofs.Stands.{Stands, stands_within}
use Rattle.sources.proofs.ReadsBefore.{before_choice}
use Rattle.sources.proofs.ReadsPrints.{opens_with_law, bears_as, Reads, Is, before, by_byte, After, Or, Then, Image, reads_as, reads_pure}
use Rattle.sources.proofs.ReadsPrints.{reads_fail, reads_then, reads_from_byte, reads_from_word, reads_map, reads_closed, reads_choice, reads_last}
use Rattle.sources.proofs.Numbers.{low_byte, NoDigit, reads_number, decimal_digits}
use Rattle.sources.proofs.Actions.{ProcessText, ActionText, Deeper, reads_action}

-- ---- names
pub record NameText (k : ℕ) (u : List ℕ) : Type 0 where
  pub in_range_law : k < 512
  pub prints : bytes "A" ++ decimal k ≡ u

pub reads_named : Reads named NameText NoDigit
unfolding named bytes
reads_named =
    reads_as (reads_from_byte 65 (reads_number 511 (omega arith)))
    (λ k u (w, (h, e), f). record { in_range_law = omega arith; prints = ap (λ (y : List ℕ). 65 ∷ y) e ∙ f })
    (λ k u x. (decimal k, (let h = x.in_range_law in omega arith, refl), x.prints)) (λ d e. e)

-- ---- a choice by the two bytes here
record Two (test : ℕ → ℕ → Bool) (b : Bool) (u : List ℕ) : Type 0 where
  one : ℕ
  next : ℕ
  rest : List ℕ
  is : one ∷ next ∷ rest ≡ u
  decides : test one next ≡ b

two_append : (test : ℕ → ℕ → Bool) (b : Bool) (u v : List ℕ) → Two test b u → Two test b (u ++ v)
two_append test b u v x = record {
  one = x.one;
  next = x.next;
  rest = x.rest ++ v;
  is = ap (λ (w : List ℕ). w ++ v) x.is;
  decides = x.decides;
}

two_here : (test : ℕ → ℕ → Bool) (b : Bool) (s : List ℕ) (p : ℕ) (u : List ℕ) → Two test b u → Stands s p u
    → test (byte_at s p) (byte_at s (p + 1)) ≡ b
two_here test b s p u x st =
    let st' : Stands s p (x.one ∷ x.next ∷ x.rest) = subst (Stands s p) (sym x.is) st in
    let z : p ≡ p + 0 = omega arith in
    let e : byte_at s p ≡ x.one = ap (byte_at s) z ∙ st'.each 0 (omega arith) in
    let f : byte_at s (p + 1) ≡ x.next = st'.each 1 (omega arith) in
    ap (λ (y : ℕ). test y (byte_at s (p + 1))) e ∙ ap (test x.one) f ∙ x.decides

module _ {A : Type 0} {R Q : A → List ℕ → Type 0} {E : ℕ → Type 0} (test : ℕ → ℕ → Bool) (m k : Reader A) where
  reads_by_two : Reads m R E → Reads k Q E → ((a : A) (u : List ℕ) → R a u → Two test true u) → ((a : A) (u : List ℕ) → Q a u → Two test false u)
      → Reads (λ s p. choose (test (byte_at s p) (byte_at s (p + 1))) m k s p) (Or R Q) E
  reads_by_two r q left right =
      by_byte E
      (before_choice (λ s p. test (byte_at s p) (byte_at s (p + 1))) (before r) (before q)
      (λ a u s p x st d. two_here test true s p u (left a u x) st) (λ a u s p x st d. two_here test false s p u (right a u x) st))

-- ---- what ends a chain of actions

-- how many actions stand before it
actions : Process → ℕ
actions nil = 0
actions (name k) = 0
actions (fork p q) = 0
actions (act a p) = suc (actions p)

record EndText (scope : Scope) (d : ℕ) (p : Process) (u : List ℕ) : Type 0 where
  text : ProcessText scope d p u
  bare : actions p ≡ 0

abbrev Forked : Scope → ℕ → Process → List ℕ → Type 0
Forked scope d =
    After (40 ∷ [])
    (Then (Deeper scope d) (λ p. After (bytes " | ") (Image (fork p) (λ q t. (u : List ℕ) × Deeper scope d q u × (u ++ (41 ∷ []) ≡ t)))))

abbrev Ends : Scope → ℕ → Process → List ℕ → Type 0
Ends scope d = Or (Image name NameText) (Or (Forked scope d) (After (bytes "nil") (Is nil)))

module _ (scope : Scope) where
  ends_to : (d : ℕ) (p : Process) (u : List ℕ) → Ends scope d p u → EndText scope d p u
  unfolding process_text Deeper actions bytes
  ends_to d p u (inl (k, x, is)) =
      subst (λ (q : Process). EndText scope d q u) is
      (record { text = record { formed = calls x.in_range_law; prints = x.prints }; bare = refl })
  ends_to zero p u (inr (inl (y, x, j))) = absurd x.prints
  ends_to (suc d) p u (inr (inl (y, x, j))) =
      let (w, (q, (v, g, f), is), i) = x.goes_on in
      let r = x.one in
      subst (λ (z : Process). EndText scope (suc d) z u) is (record {
        text = record {
          formed = forks x.prints.formed g.formed;
          prints =
              ap (λ (b : List ℕ). 40 ∷ (process_text r ++ (bytes " | " ++ (b ++ (41 ∷ []))))) g.prints
              ∙ ap (λ (b : List ℕ). 40 ∷ (process_text r ++ (bytes " | " ++ b))) f
              ∙ ap (λ (b : List ℕ). 40 ∷ (process_text r ++ b)) i
              ∙ ap (λ (b : List ℕ). 40 ∷ (b ++ x.rest)) x.prints.prints
              ∙ ap (λ (b : List ℕ). 40 ∷ b) x.is
              ∙ j;
        };
        bare = refl;
      })
  ends_to d p u (inr (inr (w, (is, e), f))) =
      subst (λ (q : Process). EndText scope d q u) is
      (record { text = record { formed = stops; prints = ap (λ (b : List ℕ). bytes "nil" ++ b) e ∙ f }; bare = refl })

  ends_from : (d : ℕ) (p : Process) (u : List ℕ) → ProcessFormed scope d p → process_text p ≡ u → actions p ≡ 0 → Ends scope d p u
  unfolding process_text Deeper actions bytes
  ends_from d p u stops e b = inr (inr ([], (refl, refl), e))
  ends_from d p u (calls {k = k} h) e b = inl (k, record { in_range_law = h; prints = e }, refl)
  ends_from d p u (forks {p = q} {q = r} x y) e b = inr (inl (
    process_text q ++ (bytes " | " ++ (process_text r ++ (41 ∷ []))),
    record {
      one = q;
      text = process_text q;
      rest = bytes " | " ++ (process_text r ++ (41 ∷ []));
      prints = record { formed = x; prints = refl };
      goes_on = (process_text r ++ (41 ∷ []), (r, (process_text r, record { formed = y; prints = refl }, refl), refl), refl);
      is = refl;
    },
    e,
  ))
  ends_from d p u (acts x y) e b = absurd (omega arith)

  ends_other : (d : ℕ) (p : Process) (u : List ℕ) (e : ℕ) → Or (Forked scope d) (After (bytes "nil") (Is nil)) p u → get_or u 0 e ≡ 65 → ⊥
  unfolding bytes
  ends_other d p u e (inl x) f = let g = opens_with_law _ u e x.2 in omega arith
  ends_other d p u e (inr x) f = let g = opens_with_law _ u e x.2 in omega arith

  reads_forked : (d : ℕ) (inner : Reader Process) → Reads inner (Deeper scope d) NoDigit → Reads (forked inner) (Forked scope d) NoDigit
  unfolding forked bytes
  reads_forked d inner r =
      reads_as
      (reads_from_byte 40
      (reads_then r (λ p u x. reads_from_word (bytes " | ") (reads_closed 41 (fork p) r (low_byte 41 (omega arith))))
      (λ p a u v e x y f. subst NoDigit (sym (opens_with_law _ v e y.2)) (low_byte 32 (omega arith)))))
      (λ p u x. x) (λ p u x. x) (λ e f. tt)

  reads_ended : (d : ℕ) (inner : Reader Process) → Reads inner (Deeper scope d) NoDigit → Reads (ended inner) (EndText scope d) NoDigit
  unfolding ended called stopped bytes
  reads_ended d inner r =
      reads_as
      (reads_choice 65 (reads_map name reads_named)
      (reads_choice 40 (reads_forked d inner r) (reads_last (reads_from_word (bytes "nil") (reads_pure nil)))
      (λ p u e x f. opens_with_law _ u e x.2) (λ p u e x f g. let o = opens_with_law _ u e x.2 in omega arith))
      (λ p u e x f. opens_with_law _ u e x.1.prints) (λ p u e x f. ends_other d p u e x)
      ).looked
      (ends_to d) (λ p u x. ends_from d p u x.text.formed x.text.prints x.bare) (λ e f. f)

  -- ---- a chain of fewer than k actions
  record ChainText (d k : ℕ) (p : Process) (u : List ℕ) : Type 0 where
    text : ProcessText scope d p u
    few : actions p < k

  abbrev Acting : ℕ → ℕ → Process → List ℕ → Type 0
  Acting d k = Then (ActionText scope d) (λ a. After (46 ∷ []) (Image (act a) (ChainText d k)))

  chain_to : (d k : ℕ) (p : Process) (u : List ℕ) → Or (EndText scope d) (Acting d k) p u → ChainText d (suc k) p u
  unfolding process_text actions bytes
  chain_to d k p u (inl x) = let b = x.bare in record { text = x.text; few = omega arith }
  chain_to d k p u (inr x) =
      let (w, (q, y, is), e) = x.goes_on in
      let few = y.few in
      subst (λ (z : Process). ChainText d (suc k) z u) is (record {
        text = record {
          formed = acts x.prints.formed y.text.formed;
          prints =
              ap (λ (b : List ℕ). action_text x.one ++ (46 ∷ b)) y.text.prints
              ∙ ap (λ (b : List ℕ). action_text x.one ++ b) e
              ∙ ap (λ (b : List ℕ). b ++ x.rest) x.prints.prints
              ∙ x.is;
        };
        few = omega arith;
      })

  chain_from : (d k : ℕ) (p : Process) (u : List ℕ) → ProcessFormed scope d p → process_text p ≡ u → actions p < suc k → Or (EndText scope d) (Acting d k) p u
  unfolding process_text actions bytes
  chain_from d k p u stops e h = inl (record { text = record { formed = stops; prints = e }; bare = refl })
  chain_from d k p u (calls g) e h = inl (record { text = record { formed = calls g; prints = e }; bare = refl })
  chain_from d k p u (forks x y) e h = inl (record { text = record { formed = forks x y; prints = e }; bare = refl })
  chain_from d k p u (acts {a = a} {p = q} x y) e h = inr (record {
    one = a;
    text = action_text a;
    rest = 46 ∷ process_text q;
    prints = record { formed = x; prints = refl };
    goes_on = (process_text q, (q, record { text = record { formed = y; prints = refl }; few = omega arith }, refl), refl);
    is = e;
  })

  -- ---- the first two bytes
  after_some : (u v : List ℕ) (c : ℕ) → (y : ℕ) × (w : List ℕ) × (y ∷ w ≡ u ++ (c ∷ v))
  after_some [] v c = (c, v, refl)
  after_some (b ∷ u) v c = (b, u ++ (c ∷ v), refl)

  end_two : (d : ℕ) (p : Process) → ProcessFormed scope d p → actions p ≡ 0 → Two ends_chain true (process_text p)
  unfolding process_text actions bytes ends_chain choose both
  end_two d p stops b = record { one = 110; next = 105; rest = 108 ∷ []; is = refl; decides = refl }
  end_two d p (calls {k = k} h) b =
      let x = decimal_digits 511 k (omega arith) (omega arith) in
      record { one = 65; next = 48 + x.first; rest = x.after; is = ap (λ (u : List ℕ). 65 ∷ u) x.is; decides = refl }
  end_two d p (forks {p = q} {q = r} x y) b =
      let (z, w, e) = after_some (process_text q) (124 ∷ 32 ∷ (process_text r ++ (41 ∷ []))) 32 in
      record { one = 40; next = z; rest = w; is = ap (λ (u : List ℕ). 40 ∷ u) e; decides = refl }
  end_two d p (acts x y) b = absurd (omega arith)

  action_two : (a : Action) → Two ends_chain false (action_text a)
  unfolding action_text bytes ends_chain choose both
  action_two (out c t) = record { one = 111; next = 117; rest = _; is = refl; decides = refl }
  action_two (input c t) = record { one = 105; next = 110; rest = _; is = refl; decides = refl }
  action_two (read c t) = record { one = 114; next = 101; rest = _; is = refl; decides = refl }
  action_two (eval p t) = record { one = 101; next = 118; rest = _; is = refl; decides = refl }
  action_two (out_all c g) = record { one = 111; next = 117; rest = _; is = refl; decides = refl }
  action_two (newloc v) = record { one = 110; next = 101; rest = _; is = refl; decides = refl }

  -- ---- the whole
  module _ (h : scope.addresses ≤ 16) (d : ℕ) (inner : Reader Process) (r : Reads inner (Deeper scope d) NoDigit) where
    reads_chain : (k : ℕ) → Reads (chain k inner scope) (ChainText d k) NoDigit
    unfolding chain acting
    reads_chain zero =
        reads_as (reads_fail 31) (λ p u x. absurd x) (λ p u x. let few = x.few in absurd (omega arith)) (λ e f. f)
    reads_chain (suc k) =
        reads_as
        (reads_by_two ends_chain (ended inner) _ (reads_ended d inner r)
        (reads_then (reads_action scope h d inner r) (λ a u x. reads_from_byte 46 (reads_map (act a) (reads_chain k)))
        (λ a p u v e x y f. subst NoDigit (sym (opens_with_law _ v e y.2)) (low_byte 46 (omega arith))))
        (λ p u x. subst (Two ends_chain true) x.text.prints (end_two d p x.text.formed x.bare))
        (λ p u x.
        subst (Two ends_chain false) x.is
        (two_append ends_chain false x.text x.rest (subst (Two ends_chain false) x.prints.prints (action_two x.one)))))
        (chain_to d k) (λ p u x. chain_from d k p u x.text.formed x.text.prints x.few) (λ e f. f)

  -- a process has more bytes than actions
  long : (p : Process) → actions p < length (process_text p)
  unfolding process_text actions bytes
  long nil = omega arith
  long (name k) = omega arith
  long (fork p q) = omega arith
  long (act a p) = let l = length-append (action_text a) (46 ∷ process_text p) in let r = long p in omega arith

  module _ (h : scope.addresses ≤ 16) where
    reads_level : (d : ℕ) → Reads (process_at d scope) (Deeper scope d) NoDigit
    unfolding process_at Deeper
    reads_level zero = reads_fail 32
    reads_level (suc d) = record {
      only = λ s p a q e. bears_as (λ u x. x.text) ((reads_chain h d (process_at d scope) (reads_level d) (length s)).only s p a q e);
      back = λ s p a u x st e.
          let l = long a in
          let k : length (process_text a) ≡ length u = ap length x.prints in
          let w = stands_within s p u (omega arith) st in
          (reads_chain h d (process_at d scope) (reads_level d) (length s)).back s p a u (record { text = x; few = omega arith }) st e;
    }

    pub reads_process : (d : ℕ) → Reads (process_at (suc d) scope) (ProcessText scope d) NoDigit
    unfolding Deeper
    reads_process d = reads_level (suc d)
