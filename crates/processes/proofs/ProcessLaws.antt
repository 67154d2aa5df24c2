-- Laws of processes (`specs/Reading.antt`) whose instructions are stored in a table. Assumes nothing.
use Prim.Native.Nat.{ℕ, suc, min, ◌+◌, ◌-◌, ◌*◌, ◌<◌, ◌≤◌}
use mathlib.Core.Path.{◌≡◌, refl, sym, ap, ◌∙◌}
use mathlib.Core.Bool.{Bool, true, false}
use mathlib.Core.List.{List, ◌++◌}
use native.Mathlib.Omega.{arith}
use lib.ListN.{length, set}
use Rattle.std.specs.Prelude.{Result, Ok, Err}
use Rattle.std.specs.Result.{IsErrAnd}
use Rattle.std.proofs.lemmas.Result.{err_from_is_err_and}
use Rattle.net.specs.Records.{zero_instruction}
use Rattle.net.proofs.Laws.{choose_true, choose_false}
use Rattle.text.specs.Buffer.{over}
use Rattle.readers.specs.Reader.{Reader, Parsed, got, fault, pure, and_then, ◌>>=◌, ◌>>◌, fault_at}
use Rattle.lexemes.specs.Lexemes.{byte_at, fail, byte}
use Rattle.lexemes.specs.Progress.{Reads}
use Rattle.processes.specs.Types.{Fault, Target, TextReader, Kind, Entry, Scope}
use Rattle.processes.specs.Room.{room}
use Rattle.terms.specs.Terms.{Process, Action, nil, name, fork, act, eval}
use Rattle.processes.specs.Reading.{ends_chain, ended, action, acting, chain, process_at}
use Rattle.terms.specs.Numbering.{size, size_in, start_of}
use Rattle.terms.specs.Table.{start_word, target_word, instruction_words, stop_words, entry_words, action_words, words_of, words_in, marked, marked_in}
use Rattle.processes.specs.Progress.{Code, entry_for, Begins, Kept, Keeps, Stored, Started, Alone, Held, dotted, KeptAll, Acted, Chained}
use Rattle.terms.proofs.CodeLaws.{length_instruction, length_action, length_words, length_action_in, stored_before, stored_after}
use Rattle.processes.proofs.Keeping.{keeping, keeps_via_fault, keeps_as, keeps_then, keeps_fault, keeps_next, keeps_next_fault, keeps_fail, keeps_pure, keeps_then_pure}

-- ---- a name, and nil
pub called_stored : (b b' : Code) (k : ℕ) → b.count ≤ room → b'.used.now ≡ set b.used.now k true → b'.count ≡ b.count → b'.table ≡ b.table → Stored b b' (name k) tt
unfolding size words_of marked over
called_stored b b' k l e f g = record {
  small = omega (arith, f);
  most = λ _. omega arith;
  kept = λ _. record { counted = f ∙ omega arith; stored = ap (λ t. t.now) g; marks = e };
}

pub nil_stored :
    (b c b' : Code) (n : ℕ) → b.count ≤ room → n ≡ b.count → c.count ≡ min (b.count + 1) room → c.table ≡ b.table → c.used ≡ b.used
    → b'.table.now ≡ over c.table.now (9 * n) (instruction_words 0 0 zero_instruction 0 0) → b'.count ≡ c.count → b'.used ≡ c.used → Stored b b' nil tt
unfolding size words_of stop_words marked
nil_stored b c b' n l i e f g t k u = record {
  small = omega (arith, e, k);
  most = λ h. omega (arith, e, k, h);
  kept = λ h. record {
    counted = omega (arith, e, k, h);
    stored = t ∙ (rw (i, f) refl);
    marks = ap (λ x. x.now) u ∙ ap (λ x. x.now) g;
  };
}

-- ---- forks
both_stored :
    (x y : Process) (m c₁ c₂ : ℕ) (t t₁ t₂ : List ℕ) (u u₁ u₂ : List Bool) → Kept x m t u c₁ t₁ u₁ → Kept y c₁ t₁ u₁ c₂ t₂ u₂
    → t₂ ≡ over t (9 * m) (words_of m x ++ words_of (m + size x) y)
both_stored x y m c₁ c₂ t t₁ t₂ u u₁ u₂ k l =
    l.stored ∙ ap (λ (i : ℕ). over t₁ (9 * i) (words_of i y)) k.counted
    ∙ ap (λ (z : List ℕ). over z (9 * (m + size x)) (words_of (m + size x) y)) k.stored
    ∙ stored_after t m (words_of m x) (words_of (m + size x) y) (m + size x) (size x) (length_words m x) refl

fork_kept :
    (x y : Process) (n c₁ c₂ w v : ℕ) (t t₁ t₂ t₃ : List ℕ) (u u₁ u₂ : List Bool) → w ≡ start_word (start_of (suc n) x) → v ≡ start_word (start_of c₁ y)
    → Kept x (suc n) t u c₁ t₁ u₁ → Kept y c₁ t₁ u₁ c₂ t₂ u₂ → t₃ ≡ over t₂ (9 * n) (instruction_words 6 0 zero_instruction w v)
    → Kept (fork x y) n t u c₂ t₃ u₂
unfolding size words_of marked
fork_kept x y n c₁ c₂ w v t t₁ t₂ t₃ u u₁ u₂ e f k l o = record {
  counted = let first = k.counted in let second = l.counted in omega (arith, first, second);
  stored =
      o ∙ ap (λ (z : List ℕ). over z (9 * n) (instruction_words 6 0 zero_instruction w v)) (both_stored x y (suc n) c₁ c₂ t t₁ t₂ u u₁ u₂ k l)
      ∙ stored_before t n (instruction_words 6 0 zero_instruction w v) (words_of (suc n) x ++ words_of (suc n + size x) y) (suc n) (length_instruction 6 0 zero_instruction w v) refl
      ∙ ap (λ (i : ℕ). over t (9 * n) (instruction_words 6 0 zero_instruction i v ++ (words_of (suc n) x ++ words_of (suc n + size x) y))) e
      ∙ ap (λ (i : ℕ). over t (9 * n) (instruction_words 6 0 zero_instruction (start_word (start_of (suc n) x)) i ++ (words_of (suc n) x ++ words_of (suc n + size x) y)))
      (f ∙ ap (λ (i : ℕ). start_word (start_of i y)) k.counted);
  marks = l.marks ∙ ap (marked y) k.marks;
}

pub fork_stored :
    (x y : Process) (n w v : ℕ) (b c d f g : Code) (e : Entry) → b.count ≤ room → n ≡ b.count → c.count ≡ min (b.count + 1) room → c.table ≡ b.table → c.used ≡ b.used
    → Started c d x w → Started d f y v → e ≡ record { kind = Kind.Fork; target = 0; template = zero_instruction; next = w; second = v }
    → g.table.now ≡ over f.table.now (9 * n) (entry_words e) → g.count ≡ f.count → g.used ≡ f.used → Stored b g (fork x y) tt
unfolding size
fork_stored x y n w v b c d f g e l i ec et eu s t h o k u = record {
  small = let low = t.stored.small in omega (arith, low, k);
  most = λ z.
      let second = t.stored.most (omega (arith, k, z)) in
      let last = (t.stored.kept second).counted in
      let first = s.stored.most (omega (arith, k, z, last)) in
      let counted = (s.stored.kept first).counted in
      omega (arith, ec, k, z, last, second, first, counted);
  kept = λ z.
      let one : c.count ≡ suc b.count = omega (arith, ec, z) in
      let first = s.stored.kept (omega (arith, one, z)) in
      let counted = first.counted in
      let second = t.stored.kept (omega (arith, one, z, counted)) in
      let left : w ≡ start_word (start_of (suc b.count) x) = s.start ∙ ap (λ (j : ℕ). start_word (start_of j x)) one in
      let kept : Kept (fork x y) b.count b.table.now b.used.now f.count (over f.table.now (9 * b.count) (instruction_words 6 0 zero_instruction w v)) f.used.now =
      fork_kept x y b.count d.count f.count w v b.table.now d.table.now f.table.now _ b.used.now d.used.now f.used.now left t.start
      (rw (one, et, eu) at first) second refl in
      record {
        counted = k ∙ kept.counted;
        stored = o ∙ (rw (i, h) kept.stored);
        marks = ap (λ z. z.now) u ∙ kept.marks;
      };
}

-- ---- actions
pub eval_held :
    (x : Process) (t : Target) (n w v : ℕ) (b d : Code) (e f : Entry) → Started b d x v → w ≡ target_word t → f ≡ entry_for Kind.Eval w zero_instruction
    → e ≡ record f { second = v } → Held n b d (eval x t) e
unfolding size_in action_words words_in marked_in
eval_held x t n w v b d e f s h i j = record {
  small = s.stored.small;
  most = s.stored.most;
  counted = λ z. (s.stored.kept z).counted;
  kept = λ one z.
      let kept = s.stored.kept z in
      record {
        stored = kept.stored ∙ ap (λ (k : ℕ). over b.table.now (9 * k) (words_of k x)) one;
        marks = kept.marks;
        words = λ next. rw (j, i, h, s.start, one) refl;
      };
}

pub alone_held : (n : ℕ) (b : Code) → b.count ≤ room → (a : Action) (e : Entry) → Alone a e → Held n b b a e
unfolding over
alone_held n b l a e h = record {
  small = l;
  most = λ z. let none = h.small in omega (arith, none, l);
  counted = λ z. let none = h.small in omega (arith, none);
  kept = λ one z. record {
    stored = rw (h.none (suc n)) refl;
    marks = sym (h.unmarked b.used.now);
    words = h.words n;
  };
}

pub act_kept :
    (a : Action) (n w : ℕ) (b c d g : Code) (e f : Entry) (q : TextReader) → b.count ≤ room → n ≡ b.count → c.count ≡ min (b.count + 1) room → c.table ≡ b.table → c.used ≡ b.used
    → Held n c d a e → Begins q d.count w → f ≡ record e { next = w } → g.table.now ≡ over d.table.now (9 * n) (entry_words f) → g.count ≡ d.count → g.used ≡ d.used
    → Acted b g q a tt
act_kept a n w b c d g e f q l i ec et eu h s j o k u = record {
  small = let low = h.small in omega (arith, low, k);
  word = w;
  follows = rw k s;
  most = λ z.
      let most = h.most (omega (arith, k, z)) in
      let counted = h.counted most in
      omega (arith, ec, k, z, most, counted);
  kept = λ z.
      let one : c.count ≡ suc n = omega (arith, ec, i, z) in
      let fits : c.count + size_in a ≤ room = omega (arith, one, i, z) in
      let kept = h.kept one fits in
      record {
        counted = k ∙ h.counted fits ∙ ap (λ (m : ℕ). m + size_in a) one ∙ ap (λ (m : ℕ). suc m + size_in a) i;
        stored =
            o ∙ ap (λ (x : List ℕ). over x (9 * n) (entry_words f)) kept.stored
            ∙ ap (λ (x : Entry). over (over c.table.now (9 * suc n) (words_in (suc n) a)) (9 * n) (entry_words x)) j
            ∙ ap (λ (x : List ℕ). over (over c.table.now (9 * suc n) (words_in (suc n) a)) (9 * n) x) (sym (kept.words w))
            ∙ stored_before c.table.now n (action_words n a w) (words_in (suc n) a) (suc n) (length_action n a w) refl
            ∙ (rw (i, et) refl);
        marks = ap (λ x. x.now) u ∙ kept.marks ∙ (rw eu refl);
      };
}

-- ---- what a process is
module _ {B : Type 0} (P : Process → B → Type 0) (r q : TextReader) (d : ℕ) (scope : Scope) (o : Result B Fault) where
  pub process_none : d ≡ 0 → Keeps r (fail 32) P o q → Keeps r (process_at d scope) P o q
  unfolding process_at
  process_none e h = rw e h

  pub process_some : (d ≡ 0 → ⊥) → Keeps r (chain (length r.text.now) (process_at (d - 1) scope) scope) P o q → Keeps r (process_at d scope) P o q
  unfolding process_at
  process_some z h = let one : d ≡ suc (d - 1) = omega (arith, z) in rw one (keeps_as P r q _ _ o refl h)

pub process_started :
    (r q : TextReader) (inner : Reader Process) (scope : Scope) (k w : ℕ) (b b' : Code) → Begins r b.count w
    → Keeps r (chain k inner scope) (Stored b b') (Ok tt) q → Keeps r (chain k inner scope) (Started b b') (Ok w) q
process_started r q inner scope k w b b' s h = record {
  told = record {
    tree = h.told.tree;
    read = h.told.read;
    holds = record { start = s.begins k scope inner h.told.tree q h.told.read; stored = h.told.holds };
  };
}

pub keeps_failed : {A B C : Type 0} (P : A → B → Type 0) (Q : A → C → Type 0) (r q : TextReader) (m : Reader A) (e : Fault) (o : Result C Fault)
    → Keeps r m P (Err e) q → IsErrAnd o (λ d. d ≡ e) → Keeps r m Q o q
keeps_failed P Q r q m e o h k = let p = err_from_is_err_and o k in rw (p.1, p.2) (record { told = h.told })

-- ---- chains
module _ (inner : Reader Process) (scope : Scope) where
  chain_kept :
      (a : Action) (x : Process) (w n c₁ c₂ : ℕ) (t t₁ t₂ : List ℕ) (u u₁ u₂ : List Bool) → w ≡ start_word (start_of c₁ x)
      → KeptAll a w n t u c₁ t₁ u₁ → Kept x c₁ t₁ u₁ c₂ t₂ u₂ → Kept (act a x) n t u c₂ t₂ u₂
  unfolding size words_of marked
  chain_kept a x w n count c₂ t t₁ t₂ u u₁ u₂ e k l = record {
    counted = let first = k.counted in let second = l.counted in omega (arith, first, second);
    stored =
        l.stored
        ∙ ap (λ (z : List ℕ). over z (9 * count) (words_of count x)) k.stored
        ∙ stored_after t n (action_words n a w ++ words_in (suc n) a) (words_of count x) count (suc (size_in a)) (length_action_in n a w) (let first = k.counted in omega (arith, first))
        ∙ ap (λ (i : ℕ). over t (9 * n) ((action_words n a i ++ words_in (suc n) a) ++ words_of count x)) e
        ∙ ap (λ (i : ℕ). over t (9 * n) ((action_words n a (start_word (start_of i x)) ++ words_in (suc n) a) ++ words_of i x)) k.counted;
    marks = l.marks ∙ ap (marked x) k.marks;
  }

  dot_after :
      (rest : Reader Process) (s : List ℕ) (a : Action) (o : Parsed (Unit {0}))
      → and_then (and_then o s (λ _. pure a)) s (λ c. rest >>= (λ x. pure (act c x))) ≡ and_then o s (λ _. rest >>= (λ x. pure (act a x)))
  unfolding and_then pure
  dot_after rest s a (got y q) = refl
  dot_after rest s a (fault f) = refl

  act_after :
      (rest : Reader Process) (s : List ℕ) (o : Parsed Action)
      → and_then (and_then o s (λ a. byte 46 >> pure a)) s (λ a. rest >>= (λ x. pure (act a x))) ≡ and_then o s (λ a. byte 46 >> (rest >>= (λ x. pure (act a x))))
  unfolding and_then ◌>>◌ ◌>>=◌
  act_after rest s (got a q) = dot_after rest s a (byte 46 s q)
  act_after rest s (fault f) = refl

  acting_dotted :
      (rest : Reader Process) (s : List ℕ) (p : ℕ)
      → (dotted (action inner scope) >>= (λ a. rest >>= (λ x. pure (act a x)))) s p ≡ acting inner rest scope s p
  unfolding acting dotted ◌>>=◌
  acting_dotted rest s p = act_after rest s (action inner scope s p)

  module _ (r q : TextReader) (k : ℕ) (b b' b'' : Code) where
    act_stored :
        (t : TextReader) (a : Action) (x : Process) → Reads q (chain k inner scope) (Ok x) t → Acted b b' q a tt → Stored b' b'' x tt → Stored b b'' (act a x) tt
    unfolding size
    act_stored t a x e h l = record {
      small = l.small;
      most = λ g.
          let second = l.most g in
          let last = (l.kept second).counted in
          let first = h.most (omega (arith, last, g)) in
          let counted = (h.kept first).counted in
          omega (arith, second, counted);
      kept = λ g.
          let first = h.kept (omega arith) in
          let counted = first.counted in
          chain_kept a x h.word b.count b'.count b''.count b.table.now b'.table.now b''.table.now b.used.now b'.used.now b''.used.now
          (h.follows.begins k scope inner x t e) first (l.kept (omega (arith, counted, g)));
    }

    chain_step :
        (t : TextReader) (o : Result (Unit {0}) Fault) → ends_chain (byte_at r.text.now r.at) (byte_at r.text.now (r.at + 1)) ≡ false
        → Keeps r (dotted (action inner scope)) (Acted b b' q) (Ok tt) q → Keeps q (chain k inner scope) (Stored b' b'') o t
        → Keeps r (chain (suc k) inner scope) (Stored b b'') o t
    unfolding chain
    chain_step t o e h w =
        let held = h.told.holds in
        keeps_as (Stored b b'') r t _ (chain (suc k) inner scope) o
        (acting_dotted (chain k inner scope) r.text.now r.at
        ∙ ap (λ (m : Reader Process). m r.text.now r.at) (sym (choose_false _ (ended inner) (acting inner (chain k inner scope) scope) e)))
        (keeps_then (Stored b b'') r q (dotted (action inner scope)) t _ h.told.tree o h.told.read
        (keeps_then_pure (Stored b' b'') (Stored b b'') q t (chain k inner scope) (act h.told.tree) o (λ x u g s. act_stored t h.told.tree x g held s) w))

    chain_fault :
        (d : Fault) (o : Result (Unit {0}) Fault) → ends_chain (byte_at r.text.now r.at) (byte_at r.text.now (r.at + 1)) ≡ false
        → Keeps r (dotted (action inner scope)) (Acted b b' q) (Err d) q → IsErrAnd o (λ f. f ≡ d) → Keeps r (chain (suc k) inner scope) (Stored b b') o q
    unfolding chain
    chain_fault d o e h w =
        keeps_as (Stored b b') r q _ (chain (suc k) inner scope) o
        (acting_dotted (chain k inner scope) r.text.now r.at
        ∙ ap (λ (m : Reader Process). m r.text.now r.at) (sym (choose_false _ (ended inner) (acting inner (chain k inner scope) scope) e)))
        (keeps_fault (Stored b b') r q (dotted (action inner scope)) _ d o h.told w)

  chain_ended :
      (r q : TextReader) (k : ℕ) (b b' : Code) (o : Result (Unit {0}) Fault) → ends_chain (byte_at r.text.now r.at) (byte_at r.text.now (r.at + 1)) ≡ true
      → Keeps r (ended inner) (Stored b b') o q → Keeps r (chain (suc k) inner scope) (Stored b b') o q
  unfolding chain
  chain_ended r q k b b' o e h =
      keeps_as (Stored b b') r q (ended inner) (chain (suc k) inner scope) o
      (ap (λ (m : Reader Process). m r.text.now r.at) (sym (choose_true _ (ended inner) (acting inner (chain k inner scope) scope) e))) h

  module _ (r₀ : TextReader) (k₀ : ℕ) (b₀ : Code) where
    pub chained_begin : b₀.count ≤ room → Chained inner scope r₀ k₀ b₀ r₀ (k₀ - 0) b₀
    chained_begin l = let all : k₀ - 0 ≡ k₀ = omega arith in rw all (record { small = l; same = refl; rest = λ o q b h. h })

    module _ (i : ℕ) (r q : TextReader) (b b' : Code) (e : Bool) (c : Chained inner scope r₀ k₀ b₀ r (k₀ - i) b)
        (d : e ≡ ends_chain (byte_at r.text.now r.at) (byte_at r.text.now (r.at + 1))) where
      pub chained_more : i < k₀ → e ≡ false → Keeps r (dotted (action inner scope)) (Acted b b' q) (Ok tt) q → Chained inner scope r₀ k₀ b₀ q (k₀ - (i + 1)) b'
      chained_more l f h =
          let one : k₀ - i ≡ suc (k₀ - (i + 1)) = omega arith in
          record {
            small = h.told.holds.small;
            same = h.told.read.same ∙ c.same;
            rest = λ o t b'' w. c.rest o t b'' (rw one (chain_step r q (k₀ - (i + 1)) b b' b'' t o (sym d ∙ f) h w));
          }

      pub chained_fault :
          i < k₀ → (f : Fault) (o : Result (Unit {0}) Fault) → e ≡ false → Keeps r (dotted (action inner scope)) (Acted b b' q) (Err f) q
          → IsErrAnd o (λ g. g ≡ f) → Keeps r₀ (chain k₀ inner scope) (Stored b₀ b') o q
      chained_fault l f o g h w =
          let one : k₀ - i ≡ suc (k₀ - (i + 1)) = omega arith in
          c.rest o q b' (rw one (chain_fault r q (k₀ - (i + 1)) b b' b' f o (sym d ∙ g) h w))

      pub chained_end :
          i < k₀ → (o : Result (Unit {0}) Fault) → e ≡ true → Keeps r (ended inner) (Stored b b') o q → Keeps r₀ (chain k₀ inner scope) (Stored b₀ b') o q
      chained_end l o g h =
          let one : k₀ - i ≡ suc (k₀ - (i + 1)) = omega arith in
          c.rest o q b' (rw one (chain_ended r q (k₀ - (i + 1)) b b' o (sym d ∙ g) h))

    pub chained_out :
        (i : ℕ) (r : TextReader) (b : Code) (f : Fault) → k₀ ≤ i → Chained inner scope r₀ k₀ b₀ r (k₀ - i) b → f ≡ fault_at 31 r.at 0
        → Keeps r₀ (chain k₀ inner scope) (Stored b₀ b) (Err f) r
    unfolding chain
    chained_out i r b f l c e =
        let none : k₀ - i ≡ 0 = omega arith in
        c.rest (Err f) r b (rw none (keeps_fail (Stored b b) r 31 f e))

pub ruleset processing = (keeping, keeps_via_fault, keeps_failed, process_none, process_some, process_started, chained_begin, chained_more, chained_fault, chained_end, chained_out)
