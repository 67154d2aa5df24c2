-- The tables of names after all lines of a text (`after_all` of `specs/State.antt`) hold what the lines say, and the starts of
-- these are resolved to their places. Each law is of the lines that are left, after any others. Assumes nothing.
use Prim.Native.Nat.{ℕ, ◌+◌, ◌-◌, ◌%◌, ◌<◌, ◌≤◌}
use mathlib.Core.Path.{◌≡◌, refl, sym, ap, ◌∙◌}
use mathlib.Core.Bool.{Bool, true, false, not}
use mathlib.Core.List.{List, [], ◌∷◌}
use native.Mathlib.Omega.{arith}
use lib.ListN.{get_or, length, set, replicate, length-set, length-replicate, get_or-replicate}
use lib.Dec.{eqb, leb}
use borrow.Author.Tests.{le-leb, lt-leb, eq-eqb, eqb-true}
use Rattle.net.specs.Choice.{choose, both, all, fold}
use Rattle.net.specs.Records.{place_of}
use Rattle.net.proofs.Laws.{choose_false, all_i, all_fails}
use Rattle.net.proofs.AllLaws.{all_same}
use Rattle.net.proofs.ReadingLaws.{never}
use Rattle.net.proofs.FoldLaws.{fold_keeps}
use Rattle.net.proofs.Every.{Every, every_set, every_replicate, chosen}
use Rattle.terms.specs.Terms.{Process, nil, name, fork, act}
use Rattle.terms.specs.Numbering.{Start, here, called, size, start_of, uses}
use Rattle.terms.specs.Table.{start_word, marked}
use Rattle.terms.specs.Loading.{fits, Resolves}
use Rattle.terms.proofs.Marks.{marked_length, marked_uses, entry_set, two_marks}
use Rattle.linking.specs.Types.{Net}
use Rattle.linking.specs.Source.{Line, definition, process, tuple}
use Rattle.linking.specs.Compiled.{total, defined_in, number_of, settle, settled, place_in}
use Rattle.linking.specs.Names.{uses_line, used, defines, defined}
use Rattle.linking.specs.NameTable.{start_from, start_in, settle_in, settled_in, Held}
use Rattle.linking.specs.Placing.{place_for, place_at}
use Rattle.linking.specs.State.{State, own_names, begun, entered, after, after_all, FitsLine, FitAll}
use Rattle.linking.proofs.NameTableLaws.{start_name, start_instruction, settled_name}
use Rattle.linking.proofs.Settles.{name_most}

-- ---- which names are used
module _ (k : ℕ) (b : k < 512) where
  more_marks :
      (x : Process) (marks : List Bool) (rest n : Bool) → length marks ≡ 512 → n ≡ choose rest true (get_or (marked x marks) k false)
      → n ≡ choose (choose (uses k x) true rest) true (get_or marks k false)
  more_marks x marks rest n l e = two_marks (uses k x) rest _ _ n e (marked_uses x k marks (omega arith))

  used_all :
      (ls : List Line) (s : State) → length s.uses ≡ 512
      → get_or (after_all ls s).uses k false ≡ choose (used k ls) true (get_or s.uses k false)
  unfolding after_all after used uses_line choose
  used_all [] s l = refl
  used_all (definition j x ∷ ls) s l =
      more_marks x s.uses (used k ls) _ l (used_all ls (after (definition j x) s) (marked_length x s.uses ∙ l))
  used_all (process a x ∷ ls) s l =
      more_marks x s.uses (used k ls) _ l (used_all ls (after (process a x) s) (marked_length x s.uses ∙ l))
  used_all (tuple a t ∷ ls) s l = used_all ls (after (tuple a t) s) l

-- ---- which names are defined
module _ (k : ℕ) (b : k < 512) where
  define_more : (q d : Bool) (m : ℕ) → choose (choose q true d) true (leb 1 m) ≡ choose d true (leb 1 (choose q 1 0 + m))
  unfolding choose
  define_more true true m = refl
  define_more true false m = sym (le-leb 1 (1 + m) (omega arith))
  define_more false d m = let none : 0 + m ≡ m = omega arith in rw none refl

  define_none : (d : Bool) → d ≡ choose d true (leb 1 0)
  unfolding choose
  define_none true = refl
  define_none false = refl

  defined_all :
      (ls : List Line) (s : State) → length s.defs ≡ 512
      → get_or (after_all ls s).defs k false ≡ choose (get_or s.defs k false) true (leb 1 (defined k ls))
  unfolding after_all after defined defines choose
  defined_all [] s l = define_none (get_or s.defs k false)
  defined_all (definition j x ∷ ls) s l =
      defined_all ls (after (definition j x) s) (length-set s.defs j true ∙ l)
      ∙ ap (λ (d : Bool). choose d true (leb 1 (defined k ls))) (entry_set s.defs j k true false (omega arith))
      ∙ define_more (eqb k j) (get_or s.defs k false) (defined k ls)
  defined_all (process a x ∷ ls) s l =
      defined_all ls (after (process a x) s) l ∙ define_more false (get_or s.defs k false) (defined k ls)
  defined_all (tuple a t ∷ ls) s l =
      defined_all ls (after (tuple a t) s) l ∙ define_more false (get_or s.defs k false) (defined k ls)

-- ---- whether one is defined twice

-- name k is defined at most once, where it is defined `more k` times from here on
unfoldable once : List Bool → (ℕ → ℕ) → ℕ → Bool
once defs more k = leb (choose (get_or defs k false) 1 0 + more k) 1

count_more : (q d : Bool) (m : ℕ) → (q ≡ true → d ≡ false) → choose (choose q true d) 1 0 + m ≡ choose d 1 0 + (choose q 1 0 + m)
unfolding choose
count_more true true m h = never (sym (h refl))
count_more true false m h = omega arith
count_more false true m h = omega arith
count_more false false m h = omega arith

with_true : (a b : Bool) → b ≡ true → a ≡ both a b
unfolding both
with_true true b e = sym e
with_true false b e = refl

with_false : (a b : Bool) → false ≡ b → false ≡ both a b
unfolding both
with_false true b e = e
with_false false b e = refl

once_none : (d : Bool) → leb (choose d 1 0 + 0) 1 ≡ true
unfolding choose
once_none true = refl
once_none false = refl

module _ (j : ℕ) (b : j < 512) (defs : List Bool) (l : length defs ≡ 512) (twice : Bool) (m : ℕ → ℕ) where
  once_again : get_or defs j false ≡ true → once defs (λ k. choose (eqb k j) 1 0 + m k) j ≡ false
  unfolding once choose
  once_again e = rw (e, eq-eqb j j refl) (lt-leb (1 + (1 + m j)) 1 (omega arith))

  once_first :
      get_or defs j false ≡ false → (k : ℕ) → k < 512
      → once (set defs j true) m k ≡ once defs (λ i. choose (eqb i j) 1 0 + m i) k
  unfolding once
  once_first e k h =
      ap (λ (n : ℕ). leb n 1)
      (ap (λ (d : Bool). choose d 1 0 + m k) (entry_set defs j k true false (omega arith))
      ∙ count_more (eqb k j) (get_or defs k false) (m k) (λ q. ap (λ (i : ℕ). get_or defs i false) (eqb-true k j q) ∙ e))

  twice_more :
      (d : Bool) → get_or defs j false ≡ d
      → both (not (choose d true twice)) (all 512 (once (set defs j true) m))
      ≡ both (not twice) (all 512 (once defs (λ k. choose (eqb k j) 1 0 + m k)))
  unfolding choose both
  twice_more true e = with_false (not twice) _ (all_fails 512 _ j b (once_again e))
  twice_more false e = ap (both (not twice)) (all_same 512 _ _ (once_first e))

same_more :
    (twice : Bool) (defs : List Bool) (m : ℕ → ℕ)
    → both (not twice) (all 512 (once defs m)) ≡ both (not twice) (all 512 (once defs (λ k. 0 + m k)))
unfolding once
same_more twice defs m =
    ap (both (not twice)) (all_same 512 _ _ (λ k h. let none : 0 + m k ≡ m k = omega arith in rw none refl))

twice_all :
    (ls : List Line) (s : State) → FitAll ls s → length s.defs ≡ 512
    → not (after_all ls s).twice ≡ both (not s.twice) (all 512 (once s.defs (λ k. defined k ls)))
unfolding after_all after defined defines FitAll FitsLine once choose
twice_all [] s f l = with_true (not s.twice) _ (all_i 512 _ (λ k h. once_none (get_or s.defs k false)))
twice_all (definition j x ∷ ls) s f l =
    twice_all ls (after (definition j x) s) f.1 (length-set s.defs j true ∙ l)
    ∙ twice_more j f.0.0 s.defs l s.twice (λ k. defined k ls) (get_or s.defs j false) refl
twice_all (process a x ∷ ls) s f l = twice_all ls (after (process a x) s) f.1 l ∙ same_more s.twice s.defs (λ k. defined k ls)
twice_all (tuple a t ∷ ls) s f l = twice_all ls (after (tuple a t) s) f.1 l ∙ same_more s.twice s.defs (λ k. defined k ls)

-- ---- where the bodies start
from_name : (k : ℕ) → k < 512 → start_from k ≡ called k
from_name k h = start_name k h

from_number : (n : ℕ) → start_from (512 + n) ≡ here n
from_number n = start_instruction (512 + n) (omega arith) ∙ (let same : (512 + n) - 512 ≡ n = omega arith in rw same refl)

pub from_start : (n : ℕ) (x : Process) → fits x → start_from (start_word (start_of n x)) ≡ start_of n x
unfolding start_of start_word fits
from_start n nil h = from_number n
from_start n (name k) h = from_name k h
from_start n (fork p q) h = from_number n
from_start n (act a p) h = from_number n

module _ (k : ℕ) (b : k < 512) where
  -- at the name that is defined (q), or at another; d says whether it is defined already, and e whether the other is
  enter_more :
      (q d e : Bool) (v w : ℕ) (x rest : Start) → (q ≡ true → e ≡ d) → start_from w ≡ x
      → choose (choose q true d) (start_from (choose e v (choose q w v))) rest ≡ choose d (start_from v) (choose q x rest)
  unfolding choose
  enter_more true true e v w x rest h g = rw (h refl) refl
  enter_more true false e v w x rest h g = rw (h refl) g
  enter_more false d true v w x rest h g = refl
  enter_more false d false v w x rest h g = refl

  enter_none :
      (q d e : Bool) (v w : ℕ) → (d ≡ false → start_from v ≡ called k) → choose q true d ≡ false
      → start_from (choose e v (choose q w v)) ≡ called k
  unfolding choose
  enter_none true d e v w h g = never (sym g)
  enter_none false d true v w h g = h g
  enter_none false d false v w h g = h g

  choose_of : {A B : Type 0} (f : A → B) (c : Bool) (x y : A) → f (choose c x y) ≡ choose c (f x) (f y)
  unfolding choose
  choose_of f true x y = refl
  choose_of f false x y = refl

  own_name : (d : Bool) (x : Start) → (d ≡ false → x ≡ called k) → x ≡ choose d x (called k)
  unfolding choose
  own_name true x h = refl
  own_name false x h = h refl

  module _ (j w : ℕ) (defs : List Bool) (bodies : List ℕ) (l : length bodies ≡ 512) where
    entered_at : get_or (entered j w defs bodies) k 0 ≡ choose (get_or defs j false) (get_or bodies k 0) (choose (eqb k j) w (get_or bodies k 0))
    unfolding entered
    entered_at =
        choose_of (λ (xs : List ℕ). get_or xs k 0) (get_or defs j false) bodies (set bodies j w)
        ∙ ap (choose (get_or defs j false) (get_or bodies k 0)) (entry_set bodies j k w 0 (omega arith))

    entered_length : length (entered j w defs bodies) ≡ 512
    unfolding entered
    entered_length = chosen (λ (xs : List ℕ). length xs ≡ 512) _ _ _ (λ _. l) (λ _. length-set bodies j w ∙ l)

    module _ (h : length defs ≡ 512) where
      marked_at : get_or (set defs j true) k false ≡ choose (eqb k j) true (get_or defs k false)
      marked_at = entry_set defs j k true false (omega arith)

      entered_more :
          (x rest : Start) → start_from w ≡ x
          → choose (get_or (set defs j true) k false) (start_in (entered j w defs bodies) k) rest
          ≡ choose (get_or defs k false) (start_in bodies k) (choose (eqb k j) x rest)
      unfolding start_in
      entered_more x rest g =
          rw (entered_at, marked_at)
          (enter_more (eqb k j) (get_or defs k false) (get_or defs j false) (get_or bodies k 0) w x rest
          (λ e. ap (λ (i : ℕ). get_or defs i false) (sym (eqb-true k j e))) g)

      entered_none :
          (get_or defs k false ≡ false → start_in bodies k ≡ called k) → get_or (set defs j true) k false ≡ false
          → start_in (entered j w defs bodies) k ≡ called k
      unfolding start_in
      entered_none own g =
          rw entered_at
          (enter_none (eqb k j) (get_or defs k false) (get_or defs j false) (get_or bodies k 0) w own (sym marked_at ∙ g))

  bodies_all :
      (ls : List Line) (s : State) → FitAll ls s → length s.defs ≡ 512 → length s.bodies ≡ 512
      → (get_or s.defs k false ≡ false → start_in s.bodies k ≡ called k)
      → start_in (after_all ls s).bodies k ≡ choose (get_or s.defs k false) (start_in s.bodies k) (defined_in k s.count ls)
  unfolding after_all after defined_in FitAll FitsLine start_in
  bodies_all [] s f l m own = own_name (get_or s.defs k false) _ own
  bodies_all (definition j x ∷ ls) s f l m own =
      let w = start_word (start_of s.count x) in
      bodies_all ls (after (definition j x) s) f.1 (length-set s.defs j true ∙ l) (entered_length j w s.defs s.bodies m)
      (entered_none j w s.defs s.bodies m l own)
      ∙ entered_more j w s.defs s.bodies m l (start_of s.count x) (defined_in k (s.count + size x) ls) (from_start s.count x f.0.1)
  bodies_all (process a x ∷ ls) s f l m own = bodies_all ls (after (process a x) s) f.1 l m own
  bodies_all (tuple a t ∷ ls) s f l m own = bodies_all ls (after (tuple a t) s) f.1 l m own

-- ---- before the first line
names_own : (n : ℕ) → Every (λ (j a : ℕ). j < n → a ≡ j) 0 n (fold n (λ k names. set names k k) (replicate n 0))
names_own n =
    fold_keeps (λ (i : ℕ) (names : List ℕ). Every (λ (j a : ℕ). j < i → a ≡ j) 0 n names) (λ k names. set names k k) (replicate n 0) n
    (every_replicate _ 0 n 0 (λ j h g. absurd (omega arith)))
    (λ i names h e. every_set i i e (λ j a ne p g. p (omega arith)) (λ _. refl))

own_names_law : (length own_names ≡ 512) × ((k : ℕ) → k < 512 → start_in own_names k ≡ called k)
unfolding own_names start_in
own_names_law =
    let own = names_own 512 in
    (own.size_is, λ k h. ap start_from (own.holds k h h) ∙ from_name k h)

record Fresh (s : State) : Type 0 where
  none : s.count ≡ 0
  bodies_long : length s.bodies ≡ 512
  defs_long : length s.defs ≡ 512
  uses_long : length s.uses ≡ 512
  own : (k : ℕ) → k < 512 → start_in s.bodies k ≡ called k
  undefined : (k : ℕ) → k < 512 → get_or s.defs k false ≡ false
  unused : (k : ℕ) → k < 512 → get_or s.uses k false ≡ false
  single : s.twice ≡ false

begun_fresh : (base : Net) → Fresh (begun base)
unfolding begun
begun_fresh base = record {
  none = refl;
  bodies_long = own_names_law.0;
  defs_long = length-replicate 512 false;
  uses_long = length-replicate 512 false;
  own = own_names_law.1;
  undefined = λ k h. get_or-replicate 512 k false false h;
  unused = λ k h. get_or-replicate 512 k false false h;
  single = refl;
}

-- ---- after all lines
unused_marks : (u b : Bool) → b ≡ false → choose u true b ≡ u
unfolding choose
unused_marks true b e = refl
unused_marks false b e = e

once_fresh : (defs : List Bool) (m k : ℕ) → get_or defs k false ≡ false → leb (choose (get_or defs k false) 1 0 + m) 1 ≡ leb m 1
unfolding choose
once_fresh defs m k e = let none : 0 + m ≡ m = omega arith in rw (e, none) refl

held_fresh : (ls : List Line) (s : State) → Fresh s → FitAll ls s → Held ls (after_all ls s).bodies (after_all ls s).defs (after_all ls s).uses (after_all ls s).twice
unfolding once both
held_fresh ls s fresh f = record {
  body = λ k h.
      bodies_all k h ls s f fresh.defs_long fresh.bodies_long (λ _. fresh.own k h)
      ∙ choose_false _ _ _ (fresh.undefined k h) ∙ ap (λ (n : ℕ). defined_in k n ls) fresh.none;
  defined = λ k h. defined_all k h ls s fresh.defs_long ∙ choose_false _ _ _ (fresh.undefined k h);
  used = λ k h. used_all k h ls s fresh.uses_long ∙ unused_marks _ _ (fresh.unused k h);
  once =
      twice_all ls s f fresh.defs_long ∙ ap (λ (b : Bool). both (not b) (all 512 (once s.defs (λ k. defined k ls)))) fresh.single
      ∙ all_same 512 _ _ (λ k h. once_fresh s.defs (defined k ls) k (fresh.undefined k h));
}

-- ---- the place of each start
place_low : (n : ℕ) → n ≤ 512 → place_of (n % 65536) ≡ place_of n
place_low n h = let low : n % 65536 ≡ n = omega arith in rw low refl

place_from : (bodies : List ℕ) (w : ℕ) (x : Start) → start_from w ≡ x → place_at bodies w ≡ place_for (settled_in bodies x)
unfolding place_at
place_from bodies w x e = rw e refl

module _ (ls : List Line) (whole : total ls ≤ 512) (bodies : List ℕ) where
  name_place : ((k : ℕ) → k < 512 → settled_in bodies (called k) ≡ settled ls (called k)) → (k : ℕ) → k < 512 → place_at bodies k ≡ place_in ls (called k)
  unfolding place_for place_in
  name_place same k h =
      place_from bodies k (called k) (from_name k h) ∙ ap place_for (same k h)
      ∙ place_low (number_of (settled ls (called k))) (name_most ls 512 whole k)

  number_place : (n : ℕ) → n ≤ 512 → place_at bodies (512 + n) ≡ place_in ls (here n)
  unfolding place_for place_in settled_in settle_in settled settle number_of
  number_place n h = place_from bodies (512 + n) (here n) (from_number n) ∙ place_low n h

-- ---- the whole
module _ (ls : List Line) (base : Net) (f : FitAll ls (begun base)) where
  pub held_all :
      Held ls (after_all ls (begun base)).bodies (after_all ls (begun base)).defs (after_all ls (begun base)).uses
      (after_all ls (begun base)).twice
  held_all = held_fresh ls (begun base) (begun_fresh base) f

  pub resolves_all : total ls ≤ 512 → Resolves (place_at (after_all ls (begun base)).bodies) (place_in ls)
  resolves_all whole = record {
    names = name_place ls whole (after_all ls (begun base)).bodies (settled_name ls _ _ _ _ held_all);
    numbers = number_place ls whole (after_all ls (begun base)).bodies;
  }
