-- What the actions do to the words (`specs/Actions.antt`), as the code comes to each of its ends: a law for each.
-- Assumes nothing.
use Prim.Native.Nat.{ℕ, ◌+◌, ◌-◌, ◌<◌, ◌≤◌, ◌%◌}
use mathlib.Core.Path.{◌≡◌, refl, sym, ap, ◌∙◌}
use mathlib.Core.Bool.{Bool, true, false, not, ◌&&◌, ◌||◌}
use mathlib.Core.List.{List, []}
use native.Mathlib.Omega.{arith}
use lib.Dec.{ltb}
use lib.ListN.{get_or, set}
use borrow.Author.Tests.{lt-ltb, le-ltb, le-leb, lt-leb}
use Rattle.net.specs.Choice.{both, implies, all}
use Rattle.net.proofs.Laws.{choose_true, choose_false, all_fails}
use Rattle.net.proofs.AllLaws.{and_both, all_goes_on, all_end}
use Rattle.net.proofs.FoldLaws.{fold_none, fold_more, fold_end}
use Rattle.lean_words.specs.Stores.{oldest_in, put_words, closed_up}
use Rattle.lean_words.specs.Rights.{grants_flags}
use Rattle.lean_code.specs.Fields.{word_from, defined_words, wants_words, bound_words}
use Rattle.lean.specs.Words.{slot_at, with_slot, with_word}
use Rattle.lean.specs.Actions.{Moved, Given, acted_with, moved_with, put_with, met_with, given_with, aim_at, aim_of, target_in}
use Rattle.lean.specs.Actions.{put_of, tuple_from, out_put, out_to, out_at, out_of, met_at, meet_of, fewer, removed_of, take_met, take_place_at, take_of, read_met, read_at, read_of}
use Rattle.lean.specs.Actions.{room_in, given_by, given_at, put_below, out_all_put, out_to_all, out_all_of}

-- ---- the target
module _
    (p : List ℕ) (a : ℕ) (h : List ℕ) (f : List (List ℕ)) (policy : List (List Bool)) (right w : ℕ) (d : Bool)
    (word : w ≡ word_from p a (get_or h 2 0) (get_or h 1 0)) (known : d ≡ defined_words p f)
  where
    abbrev x : ℕ
    x = word_from p a (get_or h 2 0) (get_or h 1 0)

    tested : (b : Bool) → (d && ltb w 256) ≡ b → both (defined_words p f) (ltb x 256) ≡ b
    tested b q = sym (and_both d (ltb w 256) _ _ known (ap (λ (y : ℕ). ltb y 256) word)) ∙ q

    pub aim_lacks : (d && ltb w 256) ≡ false → 22 ≡ aim_of p a h f policy right
    unfolding aim_of aim_at
    aim_lacks q = sym (choose_false _ _ _ (tested false q))

    pub aim_written : (d && ltb w 256) ≡ true → 9 ≤ get_or h 2 0 → w % 16 ≡ aim_of p a h f policy right
    unfolding aim_of aim_at
    aim_written q u =
        ap (λ (y : ℕ). y % 16) word ∙ sym (choose_true _ _ _ (tested true q) ∙ choose_true _ _ _ (le-leb 9 (get_or h 2 0) u))

    module _
        (q : (d && ltb w 256) ≡ true) (u : get_or h 2 0 < 9) (g : Bool)
        (grants : g ≡ grants_flags (get_or policy (get_or p 9 0 % 16) []) (w % 16) right)
      where
        looked : grants_flags (get_or policy (get_or p 9 0 % 16) []) (x % 16) right ≡ g
        looked = sym (grants ∙ ap (λ (y : ℕ). grants_flags (get_or policy (get_or p 9 0 % 16) []) (y % 16) right) word)

        pub aim_held : g ≡ true → w % 16 ≡ aim_of p a h f policy right
        unfolding aim_of aim_at
        aim_held e =
            ap (λ (y : ℕ). y % 16) word
            ∙ sym (choose_true _ _ _ (tested true q) ∙ choose_false _ _ _ (lt-leb 9 (get_or h 2 0) u) ∙ choose_true _ _ _ (looked ∙ e))

        pub aim_barred : g ≡ false → 20 ≡ aim_of p a h f policy right
        unfolding aim_of aim_at
        aim_barred e =
            sym (choose_true _ _ _ (tested true q) ∙ choose_false _ _ _ (lt-leb 9 (get_or h 2 0) u) ∙ choose_false _ _ _ (looked ∙ e))

-- ---- an out that reaches l
module _
    (slots : List (List (List ℕ))) (stored : List ℕ) (tuples : List (List (List ℕ))) (h : List ℕ) (f : List (List ℕ)) (a k l : ℕ)
    (t : List ℕ) (made : t ≡ put_words (wants_words (get_or (get_or slots (a % 16) []) (k % 4) []) a f (get_or h 5 0)) a)
    (b : Bool) (stored' : List ℕ) (tuples' : List (List (List ℕ))) (put : put_with b stored' tuples' ≡ put_of stored tuples l t)
  where
    out_put_law : out_to l slots stored tuples h f a k ≡ out_put slots h a k (put_with b stored' tuples')
    unfolding out_to tuple_from slot_at
    out_put_law =
        ap (λ (y : List ℕ). out_put slots h a k (put_of stored tuples l y)) (sym made) ∙ ap (out_put slots h a k) (sym put)

    pub out_done :
        (slots' : List (List (List ℕ))) → b ≡ true → slots' ≡ with_word slots a k 8 (get_or h 3 0)
        → moved_with 0 slots' stored' tuples' ≡ out_to l slots stored tuples h f a k
    unfolding out_put
    out_done slots' e moved =
        ap (λ (v : List (List (List ℕ))). moved_with 0 v stored' tuples') moved ∙ sym (out_put_law ∙ choose_true _ _ _ e)

    pub out_full : b ≡ false → moved_with 3 slots stored' tuples' ≡ out_to l slots stored tuples h f a k
    unfolding out_put
    out_full e = sym (out_put_law ∙ choose_false _ _ _ e)

-- ---- what is met
module _
    (slots : List (List (List ℕ))) (stored : List ℕ) (tuples : List (List (List ℕ))) (h : List ℕ) (f : List (List ℕ)) (a k l i : ℕ)
    (oldest : i
    ≡ oldest_in (get_or tuples (l % 16) []) (get_or stored (l % 16) 0)
    (wants_words (get_or (get_or slots (a % 16) []) (k % 4) []) a f (get_or h 5 0)))
  where
    met_is : meet_of slots stored tuples h f a k l ≡ met_at i slots tuples h f a k l
    unfolding meet_of slot_at
    met_is =
        ap (λ (j : ℕ). met_at j slots tuples h f a k l) (sym oldest)

    pub met_some :
        (us : List ℕ) → i < 16
        → us ≡ bound_words (get_or (get_or slots (a % 16) []) (k % 4) []) f (get_or (get_or tuples (l % 16) []) i []) (get_or h 3 0)
        → met_with i (set slots (a % 16) (set (get_or slots (a % 16) []) (k % 4) us)) ≡ meet_of slots stored tuples h f a k l
    unfolding met_at with_slot slot_at
    met_some us u e =
        ap (λ (v : List ℕ). met_with i (set slots (a % 16) (set (get_or slots (a % 16) []) (k % 4) v))) e
        ∙ sym (met_is ∙ choose_true _ _ _ (lt-ltb i 16 u))

    pub met_none : 16 ≤ i → met_with i slots ≡ meet_of slots stored tuples h f a k l
    unfolding met_at
    met_none u = sym (met_is ∙ choose_false _ _ _ (le-ltb i 16 u))

-- ---- a tuple taken
module _ (stored : List ℕ) (tuples : List (List (List ℕ))) (l i : ℕ) (ts : List (List ℕ)) (closed : ts ≡ closed_up (get_or tuples (l % 16) []) i) where
  pub remove_one :
      0 < get_or stored (l % 16) 0
      → given_with (set stored (l % 16) (get_or stored (l % 16) 0 - 1)) (set tuples (l % 16) ts) ≡ removed_of stored tuples l i
  unfolding removed_of fewer
  remove_one g =
      ap (λ (v : List (List ℕ)). given_with (set stored (l % 16) (get_or stored (l % 16) 0 - 1)) (set tuples (l % 16) v)) closed
      ∙ ap (λ (v : List ℕ). given_with v (set tuples (l % 16) (closed_up (get_or tuples (l % 16) []) i)))
      (sym (choose_true _ _ _ (lt-ltb 0 (get_or stored (l % 16) 0) g)))

  pub remove_none :
      get_or stored (l % 16) 0 ≤ 0 → given_with stored (set tuples (l % 16) ts) ≡ removed_of stored tuples l i
  unfolding removed_of fewer
  remove_none g =
      ap (λ (v : List (List ℕ)). given_with stored (set tuples (l % 16) v)) closed
      ∙ ap (λ (v : List ℕ). given_with v (set tuples (l % 16) (closed_up (get_or tuples (l % 16) []) i)))
      (sym (choose_false _ _ _ (le-ltb 0 (get_or stored (l % 16) 0) g)))

-- ---- out, in and read, by the target
module _
    (slots : List (List (List ℕ))) (stored : List ℕ) (tuples : List (List (List ℕ))) (rows : List (List (List Bool)))
    (h : List ℕ) (f : List (List ℕ)) (a k l right : ℕ)
    (aim : l ≡ aim_of (get_or (get_or slots (a % 16) []) (k % 4) []) a h f (get_or rows (a % 16) []) right)
  where
    target_is : target_in slots rows h f a k right ≡ l
    unfolding target_in slot_at
    target_is = sym aim

module _
    (slots : List (List (List ℕ))) (stored : List ℕ) (tuples : List (List (List ℕ))) (rows : List (List (List Bool)))
    (h : List ℕ) (f : List (List ℕ)) (a k l : ℕ)
  where
    -- an out
    module _ (aim : l ≡ aim_of (get_or (get_or slots (a % 16) []) (k % 4) []) a h f (get_or rows (a % 16) []) 2) where
      at_target_law : out_of slots stored tuples rows h f a k ≡ out_at l slots stored tuples h f a k
      unfolding out_of
      at_target_law = ap (λ (y : ℕ). out_at y slots stored tuples h f a k) (target_is slots stored tuples rows h f a k l 2 aim)

      pub out_refused : (x : ℕ) → l ≡ 16 + x → moved_with x slots stored tuples ≡ out_of slots stored tuples rows h f a k
      unfolding out_at
      out_refused x p =
          let u : 16 ≤ l = omega (arith, p) in
          let q : l - 16 ≡ x = omega (arith, p) in
          sym (at_target_law ∙ choose_true _ _ _ (le-leb 16 l u) ∙ ap (λ (y : ℕ). moved_with y slots stored tuples) q)

      pub out_reached : (m : Moved) → l < 16 → m ≡ out_to l slots stored tuples h f a k → m ≡ out_of slots stored tuples rows h f a k
      unfolding out_at
      out_reached m u e = e ∙ sym (at_target_law ∙ choose_false _ _ _ (lt-leb 16 l u))

    -- an in
    module _ (aim : l ≡ aim_of (get_or (get_or slots (a % 16) []) (k % 4) []) a h f (get_or rows (a % 16) []) 0) where
      pub take_refused : (x : ℕ) → l ≡ 16 + x → moved_with x slots stored tuples ≡ take_of slots stored tuples rows h f a k
      unfolding take_of take_place_at
      take_refused x p =
          let u : 16 ≤ l = omega (arith, p) in
          let q : l - 16 ≡ x = omega (arith, p) in
          sym (ap (λ (y : ℕ). take_place_at y slots stored tuples h f a k) (target_is slots stored tuples rows h f a k l 0 aim)
          ∙ choose_true _ _ _ (le-leb 16 l u)
          ∙ ap (λ (y : ℕ). moved_with y slots stored tuples) q)

      module _ (u : l < 16) (i : ℕ) (slots' : List (List (List ℕ))) (met : met_with i slots' ≡ meet_of slots stored tuples h f a k l) where
        take_met_law : take_of slots stored tuples rows h f a k ≡ take_met l stored tuples (met_with i slots')
        unfolding take_of take_place_at
        take_met_law =
            ap (λ (y : ℕ). take_place_at y slots stored tuples h f a k) (target_is slots stored tuples rows h f a k l 0 aim)
            ∙ choose_false _ _ _ (lt-leb 16 l u)
            ∙ ap (take_met l stored tuples) (sym met)

        pub take_some :
            (stored' : List ℕ) (tuples' : List (List (List ℕ))) → i < 16 → given_with stored' tuples' ≡ removed_of stored tuples l i
            → moved_with 0 slots' stored' tuples' ≡ take_of slots stored tuples rows h f a k
        unfolding take_met
        take_some stored' tuples' g e =
            ap (λ (r : Given). moved_with 0 slots' r.stored r.tuples) e ∙ sym (take_met_law ∙ choose_true _ _ _ (lt-ltb i 16 g))

        pub take_none : 16 ≤ i → moved_with 2 slots' stored tuples ≡ take_of slots stored tuples rows h f a k
        unfolding take_met
        take_none g = sym (take_met_law ∙ choose_false _ _ _ (le-ltb i 16 g))

    -- a read
    module _ (aim : l ≡ aim_of (get_or (get_or slots (a % 16) []) (k % 4) []) a h f (get_or rows (a % 16) []) 1) where
      pub read_refused : (x : ℕ) → l ≡ 16 + x → acted_with x slots ≡ read_of slots stored tuples rows h f a k
      unfolding read_of read_at
      read_refused x p =
          let u : 16 ≤ l = omega (arith, p) in
          let q : l - 16 ≡ x = omega (arith, p) in
          sym (ap (λ (y : ℕ). read_at y slots stored tuples h f a k) (target_is slots stored tuples rows h f a k l 1 aim)
          ∙ choose_true _ _ _ (le-leb 16 l u)
          ∙ ap (λ (y : ℕ). acted_with y slots) q)

      module _ (u : l < 16) (i : ℕ) (slots' : List (List (List ℕ))) (met : met_with i slots' ≡ meet_of slots stored tuples h f a k l) where
        read_met_law : read_of slots stored tuples rows h f a k ≡ read_met (met_with i slots')
        unfolding read_of read_at
        read_met_law =
            ap (λ (y : ℕ). read_at y slots stored tuples h f a k) (target_is slots stored tuples rows h f a k l 1 aim)
            ∙ choose_false _ _ _ (lt-leb 16 l u)
            ∙ ap read_met (sym met)

        pub read_some : i < 16 → acted_with 0 slots' ≡ read_of slots stored tuples rows h f a k
        unfolding read_met
        read_some g = sym (read_met_law ∙ choose_true _ _ _ (lt-ltb i 16 g))

        pub read_none : 16 ≤ i → acted_with 2 slots' ≡ read_of slots stored tuples rows h f a k
        unfolding read_met
        read_none g = sym (read_met_law ∙ choose_false _ _ _ (le-ltb i 16 g))

-- ---- an out to a set
pub or_implies : (a b : Bool) → (not a || b) ≡ implies a b
unfolding implies
or_implies true b = refl
or_implies false b = refl

-- members that have room, and one that lacks it
module _ (stored : List ℕ) (set : List Bool) (l : ℕ) where
  pub room_more :
      all l (λ i. implies (get_or set i false) (ltb (get_or stored i 0) 16)) ≡ true
      → (not (get_or set l false) || ltb (get_or stored l 0) 16) ≡ true
      → all (l + 1) (λ i. implies (get_or set i false) (ltb (get_or stored i 0) 16)) ≡ true
  room_more e p = all_goes_on l _ _ e p (or_implies (get_or set l false) (ltb (get_or stored l 0) 16))

  pub room_lacks : l < 16 → (not (get_or set l false) || ltb (get_or stored l 0) 16) ≡ false → false ≡ room_in stored set
  unfolding room_in
  room_lacks h p = all_fails 16 _ l h (sym (or_implies (get_or set l false) (ltb (get_or stored l 0) 16)) ∙ p)

  pub room_whole :
      all l (λ i. implies (get_or set i false) (ltb (get_or stored i 0) 16)) ≡ true → l ≤ 16 → 16 ≤ l → true ≡ room_in stored set
  unfolding room_in
  room_whole e h g = all_end l 16 _ true (sym e) h g

module _ (stored : List ℕ) (tuples : List (List (List ℕ))) where
  pub put_member :
      (member : Bool) (l : ℕ) (t : List ℕ) (b : Bool) (stored' : List ℕ) (tuples' : List (List (List ℕ)))
      → member ≡ true → put_with b stored' tuples' ≡ put_of stored tuples l t
      → given_with stored' tuples' ≡ given_at member l t (given_with stored tuples)
  unfolding given_at given_by
  put_member member l t b stored' tuples' e put = ap given_by put ∙ sym (choose_true _ _ _ e)

  pub put_other : (member : Bool) (l : ℕ) (t : List ℕ) → member ≡ false → given_with stored tuples ≡ given_at member l t (given_with stored tuples)
  unfolding given_at
  put_other member l t e = sym (choose_false _ _ _ e)

  module _ (g : List Bool) (t : List ℕ) where
    pub below_none : given_with stored tuples ≡ put_below 0 stored tuples g t
    unfolding put_below
    below_none = fold_none _ _ (given_with stored tuples) refl

    pub below_more :
        (l : ℕ) (s s' : List ℕ) (ts ts' : List (List (List ℕ))) → given_with s ts ≡ put_below l stored tuples g t
        → given_with s' ts' ≡ given_at (get_or g l false) l t (given_with s ts) → given_with s' ts' ≡ put_below (l + 1) stored tuples g t
    unfolding put_below
    below_more l s s' ts ts' e q = fold_more _ _ l (given_with s ts) (given_with s' ts') e q

    pub below_end :
        (l : ℕ) (s : List ℕ) (ts : List (List (List ℕ))) → given_with s ts ≡ put_below l stored tuples g t → l ≤ 16 → 16 ≤ l
        → given_with s ts ≡ put_below 16 stored tuples g t
    unfolding put_below
    below_end l s ts e u v = fold_end _ _ l 16 (given_with s ts) e u v

module _
    (slots : List (List (List ℕ))) (stored : List ℕ) (tuples : List (List (List ℕ))) (g : List Bool) (h : List ℕ) (f : List (List ℕ))
    (a k : ℕ) (b : Bool)
  where
    module _ (room : b ≡ room_in stored g) where
      pub all_full : b ≡ false → moved_with 3 slots stored tuples ≡ out_to_all slots stored tuples g h f a k
      unfolding out_to_all
      all_full q = sym (choose_false _ _ _ (sym room ∙ q))

      pub all_done :
          (t : List ℕ) (slots' : List (List (List ℕ))) (stored' : List ℕ) (tuples' : List (List (List ℕ))) → b ≡ true
          → t ≡ put_words (wants_words (get_or (get_or slots (a % 16) []) (k % 4) []) a f (get_or h 5 0)) a
          → given_with stored' tuples' ≡ put_below 16 stored tuples g t → slots' ≡ with_word slots a k 8 (get_or h 3 0)
          → moved_with 0 slots' stored' tuples' ≡ out_to_all slots stored tuples g h f a k
      unfolding out_to_all out_all_put tuple_from slot_at
      all_done t slots' stored' tuples' q made given moved =
          ap (λ (v : List (List (List ℕ))). moved_with 0 v stored' tuples') moved
          ∙ ap (out_all_put slots h a k) (given ∙ ap (put_below 16 stored tuples g) made)
          ∙ sym (choose_true _ _ _ (sym room ∙ q))

    module _ (known : b ≡ defined_words (get_or (get_or slots (a % 16) []) (k % 4) []) f) where
      pub all_lacks : b ≡ false → moved_with 6 slots stored tuples ≡ out_all_of slots stored tuples g h f a k
      unfolding out_all_of slot_at
      all_lacks q = sym (choose_false _ _ _ (sym known ∙ q))

      pub all_defined : (m : Moved) → b ≡ true → m ≡ out_to_all slots stored tuples g h f a k → m ≡ out_all_of slots stored tuples g h f a k
      unfolding out_all_of slot_at
      all_defined m q e = e ∙ sym (choose_true _ _ _ (sym known ∙ q))
