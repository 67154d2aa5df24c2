-- Admission by needs: a row grants what the code from a place needs where that code keeps within it (`keeps_of` of `keeping`), if the
-- addresses that it has written are addresses. A need more is a right more that the row has to grant: flag by flag is instruction by
-- instruction. Assumes nothing.
use Prim.Native.Nat.{ℕ, ◌+◌, ◌-◌, ◌*◌, ◌%◌, ◌<◌, ◌≤◌}
use mathlib.Core.Path.{◌≡◌, refl, sym, ap, ◌∙◌}
use mathlib.Core.Bool.{Bool, true, false, ◌||◌}
use mathlib.Core.List.{List}
use native.Mathlib.Omega.{arith}
use native.Mathlib.Decide.{dec_le, ℕ_discrete}
use lib.Dec.{eqb, ltb}
use lib.ListN.{length, get_or, set, replicate, length-set, length-replicate}
use lib.Seq.{get_or-set_same, get_or-set_other, set-get_or}
use borrow.Author.Tests.{lt-ltb, le-ltb, ltb-true}
use Rattle.net.specs.Choice.{choose, both, implies, all}
use Rattle.net.specs.Records.{rights_at, instruction_at, address_of, place_of}
use Rattle.net.specs.Groups.{member, all_members}
use Rattle.net.proofs.Laws.{both_i, both_l, both_r, both_both, both_end, same_truth, implies_i, implies_e, choose_true, choose_false, all_i, all_e}
use Rattle.net.proofs.FoldLaws.{fold_keeps}
use Rattle.keeping.specs.Keeping.{may_take, may_read, may_put, may_send, may_create, at_target, may_put_all, permits, permits_marked, keeps_of}
use Rattle.keeping.specs.Reaching.{reached_of}
use Rattle.keeping.proofs.Unmarked.{unmarked_at}
use Rattle.lean_words.specs.Rights.{rights_in, row_in, own_in, covered, admits_words}
use Rattle.lean_words.proofs.RowLaws.{rights_in_law}
use Rattle.lean_code.specs.Types.{Locality, Place, Group, Rights, Row, Target, Action, Instruction}
use Rattle.lean_code.specs.Needs.{add_right, add_member, add_members, add_action, add_where, add_reached, needs_of}

-- ---- truth values
or-true : (a : Bool) → (a || true) ≡ true
or-true true = refl
or-true false = refl

or-false : (a : Bool) → (a || false) ≡ a
or-false true = refl
or-false false = refl

-- ---- flags that each want a test to hold
wanted : ℕ → (ℕ → Bool) → List Bool → Bool
wanted n test need = all n (λ i. implies (get_or need i false) (test i))

-- one flag more
wanted_set :
    (n : ℕ) (test : ℕ → Bool) (need : List Bool) (j : ℕ) → length need ≡ n → j < n
    → wanted n test (set need j true) ≡ both (wanted n test need) (test j)
unfolding wanted
wanted_set n test need j size low =
    same_truth _ _
    (λ h.
    both_i _ _ (all_i n _ (λ i l. implies_i _ _ (λ m. implies_e _ _ (all_e n _ h i l) (kept i m (ℕ_discrete i j)))))
    (implies_e _ _ (all_e n _ h j low) (get_or-set_same need j true false (omega arith))))
    (λ h. all_i n _ (λ i l. implies_i _ _ (λ m. old i l m (both_l _ _ h) (both_r (wanted n test need) _ h) (ℕ_discrete i j))))
  where
    kept : (i : ℕ) → get_or need i false ≡ true → Dec (i ≡ j) → get_or (set need j true) i false ≡ true
    kept i m (yes e) = rw e (get_or-set_same need j true false (omega arith))
    kept i m (no e) = get_or-set_other need j i true false e ∙ m

    old :
        (i : ℕ) → i < n → get_or (set need j true) i false ≡ true → all n (λ k. implies (get_or need k false) (test k)) ≡ true → test j ≡ true
        → Dec (i ≡ j) → test i ≡ true
    old i l m before here (yes e) = rw e here
    old i l m before here (no e) = implies_e _ _ (all_e n _ before i l) (sym (get_or-set_other need j i true false e) ∙ m)

wanted_none : (n m : ℕ) (test : ℕ → Bool) → wanted n test (replicate m false) ≡ true
unfolding wanted
wanted_none n m test =
    all_i n _ (λ i l. implies_i _ _ (λ h. let z : ◌≡◌ {A = ℕ} 0 1 = cc (unmarked_at m i) in absurd (omega arith)))

-- ---- the right that a flag stands for, in a row of the address a
granted : Row → Locality → ℕ → Bool
granted r a i =
    choose (ltb i 16) (may_take r (address_of i))
    (choose (ltb i 32) (may_read r (address_of (i - 16)))
    (choose (ltb i 48) (may_put r (address_of (i - 32)))
    (choose (ltb i 64) (may_send r (address_of (i - 48)))
    (choose (eqb i 64) (may_create r)
    (choose (eqb i 65) (may_take r a) (choose (eqb i 66) (may_read r a) (choose (eqb i 67) (may_put r a) (may_send r a))))))))

module _ (r : Row) (a : Locality) (i m : ℕ) (h : m < 16) where
  granted_take : i ≡ m → granted r a i ≡ may_take r (address_of m)
  unfolding granted
  granted_take e = choose_true _ _ _ (lt-ltb i 16 (omega arith)) ∙ ap (λ (l : ℕ). may_take r (address_of l)) e

  granted_read : i ≡ m + 16 → granted r a i ≡ may_read r (address_of m)
  unfolding granted
  granted_read e =
      let d : i - 16 ≡ m = omega arith in
      choose_false _ _ _ (le-ltb i 16 (omega arith)) ∙ choose_true _ _ _ (lt-ltb i 32 (omega arith))
      ∙ ap (λ (l : ℕ). may_read r (address_of l)) d

  granted_put : i ≡ m + 32 → granted r a i ≡ may_put r (address_of m)
  unfolding granted
  granted_put e =
      let d : i - 32 ≡ m = omega arith in
      choose_false _ _ _ (le-ltb i 16 (omega arith)) ∙ choose_false _ _ _ (le-ltb i 32 (omega arith))
      ∙ choose_true _ _ _ (lt-ltb i 48 (omega arith)) ∙ ap (λ (l : ℕ). may_put r (address_of l)) d

  granted_send : i ≡ m + 48 → granted r a i ≡ may_send r (address_of m)
  unfolding granted
  granted_send e =
      let d : i - 48 ≡ m = omega arith in
      choose_false _ _ _ (le-ltb i 16 (omega arith)) ∙ choose_false _ _ _ (le-ltb i 32 (omega arith))
      ∙ choose_false _ _ _ (le-ltb i 48 (omega arith)) ∙ choose_true _ _ _ (lt-ltb i 64 (omega arith))
      ∙ ap (λ (l : ℕ). may_send r (address_of l)) d

-- ---- written targets that are addresses
unfoldable pub low_target : Target → Bool
low_target (Target.Written l) = ltb l.0 16
low_target Target.Own = true
low_target (Target.Held v) = true

unfoldable pub low_action : Action → Bool
low_action Action.Stop = true
low_action (Action.Out t q) = low_target t
low_action (Action.In t q) = low_target t
low_action (Action.Read t q) = low_target t
low_action (Action.Eval t sent q) = low_target t
low_action (Action.New v q) = true
low_action (Action.Fork q r) = true
low_action (Action.OutAll g q) = true

right_size : (need : List Bool) (right : ℕ) (t : Target) → length need ≡ 69 → length (add_right need right t) ≡ 69
unfolding add_right
right_size need right (Target.Written l) size = length-set need _ true ∙ size
right_size need right Target.Own size = length-set need _ true ∙ size
right_size need right (Target.Held v) size = size

-- ---- what an action needs more is what it is permitted by
module _ (r : Row) (a : Locality) where
  all_granted : List Bool → Bool
  all_granted need = wanted 69 (granted r a) need

  module _ (right : ℕ) (may : Locality → Bool) (few : right < 4)
      (there : (i m : ℕ) → m < 16 → i ≡ 16 * right + m → granted r a i ≡ may (address_of m)) (own : granted r a (65 + right) ≡ may a)
      (need : List Bool) (size : length need ≡ 69) where
    right_more : (t : Target) → low_target t ≡ true → all_granted (add_right need right t) ≡ both (all_granted need) (at_target t a may)
    unfolding all_granted add_right at_target low_target
    right_more (Target.Written l) low =
        let h : l.0 < 16 = ltb-true l.0 16 low in
        wanted_set 69 _ need _ size (omega arith) ∙ ap (both (wanted 69 (granted r a) need)) (there _ l.0 h (omega arith))
    right_more Target.Own low =
        let e : 65 + right % 4 ≡ 65 + right = omega arith in
        wanted_set 69 _ need _ size (omega arith) ∙ ap (both (wanted 69 (granted r a) need)) (ap (granted r a) e ∙ own)
    right_more (Target.Held v) low = sym (both_end _)

  member_more : (i : ℕ) (xs : List Bool) (b : Bool) → i < 16 → length xs ≡ 69
      → all_granted (set xs (i + 32) (get_or xs (i + 32) false || b)) ≡ both (all_granted xs) (implies b (may_put r (address_of i)))
  unfolding all_granted implies
  member_more i xs true h size =
      rw or-true
      (wanted_set 69 _ xs (i + 32) size (omega arith) ∙ ap (both (wanted 69 (granted r a) xs)) (granted_put r a (i + 32) i h refl))
  member_more i xs false h size = rw (or-false, set-get_or) (sym (both_end _))

  members_more : (need : List Bool) (g : Group) → length need ≡ 69
      → (length (add_members need g) ≡ 69) × (all_granted (add_members need g) ≡ both (all_granted need) (may_put_all r g))
  unfolding add_members may_put_all all_members all add_member
  members_more need g size =
      fold_keeps
      (λ i xs.
      (length xs ≡ 69) × (all_granted xs ≡ both (all_granted need) (all i (λ m. implies (member g (address_of m)) (may_put r (address_of m))))))
      (add_member g) need 16 (size, sym (both_end _))
      (λ i xs l p. (
        length-set xs _ _ ∙ p.0,
        member_more i xs (member g (address_of i)) l p.0 ∙ ap (λ (b : Bool). both b (implies (member g (address_of i)) (may_put r (address_of i)))) p.1
            ∙ both_both (all_granted need) _ _,
      ))

  action_more : (need : List Bool) (x : Action) → length need ≡ 69 → low_action x ≡ true
      → all_granted (add_action need x) ≡ both (all_granted need) (permits r a x)
  unfolding add_action permits low_action all_granted granted choose
  action_more need Action.Stop size low = sym (both_end _)
  action_more need (Action.Out t q) size low =
      right_more 2 (may_put r) (omega arith) (λ i m h e. granted_put r a i m h (omega arith)) refl need size t low
  action_more need (Action.In t q) size low =
      right_more 0 (may_take r) (omega arith) (λ i m h e. granted_take r a i m h (omega arith)) refl need size t low
  action_more need (Action.Read t q) size low =
      right_more 1 (may_read r) (omega arith) (λ i m h e. granted_read r a i m h (omega arith)) refl need size t low
  action_more need (Action.Eval t sent q) size low =
      right_more 3 (may_send r) (omega arith) (λ i m h e. granted_send r a i m h (omega arith)) refl need size t low
  action_more need (Action.New v q) size low = wanted_set 69 _ need 64 size (omega arith)
  action_more need (Action.Fork q q') size low = sym (both_end _)
  action_more need (Action.OutAll g q) size low = (members_more need g size).1

  -- ---- lengths
  action_size : (need : List Bool) (x : Action) → length need ≡ 69 → length (add_action need x) ≡ 69
  unfolding add_action
  action_size need Action.Stop size = size
  action_size need (Action.Out t q) size = right_size need 2 t size
  action_size need (Action.In t q) size = right_size need 0 t size
  action_size need (Action.Read t q) size = right_size need 1 t size
  action_size need (Action.Eval t sent q) size = right_size need 3 t size
  action_size need (Action.New v q) size = length-set need 64 true ∙ size
  action_size need (Action.Fork q q') size = size
  action_size need (Action.OutAll g q) size = (members_more need g size).0

  -- ---- what is reached
  where_more : (need : List Bool) (b : Bool) (x : Action) → length need ≡ 69 → low_action x ≡ true
      → (length (add_where b x need) ≡ 69) × (all_granted (add_where b x need) ≡ both (all_granted need) (implies b (permits r a x)))
  unfolding add_where choose implies
  where_more need true x size low = (action_size need x size, action_more need x size low)
  where_more need false x size low = (size, sym (both_end _))

  module _ (code : List Instruction) (low : (q : ℕ) → q < 512 → low_action (instruction_at code (place_of q)).action ≡ true) where
    needs_granted : (p : Place) → all_granted (needs_of code p) ≡ keeps_of code p a r
    unfolding needs_of keeps_of permits_marked add_reached all all_granted
    needs_granted p =
        (fold_keeps
        (λ i xs.
        (length xs ≡ 69)
        × (all_granted xs
        ≡ all i (λ q. implies (get_or (reached_of code p) q false) (permits r a (instruction_at code (place_of q)).action))))
        (add_reached code (reached_of code p)) (replicate 69 false) 512 (length-replicate 69 false, wanted_none 69 69 (granted r a))
        (λ i xs l h.
        let x = (instruction_at code (place_of i)).action in
        let b = get_or (reached_of code p) i false in
        let more = where_more xs b x h.0 (low i l) in
        (more.0, more.1 ∙ ap (λ (c : Bool). both c (implies b (permits r a x))) h.1))
        ).1

-- ---- the flags of a row, and the row that they stand for
abbrev Covers : Rights → Rights → Type 0
Covers n h =
    (n.take ≡ true → h.take ≡ true) × (n.read ≡ true → choose h.take true h.read ≡ true) × (n.put ≡ true → h.put ≡ true)
    × (n.send ≡ true → h.send ≡ true)

covers : (n h : Rights) → covered n h ≡ true → Covers n h
unfolding covered
covers n h e =
    let front = both_l _ _ e in
    let back = both_r (both (implies n.take h.take) (implies n.read (choose h.take true h.read))) _ e in (
      implies_e _ _ (both_l _ _ front),
      implies_e _ _ (both_r (implies n.take h.take) _ front),
      implies_e _ _ (both_l _ _ back),
      implies_e _ _ (both_r (implies n.put h.put) _ back),
    )

covers_all : (n h : Rights) → (n.take ≡ true → h.take ≡ true) → (n.read ≡ true → choose h.take true h.read ≡ true)
    → (n.put ≡ true → h.put ≡ true) → (n.send ≡ true → h.send ≡ true) → covered n h ≡ true
unfolding covered
covers_all n h t g o e =
    both_i _ _ (both_i _ _ (implies_i _ _ t) (implies_i _ _ g)) (both_i _ _ (implies_i _ _ o) (implies_i _ _ e))

last_five : (P : ℕ → Type 0) → P 64 → P 65 → P 66 → P 67 → P 68 → (i : ℕ) → 64 ≤ i → i < 69 → P i
last_five P a b c d e i l h = go (dec_le 65 i) (dec_le 66 i) (dec_le 67 i) (dec_le 68 i)
  where
    go : Dec (65 ≤ i) → Dec (66 ≤ i) → Dec (67 ≤ i) → Dec (68 ≤ i) → P i
    go (no u) v w x = let z : i ≡ 64 = omega arith in rw z a
    go (yes u) (no v) w x = let z : i ≡ 65 = omega arith in rw z b
    go (yes u) (yes v) (no w) x = let z : i ≡ 66 = omega arith in rw z c
    go (yes u) (yes v) (yes w) (no x) = let z : i ≡ 67 = omega arith in rw z d
    go (yes u) (yes v) (yes w) (yes x) = let z : i ≡ 68 = omega arith in rw z e

module _ (fs : List Bool) where
  module _ (need : List Bool) (l : ℕ) (near : l < 16) where
    -- the needs at each address and over self, and n
    each_granted : admits_words need fs l ≡ true → (i : ℕ) → i < 69 → get_or need i false ≡ true
        → granted (row_in fs) (address_of l) i ≡ true
    unfolding admits_words may_take may_read may_put may_send may_create granted choose row_in own_in rights_in
    each_granted e i h n = go (dec_le 16 i) (dec_le 32 i) (dec_le 48 i) (dec_le 64 i)
      where
        at : (m : ℕ) → m < 16 → covered (rights_in need m) (rights_at (row_in fs) (address_of m)) ≡ true
        at m k = rw (rights_in_law fs m k) (all_e 16 _ (both_l _ _ e) m k)

        rest : both (covered (own_in need) (rights_in fs (l % 16))) (implies (get_or need 64 false) (get_or fs 64 false)) ≡ true
        rest = both_r (all 16 (λ m. covered (rights_in need m) (rights_in fs m))) _ e

        own : Covers (own_in need) (rights_at (row_in fs) (address_of l))
        own =
            let d : l % 16 ≡ l = omega arith in
            covers (own_in need) (rights_at (row_in fs) (address_of l)) (rw (rights_in_law fs l near) (rw d at (both_l _ _ rest)))

        last : get_or need 64 false ≡ true → get_or fs 64 false ≡ true
        last = implies_e _ _ (both_r (covered (own_in need) (rights_in fs (l % 16))) _ rest)

        go : Dec (16 ≤ i) → Dec (32 ≤ i) → Dec (48 ≤ i) → Dec (64 ≤ i) → granted (row_in fs) (address_of l) i ≡ true
        go (no u) v w x = granted_take (row_in fs) (address_of l) i i (omega arith) refl ∙ (covers _ _ (at i (omega arith))).0 n
        go (yes u) (no v) w x =
            let d : i - 16 + 16 ≡ i = omega arith in
            granted_read (row_in fs) (address_of l) i (i - 16) (omega arith) (omega arith)
            ∙ (covers _ _ (at (i - 16) (omega arith))).1 (rw d n)
        go (yes u) (yes v) (no w) x =
            let d : i - 32 + 32 ≡ i = omega arith in
            granted_put (row_in fs) (address_of l) i (i - 32) (omega arith) (omega arith)
            ∙ (covers _ _ (at (i - 32) (omega arith))).2 (rw d n)
        go (yes u) (yes v) (yes w) (no x) =
            let d : i - 48 + 48 ≡ i = omega arith in
            granted_send (row_in fs) (address_of l) i (i - 48) (omega arith) (omega arith)
            ∙ (covers _ _ (at (i - 48) (omega arith))).3 (rw d n)
        go (yes u) (yes v) (yes w) (yes x) =
            last_five (λ j. get_or need j false ≡ true → granted (row_in fs) (address_of l) j ≡ true) last own.0 own.1 own.2 own.3 i x h n

    admits_granted : ((i : ℕ) → i < 69 → get_or need i false ≡ true → granted (row_in fs) (address_of l) i ≡ true)
        → admits_words need fs l ≡ true
    unfolding admits_words may_take may_read may_put may_send may_create granted choose row_in own_in rights_in
    admits_granted g =
        let d : l % 16 ≡ l = omega arith in
        both_i _ _ (all_i 16 _ (λ m k. rw (← (rights_in_law fs m k)) (at m k)))
        (both_i _ _ (rw (d, ← (rights_in_law fs l near)) own) (implies_i _ _ (g 64 (omega arith))))
      where
        at : (m : ℕ) → m < 16 → covered (rights_in need m) (rights_at (row_in fs) (address_of m)) ≡ true
        at m k =
            covers_all (rights_in need m) _
            (λ n. sym (granted_take (row_in fs) (address_of l) m m k refl) ∙ g m (omega arith) n)
            (λ n. sym (granted_read (row_in fs) (address_of l) (m + 16) m k refl) ∙ g (m + 16) (omega arith) n)
            (λ n. sym (granted_put (row_in fs) (address_of l) (m + 32) m k refl) ∙ g (m + 32) (omega arith) n)
            (λ n. sym (granted_send (row_in fs) (address_of l) (m + 48) m k refl) ∙ g (m + 48) (omega arith) n)

        own : covered (own_in need) (rights_at (row_in fs) (address_of l)) ≡ true
        own = covers_all (own_in need) _ (g 65 (omega arith)) (g 66 (omega arith)) (g 67 (omega arith)) (g 68 (omega arith))

    admits_is : admits_words need fs l ≡ all_granted (row_in fs) (address_of l) need
    unfolding all_granted wanted
    admits_is =
        same_truth _ _ (λ e. all_i 69 _ (λ i h. implies_i _ _ (each_granted e i h)))
        (λ e. admits_granted (λ i h. implies_e _ _ (all_e 69 _ e i h)))

  -- the claim
  pub admission :
      (code : List Instruction) → ((q : ℕ) → q < 512 → low_action (instruction_at code (place_of q)).action ≡ true)
      → (p : Place) (l : ℕ) → l < 16 → admits_words (needs_of code p) fs l ≡ keeps_of code p (address_of l) (row_in fs)
  admission code low p l near = admits_is (needs_of code p) l near ∙ needs_granted (row_in fs) (address_of l) code low p
