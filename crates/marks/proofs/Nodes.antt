-- The tuples of a net's nodes after each change that a step makes: a process replaced, a tuple put, to one address or to each
-- of a set, a tuple taken, an address opened.
-- Assumes nothing.
use Prim.Native.Nat.{ℕ, zero, suc, ◌+◌, ◌-◌, ◌<◌, ◌≤◌}
use mathlib.Core.Path.{◌≡◌, refl, sym, ap, subst, ◌∙◌}
use mathlib.Core.Logic.{◌⊎◌, inl, inr}
use mathlib.Core.Bool.{true, false}
use mathlib.Core.List.{List, [], ◌∷◌}
use native.Mathlib.Omega.{arith}
use lib.ListN.{length, get_or, set, length-set}
use lib.Seq.{get_or-set_same, get_or-set_other}
use Rattle.net.specs.Records.{node_at, tuple_at, marked, zero_node, with_node, with_counts, with_process, with_rows, with_tuple}
use Rattle.net.specs.Records.{without_tuple, after_taking}
use Rattle.net.specs.Choice.{choose}
use Rattle.net.specs.declared.locality.Group.{Group}
use Rattle.net.specs.Groups.{member}
use Rattle.net.proofs.Laws.{choose_true, choose_false, split}
use Rattle.net.proofs.Every.{chosen_lt}
use Rattle.net.proofs.Past.{past_tuple}
use Rattle.step.specs.Pick.{with_host, added, added_all, taken, opened, unused, created_at, created}
use Rattle.step.proofs.Stores.{added_all_at}
use Rattle.step.proofs.SoundChanges.{set_each}
use Rattle.marks.specs.Types.{Locality, Place, Tuple, Process, Node, Net}
use Rattle.marks.specs.MarkClaims.{Added, StandsAt}

-- ---- a place of a list, where it was set or elsewhere
set_at :
    {A : Type 0} (P : A → Type 0) (d : A) (xs : List A) (i j : ℕ) (y : A) → (i ≡ j → P y) → P (get_or xs j d)
    → P (get_or (set xs i y) j d)
set_at P d [] i j y f p = p
set_at P d (x ∷ xs) zero zero y f p = f refl
set_at P d (x ∷ xs) zero (suc j) y f p = p
set_at P d (x ∷ xs) (suc i) zero y f p = p
set_at P d (x ∷ xs) (suc i) (suc j) y f p = set_at P d xs i j y (λ e. f (ap suc e)) p

-- the node at c, once the one at l is replaced
module _ (P : Locality → Node → Type 0) (s : Net) (l : Locality) (x : Node) (p : P l x) where
  node_at_law : (c : Locality) → P c (node_at s c) → P c (node_at (with_node s l x) c)
  unfolding node_at with_node
  node_at_law c q =
      set_at (P c) _ s.nodes l.0 c.0 x (λ e. subst (λ (m : Locality). P m x) (λ i. record { 0 = e i }) p) q

  node_there : l.0 < length s.nodes → P l (node_at (with_node s l x) l)
  unfolding node_at with_node
  node_there h = subst (P l) (sym (get_or-set_same s.nodes l.0 x _ h)) p

-- ---- nodes with the same tuples
record Same (x y : Node) : Type 0 where
  stored_is : y.stored ≡ x.stored
  tuples_are : y.tuples ≡ x.tuples

-- each tuple of y stood at x
pub record Stood (x y : Node) : Type 0 where
  pub each : (i : ℕ) → i < y.stored → StandsAt x (tuple_at y i)

module _ {x y : Node} (h : Same x y) where
  tuple_same : (i : ℕ) → tuple_at y i ≡ tuple_at x i
  unfolding tuple_at
  tuple_same i = ap (λ (ts : List Tuple). get_or ts i past_tuple) h.tuples_are

  stands_same : (t : Tuple) → StandsAt y t → StandsAt x t
  stands_same t g = record {
    place = g.place;
    present = omega (arith, h.stored_is, g.present);
    is = sym (tuple_same g.place) ∙ g.is;
  }

  same_stood : Stood x y
  same_stood = record { each = λ i l. stands_same _ (record { place = i; present = l; is = refl }) }

  stood_same : (z : Node) → Stood y z → Stood x z
  stood_same z g = record { each = λ i l. stands_same _ (g.each i l) }

pub stays : (x : Node) → Stood x x
stays x = same_stood (record { stored_is = refl; tuples_are = refl })

-- ---- a process replaced
host_same : (s : Net) (a : Locality) (k : ℕ) (p : Process) (c : Locality) → Same (node_at s c) (node_at (with_host s a k p) c)
unfolding with_host with_process
host_same s a k p c =
    node_at_law (λ m. Same (node_at s m)) s a _ (record { stored_is = refl; tuples_are = refl }) c
    (record { stored_is = refl; tuples_are = refl })

pub host_stood :
    (s : Net) (a : Locality) (k : ℕ) (p : Process) (c : Locality)
    → Stood (node_at s c) (node_at (with_host s a k p) c)
host_stood s a k p c = same_stood (host_same s a k p c)

-- and another one
pub hosts_stood :
    (s : Net) (a l : Locality) (k j : ℕ) (p q : Process) (c : Locality)
    → Stood (node_at s c) (node_at (with_host (with_host s a k p) l j q) c)
hosts_stood s a l k j p q c = stood_same (host_same s a k p c) _ (host_stood _ l j q c)

-- ---- a tuple put
module _ (t : Tuple) (a : Locality) (x y : Node) (h : Same x y) where
  newest :
      length x.tuples ≡ 16 → y.stored < 16
      → get_or (set y.tuples y.stored (marked a t)) x.stored past_tuple ≡ marked a t
  newest size free =
      ap (λ (n : ℕ). get_or (set y.tuples y.stored (marked a t)) n past_tuple) (sym h.stored_is)
      ∙ get_or-set_same y.tuples y.stored (marked a t) past_tuple (omega (arith, ap length h.tuples_are))

  put_added : length x.tuples ≡ 16 → x.stored < 16 → Added t a x (with_tuple y (marked a t))
  unfolding with_tuple tuple_at marked
  put_added size room =
      chosen_lt (Added t a x) y.stored 16 _ _
      (λ free. record {
        one_more_law = omega (arith, h.stored_is);
        bears = ap (λ (u : Tuple). u.mark) (newest size free);
        same_count = ap (λ (u : Tuple). u.count) (newest size free);
        same_fields = ap (λ (u : Tuple). u.fields) (newest size free);
        older = λ i l.
            get_or-set_other y.tuples y.stored i _ past_tuple (λ e. omega (arith, h.stored_is)) ∙ tuple_same h i;
      })
      (λ full. absurd (omega (arith, h.stored_is)))

-- what stands at y is the newest, or stood at x
added_or :
    (t : Tuple) (a : Locality) (x y : Node) → Added t a x y → (i : ℕ) → i < y.stored
    → (i ≡ x.stored) ⊎ StandsAt x (tuple_at y i)
added_or t a x y h i l =
    elim (split i x.stored (omega (arith, h.one_more_law))) [
      | inl below ↦ inr (record { place = i; present = below; is = sym (h.older i below) })
      | inr e ↦ inl e
    ]

-- of the net s, at the address c: the tuple is the newest, where l is c, or stood there
pub record PutOr (s : Net) (l c : Locality) (y : Node) : Type 0 where
  pub each : (i : ℕ) → i < y.stored → ((l ≡ c) × (i ≡ (node_at s c).stored)) ⊎ StandsAt (node_at s c) (tuple_at y i)

stood_or : (s : Net) (l c : Locality) (y : Node) → Stood (node_at s c) y → PutOr s l c y
stood_or s l c y h = record { each = λ i g. inr (h.each i g) }

-- a process replaced, and then a tuple put at each member of a set
all_at :
    (s : Net) (a : Locality) (k : ℕ) (p : Process) (g : Group) (t : Tuple) (c : Locality) → length s.nodes ≡ 16
    → node_at (added_all (with_host s a k p) g t) c
    ≡ choose (member g c) (with_tuple (node_at (with_host s a k p) c) t) (node_at (with_host s a k p) c)
unfolding with_host with_node
all_at s a k p g t c nodes =
    added_all_at (with_host s a k p) g t (length-set s.nodes a.0 (with_process (node_at s a) k p) ∙ nodes) c

-- where the process p of a is replaced, and then the tuple put at l
module _
    (s : Net) (a : Locality) (k : ℕ) (p : Process) (l : Locality) (t : Tuple)
    (size : length (node_at s l).tuples ≡ 16) (room : (node_at s l).stored < 16)
  where
    there : Added t a (node_at s l) (with_tuple (node_at (with_host s a k p) l) (marked a t))
    there = put_added t a _ _ (host_same s a k p l) size room

    pub out_added : l.0 < length s.nodes → Added t a (node_at s l) (node_at (added (with_host s a k p) l (marked a t)) l)
    unfolding added with_host with_node
    out_added h =
        node_there (λ m. Added t a (node_at s m)) (with_host s a k p) l _ there
        (omega (arith, length-set s.nodes a.0 (with_process (node_at s a) k p)))

    there_or : PutOr s l l (with_tuple (node_at (with_host s a k p) l) (marked a t))
    there_or = record {
      each = λ i g.
          elim (added_or t a _ _ there i g) [
            | inl e ↦ inl (refl, e)
            | inr h ↦ inr h
          ];
    }

    -- or put at each member of a set, l among them
    module _ (g : Group) (m : member g l ≡ true) (nodes : length s.nodes ≡ 16) where
      receives :
          node_at (added_all (with_host s a k p) g (marked a t)) l ≡ with_tuple (node_at (with_host s a k p) l) (marked a t)
      receives = all_at s a k p g (marked a t) l nodes ∙ choose_true _ _ _ m

      pub all_added : Added t a (node_at s l) (node_at (added_all (with_host s a k p) g (marked a t)) l)
      all_added = subst (Added t a (node_at s l)) (sym receives) there

      pub all_or : PutOr s l l (node_at (added_all (with_host s a k p) g (marked a t)) l)
      all_or = subst (PutOr s l l) (sym receives) there_or

    pub out_or : (c : Locality) → PutOr s l c (node_at (added (with_host s a k p) l (marked a t)) c)
    unfolding added
    out_or c =
        node_at_law (PutOr s l) (with_host s a k p) l _ there_or c (stood_or s l c _ (host_stood s a k p c))

-- at an address that is no member nothing is put
pub passed_stood :
    (s : Net) (a : Locality) (k : ℕ) (p : Process) (g : Group) (t : Tuple) (c : Locality) → length s.nodes ≡ 16
    → member g c ≡ false → Stood (node_at s c) (node_at (added_all (with_host s a k p) g t) c)
passed_stood s a k p g t c nodes m =
    subst (Stood (node_at s c)) (sym (all_at s a k p g t c nodes ∙ choose_false _ _ _ m)) (host_stood s a k p c)

-- ---- a tuple taken
after_taking_law : (x : Node) (i j : ℕ) → x.stored ≤ 16 → j < x.stored - 1 → StandsAt x (after_taking x i j)
unfolding after_taking
after_taking_law x i j few l =
    chosen_lt (StandsAt x) j i _ _ (λ _. record { place = j; present = omega arith; is = refl })
    (λ _. chosen_lt (StandsAt x) j 15 _ _ (λ _. record { place = j + 1; present = omega arith; is = refl })
    (λ high. absurd (omega arith)))

taken_stood : (x : Node) (i : ℕ) → x.stored ≤ 16 → length x.tuples ≡ 16 → Stood x (without_tuple x i)
unfolding without_tuple tuple_at
taken_stood x i few size = record {
  each = λ j l.
      subst (StandsAt x) (sym ((set_each past_tuple 16 (after_taking x i) x.tuples size).holds j (omega arith)))
      (after_taking_law x i j few l);
}

pub in_stood :
    (s : Net) (a : Locality) (k : ℕ) (p : Process) (l : Locality) (i : ℕ) → (node_at s l).stored ≤ 16
    → length (node_at s l).tuples ≡ 16 → (c : Locality) → Stood (node_at s c) (node_at (taken (with_host s a k p) l i) c)
unfolding taken
in_stood s a k p l i few size c =
    let h = host_same s a k p l in
    node_at_law (λ m. Stood (node_at s m)) (with_host s a k p) l _
    (stood_same h _ (taken_stood _ i (omega (arith, h.stored_is)) (ap length h.tuples_are ∙ size))) c
    (host_stood s a k p c)

-- ---- an address opened: it has no tuples
none_stood : (x y : Node) → y.stored ≡ 0 → Stood x y
none_stood x y e = record { each = λ i l. absurd (omega arith) }

opened_stood : (s : Net) (c : Locality) → Stood (node_at s c) (node_at (opened s) c)
unfolding node_at opened with_counts
opened_stood s c = stays (node_at s c)

pub created_stood :
    (s : Net) (a : Locality) (k : ℕ) (p : Process) (v : ℕ) (q : Place) (c : Locality)
    → Stood (node_at s c) (node_at (created s a k p v q) c)
unfolding created created_at opened with_counts with_rows with_process zero_node
created_stood s a k p v q c =
    node_at_law (λ m. Stood (node_at s m)) _ (unused s) _ (none_stood _ _ refl) c
    (node_at_law (λ m. Stood (node_at s m)) (opened s) a _ (same_stood (record { stored_is = refl; tuples_are = refl })) c
    (opened_stood s c))
