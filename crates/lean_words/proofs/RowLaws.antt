-- A row and its flags (`specs/Rights.antt`): what stands in the flags, the row back from them, every right on an address gained, and the
-- rights that they grant.
-- Assumes nothing.
use Prim.Native.Nat.{ℕ, suc, ◌+◌, ◌*◌, ◌%◌, ◌<◌}
use mathlib.Core.Path.{◌≡◌, sym, ap, ap₂, ◌∙◌}
use mathlib.Core.Logic.{◌≢◌, ◌⊎◌, inl, inr}
use mathlib.Core.Bool.{Bool, true, false}
use mathlib.Core.List.{List}
use native.Mathlib.Omega.{arith}
use lib.ListN.{length, get_or, set, replicate, length-set, length-replicate}
use lib.Seq.{get_or-set_same, get_or-set_other}
use Rattle.net.specs.Choice.{choose, both, fold}
use Rattle.net.specs.Records.{rights_at, address_of, no_rights, all_rights, with_rights}
use Rattle.net.proofs.FoldLaws.{fold_keeps}
use Rattle.net.proofs.Laws.{split}
use Rattle.net.proofs.Past.{past_rights}
use Rattle.keeping.specs.Keeping.{may_take, may_read, may_put, may_send}
use Rattle.lean_words.specs.Rights.{with_flags, row_flags, rights_in, row_in, gained_flags, grants_flags}
use Rattle.lean_words.specs.Types.{Rights, Row}
use Rattle.lean_words.proofs.FilledLaws.{filled_at, filled_whole, filled_set}

-- ---- the flags of one address
module _ (fs : List Bool) (l : ℕ) (x : Rights) where
  abbrev one : List Bool
  one = set fs l x.take

  abbrev two : List Bool
  two = set one (l + 16) x.read

  abbrev three : List Bool
  three = set two (l + 32) x.put

  pub length_flags : length (with_flags fs l x) ≡ length fs
  unfolding with_flags
  length_flags =
      length-set three (l + 48) _ ∙ length-set two (l + 32) _ ∙ length-set one (l + 16) _ ∙ length-set fs l _

  -- of every other place
  flags_other :
      (i : ℕ) → i ≢ l → i ≢ l + 16 → i ≢ l + 32 → i ≢ l + 48 → get_or (with_flags fs l x) i false ≡ get_or fs i false
  unfolding with_flags
  flags_other i a b c d =
      get_or-set_other three (l + 48) i _ false d ∙ get_or-set_other two (l + 32) i _ false c
      ∙ get_or-set_other one (l + 16) i _ false b
      ∙ get_or-set_other fs l i _ false a

  module _ (size : length fs ≡ 65) (h : l < 16) where
    pub create_kept : get_or (with_flags fs l x) 64 false ≡ get_or fs 64 false
    create_kept = flags_other 64 (λ e. omega arith) (λ e. omega arith) (λ e. omega arith) (λ e. omega arith)

    pub rights_other : (m : ℕ) → m < 16 → m ≢ l → rights_in (with_flags fs l x) m ≡ rights_in fs m
    unfolding rights_in
    rights_other m g n = λ d. record {
      take = flags_other m n (λ e. omega arith) (λ e. omega arith) (λ e. omega arith) d;
      read = flags_other (m + 16) (λ e. omega arith) (λ e. n (omega arith)) (λ e. omega arith) (λ e. omega arith) d;
      put = flags_other (m + 32) (λ e. omega arith) (λ e. omega arith) (λ e. n (omega arith)) (λ e. omega arith) d;
      send = flags_other (m + 48) (λ e. omega arith) (λ e. omega arith) (λ e. omega arith) (λ e. n (omega arith)) d;
    }

    pub rights_here : rights_in (with_flags fs l x) l ≡ x
    unfolding rights_in with_flags
    rights_here = λ d. record {
      take =
          (get_or-set_other three (l + 48) l x.send false (λ e. omega arith)
          ∙ get_or-set_other two (l + 32) l x.put false (λ e. omega arith)
          ∙ get_or-set_other one (l + 16) l x.read false (λ e. omega arith)
          ∙ get_or-set_same fs l x.take false (omega arith))
          d;
      read =
          (get_or-set_other three (l + 48) (l + 16) x.send false (λ e. omega arith)
          ∙ get_or-set_other two (l + 32) (l + 16) x.put false (λ e. omega arith)
          ∙ get_or-set_same one (l + 16) x.read false (omega (arith, length-set fs l x.take)))
          d;
      put =
          (get_or-set_other three (l + 48) (l + 32) x.send false (λ e. omega arith)
          ∙ get_or-set_same two (l + 32) x.put false (omega (arith, length-set one (l + 16) x.read, length-set fs l x.take)))
          d;
      send =
          get_or-set_same three (l + 48) x.send false
          (omega (arith, length-set two (l + 32) x.put, length-set one (l + 16) x.read, length-set fs l x.take))
          d;
    }

-- ---- the flags of a row
module _ (r : Row) where
  -- those of the addresses below l
  record Below (l : ℕ) (fs : List Bool) : Type 0 where
    size : length fs ≡ 65
    each : (m : ℕ) → m < l → rights_in fs m ≡ rights_at r (address_of m)

  abbrev turns : List Bool
  turns = fold 16 (λ l fs. with_flags fs l (rights_at r (address_of l))) (replicate 65 false)

  one_more_law : (l : ℕ) (fs : List Bool) → l < 16 → Below l fs → Below (suc l) (with_flags fs l (rights_at r (address_of l)))
  one_more_law l fs h b = record { size = length_flags fs l _ ∙ b.size; each = λ m g. go m (split m l g) }
    where
      go : (m : ℕ) → (m < l) ⊎ (m ≡ l) → rights_in (with_flags fs l (rights_at r (address_of l))) m ≡ rights_at r (address_of m)
      go m (inl g) = rights_other fs l _ b.size h m (omega arith) (λ e. omega arith) ∙ b.each m g
      go m (inr e) = rw e (rights_here fs l _ b.size h)

  all_below : Below 16 turns
  all_below =
      fold_keeps Below _ (replicate 65 false) 16
      (record { size = length-replicate 65 false; each = λ m h. absurd (omega arith) }) one_more_law

  pub length_row : length (row_flags r) ≡ 65
  unfolding row_flags
  length_row = length-set turns 64 r.create ∙ all_below.size

  pub create_at : get_or (row_flags r) 64 false ≡ r.create
  unfolding row_flags
  create_at = get_or-set_same turns 64 r.create false (omega (arith, all_below.size))

  pub rights_loaded : (m : ℕ) → m < 16 → rights_in (row_flags r) m ≡ rights_at r (address_of m)
  unfolding row_flags rights_in
  rights_loaded m h =
      (λ d. record {
        take = get_or-set_other turns 64 m r.create false (λ e. omega arith) d;
        read = get_or-set_other turns 64 (m + 16) r.create false (λ e. omega arith) d;
        put = get_or-set_other turns 64 (m + 32) r.create false (λ e. omega arith) d;
        send = get_or-set_other turns 64 (m + 48) r.create false (λ e. omega arith) d;
      })
      ∙ all_below.each m h

  pub row_back : length r.rights ≡ 16 → row_in (row_flags r) ≡ r
  unfolding row_in rights_at
  row_back size = λ d. record {
    create = create_at d;
    rights =
        filled_whole past_rights 16 (rights_in (row_flags r)) (replicate 16 no_rights) (length-replicate 16 no_rights) r.rights size
        rights_loaded d;
  }

-- ---- the row of flags
module _ (fs : List Bool) where
  pub rights_in_law : (l : ℕ) → l < 16 → rights_at (row_in fs) (address_of l) ≡ rights_in fs l
  unfolding rights_at row_in
  rights_in_law l h = filled_at (rights_in fs) (replicate 16 no_rights) past_rights 16 l h h

  pub length_gained : (l : ℕ) → length (gained_flags fs l) ≡ length fs
  unfolding gained_flags
  length_gained l = length_flags fs (l % 16) all_rights

  -- every right on an address gained (`gaining` of `plans`)
  pub row_gained : (l : ℕ) → length fs ≡ 65 → l < 16 → row_in (gained_flags fs l) ≡ with_rights (row_in fs) (address_of l) all_rights
  unfolding row_in gained_flags with_rights
  row_gained l size h =
      let near : l % 16 ≡ l = omega arith in
      rw near
      (λ d. record {
        create = create_kept fs l all_rights size h d;
        rights =
            filled_set past_rights 16 (rights_in (with_flags fs l all_rights)) (replicate 16 no_rights) (length-replicate 16 no_rights)
            (rights_in fs) l all_rights (rights_other fs l all_rights size h) (λ g. rights_here fs l all_rights size h) d;
      })

  -- the rights that they grant
  module _ (l : ℕ) (h : l < 16) where
    held : {A : Type 0} (f : Rights → A) → f (rights_in fs l) ≡ f (rights_at (row_in fs) (address_of l))
    held f = sym (ap f (rights_in_law l h))

    pub grants_take : grants_flags fs l 0 ≡ may_take (row_in fs) (address_of l)
    unfolding grants_flags may_take rights_in choose both
    grants_take =
        let e : 16 * (0 % 4) + l % 16 ≡ l = omega arith in ap (λ (i : ℕ). get_or fs i false) e ∙ held (λ (x : Rights). x.take)

    pub grants_read : grants_flags fs l 1 ≡ may_read (row_in fs) (address_of l)
    unfolding grants_flags may_read rights_in both
    grants_read =
        let near : l % 16 ≡ l = omega arith in
        let e : 16 * (1 % 4) + l % 16 ≡ l + 16 = omega arith in
        ap₂ (λ (i j : ℕ). choose (get_or fs i false) true (get_or fs j false)) near e
        ∙ held (λ (x : Rights). choose x.take true x.read)

    pub grants_put : grants_flags fs l 2 ≡ may_put (row_in fs) (address_of l)
    unfolding grants_flags may_put rights_in choose both
    grants_put =
        let e : 16 * (2 % 4) + l % 16 ≡ l + 32 = omega arith in ap (λ (i : ℕ). get_or fs i false) e ∙ held (λ (x : Rights). x.put)

    pub grants_send : grants_flags fs l 3 ≡ may_send (row_in fs) (address_of l)
    unfolding grants_flags may_send rights_in choose both
    grants_send =
        let e : 16 * (3 % 4) + l % 16 ≡ l + 48 = omega arith in ap (λ (i : ℕ). get_or fs i false) e ∙ held (λ (x : Rights). x.send)
