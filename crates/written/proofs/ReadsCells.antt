-- Loops that read the records of an array, one a turn (`each` of `specs/Reader.antt`): what such a loop gives is what
-- writes down the records, one after another. One law over the array, the record and what else the value holds.
-- Assumes nothing.
use Prim.Native.Nat.{ℕ, suc, ◌<◌, ◌≤◌}
use mathlib.Core.Path.{◌≡◌, refl, sym, ap, subst, ◌∙◌}
use mathlib.Core.Bool.{Bool}
use mathlib.Core.List.{List}
use native.Mathlib.Omega.{arith}
use lib.ListN.{length, get_or, set, replicate, get_or-replicate}
use lib.Seq.{get_or-set_same, get_or-set_other, ext_get_or}
use Rattle.readers.specs.Reader.{Reader, pure, ◌>>=◌, each}
use Rattle.text.specs.Joined.{joined}
use Rattle.net.proofs.Every.{Every, every_set, Filled}
use Rattle.written.proofs.ReadsWrites.{Reads, reads_map, reads_each}

-- place j of an array once i turns are done: below i a good record, which undone gives what stood there before; from i
-- on what stood there before
pub record Rewritten {R : Type 0} (U : ℕ → R → Type 0) (undo : R → R) (d : R) (before : List R) (i j : ℕ) (x : R) : Type 0 where
  pub good : j < i → U j x
  pub undone : j < i → undo x ≡ get_or before j d
  pub kept : i ≤ j → get_or before j d ≡ x

-- an array of a value, and the turns that fill it: the array; the value with record r put at place i by turn i, and as it
-- was before with record r there; what stands past the end; what the record at place i satisfies, and what stood there
-- before; what else holds of the value once i turns are done; and what else turn i asks of a record
pub record Arrayed (A R : Type 0) : Type 1 where
  pub cells : A → List R
  pub put : ℕ → A → R → A
  pub cut : ℕ → A → R → A
  pub past : R
  pub Good : ℕ → R → Type 0
  pub undo : R → R
  pub Frame : ℕ → A → Type 0
  pub Extra : ℕ → A → R → Type 0
  pub size : ℕ

module _ {A R : Type 0} (v : Arrayed A R) (a₀ : A) where
  abbrev at : A → ℕ → R
  at a i = get_or (v.cells a) i v.past

  -- the array once i turns are done
  abbrev Cells : ℕ → List R → Type 0
  Cells i = Every (Rewritten v.Good v.undo v.past (v.cells a₀) i) v.past v.size

  -- a value once i turns are done
  pub record Through (i : ℕ) (b : A) : Type 0 where
    pub frame : v.Frame i b
    pub cells_ok : Cells i (v.cells b)

  -- turn i takes the value a to b
  pub record Turned (i : ℕ) (a b : A) : Type 0 where
    pub cell : R
    pub cell_good : v.Good i cell
    pub cell_undone : v.undo cell ≡ at a₀ i
    pub extra : v.Extra i a cell
    pub result : v.put i a cell ≡ b

  -- turn i reads v and puts the record that is made of it
  module _ (i : ℕ) (a : A) {C : Type 0} {m : Reader C} {u : C → List Bool} {P : C → Type 0} where
    pub reads_turn :
        (w : R → List Bool) (cell : C → R) → i < length (v.cells a)
        → ((r : R) → v.cells (v.put i a r) ≡ set (v.cells a) i r)
        → Reads m u P
        → ((x : C) → P x → v.Good i (cell x) × (v.undo (cell x) ≡ at a₀ i) × v.Extra i a (cell x))
        → ((x : C) → P x → w (cell x) ≡ u x)
        → ((r : R) → v.Good i r → v.undo r ≡ at a₀ i → v.Extra i a r → (x : C) × P x × (cell x ≡ r))
        → Reads (m >>= (λ x. pure (v.put i a (cell x)))) (λ b. w (at b i)) (Turned i a)
    reads_turn w cell l e r keeps writes parts =
        reads_map (λ x. v.put i a (cell x)) r
        (λ x h.
        let (g, u, k) = keeps x h in
        record { cell = cell x; cell_good = g; cell_undone = u; extra = k; result = refl })
        (λ x h.
        ap (λ xs. w (get_or xs i v.past)) (e (cell x))
        ∙ ap w (get_or-set_same (v.cells a) i (cell x) v.past l)
        ∙ writes x h)
        (λ b t.
        let (x, h, q) = parts t.cell t.cell_good t.cell_undone t.extra in
        (x, h, ap (v.put i a) q ∙ t.result))

  -- n turns, each of which reads one record
  pub record Filling (f : ℕ → A → Reader A) (n : ℕ) (w : R → List Bool) : Type 0 where
    pub room : n ≤ v.size
    pub size_is : length (v.cells a₀) ≡ v.size
    pub begins : v.Frame 0 a₀
    pub starts : (a : A) → v.Frame 0 a → v.cells a₀ ≡ v.cells a → a₀ ≡ a
    pub turn :
        (i : ℕ) → i < n → (a : A) → v.Frame i a → at a₀ i ≡ at a i → length (v.cells a) ≡ v.size
        → Reads (f i a) (λ b. w (at b i)) (Turned i a)
    pub put_cells : (i : ℕ) → i < n → (a : A) (r : R) → v.Frame i a → v.cells (v.put i a r) ≡ set (v.cells a) i r
    pub put_frame :
        (i : ℕ) → i < n → (a : A) (r : R) → v.Frame i a → length (v.cells a) ≡ v.size → v.Extra i a r
        → v.Frame (suc i) (v.put i a r)
    pub cut_cells : (i : ℕ) → i < n → (b : A) (r : R) → v.cells (v.cut i b r) ≡ set (v.cells b) i r
    pub cut_frame : (i : ℕ) → i < n → (b : A) (r : R) → v.Frame (suc i) b → v.Frame i (v.cut i b r)
    pub cut_extra : (i : ℕ) → i < n → (b : A) (r : R) → v.Frame (suc i) b → v.Extra i (v.cut i b r) (at b i)
    pub put_cut : (i : ℕ) → i < n → (b : A) (r : R) → v.Frame (suc i) b → v.put i (v.cut i b r) (at b i) ≡ b

  module _ (f : ℕ → A → Reader A) (n : ℕ) (w : R → List Bool) (g : Filling f n w) where
    next : (i : ℕ) → i < n → (a b : A) → Through i a → Turned i a b → Through (suc i) b
    next i h a b t u = subst (Through (suc i)) u.result (record {
      frame = g.put_frame i h a u.cell t.frame t.cells_ok.size_is u.extra;
      cells_ok =
          subst (Cells (suc i)) (sym (g.put_cells i h a u.cell t.frame))
          (every_set i u.cell t.cells_ok
          (λ j x l c. record {
            good = λ m. c.good (omega arith);
            undone = λ m. c.undone (omega arith);
            kept = λ m. c.kept (omega arith);
          })
          (record { good = λ _. u.cell_good; undone = λ _. u.cell_undone; kept = λ m. absurd (omega arith) }));
    })

    same : (i : ℕ) → i < n → (a b : A) → Through i a → Turned i a b → (j : ℕ) → j < i
        → w (at b j) ≡ w (at a j)
    same i h a b t u j l =
        ap (λ c. w (at c j)) (sym u.result)
        ∙ ap (λ xs. w (get_or xs j v.past)) (g.put_cells i h a u.cell t.frame)
        ∙ ap w (get_or-set_other (v.cells a) i j u.cell v.past (λ e. omega arith))

    last : (i : ℕ) → i < n → (b : A) → Through (suc i) b → (a : A) × Through i a × Turned i a b
    last i h b t =
        let r = at a₀ i in
        let room = g.room in
        let here = t.cells_ok.holds i (omega arith) in (
          v.cut i b r,
          record {
            frame = g.cut_frame i h b r t.frame;
            cells_ok =
                subst (Cells i) (sym (g.cut_cells i h b r))
                (every_set i r t.cells_ok
                (λ j x l c. record {
                  good = λ m. c.good (omega arith);
                  undone = λ m. c.undone (omega arith);
                  kept = λ m. c.kept (omega arith);
                })
                (record { good = λ m. absurd (omega arith); undone = λ m. absurd (omega arith); kept = λ _. refl }));
          },
          record {
            cell = at b i;
            cell_good = here.good (omega arith);
            cell_undone = here.undone (omega arith);
            extra = g.cut_extra i h b r t.frame;
            result = g.put_cut i h b r t.frame;
          },
        )

    pub reads_cells : Reads (each n f a₀) (λ b. joined n (λ i. w (at b i))) (Through n)
    reads_cells = reads_each (record {
      begins = record {
        frame = g.begins;
        cells_ok = record {
          size_is = g.size_is;
          holds = λ j h. record { good = λ m. absurd (omega arith); undone = λ m. absurd (omega arith); kept = λ _. refl };
        };
      };
      starts = λ a t.
          g.starts a t.frame
          (ext_get_or v.past (v.cells a₀) (v.cells a) (g.size_is ∙ sym t.cells_ok.size_is)
          (λ j h. (t.cells_ok.holds j (omega (arith, g.size_is))).kept (omega arith)));
      turn = λ i h a t. let room = g.room in
          g.turn i h a t.frame ((t.cells_ok.holds i (omega arith)).kept (omega arith)) t.cells_ok.size_is;
      next = next;
      same = same;
      last = last;
    })

-- ---- an array that held zero records: filled up to i
module _ {R : Type 0} {U : R → Type 0} {z d : R} {size i : ℕ} {xs : List R} where
  pub rewritten_filled :
      {c : ℕ} → c ≡ i → Every (Rewritten (λ _. U) (λ _. z) d (replicate size z) i) d size xs
      → Every (Filled U (λ x. z ≡ x) c) d size xs
  rewritten_filled q e = record {
    size_is = e.size_is;
    holds = λ j h. record {
      used = λ l. (e.holds j h).good (omega arith);
      unused = λ l. sym (get_or-replicate size j z d h) ∙ (e.holds j h).kept (omega arith);
    };
  }

  pub filled_rewritten :
      {c : ℕ} → i ≡ c → Every (Filled U (λ x. z ≡ x) i) d size xs
      → Every (Rewritten (λ _. U) (λ _. z) d (replicate size z) c) d size xs
  filled_rewritten q e = record {
    size_is = e.size_is;
    holds = λ j h. record {
      good = λ l. (e.holds j h).used (omega arith);
      undone = λ l. sym (get_or-replicate size j z d h);
      kept = λ l. get_or-replicate size j z d h ∙ (e.holds j h).unused (omega arith);
    };
  }
