-- Every pick keeps the lengths of the arrays of words. Assumes nothing.
use Prim.Native.Nat.{ℕ, zero, suc, ◌<◌, ◌%◌}
use mathlib.Core.Path.{◌≡◌, ap, ◌∙◌}
use mathlib.Core.Bool.{Bool}
use mathlib.Core.List.{List, []}
use native.Mathlib.Omega.{arith}
use lib.ListN.{length, get_or, set, replicate, length-set, length-replicate, get_or-replicate}
use Rattle.net.specs.Choice.{fold}
use Rattle.net.proofs.Every.{chosen}
use Rattle.lean_step.proofs.Covering.{at_set}
use Rattle.lean_words.specs.Stores.{closed_up}
use Rattle.lean_words.specs.Rights.{with_flags, gained_flags}
use Rattle.lean_words.proofs.FilledLaws.{length_filled}
use Rattle.lean.specs.Words.{Words, Grid, Sized, with_slot, with_word}
use Rattle.lean.specs.Actions.{Acted, Moved, Created, Put, Met, Given, stop_of, put_of, out_put, out_to, out_at, out_of, met_at, meet_of, fewer, removed_of}
use Rattle.lean.specs.Actions.{take_met, take_place_at, take_of, read_met, read_at, read_of, start_in, start_at, start_of, fork_of, eval_at, eval_of}
use Rattle.lean.specs.Actions.{open_alike, opened_policy, gained_at, open_by_origin, open_of, create_of, given_by, given_at, put_below, out_all_put, out_to_all, out_all_of}
use Rattle.lean.specs.Rounds.{Tables, Stepped, after_acted, after_moved, after_created, stop_words, out_words, take_words, read_words}
use Rattle.lean.specs.Rounds.{eval_words, create_words, fork_words, out_all_words, act_by, act_with, act_of, step_at, step_words}

-- ---- one row of a grid anew
pub grid_set :
    {A : Type 0} {n m : ℕ} (xs : List (List A)) (i : ℕ) (ys : List A) → Grid n m xs → length ys ≡ m → Grid n m (set xs i ys)
grid_set {A} {n} {m} xs i ys g e = record {
  long = length-set xs i ys ∙ g.long;
  wide = λ j h. at_set (λ (zs : List A). length zs ≡ m) xs i j ys [] (λ _. e) (g.wide j h);
}

-- one element of one row
pub grid_put :
    {A : Type 0} {n m : ℕ} (xs : List (List A)) (i j : ℕ) (y : A) → i < n → Grid n m xs
    → Grid n m (set xs i (set (get_or xs i []) j y))
grid_put xs i j y h g = grid_set xs i _ g (length-set (get_or xs i []) j y ∙ g.wide i h)

low16 : (a : ℕ) → a % 16 < 16
low16 a = omega arith

module _ (slots : List (List (List ℕ))) (g : Grid 16 4 slots) where
  slot_kept : (a k : ℕ) (p : List ℕ) → Grid 16 4 (with_slot slots a k p)
  unfolding with_slot
  slot_kept a k p = grid_put slots (a % 16) (k % 4) p (low16 a) g

  word_kept : (a k i x : ℕ) → Grid 16 4 (with_word slots a k i x)
  unfolding with_word
  word_kept a k i x = slot_kept a k _

  start_kept : (l j : ℕ) (p : List ℕ) → Grid 16 4 (start_in slots l j p)
  unfolding start_in
  start_kept l j p = grid_put slots (l % 16) j p (low16 l) g

-- ---- what an action leaves
record ActedOk (r : Acted) : Type 0 where
  slots_ok : Grid 16 4 r.slots

record StoresOk (stored : List ℕ) (tuples : List (List (List ℕ))) : Type 0 where
  stored_ok : length stored ≡ 16
  tuples_ok : Grid 16 16 tuples

record MovedOk (r : Moved) : Type 0 where
  slots_ok : Grid 16 4 r.slots
  stores_ok : StoresOk r.stored r.tuples

record RowsOk (rows : List (List (List Bool))) : Type 0 where
  long_ok : length rows ≡ 16
  each_ok : (a : ℕ) → a < 16 → Grid 16 65 (get_or rows a [])

record CreatedOk (r : Created) : Type 0 where
  slots_ok : Grid 16 4 r.slots
  rows_ok : RowsOk r.rows

record PutOk (r : Put) : Type 0 where
  stores_ok : StoresOk r.stored r.tuples

record MetOk (r : Met) : Type 0 where
  slots_ok : Grid 16 4 r.slots

record GivenOk (r : Given) : Type 0 where
  stores_ok : StoresOk r.stored r.tuples

-- ---- stores
put_kept : (stored : List ℕ) (tuples : List (List (List ℕ))) (l : ℕ) (t : List ℕ) → StoresOk stored tuples → PutOk (put_of stored tuples l t)
unfolding put_of
put_kept stored tuples l t h =
    chosen PutOk _ _ _
    (λ _. record {
      stores_ok = record {
        stored_ok = length-set stored (l % 16) _ ∙ h.stored_ok;
        tuples_ok = grid_put tuples (l % 16) _ t (low16 l) h.tuples_ok;
      };
    })
    (λ _. record { stores_ok = h })

given_kept : (n : ℕ) (stored : List ℕ) (tuples : List (List (List ℕ))) (g : List Bool) (t : List ℕ) → StoresOk stored tuples
    → GivenOk (put_below n stored tuples g t)
unfolding put_below given_at fold given_by
given_kept zero stored tuples g t h = record { stores_ok = h }
given_kept (suc n) stored tuples g t h =
    let before = given_kept n stored tuples g t h in
    chosen GivenOk _ _ _
    (λ _. record { stores_ok = (put_kept _ _ n t before.stores_ok).stores_ok })
    (λ _. before)

fewer_kept : (stored : List ℕ) (l : ℕ) → length stored ≡ 16 → length (fewer stored l) ≡ 16
unfolding fewer
fewer_kept stored l h = chosen (λ (xs : List ℕ). length xs ≡ 16) _ _ _ (λ _. length-set stored (l % 16) _ ∙ h) (λ _. h)

-- ---- rows
gained_length : (fs : List Bool) (l : ℕ) → length (gained_flags fs l) ≡ length fs
unfolding gained_flags with_flags
gained_length fs l = simp length-set

policy_set : (rows : List (List (List Bool))) (i : ℕ) (policy : List (List Bool)) → RowsOk rows → Grid 16 65 policy → RowsOk (set rows i policy)
policy_set rows i policy h g = record {
  long_ok = length-set rows i policy ∙ h.long_ok;
  each_ok = λ a u. at_set (Grid 16 65) rows i a policy [] (λ _. g) (h.each_ok a u);
}

alike_grid : (row : List Bool) → length row ≡ 65 → Grid 16 65 (replicate 16 row)
alike_grid row e = record { long = length-replicate 16 row; wide = λ i u. ap length (get_or-replicate 16 i row [] u) ∙ e }

module _ (policy : List (List Bool)) (g : Grid 16 65 policy) where
  gained_at_law : (o l : ℕ) → length (gained_flags (get_or policy (o % 16) []) l) ≡ 65
  gained_at_law o l = gained_length (get_or policy (o % 16) []) l ∙ g.wide (o % 16) (low16 o)

  gained_grid : (i o l : ℕ) → Grid 16 65 (set policy i (gained_flags (get_or policy (o % 16) []) l))
  gained_grid i o l = grid_set policy i _ g (gained_at_law o l)

  opened_grid : (a l : ℕ) → Grid 16 65 (opened_policy policy a l)
  unfolding opened_policy
  opened_grid a l = grid_set _ (l % 16) _ (gained_grid (a % 16) a l) (gained_at_law a l)

module _ (rows : List (List (List Bool))) (h : RowsOk rows) where
  alike_kept : (a o l : ℕ) → RowsOk (open_alike rows a o l)
  unfolding open_alike
  alike_kept a o l =
      let row = alike_grid _ (gained_at_law _ (h.each_ok (a % 16) (low16 a)) o l) in
      policy_set _ (l % 16) _ (policy_set rows (a % 16) _ h row) row

  gained_kept : (a o l : ℕ) → RowsOk (gained_at rows a o l)
  unfolding gained_at
  gained_kept a o l = policy_set rows (a % 16) _ h (gained_grid _ (h.each_ok (a % 16) (low16 a)) (o % 16) o l)

  opened_kept : (a l : ℕ) → RowsOk (set rows (l % 16) (opened_policy (get_or rows (a % 16) []) a l))
  opened_kept a l = policy_set rows (l % 16) _ h (opened_grid _ (h.each_ok (a % 16) (low16 a)) a l)

origin_kept : (rows : List (List (List Bool))) → RowsOk rows → (a o l : ℕ) → RowsOk (open_by_origin rows a o l)
unfolding open_by_origin
origin_kept rows h a o l = gained_kept _ (opened_kept rows h a l) a o l

open_kept : (format : ℕ) (rows : List (List (List Bool))) → RowsOk rows → (a o l : ℕ) → RowsOk (open_of format rows a o l)
unfolding open_of
open_kept format rows h a o l = chosen RowsOk _ _ _ (λ _. alike_kept rows h a o l) (λ _. origin_kept rows h a o l)

-- ---- each action
acted_ok : (answer : ℕ) (slots : List (List (List ℕ))) → Grid 16 4 slots → ActedOk (record { answer = answer; slots = slots })
acted_ok answer slots g = record { slots_ok = g }

module _ (slots : List (List (List ℕ))) (g : Grid 16 4 slots) (a k : ℕ) where
  stop_sized : ActedOk (stop_of slots a k)
  unfolding stop_of
  stop_sized = record { slots_ok = slot_kept slots g a k _ }

  start_sized : (h : List ℕ) (l origin : ℕ) → ActedOk (start_of slots h a k l origin)
  unfolding start_of start_at
  start_sized h l origin =
      chosen ActedOk _ _ _ (λ _. record { slots_ok = start_kept _ (word_kept slots g a k 8 _) l _ _ }) (λ _. record { slots_ok = g })

  fork_sized : (h : List ℕ) → ActedOk (fork_of slots h a k)
  unfolding fork_of
  fork_sized h = start_sized h a _

  eval_sized : (rows : List (List (List Bool))) (need : List Bool) (h : List ℕ) (f : List (List ℕ)) → ActedOk (eval_of slots rows need h f a k)
  unfolding eval_of eval_at
  eval_sized rows need h f =
      chosen ActedOk _ _ _ (λ _. record { slots_ok = g })
      (λ _. chosen ActedOk _ _ _ (λ _. start_sized h _ a) (λ _. record { slots_ok = g }))

  create_sized : (n : ℕ) (rows : List (List (List Bool))) (format : ℕ) (h : List ℕ) → RowsOk rows → CreatedOk (create_of n slots rows format h a k)
  unfolding create_of
  create_sized n rows format h r =
      chosen CreatedOk _ _ _
      (λ _. record { slots_ok = word_kept _ (word_kept slots g a k _ n) a k 8 _; rows_ok = open_kept format rows r a _ n })
      (λ _. record { slots_ok = g; rows_ok = r })

  module _ (stored : List ℕ) (tuples : List (List (List ℕ))) (s : StoresOk stored tuples) (h : List ℕ) (f : List (List ℕ)) where
    same_moved : (answer : ℕ) → MovedOk (record { answer = answer; slots = slots; stored = stored; tuples = tuples })
    same_moved answer = record { slots_ok = g; stores_ok = s }

    out_put_sized : (r : Put) → PutOk r → MovedOk (out_put slots h a k r)
    unfolding out_put
    out_put_sized r ok =
        chosen MovedOk _ _ _ (λ _. record { slots_ok = word_kept slots g a k 8 _; stores_ok = ok.stores_ok })
        (λ _. record { slots_ok = g; stores_ok = ok.stores_ok })

    out_sized : (rows : List (List (List Bool))) → MovedOk (out_of slots stored tuples rows h f a k)
    unfolding out_of out_at out_to
    out_sized rows =
        chosen MovedOk _ _ _ (λ _. same_moved _) (λ _. out_put_sized _ (put_kept stored tuples _ _ s))

    meet_sized : (l : ℕ) → MetOk (meet_of slots stored tuples h f a k l)
    unfolding meet_of met_at
    meet_sized l = chosen MetOk _ _ _ (λ _. record { slots_ok = slot_kept slots g a k _ }) (λ _. record { slots_ok = g })

    take_met_sized : (l : ℕ) (m : Met) → MetOk m → MovedOk (take_met l stored tuples m)
    unfolding take_met removed_of closed_up
    take_met_sized l m ok =
        chosen MovedOk _ _ _
        (λ _. record {
          slots_ok = ok.slots_ok;
          stores_ok = record {
            stored_ok = fewer_kept stored l s.stored_ok;
            tuples_ok = grid_set tuples (l % 16) _ s.tuples_ok (length_filled _ _ 16 ∙ s.tuples_ok.wide (l % 16) (low16 l));
          };
        })
        (λ _. record { slots_ok = ok.slots_ok; stores_ok = s })

    take_sized : (rows : List (List (List Bool))) → MovedOk (take_of slots stored tuples rows h f a k)
    unfolding take_of take_place_at
    take_sized rows = chosen MovedOk _ _ _ (λ _. same_moved _) (λ _. take_met_sized _ _ (meet_sized _))

    read_met_sized : (m : Met) → MetOk m → ActedOk (read_met m)
    unfolding read_met
    read_met_sized m ok = chosen ActedOk _ _ _ (λ _. record { slots_ok = ok.slots_ok }) (λ _. record { slots_ok = ok.slots_ok })

    read_sized : (rows : List (List (List Bool))) → ActedOk (read_of slots stored tuples rows h f a k)
    unfolding read_of read_at
    read_sized rows = chosen ActedOk _ _ _ (λ _. record { slots_ok = g }) (λ _. read_met_sized _ (meet_sized _))

    out_all_sized : (set : List Bool) → MovedOk (out_all_of slots stored tuples set h f a k)
    unfolding out_all_of out_to_all out_all_put
    out_all_sized set =
        chosen MovedOk _ _ _
        (λ _. chosen MovedOk _ _ _
        (λ _. record { slots_ok = word_kept slots g a k 8 _; stores_ok = (given_kept 16 stored tuples set _ s).stores_ok })
        (λ _. same_moved _))
        (λ _. same_moved _)

-- ---- a pick
record SteppedOk (x : Stepped) : Type 0 where
  sized : Sized x.words

module _ (w : Words) (ok : Sized w) where
  rows_of : RowsOk w.rows
  rows_of = record { long_ok = ok.rows_are.long; each_ok = λ a u. record { long = ok.rows_are.wide a u; wide = λ o v. ok.each_row a o u v } }

  stores_of : StoresOk w.stored w.tuples
  stores_of = record { stored_ok = ok.stored_are; tuples_ok = ok.tuples_are }

  after_acted_law : (r : Acted) → ActedOk r → SteppedOk (after_acted w r)
  unfolding after_acted
  after_acted_law r h = record {
    sized = record {
      slots_are = h.slots_ok;
      stored_are = ok.stored_are;
      tuples_are = ok.tuples_are;
      rows_are = ok.rows_are;
      each_row = ok.each_row;
    };
  }

  after_moved_law : (r : Moved) → MovedOk r → SteppedOk (after_moved w r)
  unfolding after_moved
  after_moved_law r h = record {
    sized = record {
      slots_are = h.slots_ok;
      stored_are = h.stores_ok.stored_ok;
      tuples_are = h.stores_ok.tuples_ok;
      rows_are = ok.rows_are;
      each_row = ok.each_row;
    };
  }

  after_created_law : (r : Created) → CreatedOk r → SteppedOk (after_created w r)
  unfolding after_created
  after_created_law r h = record {
    sized = record {
      slots_are = h.slots_ok;
      stored_are = ok.stored_are;
      tuples_are = ok.tuples_are;
      rows_are = record { long = h.rows_ok.long_ok; wide = λ a u. (h.rows_ok.each_ok a u).long };
      each_row = λ a o u v. (h.rows_ok.each_ok a u).wide o v;
    };
  }

  act_sized : (h : List ℕ) (f : List (List ℕ)) (g need : List Bool) (format a k : ℕ) → SteppedOk (act_with w h f g need format a k)
  unfolding act_with act_by stop_words out_words take_words read_words eval_words create_words fork_words out_all_words
  act_sized h f g need format a k =
      chosen SteppedOk _ _ _ (λ _. after_acted_law _ (stop_sized w.slots ok.slots_are a k))
      (λ _. chosen SteppedOk _ _ _ (λ _. after_moved_law _ (out_sized w.slots ok.slots_are a k _ _ stores_of h f _))
      (λ _. chosen SteppedOk _ _ _ (λ _. after_moved_law _ (take_sized w.slots ok.slots_are a k _ _ stores_of h f _))
      (λ _. chosen SteppedOk _ _ _ (λ _. after_acted_law _ (read_sized w.slots ok.slots_are a k _ _ stores_of h f _))
      (λ _. chosen SteppedOk _ _ _ (λ _. after_acted_law _ (eval_sized w.slots ok.slots_are a k _ need h f))
      (λ _. chosen SteppedOk _ _ _ (λ _. after_created_law _ (create_sized w.slots ok.slots_are a k _ _ format h rows_of))
      (λ _. chosen SteppedOk _ _ _ (λ _. after_acted_law _ (fork_sized w.slots ok.slots_are a k h))
      (λ _. after_moved_law _ (out_all_sized w.slots ok.slots_are a k _ _ stores_of h f g))))))))

  step_ok : (tb : Tables) (b : ℕ) → SteppedOk (step_words tb w b)
  unfolding step_words step_at act_of
  step_ok tb b =
      chosen SteppedOk _ _ _
      (λ _. chosen SteppedOk _ _ _ (λ _. record { sized = ok })
      (λ _. chosen SteppedOk _ _ _ (λ _. record { sized = ok }) (λ _. act_sized _ _ _ _ _ _ _)))
      (λ _. record { sized = ok })

pub sized_kept : (tb : Tables) (w : Words) (b : ℕ) → Sized w → Sized (step_words tb w b).words
sized_kept tb w b ok = (step_ok w ok tb b).sized
