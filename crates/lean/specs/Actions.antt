-- Describes the code, and is no part of what a reader has to believe: what each action does to the words. In what follows slots, stored,
-- tuples and rows are the arrays of `Words.antt`, h and f the head and the fields of an instruction, a the host, k the slot, l a target.
use Rattle.std.specs.Prelude.{ℕ, ◌+◌, ◌-◌, ◌%◌, Bool, true, false, List, [], Result, Ok, Err, eqb, ltb, leb, get_or, set, replicate}
use Rattle.net.specs.Choice.{choose, both, implies, all, fold}
use Rattle.lean_words.specs.Processes.{free_words, free_slot_in}
use Rattle.lean_words.specs.Stores.{oldest_in, put_words, closed_up}
use Rattle.lean_words.specs.Rights.{gained_flags, grants_flags, admits_words}
use Rattle.lean_code.specs.Fields.{word_from, defined_words, wants_words, bound_words}
use Rattle.lean.specs.Words.{slot_at, with_slot, with_word}

-- ---- what an action leaves: its answer's number, and the arrays that it may change
pub record Acted : Type 0 where
  pub answer : ℕ
  pub slots : List (List (List ℕ))

pub record Moved : Type 0 where
  pub answer : ℕ
  pub slots : List (List (List ℕ))
  pub stored : List ℕ
  pub tuples : List (List (List ℕ))

pub record Created : Type 0 where
  pub answer : ℕ
  pub count : ℕ
  pub slots : List (List (List ℕ))
  pub rows : List (List (List Bool))

abbrev pub acted_with : ℕ → List (List (List ℕ)) → Acted
acted_with answer slots = record { answer = answer; slots = slots }

abbrev pub moved_with : ℕ → List (List (List ℕ)) → List ℕ → List (List (List ℕ)) → Moved
moved_with answer slots stored tuples = record { answer = answer; slots = slots; stored = stored; tuples = tuples }

abbrev pub created_with : ℕ → ℕ → List (List (List ℕ)) → List (List (List Bool)) → Created
created_with answer n slots rows = record { answer = answer; count = n; slots = slots; rows = rows }

-- ---- the target: an address, or 16 and the answer above that
abbrev pub aimed : Result ℕ ℕ → ℕ
aimed (Ok l) = l
aimed (Err answer) = 16 + answer

unfoldable pub aim_at : ℕ → Bool → List ℕ → List ℕ → List (List Bool) → ℕ → ℕ
aim_at x known p h policy right =
    choose (both known (ltb x 256))
    (choose (leb 9 (get_or h 2 0)) (x % 16) (choose (grants_flags (get_or policy (get_or p 9 0 % 16) []) (x % 16) right) (x % 16) 20))
    22

unfoldable pub aim_of : List ℕ → ℕ → List ℕ → List (List ℕ) → List (List Bool) → ℕ → ℕ
aim_of p a h f policy right = aim_at (word_from p a (get_or h 2 0) (get_or h 1 0)) (defined_words p f) p h policy right

-- of the process in a slot
unfoldable pub target_in :
    List (List (List ℕ)) → List (List (List Bool)) → List ℕ → List (List ℕ) → ℕ → ℕ → ℕ → ℕ
target_in slots rows h f a k right = aim_of (slot_at slots a k) a h f (get_or rows (a % 16) []) right

-- ---- stop
unfoldable pub stop_of : List (List (List ℕ)) → ℕ → ℕ → Acted
stop_of slots a k = acted_with 1 (with_slot slots a k free_words)

-- ---- the tuple put at l as the newest, where there is room
pub record Put : Type 0 where
  pub done : Bool
  pub stored : List ℕ
  pub tuples : List (List (List ℕ))

abbrev pub put_with : Bool → List ℕ → List (List (List ℕ)) → Put
put_with done stored tuples = record { done = done; stored = stored; tuples = tuples }

unfoldable pub put_of : List ℕ → List (List (List ℕ)) → ℕ → List ℕ → Put
put_of stored tuples l t =
    choose (ltb (get_or stored (l % 16) 0) 16)
    (put_with true (set stored (l % 16) (get_or stored (l % 16) 0 + 1))
    (set tuples (l % 16) (set (get_or tuples (l % 16) []) (get_or stored (l % 16) 0) t)))
    (put_with false stored tuples)

-- ---- out: the tuple of what the template wants
unfoldable pub tuple_from : List (List (List ℕ)) → List ℕ → List (List ℕ) → ℕ → ℕ → List ℕ
tuple_from slots h f a k = put_words (wants_words (slot_at slots a k) a f (get_or h 5 0)) a

unfoldable pub out_put : List (List (List ℕ)) → List ℕ → ℕ → ℕ → Put → Moved
out_put slots h a k r =
    choose r.done (moved_with 0 (with_word slots a k 8 (get_or h 3 0)) r.stored r.tuples) (moved_with 3 slots r.stored r.tuples)

unfoldable pub out_to :
    ℕ → List (List (List ℕ)) → List ℕ → List (List (List ℕ)) → List ℕ → List (List ℕ) → ℕ → ℕ → Moved
out_to l slots stored tuples h f a k = out_put slots h a k (put_of stored tuples l (tuple_from slots h f a k))

unfoldable pub out_at :
    ℕ → List (List (List ℕ)) → List ℕ → List (List (List ℕ)) → List ℕ → List (List ℕ) → ℕ → ℕ → Moved
out_at l slots stored tuples h f a k =
    choose (leb 16 l) (moved_with (l - 16) slots stored tuples) (out_to l slots stored tuples h f a k)

unfoldable pub out_of :
    List (List (List ℕ)) → List ℕ → List (List (List ℕ)) → List (List (List Bool)) → List ℕ → List (List ℕ) → ℕ → ℕ → Moved
out_of slots stored tuples rows h f a k = out_at (target_in slots rows h f a k 2) slots stored tuples h f a k

-- ---- in and read: the tuple that is met, 16 where there is none
pub record Met : Type 0 where
  pub place : ℕ
  pub slots : List (List (List ℕ))

abbrev pub met_with : ℕ → List (List (List ℕ)) → Met
met_with j slots = record { place = j; slots = slots }

unfoldable pub met_at : ℕ → List (List (List ℕ)) → List (List (List ℕ)) → List ℕ → List (List ℕ) → ℕ → ℕ → ℕ → Met
met_at j slots tuples h f a k l =
    choose (ltb j 16)
    (met_with j (with_slot slots a k (bound_words (slot_at slots a k) f (get_or (get_or tuples (l % 16) []) j []) (get_or h 3 0))))
    (met_with j slots)

unfoldable pub meet_of :
    List (List (List ℕ)) → List ℕ → List (List (List ℕ)) → List ℕ → List (List ℕ) → ℕ → ℕ → ℕ → Met
meet_of slots stored tuples h f a k l =
    met_at
    (oldest_in (get_or tuples (l % 16) []) (get_or stored (l % 16) 0) (wants_words (slot_at slots a k) a f (get_or h 5 0)))
    slots tuples h f a k l

unfoldable pub fewer : List ℕ → ℕ → List ℕ
fewer stored l = choose (ltb 0 (get_or stored (l % 16) 0)) (set stored (l % 16) (get_or stored (l % 16) 0 - 1)) stored

pub record Given : Type 0 where
  pub stored : List ℕ
  pub tuples : List (List (List ℕ))

abbrev pub given_with : List ℕ → List (List (List ℕ)) → Given
given_with stored tuples = record { stored = stored; tuples = tuples }

-- the tuple at place j of l taken
unfoldable pub removed_of : List ℕ → List (List (List ℕ)) → ℕ → ℕ → Given
removed_of stored tuples l j = given_with (fewer stored l) (set tuples (l % 16) (closed_up (get_or tuples (l % 16) []) j))

unfoldable pub take_met : ℕ → List ℕ → List (List (List ℕ)) → Met → Moved
take_met l stored tuples m =
    choose (ltb m.place 16)
    (moved_with 0 m.slots (removed_of stored tuples l m.place).stored (removed_of stored tuples l m.place).tuples)
    (moved_with 2 m.slots stored tuples)

unfoldable pub take_place_at :
    ℕ → List (List (List ℕ)) → List ℕ → List (List (List ℕ)) → List ℕ → List (List ℕ) → ℕ → ℕ → Moved
take_place_at l slots stored tuples h f a k =
    choose (leb 16 l) (moved_with (l - 16) slots stored tuples) (take_met l stored tuples (meet_of slots stored tuples h f a k l))

unfoldable pub take_of :
    List (List (List ℕ)) → List ℕ → List (List (List ℕ)) → List (List (List Bool)) → List ℕ → List (List ℕ) → ℕ → ℕ → Moved
take_of slots stored tuples rows h f a k = take_place_at (target_in slots rows h f a k 0) slots stored tuples h f a k

unfoldable pub read_met : Met → Acted
read_met m = choose (ltb m.place 16) (acted_with 0 m.slots) (acted_with 2 m.slots)

unfoldable pub read_at :
    ℕ → List (List (List ℕ)) → List ℕ → List (List (List ℕ)) → List ℕ → List (List ℕ) → ℕ → ℕ → Acted
read_at l slots stored tuples h f a k =
    choose (leb 16 l) (acted_with (l - 16) slots) (read_met (meet_of slots stored tuples h f a k l))

unfoldable pub read_of :
    List (List (List ℕ)) → List ℕ → List (List (List ℕ)) → List (List (List Bool)) → List ℕ → List (List ℕ) → ℕ → ℕ → Acted
read_of slots stored tuples rows h f a k = read_at (target_in slots rows h f a k 1) slots stored tuples h f a k

-- ---- fork and eval: the process goes on, and its copy starts in the slot j of l, 4 where there is none
unfoldable pub copy_of : List ℕ → List ℕ → ℕ → List ℕ
copy_of p h origin = set (set p 8 (get_or h 4 0)) 9 origin

unfoldable pub start_in : List (List (List ℕ)) → ℕ → ℕ → List ℕ → List (List (List ℕ))
start_in slots l j copy = set slots (l % 16) (set (get_or slots (l % 16) []) j copy)

unfoldable pub start_at : ℕ → List (List (List ℕ)) → List ℕ → ℕ → ℕ → ℕ → ℕ → Acted
start_at j slots h a k l origin =
    choose (ltb j 4)
    (acted_with 0 (start_in (with_word slots a k 8 (get_or h 3 0)) l j (copy_of (slot_at slots a k) h origin)))
    (acted_with 3 slots)

unfoldable pub start_of : List (List (List ℕ)) → List ℕ → ℕ → ℕ → ℕ → ℕ → Acted
start_of slots h a k l origin = start_at (free_slot_in (get_or slots (l % 16) [])) slots h a k l origin

unfoldable pub fork_of : List (List (List ℕ)) → List ℕ → ℕ → ℕ → Acted
fork_of slots h a k = start_of slots h a k a (get_or (slot_at slots a k) 9 0)

unfoldable pub eval_at :
    ℕ → List (List (List ℕ)) → List (List (List Bool)) → List Bool → List ℕ → ℕ → ℕ → Acted
eval_at l slots rows need h a k =
    choose (leb 16 l) (acted_with (l - 16) slots)
    (choose (admits_words need (get_or (get_or rows (l % 16) []) (a % 16) []) l) (start_of slots h a k l a) (acted_with 5 slots))

unfoldable pub eval_of :
    List (List (List ℕ)) → List (List (List Bool)) → List Bool → List ℕ → List (List ℕ) → ℕ → ℕ → Acted
eval_of slots rows need h f a k = eval_at (target_in slots rows h f a k 3) slots rows need h a k

-- ---- new: the rows, by format, of a process of origin o that opens the address l
unfoldable pub open_alike : List (List (List Bool)) → ℕ → ℕ → ℕ → List (List (List Bool))
open_alike rows a o l =
    set (set rows (a % 16) (replicate 16 (gained_flags (get_or (get_or rows (a % 16) []) (o % 16) []) l)))
    (l % 16)
    (replicate 16 (gained_flags (get_or (get_or rows (a % 16) []) (o % 16) []) l))

-- the new node's rows: the creator's, and those for the creator and for the address itself have every right on it
unfoldable pub opened_policy : List (List Bool) → ℕ → ℕ → List (List Bool)
opened_policy policy a l =
    set (set policy (a % 16) (gained_flags (get_or policy (a % 16) []) l)) (l % 16) (gained_flags (get_or policy (a % 16) []) l)

unfoldable pub gained_at : List (List (List Bool)) → ℕ → ℕ → ℕ → List (List (List Bool))
gained_at rows a o l =
    set rows (a % 16) (set (get_or rows (a % 16) []) (o % 16) (gained_flags (get_or (get_or rows (a % 16) []) (o % 16) []) l))

unfoldable pub open_by_origin : List (List (List Bool)) → ℕ → ℕ → ℕ → List (List (List Bool))
open_by_origin rows a o l = gained_at (set rows (l % 16) (opened_policy (get_or rows (a % 16) []) a l)) a o l

unfoldable pub open_of : ℕ → List (List (List Bool)) → ℕ → ℕ → ℕ → List (List (List Bool))
open_of format rows a o l = choose (eqb format 1) (open_alike rows a o l) (open_by_origin rows a o l)

unfoldable pub create_of :
    ℕ → List (List (List ℕ)) → List (List (List Bool)) → ℕ → List ℕ → ℕ → ℕ → Created
create_of n slots rows format h a k =
    choose (ltb n 16)
    (created_with 0 (n + 1) (with_word (with_word slots a k (get_or h 4 0 % 16) n) a k 8 (get_or h 3 0))
    (open_of format rows a (get_or (slot_at slots a k) 9 0) n))
    (created_with 3 n slots rows)

-- ---- an out to a set
unfoldable pub room_in : List ℕ → List Bool → Bool
room_in stored g = all 16 (λ l. implies (get_or g l false) (ltb (get_or stored l 0) 16))

unfoldable pub given_by : Put → Given
given_by r = given_with r.stored r.tuples

-- the tuple put at l, where that is a member
unfoldable pub given_at : Bool → ℕ → List ℕ → Given → Given
given_at member l t r = choose member (given_by (put_of r.stored r.tuples l t)) r

-- the tuple put at each member below n
unfoldable pub put_below : ℕ → List ℕ → List (List (List ℕ)) → List Bool → List ℕ → Given
put_below n stored tuples g t =
    fold n (λ l r. given_at (get_or g l false) l t r) (given_with stored tuples)

unfoldable pub out_all_put : List (List (List ℕ)) → List ℕ → ℕ → ℕ → Given → Moved
out_all_put slots h a k r = moved_with 0 (with_word slots a k 8 (get_or h 3 0)) r.stored r.tuples

unfoldable pub out_to_all :
    List (List (List ℕ)) → List ℕ → List (List (List ℕ)) → List Bool → List ℕ → List (List ℕ) → ℕ → ℕ → Moved
out_to_all slots stored tuples g h f a k =
    choose (room_in stored g)
    (out_all_put slots h a k (put_below 16 stored tuples g (tuple_from slots h f a k)))
    (moved_with 3 slots stored tuples)

unfoldable pub out_all_of :
    List (List (List ℕ)) → List ℕ → List (List (List ℕ)) → List Bool → List ℕ → List (List ℕ) → ℕ → ℕ → Moved
out_all_of slots stored tuples g h f a k =
    choose (defined_words (slot_at slots a k) f) (out_to_all slots stored tuples g h f a k) (moved_with 6 slots stored tuples)
