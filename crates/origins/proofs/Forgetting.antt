-- A net with every origin forgotten: each process has origin 0. How forgetting passes through reads and changes of a net.
-- Assumes nothing.
use Prim.Native.Nat.{ℕ, zero, suc}
use mathlib.Core.Path.{◌≡◌, refl, ap, ap₂}
use mathlib.Core.Bool.{Bool, true, false, not}
use mathlib.Core.List.{List, [], ◌∷◌, map}
use lib.Dec.{ltb}
use lib.ListN.{set, get_or-map}
use Rattle.std.specs.Prelude.{Some, None}
use Rattle.net.specs.Choice.{choose, first_below}
use Rattle.net.specs.Records.{free_process, zero_node, node_at, process_at, row_at, row_for, with_variable, with_rows, with_process}
use Rattle.net.specs.Records.{with_tuple, with_node, with_counts, moved_to, copied_to, sent_from, after_taking, tuple_at}
use Rattle.net.specs.Records.{without_tuple, free_slot}
use Rattle.net.proofs.Past.{past_process, past_node}
use Rattle.step.specs.Pick.{unchanged, performed, opened}
use Rattle.step.specs.Types.{Place, Value, Tuple, Row, Answer}
use Rattle.step.specs.declared.machine.Picked.{Picked}
use Rattle.origins.specs.Types.{Locality, Process, Node, Net}

unfoldable pub forget_process : Process → Process
forget_process p = record { busy = p.busy; at = p.at; origin = record { 0 = 0 }; variables = p.variables }

unfoldable pub forget_node : Node → Node
forget_node x =
    record { rows = x.rows; processes = map forget_process x.processes; stored = x.stored; tuples = x.tuples }

unfoldable pub forget : Net → Net
forget s =
    record { format = s.format; addresses = s.addresses; length = s.length; nodes = map forget_node s.nodes; code = s.code }

-- ---- a map over a list
map_set : {A : Type 0} (f : A → A) (xs : List A) (i : ℕ) (y : A) → map f (set xs i y) ≡ set (map f xs) i (f y)
map_set f [] i y = refl
map_set f (x ∷ xs) zero y = refl
map_set {A} f (x ∷ xs) (suc i) y = ap (λ (zs : List A). f x ∷ zs) (map_set f xs i y)

map_twice : {A : Type 0} (f : A → A) → ((x : A) → f (f x) ≡ f x) → (xs : List A) → map f (map f xs) ≡ map f xs
map_twice f e [] = refl
map_twice f e (x ∷ xs) = ap₂ (λ z zs. z ∷ zs) (e x) (map_twice f e xs)

-- ---- forgetting twice
pub process_twice : (p : Process) → forget_process (forget_process p) ≡ forget_process p
unfolding forget_process
process_twice p = refl

node_twice : (x : Node) → forget_node (forget_node x) ≡ forget_node x
unfolding forget_node
node_twice x i =
    let ps = map_twice forget_process process_twice x.processes in
    record { rows = x.rows; processes = ps i; stored = x.stored; tuples = x.tuples }

pub forget_twice : (s : Net) → forget (forget s) ≡ forget s
unfolding forget
forget_twice s i =
    let ns = map_twice forget_node node_twice s.nodes in
    record { format = s.format; addresses = s.addresses; length = s.length; nodes = ns i; code = s.code }

-- ---- what is read of a process
pub forget_busy : (p : Process) → (forget_process p).busy ≡ p.busy
unfolding forget_process
forget_busy p = refl

pub forget_place : (p : Process) → (forget_process p).at ≡ p.at
unfolding forget_process
forget_place p = refl

-- ---- changes of a process
pub forget_moved : (p : Process) (q : Place) → forget_process (moved_to p q) ≡ moved_to (forget_process p) q
unfolding forget_process moved_to
forget_moved p q = refl

pub forget_variable :
    (p : Process) (v : ℕ) (x : Value) → forget_process (with_variable p v x) ≡ with_variable (forget_process p) v x
unfolding forget_process with_variable
forget_variable p v x = refl

pub forget_copied : (p : Process) (q : Place) → forget_process (copied_to p q) ≡ copied_to (forget_process p) q
unfolding forget_process copied_to
forget_copied p q = refl

-- who sent it is forgotten
pub forget_sent : (a : Locality) (p : Process) (q : Place) → forget_process (sent_from a p q) ≡ copied_to (forget_process p) q
unfolding forget_process sent_from copied_to
forget_sent a p q = refl

pub forget_free : forget_process free_process ≡ free_process
unfolding forget_process free_process
forget_free = refl

-- ---- what is read of a node
pub forget_row_for : (x : Node) (p : Process) → row_for (forget_node x) p ≡ row_for x p
unfolding row_for row_at forget_node
forget_row_for x p = refl

pub forget_stored : (x : Node) → (forget_node x).stored ≡ x.stored
unfolding forget_node
forget_stored x = refl

pub process_at_law : (x : Node) (k : ℕ) → process_at (forget_node x) k ≡ forget_process (process_at x k)
unfolding process_at forget_node forget_process
process_at_law x k = get_or-map forget_process x.processes k past_process

pub forget_slot : (x : Node) → free_slot (forget_node x) ≡ free_slot x
unfolding free_slot forget_process
forget_slot x i = first_below 4 (λ j. not (process_at_law x j i).busy) Some None

-- ---- changes of a node
pub forget_with_rows : (x : Node) (rs : List Row) → forget_node (with_rows x rs) ≡ with_rows (forget_node x) rs
unfolding forget_node with_rows
forget_with_rows x rs = refl

pub forget_with_process :
    (x : Node) (k : ℕ) (p : Process) → forget_node (with_process x k p) ≡ with_process (forget_node x) k (forget_process p)
unfolding forget_node with_process
forget_with_process x k p i =
    let ps = map_set forget_process x.processes k p in
    record { rows = x.rows; processes = ps i; stored = x.stored; tuples = x.tuples }

node_choose : (b : Bool) (x y : Node) → forget_node (choose b x y) ≡ choose b (forget_node x) (forget_node y)
unfolding choose
node_choose true x y = refl
node_choose false x y = refl

pub forget_with_tuple : (x : Node) (t : Tuple) → forget_node (with_tuple x t) ≡ with_tuple (forget_node x) t
unfolding with_tuple forget_node
forget_with_tuple x t = node_choose (ltb x.stored 16) _ _

pub forget_without : (x : Node) (i : ℕ) → forget_node (without_tuple x i) ≡ without_tuple (forget_node x) i
unfolding without_tuple after_taking tuple_at forget_node
forget_without x i = refl

pub forget_zero : forget_node zero_node ≡ zero_node
unfolding forget_node zero_node forget_process free_process
forget_zero = refl

-- ---- the net
pub forget_format : (s : Net) → (forget s).format ≡ s.format
unfolding forget
forget_format s = refl

pub forget_addresses : (s : Net) → (forget s).addresses ≡ s.addresses
unfolding forget
forget_addresses s = refl

pub forget_code : (s : Net) → (forget s).code ≡ s.code
unfolding forget
forget_code s = refl

pub node_at_law : (s : Net) (a : Locality) → node_at (forget s) a ≡ forget_node (node_at s a)
unfolding node_at forget forget_node
node_at_law s a = get_or-map forget_node s.nodes a.0 past_node

pub forget_with_node : (s : Net) (a : Locality) (x : Node) → forget (with_node s a x) ≡ with_node (forget s) a (forget_node x)
unfolding forget with_node
forget_with_node s a x i =
    let ns = map_set forget_node s.nodes a.0 x in
    record { format = s.format; addresses = s.addresses; length = s.length; nodes = ns i; code = s.code }

pub forget_opened : (s : Net) → forget (opened s) ≡ opened (forget s)
unfolding forget opened with_counts
forget_opened s = refl

-- ---- an answer and its net
unfoldable pub seen : Picked → Picked
seen r = record { answer = r.answer; net = forget r.net }

pub seen_choose : (b : Bool) (x y : Picked) → seen (choose b x y) ≡ choose b (seen x) (seen y)
unfolding choose
seen_choose true x y = refl
seen_choose false x y = refl

pub seen_unchanged : (w : Answer) (s : Net) → seen (unchanged w s) ≡ unchanged w (forget s)
unfolding seen unchanged
seen_unchanged w s = refl

pub seen_performed : (s : Net) → seen (performed s) ≡ performed (forget s)
unfolding seen performed
seen_performed s = refl
