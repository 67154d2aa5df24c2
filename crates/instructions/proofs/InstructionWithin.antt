-- How many bits an instruction takes at most, a bound for each of its parts (`specs/Instruction.antt`). Assumes nothing.
use Prim.Native.Nat.{ℕ, zero, suc, ◌+◌, ◌*◌, ◌<◌, ◌≤◌}
use mathlib.Core.Path.{◌≡◌, refl}
use mathlib.Core.Bool.{Bool, true, false}
use mathlib.Core.List.{List}
use native.Mathlib.Omega.{arith}
use lib.ListN.{length}
use lib.Dec.{eqb}
use Rattle.net.specs.Choice.{choose}
use Rattle.readers.specs.Reader.{Reader, ◌>>=◌, alternative}
use Rattle.bitreader.specs.BitReader.{field}
use Rattle.instructions.specs.Types.{Place, Target, Action, Instruction}
use Rattle.instructions.specs.Instruction.{written_target, held_target, target, reading_pattern, address_pattern, held_pattern}
use Rattle.instructions.specs.Instruction.{fresh, formal_reading, formal_address, kind, pattern, templateField, template}
use Rattle.instructions.specs.Instruction.{communication, evaluation, creation, forking, group, spreading, actions_in, instruction}
use Rattle.bitreader.proofs.Budget.{Within, Anything, any, nothing, ◌or◌, widen, pure_within, bind, gives, simply, tested_within}
use Rattle.bitreader.proofs.Budget.{AllWithin, each_within, alternative_within, field_within, bits_within}
use Rattle.bitreader.proofs.FieldsWithin.{address_within, place_within, reading_within, variable_within}

written_target_within : (n : ℕ) → Within (written_target n) 4 Anything
unfolding written_target
written_target_within n = gives _ (address_within n)

held_target_within : Within held_target 3 Anything
unfolding held_target
held_target_within = gives _ variable_within

target_within : (n : ℕ) → Within (target n) (2 + 4) Anything
unfolding target
target_within n =
    bind (field_within _ _ _ _) (λ v h.
    alternative_within
    (written_target_within n or widen (omega arith) (pure_within _ any) or nothing)
    (widen (omega arith) held_target_within)
    v)

reading_pattern_within : Within reading_pattern 32 Anything
unfolding reading_pattern
reading_pattern_within = gives _ reading_within

address_pattern_within : (n : ℕ) → Within (address_pattern n) 4 Anything
unfolding address_pattern
address_pattern_within n = gives _ (address_within n)

held_pattern_within : Within held_pattern 3 Anything
unfolding held_pattern
held_pattern_within = gives _ variable_within

fresh_within : (c : Instruction) → Within (fresh c) 3 Anything
unfolding fresh
fresh_within c = simply (tested_within 3 _ 27 variable_within)

formal_reading_within : (c : Instruction) → Within (formal_reading c) 3 Anything
unfolding formal_reading
formal_reading_within c = gives _ (fresh_within c)

formal_address_within : (c : Instruction) → Within (formal_address c) 3 Anything
unfolding formal_address
formal_address_within c = gives _ (fresh_within c)

kind_within : (formals : Bool) → Within (kind formals) 3 Anything
unfolding kind
kind_within formals = simply (tested_within 3 _ 26 (field_within _ _ _ _))

pattern_within : (formals : Bool) (n : ℕ) (c : Instruction) → Within (pattern formals n c) (3 + 32) Anything
unfolding pattern
pattern_within formals n c =
    bind (kind_within formals) (λ v h.
    alternative_within
    (reading_pattern_within
    or widen (omega arith) (address_pattern_within n)
    or widen (omega arith) (pure_within _ any)
    or widen (omega arith) held_pattern_within
    or widen (omega arith) (formal_reading_within c)
    or nothing)
    (widen (omega arith) (formal_address_within c))
    v)

template_field_within : (formals : Bool) (n i : ℕ) (c : Instruction) → Within (templateField formals n i c) 35 Anything
unfolding templateField
template_field_within formals n i c = gives _ (pattern_within formals n c)

template_within : (formals : Bool) (n : ℕ) → Within (template formals n) (2 + 4 * 35) Anything
unfolding template
template_within formals n =
    bind (bits_within _) (λ less h.
    each_within {n = 4} _ (omega arith) any (λ i c g. template_field_within formals n i c))

communication_within : (make : Target → Place → Action) (formals : Bool) (n k : ℕ)
    → Within (communication make formals n k) (6 + 142 + 9) Anything
unfolding communication
communication_within make formals n k =
    bind (target_within n) (λ t f.
    bind (template_within formals n) (λ c g.
    gives _ (place_within k)))

evaluation_within : (n k : ℕ) → Within (evaluation n k) (6 + 9 + 9) Anything
unfolding evaluation
evaluation_within n k =
    bind (target_within n) (λ t f.
    bind (place_within k) (λ sent g.
    gives _ (place_within k)))

creation_within : (k : ℕ) → Within (creation k) (3 + 9) Anything
unfolding creation
creation_within k = bind variable_within (λ v g. gives _ (place_within k))

forking_within : (k : ℕ) → Within (forking k) (9 + 9) Anything
unfolding forking
forking_within k = bind (place_within k) (λ p g. gives _ (place_within k))

group_within : (n : ℕ) → Within (group n) 16 Anything
unfolding group
group_within n = gives _ (tested_within 16 _ 23 (bits_within 16))

spreading_within : (n k : ℕ) → Within (spreading n k) (16 + 142 + 9) Anything
unfolding spreading
spreading_within n k =
    bind (group_within n) (λ g f.
    bind (template_within false n) (λ c h.
    gives _ (place_within k)))

-- ---- one of the actions of a format: those of format 1, and one more

module _ {A : Type 0} {P : A → Type 0} where
  wider : {b c : ℕ} {rs : List (Reader A)} → b ≤ c → AllWithin b P rs → AllWithin c P rs
  wider l nothing = nothing
  wider l (v or vs) = widen l v or wider l vs

  before_last : {b : ℕ} {rs : List (Reader A)} (last : Reader A) → AllWithin b P rs → (k : ℕ) → k < length rs
      → Within (alternative rs last k) b P
  unfolding alternative
  before_last last nothing k h = absurd (omega arith)
  before_last last (v or vs) zero h = v
  before_last last (v or vs) (suc k) h = before_last last vs k (omega arith)

  one_of : (first : Bool) {b c : ℕ} {rs : List (Reader A)} {last : Reader A} → b ≤ c → AllWithin b P rs → length rs ≡ 7
      → Within last c P → Within (field 3 0 (choose first 7 8) 25 >>= alternative rs last) (choose first (3 + b) (3 + c)) P
  unfolding choose
  one_of true {last = last} l vs e w = bind (field_within _ _ _ _) (λ action h. before_last last vs action (omega arith))
  one_of false l vs e w = bind (field_within _ _ _ _) (λ action h. alternative_within (wider l vs) w action)

-- how many bits an instruction takes at most: in format 2 an out to a set is the longest
unfoldable pub instruction_bits : ℕ → ℕ
instruction_bits f = choose (eqb f 1) (3 + 157) (3 + 167)

pub instruction_bits_most : (f : ℕ) → instruction_bits f ≤ 3 + 167
unfolding instruction_bits choose
instruction_bits_most f = by (eqb f 1)
  where
    by : (b : Bool) → choose b (3 + 157) (3 + 167) ≤ 3 + 167
    by true = omega arith
    by false = omega arith

pub instruction_within : (f n k : ℕ) → Within (instruction f n k) (instruction_bits f) Anything
unfolding instruction instruction_bits actions_in
instruction_within f n k =
    one_of (eqb f 1) (omega arith)
    (widen (omega arith) (pure_within _ any)
    or communication_within _ _ n k
    or communication_within _ _ n k
    or communication_within _ _ n k
    or widen (omega arith) (evaluation_within n k)
    or widen (omega arith) (creation_within k)
    or widen (omega arith) (forking_within k)
    or nothing)
    refl
    (spreading_within n k)
