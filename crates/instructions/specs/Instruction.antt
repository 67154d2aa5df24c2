-- Instructions of an image (document 01, "The image", part 5; document 02, slip 11): f is the format, n the address count and k
-- the code length.
use Rattle.std.specs.Prelude.{ℕ, ◌+◌, Bool, true, false, not, [], ◌∷◌, eqb, ltb}
use Rattle.net.specs.Choice.{choose, implies}
use Rattle.net.specs.Records.{zero_instruction, with_pattern, with_action}
use Rattle.net.specs.declared.locality.Group.{Group}
use Rattle.sound.specs.Soundness.{unbound_before, group_sound}
use Rattle.instructions.specs.Types.{Place, Target, Pattern, Action, Instruction}
use Rattle.readers.specs.Reader.{Reader, pure, ◌>>=◌, each, alternative, tested}
use Rattle.bitreader.specs.BitReader.{field, bits}
use Rattle.bitreader.specs.Fields.{address, place, variable, reading}

unfoldable pub written_target : ℕ → Reader Target
written_target n = do
  l ← address n
  pure (Target.Written l)

unfoldable pub held_target : Reader Target
held_target = do
  v ← variable
  pure (Target.Held v)

unfoldable pub target : ℕ → Reader Target
target n = do
  kind ← field 2 0 3 25
  alternative (written_target n ∷ pure Target.Own ∷ []) held_target kind

unfoldable pub reading_pattern : Reader Pattern
reading_pattern = do
  x ← reading
  pure (Pattern.Reading x)

unfoldable pub address_pattern : ℕ → Reader Pattern
address_pattern n = do
  l ← address n
  pure (Pattern.Address l)

unfoldable pub held_pattern : Reader Pattern
held_pattern = do
  v ← variable
  pure (Pattern.Held v)

-- a formal's variable: 27 where an earlier field of the template c has it too
unfoldable pub fresh : Instruction → Reader ℕ
fresh c = tested 3 variable (unbound_before c c.count) 27

unfoldable pub formal_reading : Instruction → Reader Pattern
formal_reading c = do
  v ← fresh c
  pure (Pattern.FormalReading v)

unfoldable pub formal_address : Instruction → Reader Pattern
formal_address c = do
  v ← fresh c
  pure (Pattern.FormalAddress v)

-- the kind of a field: 26 at a formal where `formals` are not allowed
unfoldable pub kind : Bool → Reader ℕ
kind formals = tested 3 (field 3 0 6 25) (λ v. implies (not formals) (ltb v 4)) 26

unfoldable pub pattern : Bool → ℕ → Instruction → Reader Pattern
pattern formals n c = do
  v ← kind formals
  alternative
      (reading_pattern ∷ address_pattern n ∷ pure Pattern.Own ∷ held_pattern ∷ formal_reading c ∷ [])
      (formal_address c)
      v

unfoldable pub templateField : Bool → ℕ → ℕ → Instruction → Reader Instruction
templateField formals n i c = do
  x ← pattern formals n c
  pure (with_pattern c (record { pattern = x }))

unfoldable pub template : Bool → ℕ → Reader Instruction
template formals n = do
  less ← bits 2
  each (less + 1) (templateField formals n) zero_instruction

-- an out, an in or a read: target, template, next place
unfoldable pub communication : (Target → Place → Action) → Bool → ℕ → ℕ → Reader Instruction
communication make formals n k = do
  t ← target n
  c ← template formals n
  p ← place k
  pure (with_action c (make t p))

unfoldable pub evaluation : ℕ → ℕ → Reader Instruction
evaluation n k = do
  t ← target n
  sent ← place k
  p ← place k
  pure (with_action zero_instruction (Action.Eval t sent p))

unfoldable pub creation : ℕ → Reader Instruction
creation k = do
  v ← variable
  p ← place k
  pure (with_action zero_instruction (Action.New v p))

unfoldable pub forking : ℕ → Reader Instruction
forking k = do
  p ← place k
  q ← place k
  pure (with_action zero_instruction (Action.Fork p q))

-- a set of addresses: 16 bits, the first for address 0; 23 at the first of them where a member is not below the address count
unfoldable pub group : ℕ → Reader Group
group n = do
  v ← tested 16 (bits 16) (λ v. group_sound n (record { 0 = v })) 23
  pure (record { 0 = v })

-- an out to a set: the set, template, next place
unfoldable pub spreading : ℕ → ℕ → Reader Instruction
spreading n k = do
  g ← group n
  c ← template false n
  p ← place k
  pure (with_action c (Action.OutAll g p))

-- how many actions a format has: 7 is one in format 2 alone
unfoldable pub actions_in : ℕ → ℕ
actions_in f = choose (eqb f 1) 7 8

unfoldable pub instruction : ℕ → ℕ → ℕ → Reader Instruction
instruction f n k = do
  action ← field 3 0 (actions_in f) 25
  alternative
      (pure zero_instruction
      ∷ communication Action.Out false n k
      ∷ communication Action.In true n k
      ∷ communication Action.Read true n k
      ∷ evaluation n k
      ∷ creation k
      ∷ forking k
      ∷ [])
      (spreading n k)
      action
