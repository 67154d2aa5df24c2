-- Fields, targets and tuples of the planners' notation (document 01, "The planners' notation"): n is the number of addresses.
use Rattle.std.specs.Prelude.{ℕ, zero, suc, ◌-◌, Bool, eqb, leb, ltb, ℤ}
use Rattle.text.specs.Bytes.{bytes}
use Rattle.net.specs.Choice.{choose}
use Rattle.net.specs.Records.{address_of, zero_tuple, zero_instruction, with_field, with_pattern}
use Rattle.sound.specs.Soundness.{unbound_before}
use Rattle.readers.specs.Reader.{Reader, pure, ◌>>=◌, ◌>>◌, require}
use Rattle.fields.specs.Types.{Locality, Item, Tuple, Target, Pattern, Instruction}
use Rattle.lexemes.specs.Lexemes.{look, fail, byte, word, optional, number}

-- an address: 31 above 15, 23 where it has no row
unfoldable pub address : ℕ → Reader Locality
address n = do
  l ← number 15
  require (ltb l n) 23
  pure (address_of l)

-- the number of a variable
unfoldable pub variable : Reader ℕ
variable = number 7

-- a reading of 32 bits, with a minus (45) below nought
unfoldable pub negative : Reader ℤ
negative = do
  byte 45
  v ← number 2147483648
  require (leb 1 v) 31
  pure (ℤ.negsuc (v - 1))

unfoldable pub positive : Reader ℤ
positive = do
  v ← number 2147483647
  pure (ℤ.pos v)

unfoldable pub reading : Reader ℤ
reading = look (λ b. choose (eqb b 45) negative positive)

-- @ (64) and an address
unfoldable pub at_address : ℕ → Reader Locality
at_address n = byte 64 >> address n

-- self
unfoldable pub own : Reader (Unit {0})
own = word (bytes "self")

-- v (118) and a variable
unfoldable pub held : Reader ℕ
held = byte 118 >> variable

-- ---- a list of fields

-- at most k fields more, each added to what came before it by `field`, a comma (44) between two: one beyond is 22
unfoldable pub fields : {A : Type 0} → ℕ → (A → Reader A) → A → Reader A
fields zero field a = fail 22
fields (suc k) field a = do
  b ← field a
  more ← optional 44
  choose more (fields k field b) (pure b)

-- ---- the tuple of a line: <5,@1>

unfoldable pub address_item : ℕ → Reader Item
address_item n = do
  l ← at_address n
  pure (Item.Address l)

unfoldable pub reading_item : Reader Item
reading_item = do
  x ← reading
  pure (Item.Reading x)

unfoldable pub item : ℕ → Reader Item
item n = look (λ b. choose (eqb b 64) (address_item n) reading_item)

-- the tuple t with the field that stands here
unfoldable pub tupleField : ℕ → Tuple → Reader Tuple
tupleField n t = do
  x ← item n
  pure (with_field t (record { item = x }))

unfoldable pub tuple : ℕ → Reader Tuple
tuple n = do
  byte 60
  t ← fields 4 (tupleField n) zero_tuple
  byte 62
  pure t

-- ---- the template of an out, an in or a read: (5,@1,self,v0), (!x0,!u1)

unfoldable pub address_pattern : ℕ → Reader Pattern
address_pattern n = do
  l ← at_address n
  pure (Pattern.Address l)

unfoldable pub own_pattern : Reader Pattern
own_pattern = own >> pure Pattern.Own

unfoldable pub held_pattern : Reader Pattern
held_pattern = do
  v ← held
  pure (Pattern.Held v)

unfoldable pub reading_pattern : Reader Pattern
reading_pattern = do
  x ← reading
  pure (Pattern.Reading x)

-- a formal's variable: 27 where an earlier field of the template c has it too
unfoldable pub fresh : Instruction → Reader ℕ
fresh c = do
  v ← variable
  require (unbound_before c c.count v) 27
  pure v

unfoldable pub formal_reading : Instruction → Reader Pattern
formal_reading c = do
  byte 120
  v ← fresh c
  pure (Pattern.FormalReading v)

unfoldable pub formal_address : Instruction → Reader Pattern
formal_address c = do
  byte 117
  v ← fresh c
  pure (Pattern.FormalAddress v)

-- x or u, and the variable
unfoldable pub bound : Instruction → Reader Pattern
bound c = look (λ b. choose (eqb b 120) (formal_reading c) (formal_address c))

-- ! (33), and what the formal binds: 26 where `formals` are not allowed
unfoldable pub formal : Bool → Instruction → Reader Pattern
formal formals c = do
  require formals 26
  byte 33
  bound c

unfoldable pub pattern : Bool → ℕ → Instruction → Reader Pattern
pattern formals n c = look (λ b.
    choose (eqb b 33) (formal formals c)
    (choose (eqb b 64) (address_pattern n)
    (choose (eqb b 115) own_pattern
    (choose (eqb b 118) held_pattern reading_pattern))))

-- the template c with the field that stands here
unfoldable pub templateField : Bool → ℕ → Instruction → Reader Instruction
templateField formals n c = do
  x ← pattern formals n c
  pure (with_pattern c (record { pattern = x }))

unfoldable pub template : Bool → ℕ → Reader Instruction
template formals n = fields 4 (templateField formals n) zero_instruction

-- ---- a target: 1, self, v2

unfoldable pub own_target : Reader Target
own_target = own >> pure Target.Own

unfoldable pub held_target : Reader Target
held_target = do
  v ← held
  pure (Target.Held v)

unfoldable pub written_target : ℕ → Reader Target
written_target n = do
  l ← address n
  pure (Target.Written l)

unfoldable pub target : ℕ → Reader Target
target n = look (λ b. choose (eqb b 115) own_target (choose (eqb b 118) held_target (written_target n)))
