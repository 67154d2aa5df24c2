-- The closing total of a register (document 02, slip 1): "It equals the `tuple` lines above it, and also the image's tuples
-- plus the outs answered 0 less the ins answered 0."
use Rattle.std.specs.Prelude.{ℕ, ◌+◌, ◌-◌, ◌≤◌, ◌≡◌, List, [], ◌∷◌, ◌++◌, length, take, eqb}
use Rattle.net.specs.Choice.{choose, fold}
use Rattle.net.specs.Records.{node_at, process_at, instruction_at, address_of}
use Rattle.net.specs.Groups.{members_of}
use Rattle.text.specs.Bytes.{bytes}
use Rattle.text.specs.Decimal.{decimal}
use Rattle.image.specs.Image.{opened_of}
use Rattle.notation.specs.Text.{read_of}
use Rattle.plans.specs.Answer.{number_of}
use Rattle.step.specs.Pick.{host_of, slot_of, pick_of}
use Rattle.registers.specs.Register.{register_of, register_text_of, named_register_of, named_register_text_of}
use Rattle.totals.specs.Types.{Net, Action, Instruction, Verdict, TextVerdict, Answer}
use Rattle.totals.specs.TextLines.{lines_of, last_or, opening}

-- the last line of a text is `total` and the number
unfoldable pub TotalIs : List ℕ → ℕ → Type 0
TotalIs text n = last_or [] (lines_of text) ≡ bytes "total " ++ decimal n

-- ---- the `tuple` lines, counted in the bytes
unfoldable pub tuple_lines_in : List ℕ → ℕ
tuple_lines_in text = opening (bytes "tuple ") (lines_of text)

-- ---- the balance of a net and its picks

-- the tuples of a net: those that stand at its addresses in use
unfoldable pub tuples_of : Net → ℕ
tuples_of s = fold s.addresses (λ a count. count + (node_at s (address_of a)).stored) 0

-- the instruction that a pick meets, in the net before it
unfoldable pub met : Net → ℕ → Instruction
met s b = instruction_at s.code (process_at (node_at s (host_of b)) (slot_of b)).at

-- how many tuples an out puts: "the total counts one for each member" of a set (slip 11)
unfoldable pub puts : Action → ℕ
puts Action.Stop = 0
puts (Action.Out t q) = 1
puts (Action.In t q) = 0
puts (Action.Read t q) = 0
puts (Action.Eval t sent q) = 0
puts (Action.New v q) = 0
puts (Action.Fork q r) = 0
puts (Action.OutAll g q) = length (members_of g)

-- how many an in takes
unfoldable pub takes : Action → ℕ
takes Action.Stop = 0
takes (Action.Out t q) = 0
takes (Action.In t q) = 1
takes (Action.Read t q) = 0
takes (Action.Eval t sent q) = 0
takes (Action.New v q) = 0
takes (Action.Fork q r) = 0
takes (Action.OutAll g q) = 0

-- a number that counts where the answer is 0
unfoldable pub answered0 : Answer → ℕ → ℕ
answered0 x n = choose (eqb (number_of x) 0) n 0

-- such numbers of the actions that the picks meet, added up
unfoldable pub summed : (Action → ℕ) → Net → List ℕ → ℕ
summed f s [] = 0
summed f s (b ∷ bs) = answered0 (pick_of s b).answer (f (met s b).action) + summed f (pick_of s b).net bs

-- the net's tuples plus the outs answered 0 less the ins answered 0
unfoldable pub balance : Net → List ℕ → ℕ
balance s picks = tuples_of s + summed puts s picks - summed takes s picks

-- the last line of the register of a net and its picks is that balance, and no more is taken away than there is
pub record Balanced (s : Net) (picks text : List ℕ) : Type 0 where
  pub total : TotalIs text (balance s picks)
  pub enough : summed takes s picks ≤ tuples_of s + summed puts s picks

-- ---- the claims

-- of the register of every accepted image or text and every list of picks, by the net that is given and the picks that
-- count, which are the first 65,536
pub record EachRegister (P : Net → List ℕ → List ℕ → Type 0) : Type 0 where
  pub of_image :
      (image picks : List ℕ)
      → (opened_of image).answer ≡ Verdict.Accepted
      → P (opened_of image).net (take 65536 picks) (register_of image picks)
  pub of_text :
      (text picks : List ℕ)
      → (read_of text).answer ≡ TextVerdict.Accepted
      → P (read_of text).net (take 65536 picks) (register_text_of text picks)
  -- with the names that any two lists give (slip 14)
  pub of_named_image :
      (site office image picks : List ℕ)
      → (opened_of image).answer ≡ Verdict.Accepted
      → P (opened_of image).net (take 65536 picks) (named_register_of site office image picks)
  pub of_named_text :
      (site office text picks : List ℕ)
      → (read_of text).answer ≡ TextVerdict.Accepted
      → P (read_of text).net (take 65536 picks) (named_register_text_of site office text picks)

-- the total is the number of lines that open with `tuple `
unfoldable pub TotalIsLines : Type 0
TotalIsLines = EachRegister (λ s picks text. TotalIs text (tuple_lines_in text))

-- the total is the balance
unfoldable pub TotalIsBalance : Type 0
TotalIsBalance = EachRegister Balanced
