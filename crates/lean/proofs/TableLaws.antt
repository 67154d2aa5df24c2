-- The tables of the code (`specs/Loading.antt`) at each place that it has. Assumes nothing.
use Prim.Native.Nat.{ℕ, ◌<◌}
use mathlib.Core.Path.{◌≡◌}
use mathlib.Core.Bool.{true, false}
use mathlib.Core.List.{List, []}
use native.Mathlib.Omega.{arith}
use lib.ListN.{get_or, replicate, length-replicate}
use Rattle.net.specs.Records.{place_of, instruction_at}
use Rattle.net.specs.Shape.{Shaped}
use Rattle.sound.specs.Soundness.{sound_of}
use Rattle.sound.proofs.NetFacts.{sound_apart}
use Rattle.lean_words.specs.Filled.{filled}
use Rattle.lean_words.proofs.FilledLaws.{filled_at}
use Rattle.lean_code.specs.Fields.{template_words}
use Rattle.lean_code.specs.Heads.{head_words, set_flags}
use Rattle.lean.specs.Types.{Instruction, Net}
use Rattle.lean.specs.Loading.{loaded_heads, loaded_fields, loaded_sets}
use Rattle.lean.proofs.LoadTypes.{HeadsAgree, FieldsAgree, SetsAgree}

-- a table of 512 entries, filled as far as the code goes
module _ {A : Type 0} (f : Instruction → List A) (z : List A) (s : Net) (shape : Shaped s) (sound : sound_of s ≡ true) where
  entry :
      (q : ℕ) → q < s.length
      → get_or (filled s.length (λ i. f (instruction_at s.code (place_of i))) (replicate 512 z)) q [] ≡ f (instruction_at s.code (place_of q))
  entry q h =
      filled_at (λ i. f (instruction_at s.code (place_of i))) (replicate 512 z) [] s.length q h
      (omega (arith, (sound_apart s shape sound).length_most, length-replicate 512 z))

pub heads_agree : HeadsAgree
unfolding HeadsAgree loaded_heads
heads_agree = entry head_words (replicate 6 0)

pub fields_agree : FieldsAgree
unfolding FieldsAgree loaded_fields
fields_agree = entry template_words (replicate 4 (replicate 4 0))

pub sets_agree : SetsAgree
unfolding SetsAgree loaded_sets
sets_agree = entry set_flags (replicate 16 false)
