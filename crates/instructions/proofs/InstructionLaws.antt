-- Laws of reading instructions (`specs/Instruction.antt`, `specs/Progress.antt`). Assumes nothing.
use Prim.Native.Nat.{ℕ}
use mathlib.Core.Path.{◌≡◌, refl, sym, ap, ◌∙◌}
use mathlib.Core.Bool.{Bool}
use mathlib.Core.List.{List}
use Rattle.std.proofs.Common.{Result, Ok, Err}
use Rattle.net.specs.Records.{with_action}
use Rattle.readers.specs.Reader.{Parsed, got, fault, pure, and_then, ◌>>=◌}
use Rattle.readers.specs.Progress.{came}
use Rattle.bitreader.specs.BitReader.{field}
use Rattle.bitreader.specs.Fields.{place}
use Rattle.bitreader.specs.Progress.{Reads}
use Rattle.instructions.specs.Types.{Fault, BitReader, Place, Target, Action, Instruction}
use Rattle.instructions.specs.Instruction.{target, template, communication, actions_in}
use Rattle.instructions.specs.Progress.{parts}

-- ---- an out, an in or a read, whichever action is made of its target and its next place
module _ (make : Target → Place → Action) where
  made : Parsed (Target × Instruction × Place) → Parsed Instruction
  made (got (t, c, p) q) = got (with_action c (make t p)) q
  made (fault f) = fault f

  spoken : (formals : Bool) (n k : ℕ) (s : List ℕ) (p : ℕ) → communication make formals n k s p ≡ made (parts formals n k s p)
  unfolding communication parts ◌>>=◌ and_then pure made
  spoken formals n k s p = first (target n s p)
    where
      third : (t : Target) (c : Instruction) (o : Parsed Place) →
          and_then o s (λ p. pure (with_action c (make t p))) ≡ made (and_then o s (λ p. pure (t, c, p)))
      third t c (got p q) = refl
      third t c (fault f) = refl

      second : (t : Target) (o : Parsed Instruction) →
          and_then o s (λ c. place k >>= (λ p. pure (with_action c (make t p)))) ≡
          made (and_then o s (λ c. place k >>= (λ p. pure (t, c, p))))
      second t (got c q) = third t c (place k s q)
      second t (fault f) = refl

      first : (o : Parsed Target) →
          and_then o s (λ t. template formals n >>= (λ c. place k >>= (λ p. pure (with_action c (make t p))))) ≡
          made (and_then o s (λ t. template formals n >>= (λ c. place k >>= (λ p. pure (t, c, p)))))
      first (got t q) = second t (template formals n s q)
      first (fault f) = refl

  pub reads_spoken :
      (r r' : BitReader) (formals : Bool) (n k : ℕ) (t : Target) (c d : Instruction) (p : Place)
      → Reads r (parts formals n k) (Ok (t, c, p)) r' → d ≡ with_action c (make t p)
      → Reads r (communication make formals n k) (Ok d) r'
  unfolding came made
  reads_spoken r r' formals n k t c d p g e = record {
    gave = ap (λ x. got x r'.at) e ∙ ap made g.gave ∙ sym (spoken formals n k r.image.now r.at);
    same = g.same;
  }

  pub reads_stop_spoken :
      (r r' : BitReader) (formals : Bool) (n k : ℕ) (e : Fault) → Reads r (parts formals n k) (Err e) r'
      → Reads r (communication make formals n k) (Err e) r'
  unfolding came made
  reads_stop_spoken r r' formals n k e g = record {
    gave = ap made g.gave ∙ sym (spoken formals n k r.image.now r.at);
    same = g.same;
  }

-- the number of an action that the format has
pub reads_action :
    (r r' : BitReader) (f end : ℕ) (o : Result ℕ Fault) → end ≡ actions_in f → Reads r (field 3 0 end 25) o r'
    → Reads r (field 3 0 (actions_in f) 25) o r'
reads_action r r' f end o e g = rw (← e) g
