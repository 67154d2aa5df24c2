-- Laws by which the exported calls meet their contracts. Assumes nothing.
use Prim.Native.Nat.{ℕ}
use mathlib.Core.Path.{◌≡◌, ap, ◌∙◌}
use Rattle.image.specs.declared.reader.Opened.{Opened}
use Rattle.image.specs.Image.{place_of_fault}
use Rattle.run.specs.declared.run.Finished.{Finished}
use Rattle.run.specs.Calls.{finish_number}
use Rattle.std.specs.Prelude.{Option, Some, None}
use Rattle.std.proofs.Common.{unwrap_or}
use Rattle.registers.specs.Calls.{registered_length}

pub number_as : (d e : Finished) (r : ℕ) → d ≡ e → r ≡ finish_number d.finish → r ≡ finish_number e.finish
number_as d e r p q = q ∙ ap (λ (z : Finished). finish_number z.finish) p

pub length_as : (w t : Option ℕ) (r : ℕ) → w ≡ t → r ≡ registered_length w → r ≡ registered_length t
length_as w t r p q = q ∙ ap registered_length p

pub place_as : (o x : Opened) (r : ℕ) → o ≡ x → r ≡ place_of_fault o.answer → r ≡ place_of_fault x.answer
place_as o x r p q = q ∙ ap (λ (y : Opened). place_of_fault y.answer) p

pub length_or_0 : (w : Option ℕ) (r : ℕ) → r ≡ unwrap_or w 0 → r ≡ registered_length w
unfolding registered_length
length_or_0 (Some n) r e = e
length_or_0 None r e = e
