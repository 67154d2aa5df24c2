-- Tests at each number below a bound (`all` of net's `specs/Choice.antt`): two in one. Assumes nothing.
use Prim.Native.Nat.{ℕ, zero, suc}
use mathlib.Core.Path.{◌≡◌, refl, ap, ◌∙◌}
use mathlib.Core.Bool.{Bool, true, false}
use Rattle.net.specs.Choice.{both, all}

four : (a b c d : Bool) → both (both a b) (both c d) ≡ both (both a c) (both b d)
unfolding both
four true true c d = refl
four true false true d = refl
four true false false d = refl
four false b c d = refl

pub all_both : (n : ℕ) (f g : ℕ → Bool) → both (all n f) (all n g) ≡ all n (λ i. both (f i) (g i))
unfolding all both
all_both zero f g = refl
all_both (suc n) f g = four (all n f) (f n) (all n g) (g n) ∙ ap (λ (b : Bool). both b (both (f n) (g n))) (all_both n f g)
