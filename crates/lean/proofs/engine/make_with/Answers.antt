-- Assumes nothing.
use Rattle.net.specs.Records.{instruction_at}
use Rattle.lean_code.specs.Fields.{template_words}
use Rattle.lean_code.specs.Heads.{head_words, set_flags}
use Rattle.lean.specs.Loading.{loaded_heads, loaded_fields, loaded_sets}
use Rattle.lean.proofs.EngineLaws.{made_with_law}
use Rattle.lean.proofs.engine.make_with.Goals as goal

pub returns : goal.returns
unfolding loaded_heads loaded_fields loaded_sets instruction_at
returns c =
    made_with_law _ _ _ _ _ _ _ _ _ _ _ _
    (c.fill.ensures _ head_words (λ x y p. p))
    (c.fill-2.ensures _ template_words (λ x y p. p))
    (c.fill-3.ensures _ set_flags (λ x y p. p))
    c.load_needs.ensures
    c.make_each.ensures
