use Rattle.std.proofs.Common.{ap, ◌∙◌, set, true}
use Rattle.text.specs.Bytes.{bytes}
use Rattle.processes.proofs.Keeping.{keeps_then, keeps_next, keeps_via, keeps_pure}
use Rattle.notation.specs.Lines.{definition_line}
use Rattle.notation.proofs.LineLaws.{definition_lined}
use Rattle.notation.proofs.lines.read_definition.Goals as goal

pub returns : goal.returns
unfolding definition_line bytes
returns c =
    keeps_then _ _ _ _ _ _ _ _ c.in_ok-k.ensures.read
    (keeps_next _ _ _ _ _ _ _ _ c.in_ok-word.ensures
    (keeps_via _ _ _ _ _ _ _ _ _ c.in_ok-start.ensures.read
    (λ x s. keeps_next _ _ _ _ _ _ _ _ c.in_ok-byte.ensures
    (keeps_pure _ _ _ _
    (definition_lined c.args.lines.now c.define.new.self c.read_process.new.code c.in_ok-k.k c.in_ok-start.start x s (c.define.ensures.code ∙ c.enter.ensures.code)
    (ap (λ b. b.now) c.define.ensures.bodies ∙ c.enter.ensures.bodies) (c.define.ensures.defs ∙ ap (λ d. set d.now c.in_ok-k.k true) c.enter.ensures.defs)
    (c.define.ensures.twice ∙ c.enter.ensures.twice) (c.define.ensures.starts ∙ c.enter.ensures.starts) (c.define.ensures.net ∙ c.enter.ensures.net))))))
