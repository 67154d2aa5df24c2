use Rattle.std.proofs.Common.{ap, ◌∙◌}
use mir.Facts.{to_z-of_z}
use Rattle.text.specs.Signed.{complement_of}
use Rattle.text.specs.Writer.{after}
use Rattle.written.specs.ImageOf.{bits_of}
use Rattle.layout.proofs.NumberLaws.{reading_is}
use Rattle.layout.proofs.fields.put_reading.Goals as goal

pub returns : goal.returns
returns c =
    c.put_number.ensures ∙ ap (after c.args.out.now) (ap (bits_of 32) (c.complement.ensures ∙ ap complement_of (to_z-of_z c.ranges.x)) ∙ reading_is c.args.x)
