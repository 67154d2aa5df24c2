-- The chain judges each instruction. Assumes nothing.
use Rattle.std.proofs.Common.{rules, tests, ltb, arith}
use Rattle.std.proofs.lemmas.Iterator.{YieldsList-from_slice}
use Rattle.net.specs.Choice.{choose}
use Rattle.net.specs.Records.{instruction_at}
use Rattle.sound.specs.Soundness.{instruction_sound, is_zero_instruction, code_sound}
use Rattle.net.proofs.AllOver.{all_numbered}
use Rattle.sound.proofs.soundness.code_sound.Goals as goal

pub returns : goal.returns
unfolding code_sound instruction_at choose
returns c =
    all_numbered _ 512 (λ p x. choose (ltb p c.args.net.now.length) (instruction_sound c.args.net.now.format c.args.net.now.addresses c.args.net.now.length x) (is_zero_instruction x)) _ _ c.all.result c.all.ensures.ran
    (YieldsList-from_slice c.args.net.now.code cc) (cc) (λ x b q k. search (rules, tests)) (omega arith)
