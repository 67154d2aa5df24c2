use mathlib.Core.Path.{refl}
use Rattle.bitreader.specs.Ending.{ending}
use Rattle.readers.specs.Reader.{require}
use Rattle.bitreader.proofs.ReadsLaws.{reads_required}
use Rattle.bitreader.proofs.reader.BitReader.ending.Goals as goal

pub returns : goal.returns
unfolding ending require
returns c = record {
  gave = (reads_required c.args.self.now _ _ _ _ _ _ c.ends.ensures c.require_in.ensures).gave;
  same = refl;
}
