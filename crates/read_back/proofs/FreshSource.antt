-- A net that an accepted image gives: its source is well formed, and is compiled to the net. Assumes nothing.
use mathlib.Core.Path.{◌≡◌, refl}
use mathlib.Core.Bool.{true}
use Rattle.net.specs.Choice.{all}
use Rattle.net.specs.Records.{address_of}
use Rattle.net.proofs.Laws.{both_l, both_r}
use Rattle.sound.specs.Soundness.{sound_of}
use Rattle.keeping.specs.Admission.{admits}
use Rattle.fresh.specs.Fresh.{net_fits, starts_at, fresh_of}
use Rattle.sources.specs.SourceClaims.{SourceOf}
use Rattle.written.proofs.WrittenWhole.{NetOk}
use Rattle.written.proofs.FreshNet.{fresh_ok}
use Rattle.read_back.specs.Types.{Net}
use Rattle.read_back.specs.NetSource.{source_of, text_of}
use Rattle.read_back.proofs.NetAgain.{compiled_again}
use Rattle.read_back.proofs.SourceFormed.{source_formed}

pub record Fresh (s : Net) : Type 0 where
  pub ok : NetOk s
  pub admitted : admits s ≡ true

pub fresh_apart : (s : Net) → fresh_of s ≡ true → Fresh s
unfolding fresh_of
fresh_apart s h =
    let rest = both_r (net_fits s) _ h in
    let starts = both_r (sound_of s) _ rest in
    record {
      ok = fresh_ok s (both_l _ _ h) (both_l _ _ rest) (both_l _ _ starts);
      admitted = both_r (all 16 (λ a. starts_at s (address_of a))) _ starts;
    }

pub source_of_law : (s : Net) → fresh_of s ≡ true → SourceOf (text_of s) s
unfolding text_of
source_of_law s h =
    let f = fresh_apart s h in
    record {
      source = source_of s;
      formed = source_formed s f.ok f.admitted;
      prints = refl;
      compiles = compiled_again s f.ok;
    }
