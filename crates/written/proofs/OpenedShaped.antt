-- The net of an image has the lengths of a running program's net: drawn from what the layout of an image gives (`NetOk`), which fits its types.
-- Assumes nothing.
use Prim.Native.Nat.{ℕ}
use mathlib.Core.Path.{◌≡◌, subst}
use mathlib.Core.List.{List}
use mathlib.Core.Logic.{◌⊎◌, inl, inr}
use Rattle.net.specs.Records.{empty_net}
use Rattle.net.specs.Shape.{Shaped}
use Rattle.image.specs.Image.{opened_of}
use Rattle.sound.proofs.NetChanges.{empty_shaped}
use Rattle.written.proofs.FreshFits.{net_fit}
use Rattle.written.proofs.FreshNet.{net_fits_law}
use Rattle.written.proofs.WrittenWhole.{NetOk}
use Rattle.written.proofs.AcceptedWritten.{opened_ok}

pub opened_shaped : (image : List ℕ) → Shaped (opened_of image).net
opened_shaped image = go (opened_ok image)
  where
    go : NetOk (opened_of image).net ⊎ (empty_net ≡ (opened_of image).net) → Shaped (opened_of image).net
    go (inl ok) = (net_fit _ (net_fits_law _ ok)).shaped
    go (inr e) = subst Shaped e empty_shaped
