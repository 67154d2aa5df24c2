-- The claims of `specs/TextTenantRule.antt`: the net of an accepted text is fresh (`TextIsFresh` of `texts`), so an image writes
-- it (`AcceptedIsWritten` of `written`), and the rule for images speaks of it (`TenantRule` of `tenant`). Assumes nothing.
use Prim.Native.Nat.{ℕ}
use mathlib.Core.Path.{◌≡◌, refl, sym, ap, subst₂}
use mathlib.Core.List.{List}
use Rattle.image.specs.Image.{opened_of, accepted}
use Rattle.written.specs.ImageOf.{image_of}
use Rattle.written.specs.WrittenClaims.{AcceptedIsWritten, WrittenIsBytes}
use Rattle.written.proofs.AcceptedWritten.{accepted_is_written, written_is_bytes}
use Rattle.runs.specs.Run.{ran, ran_from, run_in, run_of}
use Rattle.tenant.specs.TenantRule.{Alike, TenantRule}
use Rattle.tenant.proofs.TenantRule.{tenant_rule}
use Rattle.notation.specs.Text.{read_of}
use Rattle.texts.specs.TextClaims.{TextIsFresh}
use Rattle.texts.proofs.TextClaims.{text_is_fresh}
use Rattle.text_tenant.specs.Types.{Net, Opened}
use Rattle.text_tenant.specs.TextTenantRule.{TextIsImaged, TextTenantRule}

pub text_is_imaged : TextIsImaged
unfolding TextIsImaged TextIsFresh AcceptedIsWritten WrittenIsBytes
text_is_imaged text e =
    let s : Net = (read_of text).net in
    (image_of s, written_is_bytes s, (accepted_is_written (image_of s) s (written_is_bytes s)).1 (text_is_fresh text e, refl))

-- a run of an image that gives the net s
module _ (image : List ℕ) (s : Net) (e : opened_of image ≡ accepted s) where
  opened_net : (opened_of image).net ≡ s
  unfolding accepted
  opened_net = ap (λ (o : Opened). o.net) e

  run_is : (picks : List ℕ) → run_of image picks ≡ ran (ran_from s picks)
  unfolding run_of run_in accepted
  run_is picks = ap (λ (o : Opened). run_in o.answer o.net picks) e

pub text_tenant_rule : TextTenantRule
unfolding TextTenantRule TextIsImaged TenantRule
text_tenant_rule tenant text text' picks picks' e e' alike same =
    let (image, _, given) = text_is_imaged text e in
    let (image', _, given') = text_is_imaged text' e' in
    tenant_rule tenant image image' picks picks' _ _ (run_is image _ given picks) (run_is image' _ given' picks')
    (subst₂ (Alike tenant) (sym (opened_net image _ given)) (sym (opened_net image' _ given')) alike) same
