-- Demand 3, the tenant rule (document 01, "The tenant rule"), for nets in the planners' notation (document 02, slip 3: "The
-- text gives a net exactly as an image would, .. with the same steps after it").
use Rattle.std.specs.Prelude.{ℕ, ◌≡◌, Bool, List}
use Rattle.image.specs.Image.{opened_of, accepted}
use Rattle.written.specs.WrittenClaims.{Bytes}
use Rattle.runs.specs.Run.{ran_from}
use Rattle.tenant.specs.TenantRule.{struck, Alike, Agree}
use Rattle.notation.specs.Text.{read_of}
use Rattle.text_tenant.specs.Types.{Locality, Verdict}

-- the net of an accepted text is one that an image gives
unfoldable pub TextIsImaged : Type 0
TextIsImaged =
    (text : List ℕ) → (read_of text).answer ≡ Verdict.Accepted
    → (image : List ℕ) × Bytes image × (opened_of image ≡ accepted (read_of text).net)

-- the rule: of every two runs, each from the net of an accepted text and over a list of picks
unfoldable pub TextTenantRule : Type 0
TextTenantRule =
    (tenant : Locality → Bool) (text text' picks picks' : List ℕ)
    → (read_of text).answer ≡ Verdict.Accepted
    → (read_of text').answer ≡ Verdict.Accepted
    → Alike tenant (read_of text).net (read_of text').net
    → struck tenant picks ≡ struck tenant picks'
    → Agree tenant picks picks' (ran_from (read_of text).net picks) (ran_from (read_of text').net picks')
