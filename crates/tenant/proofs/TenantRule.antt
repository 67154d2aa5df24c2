-- The claim of `specs/TenantRule.antt`: the net of an accepted image is sound, has a program's lengths and is zero past
-- its counts, so that two that agree below the counts are equal outside the tenant (`Equal.antt`), their fences speak of
-- all numbers, and the rule of two nets (`TenantOfNets.antt`) speaks of them.
-- Assumes nothing.
use Prim.Native.Nat.{ℕ, ◌<◌, ◌≤◌}
use mathlib.Core.Path.{◌≡◌, refl, sym, ap, subst, subst₂, ◌∙◌}
use mathlib.Core.Bool.{Bool, true, false}
use mathlib.Core.List.{List}
use mathlib.Core.Logic.{◌⊎◌, inl, inr}
use native.Mathlib.Omega.{arith}
use lib.ListN.{get_or-eq_default}
use Rattle.net.specs.Records.{node_at, row_at, rights_at, no_rights, zero_node, zero_row, empty_net, address_of}
use Rattle.sound.specs.Soundness.{sound_of}
use Rattle.image.specs.Image.{opened_of}
use Rattle.accepted.specs.ImageClaims.{AcceptedIsSound}
use Rattle.net.proofs.Laws.{both_l}
use Rattle.accepted.proofs.AcceptedSound.{accepted_is_sound}
use Rattle.net.proofs.Past.{past_rights, past_row, past_node}
use Rattle.sound.proofs.NodeFacts.{RowsOk}
use Rattle.written.proofs.WrittenWhole.{NetOk}
use Rattle.written.proofs.AcceptedWritten.{opened_ok}
use Rattle.net.proofs.Laws.{in_range_low}
use Rattle.tenant.specs.Types.{Locality, Rights, Node, Net, Verdict}
use Rattle.runs.specs.Run.{Ran, ran, ran_from, run_in, run_of}
use Rattle.tenant.specs.TenantRule.{grants, creates, Fenced, Agree, TenantRule}
use Rattle.written.proofs.OpenedShaped.{opened_shaped}
use Rattle.tenant.proofs.Fence.{FencedRow, FencedRows, Fence, zero_fenced, past_fenced, alike_fenced}
use Rattle.tenant.proofs.Equal.{under, rows_both, code_same, nodes_same}
use Rattle.tenant.proofs.TenantOfNets.{tenant_of_nets}

module _ (s : Net) (ok : NetOk s) (tenant : Locality → Bool) where
  -- ---- the rows of an unused address have no rights
  zero_rows : (a : Locality) → FencedRows tenant a zero_node.rows
  unfolding zero_node
  zero_rows a = alike_fenced tenant a zero_row (zero_fenced tenant a)

  of_unused : (a : Locality) → s.addresses ≤ a.0 → FencedRows tenant a (node_at s a).rows
  unfolding node_at
  of_unused a h =
      let fenced : Node → Type 0 = λ x. FencedRows tenant a x.rows in
      under a.0 16 (λ u. subst fenced ((ok.nodes_ok.holds a.0 u).unused h) (zero_rows a))
      (λ u. subst fenced (sym (get_or-eq_default s.nodes past_node (omega (arith, ok.nodes_ok.size_is))))
      (record { each = λ o. past_fenced tenant a }))

  -- ---- the fence over all numbers
  module _ (below : (a : Locality) → tenant a ≡ true → a.0 < s.addresses) (f : Fenced tenant s) where
    -- the rows of an address in use
    module _ (a : Locality) (h : a.0 < s.addresses) where
      rows_ok : RowsOk s.format s.addresses (node_at s a).rows
      unfolding node_at
      rows_ok = ((ok.nodes_ok.holds a.0 (omega (arith, ok.addresses_ok.below))).used h).rows_ok

      -- the row for an origin in use
      module _ (o : Locality) (g : o.0 < s.addresses) where
        -- no policy grants a right over an unused address
        over_unused : (l : Locality) → s.addresses ≤ l.0 → grants s a o l ≡ no_rights
        unfolding grants rights_at row_at no_rights
        over_unused l past =
            let rights = rows_ok.each_ok.holds o.0 (omega (arith, ok.addresses_ok.below)) in
            under l.0 16 (λ u. (rights.holds l.0 u).unused past)
            (λ u. get_or-eq_default (row_at (node_at s a) o).rights past_rights (omega (arith, rights.size_is)))

        no_right :
            (right : Rights → Bool) → right no_rights ≡ false
            → ((l : Locality) → l.0 < s.addresses → tenant l ≡ false → right (grants s a o l) ≡ false)
            → (l : Locality) → tenant l ≡ false → right (grants s a o l) ≡ false
        no_right right n k l e =
            under l.0 s.addresses (λ u. k l u e) (λ past. ap right (over_unused l past) ∙ n)

        row_in_use : FencedRow tenant a (row_at (node_at s a) o)
        unfolding grants creates no_rights
        row_in_use = record {
          outside = λ l e t. f.outside a o l h g e t;
          no_creation = λ t. f.no_creation a o t g;
          no_take = λ l t. no_right (λ r. r.take) refl (λ m u e. (f.at_most_read a o m t g u e).no_take) l;
          no_put = λ l t. no_right (λ r. r.put) refl (λ m u e. (f.at_most_read a o m t g u e).no_put) l;
          no_send = λ l t. no_right (λ r. r.send) refl (λ m u e. (f.at_most_read a o m t g u e).no_send) l;
        }

      in_use : FencedRows tenant a (node_at s a).rows
      unfolding row_at
      in_use =
          let rs = (node_at s a).rows in
          record {
            each = λ o.
                under o 16
                (rows_both (λ r _. FencedRow tenant a r) s.format s.addresses rs rs ok.addresses_ok.above rows_ok
                rows_ok (λ j g. row_in_use (address_of j) g) (zero_fenced tenant a) o)
                (λ u. subst (FencedRow tenant a)
                (sym (get_or-eq_default rs past_row (omega (arith, rows_ok.each_ok.size_is)))) (past_fenced tenant a));
          }

    fence : Fence tenant s
    fence = record { below = below; rows = λ a. under a.0 s.addresses (in_use a) (of_unused a) }

-- ---- a run is of an accepted image
record Began (x : Verdict) (s : Net) (picks : List ℕ) (r : Ran) : Type 0 where
  is_accepted : x ≡ Verdict.Accepted
  ran_is : ran_from s picks ≡ r

began : (x : Verdict) (s : Net) (picks : List ℕ) (r : Ran) → run_in x s picks ≡ ran r → Began x s picks r
unfolding run_in
began Verdict.Accepted s picks r e = record { is_accepted = refl; ran_is = cc }
began (Verdict.Refused f) s picks r e = let z : ◌≡◌ {A = ℕ} 0 1 = cc in absurd (omega arith)

-- the net of an accepted image is sound, and one that an image can write: the empty net is not sound
sound_opened : (image : List ℕ) → (opened_of image).answer ≡ Verdict.Accepted → sound_of (opened_of image).net ≡ true
unfolding AcceptedIsSound
sound_opened image e = accepted_is_sound image e

empty_unsound : sound_of empty_net ≡ true → 1 ≤ 0
unfolding sound_of empty_net
empty_unsound h = in_range_low 1 0 2 (both_l _ _ h)

written : (image : List ℕ) → sound_of (opened_of image).net ≡ true → NetOk (opened_of image).net
written image h = go (opened_ok image)
  where
    go : NetOk (opened_of image).net ⊎ (empty_net ≡ (opened_of image).net) → NetOk (opened_of image).net
    go (inl ok) = ok
    go (inr e) = absurd (omega (arith, empty_unsound (ap sound_of e ∙ h)))

pub tenant_rule : TenantRule
unfolding TenantRule run_of
tenant_rule tenant image image' picks picks' r r' e e' alike same =
    let b = began _ _ picks r e in
    let b' = began _ _ picks' r' e' in
    let sound = sound_opened image b.is_accepted in
    let sound' = sound_opened image' b'.is_accepted in
    let s = (opened_of image).net in
    let t = (opened_of image').net in
    let ok = written image sound in
    let ok' = written image' sound' in
    subst₂ (Agree tenant picks picks') b.ran_is b'.ran_is
    (tenant_of_nets tenant s t picks picks' sound sound' (opened_shaped image) (opened_shaped image') alike.format alike.addresses
    (code_same s t ok ok' alike.code) (nodes_same s t ok ok' tenant alike.format alike.addresses alike.nodes)
    (fence s ok tenant alike.below alike.fenced)
    (fence t ok' tenant (λ a h. omega (arith, alike.below a h, alike.addresses)) alike.fenced') same)
