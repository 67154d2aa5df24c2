-- A node whose busy slots are the first ones (document 01, "The image", 3): how many processes it has, and which slots they
-- are in. Assumes nothing.
use Prim.Native.Nat.{ℕ, zero, suc, ◌<◌, ◌≤◌}
use mathlib.Core.Path.{◌≡◌, sym, ◌∙◌}
use mathlib.Core.Bool.{true, false}
use native.Mathlib.Omega.{arith}
use native.Mathlib.Decide.{dec_le}
use lib.Dec.{ltb}
use borrow.Author.Tests.{lt-ltb, le-ltb}
use Rattle.net.specs.Choice.{choose, fold}
use Rattle.net.specs.Records.{Node, process_at, process_count}
use Rattle.net.proofs.Every.{Every, Filled}
use Rattle.net.proofs.Past.{past_process}

-- the first c slots are the busy ones
abbrev pub FirstBusy : ℕ → Node → Type 0
FirstBusy c x = Every (Filled (λ p. p.busy ≡ true) (λ p. p.busy ≡ false) c) past_process 4 x.processes

module _ (x : Node) (c : ℕ) (ok : FirstBusy c x) where
  pub slot_busy : (i : ℕ) → i < 4 → (process_at x i).busy ≡ ltb i c
  unfolding process_at
  slot_busy i h = go (dec_le c i)
    where
      go : Dec (c ≤ i) → (process_at x i).busy ≡ ltb i c
      go (yes l) = (ok.holds i h).unused l ∙ sym (le-ltb i c l)
      go (no l) = (ok.holds i h).used (omega arith) ∙ sym (lt-ltb i c (omega arith))

  pub slots_counted : c ≤ 4 → process_count x ≡ c
  unfolding process_count fold choose
  slots_counted few =
      go c few (slot_busy 0 (omega arith)) (slot_busy 1 (omega arith)) (slot_busy 2 (omega arith)) (slot_busy 3 (omega arith))
    where
      go : (n : ℕ) → n ≤ 4 → (process_at x 0).busy ≡ ltb 0 n → (process_at x 1).busy ≡ ltb 1 n → (process_at x 2).busy ≡ ltb 2 n
          → (process_at x 3).busy ≡ ltb 3 n → process_count x ≡ n
      go zero l p q r s = rw (p, q, r, s)
      go (suc zero) l p q r s = rw (p, q, r, s)
      go (suc (suc zero)) l p q r s = rw (p, q, r, s)
      go (suc (suc (suc zero))) l p q r s = rw (p, q, r, s)
      go (suc (suc (suc (suc zero)))) l p q r s = rw (p, q, r, s)
      go (suc (suc (suc (suc (suc n))))) l p q r s = absurd (omega arith)
