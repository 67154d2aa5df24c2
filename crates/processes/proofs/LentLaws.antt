-- What is lent stays so, and as long (`Lent` of `specs/Progress.antt`). Assumes nothing.
use Rattle.std.proofs.Common.{◌≡◌, ◌*◌, ℕ, List, Bool, true, set, refl, sym, ap, ◌∙◌, length}
use lib.ListN.{length-set}
use Rattle.text.specs.Buffer.{over}
use Rattle.text.proofs.WritingLaws.{over_length}
use Rattle.processes.specs.Progress.{Code, Lent}

pub lent_same : (b : Code) → Lent b b
lent_same b = record { table = refl; used = refl; long_table = refl; long_used = refl }

pub lent_then : (b c d : Code) → Lent b c → Lent c d → Lent b d
lent_then b c d h k = record {
  table = k.table ∙ h.table;
  used = k.used ∙ h.used;
  long_table = k.long_table ∙ h.long_table;
  long_used = k.long_used ∙ h.long_used;
}

module _ (b c : Code) where
  pub lent_counted : c.table ≡ b.table → c.used ≡ b.used → Lent b c
  lent_counted e f = record {
    table = ap (λ x. x.ghost_name) e;
    used = ap (λ x. x.ghost_name) f;
    long_table = ap (λ x. length x.now) e;
    long_used = ap (λ x. length x.now) f;
  }

  pub lent_stored : (at : ℕ) (ws : List ℕ) → c.table.now ≡ over b.table.now at ws → c.table.ghost_name ≡ b.table.ghost_name → c.used ≡ b.used → Lent b c
  lent_stored at ws h e f = record {
    table = e;
    used = ap (λ x. x.ghost_name) f;
    long_table = ap length h ∙ over_length b.table.now at ws;
    long_used = ap (λ x. length x.now) f;
  }

  pub lent_marked : (k : ℕ) → c.used.now ≡ set b.used.now k true → c.used.ghost_name ≡ b.used.ghost_name → c.table ≡ b.table → Lent b c
  lent_marked k h e f = record {
    table = ap (λ x. x.ghost_name) f;
    used = e;
    long_table = ap (λ x. length x.now) f;
    long_used = ap length h ∙ length-set b.used.now k true;
  }

pub ruleset lending = (lent_same, lent_then, lent_counted, lent_stored, lent_marked)
