-- The policies of a text (`specs/Policies.antt`) are those of its format, and what is known of the net that they are read into.
-- Assumes nothing.
use Prim.Native.Nat.{◌≤◌}
use mathlib.Core.Path.{◌≡◌, sym, ap, ◌∙◌}
use mathlib.Core.Bool.{Bool, true, false}
use mathlib.Core.List.{[]}
use native.Mathlib.Omega.{arith}
use Rattle.std.proofs.Common.{Result, Ok, Err}
use Rattle.net.proofs.Laws.{choose_true, choose_false}
use Rattle.readers.specs.Reader.{Reader}
use Rattle.lexemes.specs.Progress.{Stands}
use Rattle.linking.specs.Source.{Policy}
use Rattle.linking.specs.Compiled.{format_of, addresses_of}
use Rattle.linking.specs.NodeCounts.{Counts}
use Rattle.linking.proofs.Governed.{governed_format, governed_addresses}
use Rattle.linking.proofs.NodeCounts.{start_counts}
use Rattle.rows.specs.Types.{TextReader, Fault, Net}
use Rattle.rows.specs.OriginRows.{is_origin_row}
use Rattle.rows.specs.Policies.{plain_rows, rows_by_origin, policy}
use Rattle.rows.specs.Progress.{Ruled}

-- ---- by the first line
module _ (r r' : TextReader) where
  -- two readers that are alike here
  stands_as : (m m' : Reader Policy) (o : Result Net Fault) → m r.text.now r.at ≡ m' r.text.now r.at → Stands Ruled r m o r' → Stands Ruled r m' o r'
  stands_as m m' (Ok net) e h = record {
    told = record { read = h.told.read; stands = h.told.stands; went = record { gave = h.told.went.gave ∙ e; same = h.told.went.same } };
  }
  stands_as m m' (Err f) e h = record { told = record { gave = h.told.gave ∙ e; same = h.told.same } }

  module _ (o : Result Net Fault) (first : Bool) (e : first ≡ is_origin_row r.text.now r.at) where
    pub policy_by_origin : first ≡ true → Stands Ruled r rows_by_origin o r' → Stands Ruled r policy o r'
    unfolding policy
    policy_by_origin t g =
        stands_as rows_by_origin policy o (sym (ap (λ (m : Reader Policy). m r.text.now r.at) (choose_true _ _ _ (sym e ∙ t)))) g

    pub policy_plain : first ≡ false → Stands Ruled r plain_rows o r' → Stands Ruled r policy o r'
    unfolding policy
    policy_plain f g =
        stands_as plain_rows policy o (sym (ap (λ (m : Reader Policy). m r.text.now r.at) (choose_false _ _ _ (sym e ∙ f)))) g

pub ruleset by_first_line = (policy_by_origin, policy_plain)

-- ---- the net: its format, as many addresses as the policies have, no processes and no tuples
module _ (read : Policy) (net : Net) (g : Ruled read net) where
  pub format_read : net.format ≡ format_of read
  format_read = ap (λ (x : Net). x.format) g.standing ∙ governed_format read 0

  pub addresses_read : net.addresses ≡ addresses_of read
  addresses_read = ap (λ (x : Net). x.addresses) g.standing ∙ governed_addresses read 0

  pub few_addresses : net.addresses ≤ 16
  few_addresses = omega (arith, addresses_read, g.within)

  pub nothing_else : Counts [] net
  nothing_else = start_counts read 0 g.within net g.standing
