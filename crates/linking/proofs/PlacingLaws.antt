-- Laws of starts resolved to places (`specs/Placing.antt`). Assumes nothing.
use Prim.Native.Nat.{ℕ, zero, suc, min, ◌+◌, ◌-◌, ◌*◌, ◌≤◌}
use mathlib.Core.Path.{◌≡◌, refl, sym, ap, ◌∙◌}
use mathlib.Core.Bool.{true, false}
use mathlib.Core.List.{List}
use native.Mathlib.Omega.{arith}
use native.Mathlib.Decide.{dec_le}
use lib.ListN.{get_or, set, length, length-set}
use lib.Seq.{set_out, set-get_or}
use Rattle.net.specs.Choice.{choose, fold}
use Rattle.net.specs.Records.{address_of, process_at, node_at, moved_to, with_process, with_node, with_counts}
use Rattle.net.specs.Shape.{Shaped}
use Rattle.linking.specs.Types.{Place, Node, Instruction, Net}
use Rattle.linking.specs.Placing.{linked_at, linked_code, moved_by, moved_slot, moved_node, moved_address, moved_net, with_linked, linked_net}

module _ (resolve : ℕ → Place) where
  -- ---- instructions
  pub linked_none : (table : List ℕ) (s : Net) → s ≡ with_linked resolve table 0 s
  unfolding with_linked linked_code fold
  linked_none table s = refl

  plus_one : (i : ℕ) → i + 1 ≡ suc i
  plus_one i = omega arith

  pub linked_more :
      (table : List ℕ) (i : ℕ) (s t : Net) (c : Instruction) → t ≡ with_linked resolve table i s → c ≡ linked_at resolve table i
      → record { format = t.format; addresses = t.addresses; length = t.length; nodes = t.nodes; code = set t.code i c } ≡ with_linked resolve table (i + 1) s
  unfolding with_linked linked_code fold
  linked_more table i s t c e f = rw (plus_one i, e, f) refl

  -- ---- processes
  pub slot_moved :
      (starts : List ℕ) (a j : ℕ) (x : Node) → (process_at x j).busy ≡ true
      → with_process x j (moved_to (process_at x j) (resolve (get_or starts (4 * a + j) 0))) ≡ moved_slot resolve starts a j x
  unfolding moved_slot moved_by choose
  slot_moved starts a j x e = rw e refl

  pub slot_kept : (starts : List ℕ) (a j : ℕ) (x : Node) → (process_at x j).busy ≡ false → x ≡ moved_slot resolve starts a j x
  unfolding moved_slot moved_by choose with_process process_at
  slot_kept starts a j x e = rw (e, set-get_or) refl

  pub address_moved :
      (starts : List ℕ) (a : ℕ) (s : Net) (x : Node) → x ≡ moved_node resolve starts a (node_at s (address_of a))
      → with_node s (address_of a) x ≡ moved_address resolve starts a s
  unfolding moved_address
  address_moved starts a s x e = ap (with_node s (address_of a)) e

  -- past the end of the code nothing is stored
  code_long : (table : List ℕ) (n : ℕ) (code : List Instruction) → length (linked_code resolve table n code) ≡ length code
  unfolding linked_code fold
  code_long table zero code = refl
  code_long table (suc n) code = length-set (linked_code resolve table n code) n (linked_at resolve table n) ∙ code_long table n code

  code_past :
      (table : List ℕ) (k n : ℕ) (code : List Instruction) → length code ≤ k
      → linked_code resolve table (n + k) code ≡ linked_code resolve table k code
  unfolding linked_code fold
  code_past table k zero code h = ap (λ (m : ℕ). linked_code resolve table m code) none
    where
      none : 0 + k ≡ k
      none = omega arith
  code_past table k (suc n) code h =
      ap (λ (m : ℕ). linked_code resolve table m code) one
      ∙ set_out (linked_code resolve table (n + k) code) (n + k) (linked_at resolve table (n + k)) (omega (arith, code_long table (n + k) code))
      ∙ code_past table k n code h
    where
      one : suc n + k ≡ suc (n + k)
      one = omega arith

  code_capped :
      (table : List ℕ) (k n : ℕ) (code : List Instruction) → length code ≡ 512 → k ≡ min n 512
      → linked_code resolve table k code ≡ linked_code resolve table n code
  code_capped table k n code l e = go (dec_le n 512)
    where
      go : Dec (n ≤ 512) → linked_code resolve table k code ≡ linked_code resolve table n code
      go (yes y) = ap (λ (m : ℕ). linked_code resolve table m code) (omega (arith, e))
      go (no y) =
          let rest : n - 512 + 512 ≡ n = omega arith in
          ap (λ (m : ℕ). linked_code resolve table m code) (omega (arith, e))
          ∙ sym (code_past table 512 (n - 512) code (omega (arith, l)))
          ∙ ap (λ (m : ℕ). linked_code resolve table m code) rest

  pub linked_all :
      (table starts : List ℕ) (k n : ℕ) (s moved t : Net) → moved ≡ moved_net resolve starts s → Shaped moved → k ≡ min n 512
      → t ≡ with_linked resolve table k (with_counts moved moved.addresses n) → t ≡ linked_net resolve table starts n s
  unfolding linked_net with_linked with_counts
  linked_all table starts k n s moved t e shape h f =
      let coded : linked_code resolve table k moved.code ≡ linked_code resolve table n moved.code = code_capped table k n moved.code shape.code_is h in
      f ∙ ap (λ (c : List Instruction). record { format = moved.format; addresses = moved.addresses; length = n; nodes = moved.nodes; code = c }) coded
      ∙ ap (λ (m : Net). with_linked resolve table n (with_counts m m.addresses n)) e
