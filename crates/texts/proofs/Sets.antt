-- What the reader of sets of a text gives (`Sets.antt` of `fields`): sets of 16 bits, each member of which is an address in use.
-- Assumes nothing.
use Prim.Native.Nat.{ℕ, zero, suc, ◌+◌, ◌<◌}
use mathlib.Core.Path.{◌≡◌, sym, ◌∙◌}
use mathlib.Core.Bool.{Bool, true, false}
use mathlib.Core.List.{List}
use native.Mathlib.Omega.{arith}
use native.Mathlib.Decide.{ℕ_discrete}
use lib.ListN.{get_or, set}
use lib.Seq.{get_or-set_other}
use borrow.Author.Tests.{lt-ltb}
use Rattle.net.proofs.ReadingLaws.{never}
use Rattle.net.proofs.GroupLaws.{member_low, members_all}
use Rattle.keeping.proofs.Unmarked.{unmarked_at}
use Rattle.sound.specs.Soundness.{group_sound}
use Rattle.fields.specs.Sets.{group_of, no_members, member_from, members, listed, group}
use Rattle.fields.proofs.SetLaws.{group_low, member_marked}
use Rattle.texts.specs.Types.{Group}
use Rattle.texts.specs.TextClaims.{astray}
use Rattle.texts.proofs.Gives.{Gives, gives_pure, gives_then, gives_and, gives_choice, gives_require}
use Rattle.texts.proofs.Gives.{gives_look, gives_fail, gives_byte, gives_optional}
use Rattle.texts.proofs.Fields.{gives_address}

pub record GroupRead (n : ℕ) (g : Group) : Type 0 where
  pub sound : group_sound n g ≡ true
  pub fits : g.0 < 65536

module _ (n : ℕ) where
  -- each address that is marked is in use
  abbrev Marked : List Bool → Type 0
  Marked marks = (l : ℕ) → get_or marks l false ≡ true → l < n

  no_mark : Marked no_members
  unfolding no_members
  no_mark l e = never (sym (unmarked_at 16 l) ∙ e)

  next_mark : (marks : List Bool) (i : ℕ) → i < n → Marked marks → Marked (set marks i true)
  next_mark marks i h ok l e = go (ℕ_discrete l i)
    where
      go : Dec (l ≡ i) → l < n
      go (yes d) = omega arith
      go (no d) = ok l (sym (get_or-set_other marks i l true false d) ∙ e)

  gives_member_from : (low : ℕ) → Gives (member_from n low) (λ l. l < n)
  unfolding member_from
  gives_member_from low =
      gives_then (gives_address n) (λ l h. gives_and (gives_require _ 31 astray) (λ _ _. gives_pure _ l.0 h))

  gives_members : (k low : ℕ) (marks : List Bool) → Marked marks → Gives (members k n low marks) Marked
  unfolding members
  gives_members zero low marks ok = gives_fail _ 31 astray
  gives_members (suc k) low marks ok =
      gives_then (gives_member_from low) (λ l h. gives_then (gives_optional 44) (λ more _. gives_choice Marked more _ _
      (gives_members k (l + 1) _ (next_mark marks l h ok)) (gives_pure Marked _ (next_mark marks l h ok))))

  group_sound_law : (marks : List Bool) → Marked marks → group_sound n (group_of marks) ≡ true
  unfolding group_sound
  group_sound_law marks ok =
      members_all (group_of marks) _
      (λ l m. lt-ltb l.0 n (ok l.0 (sym (member_marked marks l.0 (member_low (group_of marks) l m)) ∙ m)))

  pub gives_group : Gives (group n) (GroupRead n)
  unfolding group listed
  gives_group =
      gives_and (gives_byte 123) (λ _ _. gives_then
      (gives_look _ _ (λ b. gives_choice Marked _ _ _ (gives_pure Marked no_members no_mark) (gives_members 16 0 no_members no_mark)))
      (λ marks ok. gives_and (gives_byte 125) (λ _ _.
      gives_pure _ _ (record { sound = group_sound_law marks ok; fits = group_low marks }))))
