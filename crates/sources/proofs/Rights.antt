-- The rights over an address (`rights` of `Rows.antt` of `rows`): what is read is what is printed. Assumes nothing.
use Prim.Native.Nat.{ℕ}
use mathlib.Core.Path.{◌≡◌, refl, sym, ap, subst, ◌∙◌}
use mathlib.Core.Logic.{inl, inr}
use mathlib.Core.Bool.{Bool, true, false, not}
use mathlib.Core.List.{List, [], ◌∷◌, ◌++◌, append-nil}
use native.Mathlib.Omega.{arith}
use lib.ListN.{get_or}
use Rattle.net.specs.Choice.{choose}
use Rattle.net.specs.Choice as Choice
use Rattle.net.specs.Records.{no_rights}
use Rattle.net.proofs.ReadingLaws.{never}
use Rattle.sound.specs.Soundness.{is_none}
use Rattle.readers.specs.Reader.{Reader, ◌>>=◌}
use Rattle.text.specs.Bytes.{bytes}
use Rattle.lexemes.specs.Lexemes.{optional}
use Rattle.rows.specs.Rows.{any_right, rights}
use Rattle.sources.specs.Types.{Rights}
use Rattle.sources.specs.Printed.{given, rights_text}
use Rattle.sources.proofs.ReadsPrints.{Reads, Is, After, Or, reads_as, reads_pure}
use Rattle.sources.proofs.ReadsPrints.{reads_require, reads_optional}

-- ---- rights: letters that may stand, in their order

-- behind the letters stands none of them
pub record NoLetter (d : ℕ) : Type 0 where
  pub no_take : d ≡ 105 → ⊥
  pub no_read : d ≡ 114 → ⊥
  pub no_put : d ≡ 111 → ⊥
  pub no_send : d ≡ 101 → ⊥

abbrev Lettered : {A : Type 0} → ℕ → (Bool → A → List ℕ → Type 0) → A → List ℕ → Type 0
Lettered c R a t = (b : Bool) × (v : List ℕ) × R b a v × (given b (c ∷ []) ++ v ≡ t)

reads_lettered :
    {A : Type 0} {E : ℕ → Type 0} (c : ℕ) (f : Bool → Reader A) (R : Bool → A → List ℕ → Type 0) → ((b : Bool) → Reads (f b) (R b) E)
    → ((a : A) (u : List ℕ) (d : ℕ) → R false a u → E d → get_or u 0 d ≡ c → ⊥) → Reads (optional c >>= f) (Lettered c R) E
unfolding given choose
reads_lettered {A} {E} c f R r other =
    reads_as (reads_optional c f (r true) (r false) other) to from (λ d e. e)
  where
    to : (a : A) (u : List ℕ) → Or (After (c ∷ []) (R true)) (R false) a u → Lettered c R a u
    to a u (inl (v, x, e)) = (true, v, x, e)
    to a u (inr x) = (false, u, x, refl)

    from : (a : A) (u : List ℕ) → Lettered c R a u → Or (After (c ∷ []) (R true)) (R false) a u
    from a u (true, v, x, e) = inl (v, x, e)
    from a u (false, v, x, e) = inr (subst (R false a) e x)

-- a letter that may stand is no other letter
letter_other : (b : Bool) (c x : ℕ) (v : List ℕ) (d : ℕ) → (c ≡ x → ⊥) → (get_or v 0 d ≡ x → ⊥) → get_or (given b (c ∷ []) ++ v) 0 d ≡ x → ⊥
unfolding given choose
letter_other true c x v d g h e = g e
letter_other false c x v d g h e = h e

abbrev Whole : Bool → Bool → Bool → Bool → Rights → List ℕ → Type 0
Whole i r o e x u =
    (any_right (record { take = i; read = r; put = o; send = e }) ≡ true) × Is (record { take = i; read = r; put = o; send = e }) x u

abbrev FromSend : Bool → Bool → Bool → Rights → List ℕ → Type 0
FromSend i r o = Lettered 101 (Whole i r o)

abbrev FromPut : Bool → Bool → Rights → List ℕ → Type 0
FromPut i r = Lettered 111 (FromSend i r)

abbrev FromRead : Bool → Rights → List ℕ → Type 0
FromRead i = Lettered 114 (FromPut i)

send_other : (c : ℕ) (i r o : Bool) (x : Rights) (u : List ℕ) (d : ℕ) → (101 ≡ c → ⊥) → FromSend i r o x u → (d ≡ c → ⊥) → get_or u 0 d ≡ c → ⊥
send_other c i r o x u d g (b, v, (t, (is, n)), e) h f =
    letter_other b 101 c v d g (λ k. h (ap (λ (w : List ℕ). get_or w 0 d) n ∙ k)) (ap (λ (w : List ℕ). get_or w 0 d) e ∙ f)

put_other : (c : ℕ) (i r : Bool) (x : Rights) (u : List ℕ) (d : ℕ) → (101 ≡ c → ⊥) → (111 ≡ c → ⊥) → FromPut i r x u → (d ≡ c → ⊥) → get_or u 0 d ≡ c → ⊥
put_other c i r x u d g₁ g₂ (b, v, y, e) h f =
    letter_other b 111 c v d g₂ (send_other c i r b x v d g₁ y h) (ap (λ (w : List ℕ). get_or w 0 d) e ∙ f)

read_other : (c : ℕ) (i : Bool) (x : Rights) (u : List ℕ) (d : ℕ) → (101 ≡ c → ⊥) → (111 ≡ c → ⊥) → (114 ≡ c → ⊥) → FromRead i x u → (d ≡ c → ⊥) → get_or u 0 d ≡ c → ⊥
read_other c i x u d g₁ g₂ g₃ (b, v, y, e) h f =
    letter_other b 114 c v d g₃ (put_other c i b x v d g₁ g₂ y h) (ap (λ (w : List ℕ). get_or w 0 d) e ∙ f)

pub record RightsText (x : Rights) (u : List ℕ) : Type 0 where
  pub some : any_right x ≡ true
  pub prints : rights_text x ≡ u

rights_to : (x : Rights) (u : List ℕ) → Lettered 105 FromRead x u → RightsText x u
unfolding rights_text bytes
rights_to x u (i, v₁, (r, v₂, (o, v₃, (s, v₄, (t, (is, e₅)), e₄), e₃), e₂), e₁) =
    subst (λ (y : Rights). RightsText y u) is (record {
      some = t;
      prints =
          ap (λ (w : List ℕ). given i (105 ∷ []) ++ (given r (114 ∷ []) ++ (given o (111 ∷ []) ++ w)))
          (sym (append-nil (given s (101 ∷ []))) ∙ ap (λ (w : List ℕ). given s (101 ∷ []) ++ w) e₅ ∙ e₄)
          ∙ ap (λ (w : List ℕ). given i (105 ∷ []) ++ (given r (114 ∷ []) ++ w)) e₃
          ∙ ap (λ (w : List ℕ). given i (105 ∷ []) ++ w) e₂
          ∙ e₁;
    })

rights_from : (x : Rights) (u : List ℕ) → RightsText x u → Lettered 105 FromRead x u
unfolding rights_text bytes
rights_from x u y =
    (x.take, _, (x.read, _, (x.put, _, (x.send, [], (y.some, (refl, refl)), append-nil (given x.send (101 ∷ []))), refl), refl), y.prints)

pub reads_rights : Reads rights RightsText NoLetter
unfolding rights
reads_rights =
    reads_as
    (reads_lettered 105 _ FromRead
    (λ i. reads_lettered 114 _ (FromPut i)
    (λ r. reads_lettered 111 _ (FromSend i r)
    (λ o. reads_lettered 101 _ (Whole i r o) (λ e. reads_require _ 31 (reads_pure _))
    (λ x u d y n f. n.no_send (ap (λ (w : List ℕ). get_or w 0 d) y.1.1 ∙ f)))
    (λ x u d y n. send_other 111 i r false x u d (λ f. omega arith) y n.no_put))
    (λ x u d y n. put_other 114 i false x u d (λ f. omega arith) (λ f. omega arith) y n.no_read))
    (λ x u d y n. read_other 105 false x u d (λ f. omega arith) (λ f. omega arith) (λ f. omega arith) y n.no_take))
    rights_to rights_from (λ d e. e)

-- ---- some right, or none
any_bits : (a b c d : Bool) → choose a true (choose b true (choose c true d)) ≡ not (Choice.both (Choice.both (not a) (not b)) (Choice.both (not c) (not d)))
unfolding choose Choice.both
any_bits true b c d = refl
any_bits false true c d = refl
any_bits false false true d = refl
any_bits false false false true = refl
any_bits false false false false = refl

pub any_some : (x : Rights) → any_right x ≡ not (is_none x)
unfolding any_right is_none
any_some x = any_bits x.take x.read x.put x.send

none_bits : (a b c d : Bool) → Choice.both (Choice.both (not a) (not b)) (Choice.both (not c) (not d)) ≡ true
    → record { take = a; read = b; put = c; send = d } ≡ no_rights
unfolding no_rights Choice.both
none_bits true b c d e = never e
none_bits false true c d e = never e
none_bits false false true d e = never e
none_bits false false false true e = never e
none_bits false false false false e = refl

pub none_is : (x : Rights) → is_none x ≡ true → x ≡ no_rights
unfolding is_none
none_is x e = none_bits x.take x.read x.put x.send e
