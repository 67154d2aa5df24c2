-- Words read back (`specs/Loading.antt`). Assumes nothing.
use Prim.Native.Nat.{ℕ, ◌%◌, ◌<◌, ◌≤◌}
use mathlib.Core.Path.{◌≡◌, sym, ap, ◌∙◌}
use lib.IntN.{ℤ}
use borrow.Author.Tests.{lt-ltb, le-ltb}
use Rattle.net.specs.Records.{address_of}
use Rattle.net.proofs.Laws.{choose_true, choose_false}
use Rattle.text.specs.Signed.{signed}
use Rattle.terms.specs.Types.{Locality, Target, Pattern}
use Rattle.terms.specs.Loading.{target_of, pattern_of}

-- ---- targets
address_is : (l : Locality) (n : ℕ) → l.0 ≡ n → l ≡ address_of n
address_is l n e = ap address_of e

module _ (w : ℕ) where
  pub target_written_law : (l : Locality) → w < 256 → l.0 ≡ w % 256 → Target.Written l ≡ target_of w
  unfolding target_of
  target_written_law l h e = ap Target.Written (address_is l (w % 256) e) ∙ sym (choose_true _ _ _ (lt-ltb w 256 h))

  pub target_own : 256 ≤ w → w < 512 → Target.Own ≡ target_of w
  unfolding target_of
  target_own h g = sym (choose_false _ _ _ (le-ltb w 256 h) ∙ choose_true _ _ _ (lt-ltb w 512 g))

  pub target_held : (v : ℕ) → 256 ≤ w → 512 ≤ w → v ≡ w % 256 → Target.Held v ≡ target_of w
  unfolding target_of
  target_held v h g e = ap Target.Held e ∙ sym (choose_false _ _ _ (le-ltb w 256 h) ∙ choose_false _ _ _ (le-ltb w 512 g))

-- ---- template fields
module _ (w : ℕ) where
  pub pattern_reading : (x : ℤ) → w < 4294967296 → x ≡ signed w → Pattern.Reading x ≡ pattern_of w
  unfolding pattern_of
  pattern_reading x h e = ap Pattern.Reading e ∙ sym (choose_true _ _ _ (lt-ltb w 4294967296 h))

  module _ (o : 4294967296 ≤ w) where
    pub pattern_address : (l : Locality) → w < 4294967552 → l.0 ≡ w % 256 → Pattern.Address l ≡ pattern_of w
    unfolding pattern_of
    pattern_address l h e = ap Pattern.Address (address_is l (w % 256) e)
        ∙ sym (choose_false _ _ _ (le-ltb w 4294967296 o) ∙ choose_true _ _ _ (lt-ltb w 4294967552 h))

    module _ (p : 4294967552 ≤ w) where
      pub pattern_own : w < 4294967808 → Pattern.Own ≡ pattern_of w
      unfolding pattern_of
      pattern_own h = sym (choose_false _ _ _ (le-ltb w 4294967296 o) ∙ choose_false _ _ _ (le-ltb w 4294967552 p)
          ∙ choose_true _ _ _ (lt-ltb w 4294967808 h))

      module _ (q : 4294967808 ≤ w) (v : ℕ) (e : v ≡ w % 256) where
        pub pattern_held : w < 4294968064 → Pattern.Held v ≡ pattern_of w
        unfolding pattern_of
        pattern_held h = ap Pattern.Held e
            ∙ sym (choose_false _ _ _ (le-ltb w 4294967296 o) ∙ choose_false _ _ _ (le-ltb w 4294967552 p)
            ∙ choose_false _ _ _ (le-ltb w 4294967808 q) ∙ choose_true _ _ _ (lt-ltb w 4294968064 h))

        pub pattern_formal_reading : 4294968064 ≤ w → w < 4294968320 → Pattern.FormalReading v ≡ pattern_of w
        unfolding pattern_of
        pattern_formal_reading r h = ap Pattern.FormalReading e
            ∙ sym (choose_false _ _ _ (le-ltb w 4294967296 o) ∙ choose_false _ _ _ (le-ltb w 4294967552 p)
            ∙ choose_false _ _ _ (le-ltb w 4294967808 q) ∙ choose_false _ _ _ (le-ltb w 4294968064 r)
            ∙ choose_true _ _ _ (lt-ltb w 4294968320 h))

        pub pattern_formal_address : 4294968064 ≤ w → 4294968320 ≤ w → Pattern.FormalAddress v ≡ pattern_of w
        unfolding pattern_of
        pattern_formal_address r h = ap Pattern.FormalAddress e
            ∙ sym (choose_false _ _ _ (le-ltb w 4294967296 o) ∙ choose_false _ _ _ (le-ltb w 4294967552 p)
            ∙ choose_false _ _ _ (le-ltb w 4294967808 q) ∙ choose_false _ _ _ (le-ltb w 4294968064 r)
            ∙ choose_false _ _ _ (le-ltb w 4294968320 h))
