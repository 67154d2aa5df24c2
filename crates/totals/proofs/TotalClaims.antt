-- The claims of `specs/TotalClaims.antt`: of a sound net and its picks by `Counting.antt` and `Balance.antt`, then of every
-- accepted image and text, whose net is sound. Assumes nothing.
use Prim.Native.Nat.{ℕ, zero, suc, ◌+◌, ◌<◌, ◌≤◌}
use mathlib.Core.Path.{◌≡◌, refl, sym, ap, subst, ◌∙◌}
use mathlib.Core.Bool.{true}
use mathlib.Core.List.{List, []}
use native.Mathlib.Omega.{arith}
use lib.ListN.{take}
use Rattle.net.specs.Choice.{fold}
use Rattle.net.specs.Records.{address_of}
use Rattle.net.specs.Shape.{Shaped}
use Rattle.net.proofs.Every.{chosen_lt}
use Rattle.sound.specs.Soundness.{sound_of}
use Rattle.sound.proofs.NetFacts.{NetOk}
use Rattle.sound.proofs.NetChanges.{node_at_law}
use Rattle.image.specs.Image.{opened_of, accepted}
use Rattle.notation.specs.Text.{read_of}
use Rattle.run.specs.Run.{Ran, ran, ran_from}
use Rattle.runs.proofs.SoundRuns.{ran_sound}
use Rattle.run.proofs.CallLaws.{opened_sound, ran_is, text_sound, text_ran_is}
use Rattle.registers.specs.Types.{Locality, Opened}
use Rattle.lines.specs.Lines.{name_words, fewer, tuples_below, tuple_count}
use Rattle.names.specs.Names.{name_of}
use Rattle.names.proofs.NameClaims.{name_is_short}
use Rattle.lines.specs.Shown.{Shown, unnamed, named, current}
use Rattle.registers.specs.Register.{register_in, register_as, register_of, register_text_as, register_text_of, named_register_of, named_register_text_of}
use Rattle.written.proofs.OpenedShaped.{opened_shaped}
use Rattle.text_tenant.specs.TextTenantRule.{TextIsImaged}
use Rattle.text_tenant.proofs.TextTenantRule.{text_is_imaged}
use Rattle.totals.specs.Types.{Net, Verdict, TextVerdict}
use Rattle.totals.specs.TotalClaims.{TotalIs, tuple_lines_in, tuples_of, balance, Balanced}
use Rattle.totals.specs.TotalClaims.{TotalIsLines, TotalIsBalance}
use Rattle.totals.proofs.Counting.{showing, counted, last_is_total}
use Rattle.totals.proofs.Whole.{Plain, no_words, name_plain}
use Rattle.totals.proofs.Balance.{run_balance}

-- ---- in a sound net no count is cut
fewer_all : (n size : ℕ) → n ≤ size → fewer n size ≡ n
unfolding fewer
fewer_all n size h = chosen_lt (λ (m : ℕ). m ≡ n) n size _ _ (λ _. refl) (λ g. omega arith)

sums : (n : ℕ) (f g : ℕ → ℕ) → ((i : ℕ) → i < n → f i ≡ g i) → fold n (λ i m. m + f i) 0 ≡ fold n (λ i m. m + g i) 0
unfolding fold
sums zero f g h = refl
sums (suc n) f g h =
    let rest = sums n f g (λ i l. h i (omega arith)) in
    let last = h n (omega arith) in
    omega (arith, rest, last)

all_counted : (s : Net) → NetOk s → tuple_count s ≡ tuples_of s
unfolding tuple_count tuples_below tuples_of
all_counted s ok =
    ap (tuples_below s) (fewer_all s.addresses 16 ok.addresses_most)
    ∙ sums s.addresses _ _ (λ a h. fewer_all _ 16 (node_at_law s ok (address_of a) h).room)

-- ---- the register of a net and its picks, with names that hold no newline
module _ (names : Locality → List ℕ) (plain : (l : Locality) → Plain (name_words (names l))) (s : Net) (picks : List ℕ) where
  lines_hold : (text : List ℕ) → register_in (showing names plain) s picks (ran (ran_from s picks)) ≡ text → TotalIs text (tuple_lines_in text)
  lines_hold text e =
      let r : Ran = ran_from s picks in
      subst (λ (t : List ℕ). TotalIs t (tuple_lines_in t)) e
      (subst (TotalIs (register_in (showing names plain) s picks (ran r))) (sym (counted names plain s picks r)) (last_is_total names plain s picks r))

  balance_holds :
      (text : List ℕ) → Shaped s → sound_of s ≡ true → register_in (showing names plain) s picks (ran (ran_from s picks)) ≡ text
      → Balanced s picks text
  unfolding balance
  balance_holds text shaped sound e =
      let r : Ran = ran_from s picks in
      let whole = run_balance s picks shaped sound in
      let count : tuple_count r.net ≡ balance s picks =
      all_counted r.net (ran_sound s picks shaped sound) ∙ omega (arith, whole) in
      let last = subst (TotalIs (register_in (showing names plain) s picks (ran r))) count (last_is_total names plain s picks r) in
      record {
        total = subst (λ (t : List ℕ). TotalIs t (balance s picks)) e last;
        enough = omega (arith, whole);
      }

-- no names, and those that two lists give
abbrev no_names : Locality → List ℕ
no_names l = []

none_plain : (l : Locality) → Plain (name_words (no_names l))
unfolding name_words
none_plain l = no_words

lists_plain : (site office : List ℕ) (l : Locality) → Plain (name_words (name_of site office l))
lists_plain site office l = name_plain (name_of site office l) (name_is_short.letters site office l)

-- ---- of images and texts
module _ (shown : Shown) (image picks : List ℕ) (a : (opened_of image).answer ≡ Verdict.Accepted) where
  image_register : register_in shown (opened_of image).net (take 65536 picks) (ran (ran_from (opened_of image).net (take 65536 picks))) ≡ register_as shown image picks
  unfolding register_as
  image_register = ap (register_in shown _ _) (ran_is image (opened_of image) refl (take 65536 picks) a)

module _ (text picks : List ℕ) (a : (read_of text).answer ≡ TextVerdict.Accepted) where
  text_register :
      (shown : Shown)
      → register_in shown (read_of text).net (take 65536 picks) (ran (ran_from (read_of text).net (take 65536 picks))) ≡ register_text_as shown text picks
  unfolding register_text_as
  text_register shown = ap (register_in shown _ _) (text_ran_is text (read_of text) refl (take 65536 picks) a)

  text_shaped : Shaped (read_of text).net
  unfolding TextIsImaged accepted
  text_shaped =
      let (image, _, given) = text_is_imaged text a in
      subst Shaped (ap (λ (o : Opened). o.net) given) (opened_shaped image)

pub total_is_lines : TotalIsLines
unfolding TotalIsLines register_of register_text_of named_register_of named_register_text_of current unnamed named
total_is_lines = record {
  of_image = λ image picks a. lines_hold no_names none_plain _ _ _ (image_register _ image picks a);
  of_text = λ text picks a. lines_hold no_names none_plain _ _ _ (text_register text picks a _);
  of_named_image = λ site office image picks a.
      lines_hold (name_of site office) (lists_plain site office) _ _ _ (image_register _ image picks a);
  of_named_text = λ site office text picks a.
      lines_hold (name_of site office) (lists_plain site office) _ _ _ (text_register text picks a _);
}

-- a sound net's balance, whatever the names
module _ (names : Locality → List ℕ) (plain : (l : Locality) → Plain (name_words (names l))) where
  image_balance :
      (image picks : List ℕ) → (opened_of image).answer ≡ Verdict.Accepted
      → Balanced (opened_of image).net (take 65536 picks) (register_as (showing names plain) image picks)
  image_balance image picks a =
      balance_holds names plain _ _ _ (opened_shaped image) (opened_sound image (opened_of image) refl a) (image_register _ image picks a)

  text_balance :
      (text picks : List ℕ) → (read_of text).answer ≡ TextVerdict.Accepted
      → Balanced (read_of text).net (take 65536 picks) (register_text_as (showing names plain) text picks)
  text_balance text picks a =
      balance_holds names plain _ _ _ (text_shaped text picks a) (text_sound text (read_of text) refl a) (text_register text picks a _)

pub total_is_balance : TotalIsBalance
unfolding TotalIsBalance register_of register_text_of named_register_of named_register_text_of current unnamed named
total_is_balance = record {
  of_image = image_balance no_names none_plain;
  of_text = text_balance no_names none_plain;
  of_named_image = λ site office. image_balance (name_of site office) (lists_plain site office);
  of_named_text = λ site office. text_balance (name_of site office) (lists_plain site office);
}
