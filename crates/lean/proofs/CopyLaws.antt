-- Arrays of words filled from records, and records from words (`specs/Loading.antt`, `specs/Words.antt`), and the net while its nodes
-- are put in.
-- Assumes nothing.
use Prim.Native.Nat.{ℕ, ◌+◌, ◌<◌, ◌≤◌}
use mathlib.Core.Path.{◌≡◌, refl, ap, ◌∙◌}
use mathlib.Core.List.{List}
use native.Mathlib.Omega.{arith}
use lib.ListN.{set, replicate}
use Rattle.lean_words.specs.Filled.{filled}
use Rattle.lean_words.proofs.FilledLaws.{filled_none, filled_more, filled_end}
use Rattle.lean.specs.Types.{Node, Net}
use Rattle.lean.specs.Words.{Words, node_in, net_in}

-- ---- an array of one value that is filled whole, where that value is known
module _ {A : Type 0} (f : ℕ → A) (x y : A) (e : x ≡ y) (xs : List A) where
  pub four_filled : xs ≡ filled 4 f (replicate 4 x) → xs ≡ filled 4 f (replicate 4 y)
  four_filled p = p ∙ ap (λ (z : A). filled 4 f (replicate 4 z)) e

  pub sixteen_filled : xs ≡ filled 16 f (replicate 16 x) → xs ≡ filled 16 f (replicate 16 y)
  sixteen_filled p = p ∙ ap (λ (z : A). filled 16 f (replicate 16 z)) e

-- ---- the net: the nodes below a are those of the words
pub record Decoding (start : Net) (w : Words) (net : Net) (a : ℕ) : Type 0 where
  pub low : a ≤ 16
  pub format_is : net.format ≡ start.format
  pub addresses_are : net.addresses ≡ w.count
  pub length_is : net.length ≡ start.length
  pub nodes_are : net.nodes ≡ filled a (node_in w) start.nodes
  pub code_is : net.code ≡ start.code

module _ (start : Net) (w : Words) where
  pub decoding_none :
      Decoding start w
      (record {
        format = start.format;
        addresses = w.count;
        length = start.length;
        nodes = start.nodes;
        code = start.code;
      })
      0
  decoding_none = record {
    low = omega arith;
    format_is = refl;
    addresses_are = refl;
    length_is = refl;
    nodes_are = filled_none (node_in w) start.nodes _ refl;
    code_is = refl;
  }

  pub decoding_more :
      (net : Net) (a : ℕ) (x : Node) → Decoding start w net a → a < 16 → x ≡ node_in w a
      → Decoding start w
      (record {
        format = net.format;
        addresses = net.addresses;
        length = net.length;
        nodes = set net.nodes a x;
        code = net.code;
      })
      (a + 1)
  decoding_more net a x h l e = record {
    low = omega arith;
    format_is = h.format_is;
    addresses_are = h.addresses_are;
    length_is = h.length_is;
    nodes_are = filled_more (node_in w) start.nodes a net.nodes x h.nodes_are e;
    code_is = h.code_is;
  }

  pub decoding_all : (net : Net) (a : ℕ) → Decoding start w net a → 16 ≤ a → net ≡ net_in start w
  unfolding net_in
  decoding_all net a h l = λ d. record {
    format = h.format_is d;
    addresses = h.addresses_are d;
    length = h.length_is d;
    nodes = filled_end (node_in w) start.nodes a 16 net.nodes h.nodes_are h.low l d;
    code = h.code_is d;
  }
