-- Laws of names and chains (`specs/Reading.antt`). Assumes nothing.
use Prim.Native.Nat.{ℕ, zero, suc, ◌+◌}
use mathlib.Core.Path.{◌≡◌, refl, sym, ap, ◌∙◌}
use mathlib.Core.Bool.{Bool, true, false}
use mathlib.Core.List.{List}
use lib.Dec.{eqb}
use borrow.Author.Tests.{eq-eqb, ne_eqb}
use Rattle.std.specs.Prelude.{Result, Ok, Err}
use Rattle.std.specs.Result.{result_unwrap_or}
use Rattle.net.specs.Choice.{choose}
use Rattle.net.proofs.Laws.{choose_true, choose_false}
use Rattle.readers.specs.Reader.{Parsed, got, fault, Reader, pure, and_then, ◌>>=◌}
use Rattle.readers.specs.Progress.{came}
use Rattle.readers.proofs.Gives.{value, Fine, Gives, gives_pure, gives_then, gives_and, Any, any}
use Rattle.lexemes.specs.Lexemes.{byte_at, look, fail, byte}
use Rattle.lexemes.specs.Progress.{Reads}
use Rattle.processes.specs.Types.{Fault, TextReader, Scope}
use Rattle.terms.specs.Terms.{Process, nil, name, fork, act}
use Rattle.processes.specs.Reading.{named, called, forked, ends_chain, ended, action, acting, chain}
use Rattle.processes.specs.Reading as Reading
use Rattle.terms.specs.Numbering.{start_of, here}
use Rattle.terms.specs.Table.{start_word}
use Rattle.processes.specs.Progress.{Begins}

-- ---- what a chain that begins with A stands for
ends_name : (b after : ℕ) → b ≡ 65 → true ≡ ends_chain b after
unfolding ends_chain choose
ends_name b after e = rw e refl

chain_named :
    (s : List ℕ) (p k : ℕ) (scope : Scope) (inner : Reader Process) → byte_at s p ≡ 65 → chain (suc k) inner scope s p ≡ called s p
unfolding chain ended look
chain_named s p k scope inner e =
    ap (λ (m : Reader Process). m s p) (choose_true _ (ended inner) (acting inner (chain k inner scope) scope) (sym (ends_name (byte_at s p) _ e)))
    ∙ ap (λ (m : Reader Process). m s p)
    (choose_true _ called (choose (eqb (byte_at s p) 40) (forked inner) Reading.stopped) (eq-eqb (byte_at s p) 65 e))

-- the name that is read, where it is
unfoldable pub NamedAs : ℕ → Parsed ℕ → ℕ → Type 0
NamedAs n (got v q) w = w ≡ v
NamedAs n (fault f) w = Unit {0}

called_start :
    (s : List ℕ) (p n w : ℕ) (o : Parsed ℕ) → named s p ≡ o → NamedAs n o w → (x : Process) (q : ℕ) → got x q ≡ called s p → w ≡ start_word (start_of n x)
unfolding called ◌>>=◌ and_then pure NamedAs start_of start_word
called_start s p n w (got v q') e h x q c = let same : got x q ≡ got (name v) q' = c ∙ (rw e refl) in let is : x ≡ name v = cc in rw is h
called_start s p n w (fault f) e h x q c = let same : got x q ≡ fault f = c ∙ (rw e refl) in absurd (cc)

module _ (r : TextReader) (n w : ℕ) where
  named_start :
      (o : Parsed ℕ) → byte_at r.text.now r.at ≡ 65 → named r.text.now r.at ≡ o → NamedAs n o w
      → (k : ℕ) (scope : Scope) (inner : Reader Process) (x : Process) (q : ℕ) → got x q ≡ chain k inner scope r.text.now r.at → w ≡ start_word (start_of n x)
  unfolding chain fail
  named_start o e d h zero scope inner x q c = absurd (cc)
  named_start o e d h (suc k) scope inner x q c = called_start r.text.now r.at n w o d h x q (c ∙ chain_named r.text.now r.at k scope inner e)

  pub begins_read : (q : TextReader) → byte_at r.text.now r.at ≡ 65 → Reads r named (Ok w) q → Begins r n w
  unfolding came NamedAs
  begins_read q e h = record { begins = λ k scope inner x t c. named_start (got w q.at) e (sym h.gave) refl k scope inner x t.at c.gave }

  pub begins_failed : (q : TextReader) (f : Fault) → byte_at r.text.now r.at ≡ 65 → Reads r named (Err f) q → Begins r n w
  unfolding came NamedAs
  begins_failed q f e h = record { begins = λ k scope inner x t c. named_start (fault f) e (sym h.gave) tt k scope inner x t.at c.gave }

pub begins_answer :
    (r : TextReader) (n : ℕ) (o : Result ℕ Fault) (q : TextReader) → byte_at r.text.now r.at ≡ 65 → Reads r named o q → Begins r n (result_unwrap_or o 0)
begins_answer r n (Ok w) q e h = begins_read r n w q e h
begins_answer r n (Err f) q e h = begins_failed r n 0 q f e h

-- ---- what any other chain stands for
module _ (n : ℕ) where
  abbrev Here : Process → Type 0
  Here x = start_of n x ≡ here n

  forks_here : (inner : Reader Process) → Gives Any (forked inner) Here
  unfolding forked start_of
  forks_here inner =
      gives_and (any (byte 40)) (λ _ _. gives_then (any inner) (λ p _. gives_and (any _) (λ _ _. gives_then (any inner)
      (λ q _. gives_and (any (byte 41)) (λ _ _. gives_pure Here (fork p q) refl)))))

  stops_here : Gives Any Reading.stopped Here
  unfolding Reading.stopped start_of
  stops_here = gives_and (any _) (λ _ _. gives_pure Here nil refl)

  acts_here : (inner rest : Reader Process) (scope : Scope) → Gives Any (acting inner rest scope) Here
  unfolding acting start_of
  acts_here inner rest scope =
      gives_then (any (action inner scope)) (λ a _. gives_and (any (byte 46)) (λ _ _. gives_then (any rest) (λ p _. gives_pure Here (act a p) refl)))

  pick :
      (b : Bool) (m m' : Reader Process) (s : List ℕ) (p : ℕ) → Fine Any Here (m s p) → Fine Any Here (m' s p)
      → Fine Any Here (choose b m m' s p)
  unfolding choose
  pick true m m' s p f g = f
  pick false m m' s p f g = g

  ended_here : (s : List ℕ) (p : ℕ) (inner : Reader Process) → eqb (byte_at s p) 65 ≡ false → Fine Any Here (ended inner s p)
  unfolding ended look
  ended_here s p inner e =
      rw (choose_false _ called (choose (eqb (byte_at s p) 40) (forked inner) Reading.stopped) e)
      (pick (eqb (byte_at s p) 40) _ _ s p ((forks_here inner).run s p) (stops_here.run s p))

  chain_here : (s : List ℕ) (p k : ℕ) (scope : Scope) (inner : Reader Process) → eqb (byte_at s p) 65 ≡ false → Fine Any Here (chain (suc k) inner scope s p)
  unfolding chain
  chain_here s p k scope inner e =
      pick (ends_chain (byte_at s p) (byte_at s (p + 1))) _ _ s p (ended_here s p inner e) ((acts_here inner (chain k inner scope) scope).run s p)

  fine_got : (o : Parsed Process) (x : Process) (q : ℕ) → got x q ≡ o → Fine Any Here o → Here x
  fine_got (got y q') x q e (value h) = let is : x ≡ y = cc in rw is h
  fine_got (fault f) x q e g = absurd (cc)

  here_start :
      (s : List ℕ) (p k : ℕ) (scope : Scope) (inner : Reader Process) (x : Process) (q : ℕ) → eqb (byte_at s p) 65 ≡ false
      → got x q ≡ chain k inner scope s p → start_of n x ≡ here n
  unfolding chain fail
  here_start s p zero scope inner x q e o = absurd (cc)
  here_start s p (suc k) scope inner x q e o = fine_got (chain (suc k) inner scope s p) x q o (chain_here s p k scope inner e)

pub begins_here : (r : TextReader) (n b : ℕ) → b ≡ byte_at r.text.now r.at → (b ≡ 65 → ⊥) → Begins r n (512 + n)
unfolding start_word came
begins_here r n b e d = record {
  begins = λ k scope inner x q v.
      let t : start_of n x ≡ here n = here_start n r.text.now r.at k scope inner x q.at (ap (λ (y : ℕ). eqb y 65) (sym e) ∙ ne_eqb b 65 d) v.gave in rw t refl;
}
