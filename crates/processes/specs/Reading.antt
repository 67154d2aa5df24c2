-- Processes and actions of the planners' notation, read as a tree (document 01, "The planners' notation"; document 02,
-- slip 13): x is what addresses and sets are judged by. Brackets and evals are at most 32 deep, counted together.
use Rattle.std.specs.Prelude.{ℕ, zero, suc, ◌+◌, Bool, true, false, List, length, eqb}
use Rattle.text.specs.Bytes.{bytes}
use Rattle.net.specs.Choice.{choose, both}
use Rattle.readers.specs.Reader.{Reader, pure, ◌>>=◌, ◌>>◌}
use Rattle.lexemes.specs.Lexemes.{byte_at, look, fail, byte, word, number}
use Rattle.fields.specs.Fields.{variable, template, target}
use Rattle.fields.specs.Sets.{group}
use Rattle.processes.specs.Types.{Target, Instruction, Scope}
use Rattle.terms.specs.Terms.{Process, Action, nil, name, fork, act, out, input, read, eval, newloc, out_all}

-- a name: A (65) and a number, A0 to A511
unfoldable pub named : Reader ℕ
named = byte 65 >> number 511

-- )@ and a target, after the fields of an in or a read, and after the process of an eval
unfoldable pub at_target : ℕ → Reader Target
at_target n = word (bytes ")@") >> target n

-- an in or a read, opened by its word and a bracket
unfoldable pub communication : List ℕ → (Instruction → Target → Action) → Scope → Reader Action
communication opening make x = do
  word opening
  c ← template true x.addresses
  t ← at_target x.addresses
  pure (make c t)

-- an out of the template c to a target, or to a set
unfoldable pub to_one : Scope → Instruction → Reader Action
to_one x c = do
  t ← target x.addresses
  pure (out c t)

unfoldable pub to_all : Scope → Instruction → Reader Action
to_all x c = do
  g ← group x.addresses
  pure (out_all c g)

-- a set opens with a brace (123), in format 2 alone
unfoldable pub receiving : Scope → Instruction → Reader Action
receiving x c = look (λ b. choose (both (eqb b 123) (eqb x.format 2)) (to_all x c) (to_one x c))

-- out(5)@1, out(5)@{0,2}
unfoldable pub putting : Scope → Reader Action
putting x = do
  word (bytes "out(")
  c ← template false x.addresses
  word (bytes ")@")
  receiving x c

-- eval(P)@0, with a reader of its process
unfoldable pub evaluation : Reader Process → Scope → Reader Action
evaluation inner x = do
  word (bytes "eval(")
  p ← inner
  t ← at_target x.addresses
  pure (eval p t)

-- newloc(u2)
unfoldable pub creation : Reader Action
creation = do
  word (bytes "newloc(u")
  v ← variable
  byte 41
  pure (newloc v)

-- an action that is no eval, by its first letter: o, i, r, or newloc's n
unfoldable pub simple : Scope → Reader Action
simple x = look (λ b.
    choose (eqb b 111) (putting x)
    (choose (eqb b 105) (communication (bytes "in(") input x)
    (choose (eqb b 114) (communication (bytes "read(") read x) creation)))

-- an action: an eval begins with e
unfoldable pub action : Reader Process → Scope → Reader Action
action inner x = look (λ b. choose (eqb b 101) (evaluation inner x) (simple x))

-- (P | P)
unfoldable pub forked : Reader Process → Reader Process
forked inner = do
  byte 40
  p ← inner
  word (bytes " | ")
  q ← inner
  byte 41
  pure (fork p q)

-- nil
unfoldable pub stopped : Reader Process
stopped = word (bytes "nil") >> pure nil

unfoldable pub called : Reader Process
called = do
  k ← named
  pure (name k)

-- what ends a chain of actions, by its first two bytes: a name, a bracket, or nil rather than newloc
unfoldable pub ends_chain : ℕ → ℕ → Bool
ends_chain b next = choose (eqb b 65) true (choose (eqb b 40) true (both (eqb b 110) (eqb next 105)))

unfoldable pub ended : Reader Process → Reader Process
ended inner = look (λ b. choose (eqb b 65) called (choose (eqb b 40) (forked inner) stopped))

-- an action, a dot (46), and what follows
unfoldable pub acting : Reader Process → Reader Process → Scope → Reader Process
acting inner rest x = do
  a ← action inner x
  byte 46
  p ← rest
  pure (act a p)

-- actions, each followed by a dot, and the end of their chain: at most k of them
unfoldable pub chain : ℕ → Reader Process → Scope → Reader Process
chain zero inner x = fail 31
chain (suc k) inner x = λ s p.
    choose (ends_chain (byte_at s p) (byte_at s (p + 1))) (ended inner) (acting inner (chain k inner x) x) s p

-- a process inside brackets and evals, which with it are d levels; where none is left it is 32. No chain has more actions
-- than the text has bytes
unfoldable pub process_at : ℕ → Scope → Reader Process
process_at zero x = fail 32
process_at (suc d) x = λ s p. chain (length s) (process_at d x) x s p

-- P: 32 levels of brackets and evals, and the one outside them
unfoldable pub process : Scope → Reader Process
process x = process_at 33 x
