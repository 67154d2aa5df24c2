-- `lean::engine::ran` meets its contract: in what follows made, loaded and held are what is known after the call that makes the picks,
-- after the one that loads, and before it. Assumes nothing.
use Rattle.lean.proofs.Joined.{held_length, ran_net, ran_answers}
use borrow.Author.Rules.{rules}
use Rattle.lean.proofs.engine.ran.Statement.{statement}
use Rattle.lean.proofs.engine.ran.Tie as tie

pub ran_spec : {M : Type 1} → statement M
ran_spec =
    tie.close
    (tie.spec
    (λ c κs. search rules)
    (λ c κs. (search (rules, held_length), search rules))
    (λ c κs. search rules)
    (λ c. search rules)
    (λ c.
    let made = c.before.before.before.before.before.before.before in
    let loaded = made.before.before.before.before.before.before.before in
    let words = loaded.load.ensures in
    let held = loaded.before.before.before.before.before.before.before in (
      ran_net _ _ _ _ _ _ _ _ _ _ _ c.decode.ensures made.make_with.ensures words.0 words.1.0 words.1.1.0
          words.1.1.1 held.well_formed.0 held.requires.0,
      ran_answers _ _ _ _ _ _ _ _ _ _ made.make_with.ensures words.0 words.1.0 words.1.1.0 words.1.1.1
          held.well_formed.0 held.requires.0,
    )))
