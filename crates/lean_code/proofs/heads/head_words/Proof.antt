-- `lean_code::heads::head_words` meets its contract. Assumes nothing.
use Rattle.lean_code.specs.Heads.{action_words, head_words}
use Rattle.lean_code.proofs.CaseLaws.{in_case_2}
use Rattle.lean_code.proofs.HeadLaws.{alone_other, aimed_other}
use borrow.Author.Rules.{rules}
use Rattle.lean_code.proofs.heads.head_words.Statement.{statement}
use Rattle.lean_code.proofs.heads.head_words.Tie as tie

pub head_words_spec : {M : Type 1} → statement M
unfolding action_words head_words
head_words_spec =
    tie.close
    (tie.spec
    (λ c. search rules)
    (λ c κs. search rules)
    (λ c. search rules)
    (λ c κs. search rules)
    (λ c. search rules)
    (λ c κs. search rules)
    (λ c. search rules)
    (λ c κs. search rules)
    (λ c. search rules)
    (λ c κs. search rules)
    (λ c κs. search rules)
    (λ c. search rules)
    (λ c κs. search rules)
    (λ c κs. search rules)
    (λ c. search rules)
    (λ c κs. search rules)
    (λ c κs. search rules)
    (λ c. search rules)
    (λ c κs. search rules)
    (λ c. search (rules, in_case_2 action_words))
    (λ c. search (rules, in_case_2 action_words))
    (λ c. search (rules, in_case_2 action_words))
    (λ c. search (rules, in_case_2 action_words))
    (λ c. search (rules, in_case_2 action_words, aimed_other))
    (λ c. search (rules, in_case_2 action_words, alone_other))
    (λ c. search (rules, in_case_2 action_words, alone_other))
    (λ c. search (rules, in_case_2 action_words)))
