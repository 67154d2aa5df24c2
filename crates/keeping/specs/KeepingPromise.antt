-- What keeping promises to the crates above it (document 01, "Reaching and rights"). The proofs of `step` and `run` cite
-- these clauses, and open no definition of `Keeping.antt` or `Reaching.antt`; `accepted` cites `AdmitsIsWithin`
-- (`AdmissionClaims.antt`). `tenant` opens the rights of a row, `writer` what its longest image keeps to, and `edges` all,
-- to compute the starred edges.
use Rattle.std.specs.Prelude.{ℕ, ◌<◌, ◌≤◌, ◌≡◌, ◌↔◌, true, List}
use Rattle.net.specs.Choice.{choose}
use Rattle.keeping.specs.Types.{Locality, Place, Row, Instruction}
use Rattle.net.specs.Records.{rights_at, instruction_at}
use Rattle.keeping.specs.Reaching.{Follows, Reaches}
use Rattle.keeping.specs.Keeping.{may_take, may_read, may_put, may_send, may_create, permits, keeps_of}

pub record KeepingPromise : Type 0 where
  -- "A policy row at a node has the right n and, for each address, any of i, r, o, e", and i includes r (document 02, slip 6)
  pub takes : (r : Row) (l : Locality) → may_take r l ≡ (rights_at r l).take
  pub reads : (r : Row) (l : Locality) → may_read r l ≡ choose (rights_at r l).take true (rights_at r l).read
  pub puts : (r : Row) (l : Locality) → may_put r l ≡ (rights_at r l).put
  pub sends : (r : Row) (l : Locality) → may_send r l ≡ (rights_at r l).send
  pub creates : (r : Row) → may_create r ≡ r.create
  -- "Code keeps within the row of address a when every reached out, in, read and eval ... has its right": the computed
  -- test says just that of code whose first k instructions lead to no place past them, whatever stands there
  pub keeps :
      (code : List Instruction) (k : ℕ)
      → k ≤ 512
      → ((p q : Place) → p.0 < k → Follows q (instruction_at code p).action → q.0 < k)
      → (p : Place) (a : Locality) (r : Row)
      → p.0 < k
      → (keeps_of code p a r ≡ true)
      ↔ ((q : Place) → Reaches code p q → permits r a (instruction_at code q).action ≡ true)
