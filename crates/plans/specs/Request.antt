-- What an instruction asks for, once its variables are read, and whether a row grants it (document 01, "One pick",
-- "Reaching and rights").
pub use Rattle.plans.specs.declared.request.Request.{Request}
use Rattle.std.specs.Prelude.{Bool, true, false, List, [], ◌∷◌, Option, Some, None}
use Rattle.net.specs.Choice.{choose}
use Rattle.net.specs.Records.{variable_at}
use Rattle.matching.specs.Matching.{evaluated_of}
use Rattle.keeping.specs.Keeping.{may_take, may_read, may_put, may_put_all, may_send, may_create}
use Rattle.net.specs.Groups.{members_of}
use Rattle.plans.specs.Types.{Locality, Value, Process, Row, Target, Action, Instruction, Evaluated}

-- the address that a variable holds
unfoldable pub aim_of : Value → Option Locality
aim_of Value.Unset = None
aim_of (Value.Reading x) = None
aim_of (Value.Address l) = Some l

-- where a target of a process hosted at a points
unfoldable pub target_of : Locality → Process → Target → Option Locality
target_of a p (Target.Written l) = Some l
target_of a p Target.Own = Some a
target_of a p (Target.Held v) = aim_of (variable_at p v)

-- the request at an address, where the target points to one
unfoldable pub at : Option Locality → (Locality → Request) → Request
at (Some l) f = f l
at None f = Request.Lack

-- the request at the target of an out, an in or a read, whose template has to be defined
unfoldable pub spoken : Evaluated → Option Locality → (Locality → Request) → Request
spoken e aim f = choose e.defined (at aim f) Request.Lack

unfoldable pub asked : Locality → Process → Evaluated → Action → Request
asked a p e Action.Stop = Request.Stop
asked a p e (Action.Out t q) = spoken e (target_of a p t) (λ l. Request.Out l q)
asked a p e (Action.In t q) = spoken e (target_of a p t) (λ l. Request.In l q)
asked a p e (Action.Read t q) = spoken e (target_of a p t) (λ l. Request.Read l q)
asked a p e (Action.Eval t sent q) = at (target_of a p t) (λ l. Request.Eval l sent q)
asked a p e (Action.New v q) = Request.New v q
asked a p e (Action.Fork q r) = Request.Fork q r
asked a p e (Action.OutAll g q) = choose e.defined (Request.OutAll g q) Request.Lack

-- what the instruction c asks for in the process p hosted at a
unfoldable pub request_of : Locality → Process → Instruction → Request
request_of a p c = asked a p (evaluated_of a p c) c.action

-- a row has the right of the request
unfoldable pub granted : Row → Request → Bool
granted r Request.Lack = true
granted r Request.Stop = true
granted r (Request.Out l q) = may_put r l
granted r (Request.In l q) = may_take r l
granted r (Request.Read l q) = may_read r l
granted r (Request.Eval l sent q) = may_send r l
granted r (Request.New v q) = may_create r
granted r (Request.Fork q r') = true
granted r (Request.OutAll g q) = may_put_all r g

-- the addresses that a request names beside its host
unfoldable pub targets : Request → List Locality
targets Request.Lack = []
targets Request.Stop = []
targets (Request.Out l q) = l ∷ []
targets (Request.In l q) = l ∷ []
targets (Request.Read l q) = l ∷ []
targets (Request.Eval l sent q) = l ∷ []
targets (Request.New v q) = []
targets (Request.Fork q r) = []
targets (Request.OutAll g q) = members_of g

-- the request is for a new address, which it does not name
unfoldable pub is_new : Request → Bool
is_new Request.Lack = false
is_new Request.Stop = false
is_new (Request.Out l q) = false
is_new (Request.In l q) = false
is_new (Request.Read l q) = false
is_new (Request.Eval l sent q) = false
is_new (Request.New v q) = true
is_new (Request.Fork q r) = false
is_new (Request.OutAll g q) = false
