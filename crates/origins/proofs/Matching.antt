-- What an instruction of a process asks for, and how a template is met, do not look at the process's origin
-- (`Matching.antt` of `matching`, opened here, and `Request.antt` of `plans`). Assumes nothing.
use Prim.Native.Nat.{ℕ, zero, suc}
use mathlib.Core.Path.{◌≡◌, refl, sym, ap, ◌∙◌}
use mathlib.Core.Bool.{Bool, true, false}
use lib.Dec.{ltb}
use lib.ListN.{set, replicate}
use Rattle.std.specs.Prelude.{Option, Some, None}
use Rattle.net.specs.Choice.{choose, implies, all, fold}
use Rattle.net.specs.Records.{variable_at, pattern_at, tuple_at, field_at}
use Rattle.matching.specs.Matching.{want_at, defined_field, want_of, zero_wanted, wants_of, evaluated_of}
use Rattle.matching.specs.Matching.{oldest_of, bound_field, bound_of, bound_at, matched_of}
use Rattle.plans.specs.Request.{target_of, at, spoken, asked, request_of}
use Rattle.step.specs.Types.{Locality, Item, Tuple, Process, Node, Target, Pattern, Action, Instruction}
use Rattle.step.specs.Types.{Want, Evaluated, Request}
use Rattle.origins.proofs.Forgetting.{forget_process, forget_node, forget_variable}

-- ---- asking
module _ (a : Locality) (p : Process) where
  defined_same : (x : Pattern) → defined_field (forget_process p) x ≡ defined_field p x
  unfolding defined_field variable_at forget_process
  defined_same (Pattern.Reading x) = refl
  defined_same (Pattern.Address l) = refl
  defined_same Pattern.Own = refl
  defined_same (Pattern.Held v) = refl
  defined_same (Pattern.FormalReading v) = refl
  defined_same (Pattern.FormalAddress v) = refl

  want_same : (x : Pattern) → want_of a (forget_process p) x ≡ want_of a p x
  unfolding want_of variable_at forget_process
  want_same (Pattern.Reading x) = refl
  want_same (Pattern.Address l) = refl
  want_same Pattern.Own = refl
  want_same (Pattern.Held v) = refl
  want_same (Pattern.FormalReading v) = refl
  want_same (Pattern.FormalAddress v) = refl

  pub evaluated_same : (c : Instruction) → evaluated_of a (forget_process p) c ≡ evaluated_of a p c
  unfolding evaluated_of wants_of
  evaluated_same c i = record {
    defined = all 4 (λ k. implies (ltb k c.count) (defined_same (pattern_at c k) i));
    count = c.count;
    wants =
        fold 4
        (λ k ws. choose (ltb k c.count) (set ws k (record { want = want_same (pattern_at c k) i })) ws)
        (replicate 4 zero_wanted);
  }

  target_same : (t : Target) → target_of a (forget_process p) t ≡ target_of a p t
  unfolding target_of variable_at forget_process
  target_same (Target.Written l) = refl
  target_same Target.Own = refl
  target_same (Target.Held v) = refl

  asked_same : (e : Evaluated) (x : Action) → asked a (forget_process p) e x ≡ asked a p e x
  unfolding asked
  asked_same e Action.Stop = refl
  asked_same e (Action.Out t q) = ap (λ (m : Option Locality). spoken e m (λ l. Request.Out l q)) (target_same t)
  asked_same e (Action.In t q) = ap (λ (m : Option Locality). spoken e m (λ l. Request.In l q)) (target_same t)
  asked_same e (Action.Read t q) = ap (λ (m : Option Locality). spoken e m (λ l. Request.Read l q)) (target_same t)
  asked_same e (Action.Eval t sent q) = ap (λ (m : Option Locality). at m (λ l. Request.Eval l sent q)) (target_same t)
  asked_same e (Action.New v q) = refl
  asked_same e (Action.Fork q r) = refl
  asked_same e (Action.OutAll g q) = refl

  pub request_same : (c : Instruction) → request_of a (forget_process p) c ≡ request_of a p c
  unfolding request_of
  request_same c =
      asked_same _ c.action ∙ ap (λ (e : Evaluated). asked a p e c.action) (evaluated_same c)

-- ---- meeting a tuple
fold_through :
    {A : Type 0} (g : A → A) (f : ℕ → A → A) → ((i : ℕ) (x : A) → g (f i x) ≡ f i (g x))
    → (n : ℕ) (x : A) → g (fold n f x) ≡ fold n f (g x)
unfolding fold
fold_through g f e zero x = refl
fold_through g f e (suc n) x = e n _ ∙ ap (f n) (fold_through g f e n x)

bound_field_law : (p : Process) (x : Item) (w : Want) → forget_process (bound_field p x w) ≡ bound_field (forget_process p) x w
unfolding bound_field
bound_field_law p x (Want.Exactly y) = refl
bound_field_law p x (Want.AnyReading v) = forget_variable p v _
bound_field_law p x (Want.AnyAddress v) = forget_variable p v _

bound_turn :
    (b : Bool) (p : Process) (x : Item) (w : Want)
    → forget_process (choose b (bound_field p x w) p) ≡ choose b (bound_field (forget_process p) x w) (forget_process p)
unfolding choose
bound_turn true p x w = bound_field_law p x w
bound_turn false p x w = refl

bound_forget : (p : Process) (t : Tuple) (e : Evaluated) → forget_process (bound_of p t e) ≡ bound_of (forget_process p) t e
unfolding bound_of
bound_forget p t e = fold_through forget_process _ (λ i q. bound_turn (ltb i e.count) q (field_at t i) (want_at e i)) 4 p

bound_at_law :
    (f : Option ℕ) (p : Process) (x : Node) (e : Evaluated)
    → bound_at f (forget_process p) (forget_node x) e ≡ forget_process (bound_at f p x e)
unfolding bound_at tuple_at forget_node
bound_at_law (Some i) p x e = sym (bound_forget p (tuple_at x i) e)
bound_at_law None p x e = refl

oldest_same : (x : Node) (e : Evaluated) → oldest_of (forget_node x) e ≡ oldest_of x e
unfolding oldest_of tuple_at forget_node
oldest_same x e = refl

module _ (p : Process) (x : Node) (e : Evaluated) where
  pub found_same : (matched_of (forget_process p) (forget_node x) e).found ≡ (matched_of p x e).found
  unfolding matched_of
  found_same = oldest_same x e

  pub matched_forget : (matched_of (forget_process p) (forget_node x) e).process ≡ forget_process (matched_of p x e).process
  unfolding matched_of
  matched_forget =
      ap (λ (f : Option ℕ). bound_at f (forget_process p) (forget_node x) e) (oldest_same x e) ∙ bound_at_law (oldest_of x e) p x e
