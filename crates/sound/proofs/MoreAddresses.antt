-- What is sound with m addresses is sound with more: a node (`node_more`) and an instruction (`instruction_more`).
-- Assumes nothing.
use Prim.Native.Nat.{ℕ, ◌≤◌}
use mathlib.Core.Path.{◌≡◌, refl}
use mathlib.Core.Bool.{Bool, true}
use mathlib.Core.List.{List}
use native.Mathlib.Omega.{arith}
use lib.Dec.{ltb}
use borrow.Author.Tests.{ltb-true, lt-ltb}
use Rattle.sound.specs.Types.{Value, Item, Tuple, Row, Process, Node, Target, Pattern, Action, Instruction}
use Rattle.sound.specs.Soundness.{item_sound, value_sound, target_sound, group_sound, pattern_sound}
use Rattle.net.specs.declared.locality.Group.{Group}
use Rattle.net.proofs.GroupLaws.{members_map}
use Rattle.net.proofs.Every.{every_weaken, filled_map}
use Rattle.sound.proofs.NodeFacts.{TupleOk, RowOk, RowsOk, Running, ProcessOk, NodeOk}
use Rattle.sound.proofs.CodeFacts.{TemplateOk, Tested, Acts, InstructionOk}

module _ (m n : ℕ) (l : m ≤ n) where
  below_more : (a : ℕ) → ltb a m ≡ true → ltb a n ≡ true
  below_more a h = lt-ltb a n (omega (arith, ltb-true a m h))

  -- ---- nodes
  item_more : (x : Item) → item_sound m x ≡ true → item_sound n x ≡ true
  unfolding item_sound
  item_more (Item.Reading x) h = refl
  item_more (Item.Address a) h = below_more a.0 h

  tuple_more : (t : Tuple) → TupleOk m t → TupleOk n t
  tuple_more t ok = record {
    mark_ok = omega (arith, ok.mark_ok);
    least = ok.least;
    most = ok.most;
    fields_ok = filled_map (λ f. item_more f.item) (λ f e. e) ok.fields_ok;
  }

  value_more : (x : Value) → value_sound m x ≡ true → value_sound n x ≡ true
  unfolding value_sound
  value_more Value.Unset h = refl
  value_more (Value.Reading x) h = refl
  value_more (Value.Address a) h = below_more a.0 h

  pub running_more : (k : ℕ) (p : Process) → Running m k p → Running n k p
  running_more k p r = record {
    is_busy = r.is_busy;
    place = r.place;
    origin_ok = omega (arith, r.origin_ok);
    values = every_weaken r.values (λ v x. value_more x.value);
  }

  process_more : (k : ℕ) (p : Process) → ProcessOk m k p → ProcessOk n k p
  process_more k p ok = record { running = λ e. running_more k p (ok.running e); free = ok.free }

  pub row_more : (r : Row) → RowOk m r → RowOk n r
  row_more r ok = every_weaken ok (λ a x g. record { used = λ _. tt; unused = λ u. g.unused (omega arith) })

  pub rows_more : (f : ℕ) (rows : List Row) → RowsOk f m rows → RowsOk f n rows
  rows_more f rows ok = record {
    each_ok = every_weaken ok.each_ok (λ o. row_more);
    as_first = ok.as_first;
    barred = λ e o u h. ok.barred e o (omega arith) h;
  }

  pub node_more : (f k : ℕ) (x : Node) → NodeOk f m k x → NodeOk f n k x
  node_more f k x ok = record {
    rows_ok = rows_more f x.rows ok.rows_ok;
    processes_ok = every_weaken ok.processes_ok (λ i. process_more k);
    room = ok.room;
    tuples_ok = filled_map tuple_more (λ t e. e) ok.tuples_ok;
  }

  -- ---- instructions
  target_more : (t : Target) → target_sound m t ≡ true → target_sound n t ≡ true
  unfolding target_sound
  target_more (Target.Written a) h = below_more a.0 h
  target_more Target.Own h = refl
  target_more (Target.Held v) h = h

  group_more : (g : Group) → group_sound m g ≡ true → group_sound n g ≡ true
  unfolding group_sound
  group_more g h = members_map g _ _ (λ l. below_more l.0) h

  pattern_more : (x : Pattern) → pattern_sound m x ≡ true → pattern_sound n x ≡ true
  unfolding pattern_sound
  pattern_more (Pattern.Reading x) h = refl
  pattern_more (Pattern.Address a) h = below_more a.0 h
  pattern_more Pattern.Own h = refl
  pattern_more (Pattern.Held v) h = h
  pattern_more (Pattern.FormalReading v) h = h
  pattern_more (Pattern.FormalAddress v) h = h

  template_more : (c : Instruction) → TemplateOk m c → TemplateOk n c
  template_more c ok = record {
    least = ok.least;
    most = ok.most;
    patterns_ok = filled_map (λ f. pattern_more f.pattern) (λ f e. e) ok.patterns_ok;
  }

  tested_more : (test : ℕ → Pattern → Bool) (c : Instruction) → Tested test m c → Tested test n c
  tested_more test c ok = record { template_ok = template_more c ok.template_ok; each = ok.each }

  acts_more : (f k : ℕ) (c : Instruction) (a : Action) → Acts f m k a c → Acts f n k a c
  unfolding Acts
  acts_more f k c Action.Stop b = b
  acts_more f k c (Action.Out t p) (e, h, ok) = (target_more t e, h, tested_more _ c ok)
  acts_more f k c (Action.In t p) (e, h, ok) = (target_more t e, h, tested_more _ c ok)
  acts_more f k c (Action.Read t p) (e, h, ok) = (target_more t e, h, tested_more _ c ok)
  acts_more f k c (Action.Eval t sent p) (e, g, h, b) = (target_more t e, g, h, b)
  acts_more f k c (Action.New v p) ok = ok
  acts_more f k c (Action.Fork p q) ok = ok
  acts_more f k c (Action.OutAll g p) (e, h, l, ok) = (e, group_more g h, l, tested_more _ c ok)

  pub instruction_more : (f k : ℕ) (c : Instruction) → InstructionOk f m k c → InstructionOk f n k c
  instruction_more f k c = acts_more f k c c.action
