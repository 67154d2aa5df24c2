-- The target of an action on words (`aim_of` of `specs/Actions.antt`): what a seat knows of its process, and what the lean step comes to
-- where a variable lacks, where the right at a target in a variable is not held, and where the action reaches an address.
-- Assumes nothing.
use Prim.Native.Nat.{ℕ, ◌<◌, ◌≤◌, ◌%◌}
use mathlib.Core.Path.{◌≡◌, refl, sym, ap, ap₂, subst, ◌∙◌}
use mathlib.Core.Bool.{Bool, true, false, not}
use mathlib.Core.List.{List, []}
use native.Mathlib.Omega.{arith}
use lib.Dec.{ltb, leb}
use lib.ListN.{get_or}
use borrow.Author.Tests.{ltb-true, lt-leb}
use Rattle.std.specs.Prelude.{Some, None}
use Rattle.net.specs.Choice.{choose, both}
use Rattle.net.specs.Records.{address_of, node_at, row_for, variable_at}
use Rattle.net.proofs.NodeLaws.{row_in_law}
use Rattle.matching.specs.declared.template.Evaluated.{Evaluated}
use Rattle.matching.specs.Matching.{evaluated_of}
use Rattle.sound.specs.Soundness.{value_sound, target_sound}
use Rattle.sound.proofs.CodeFacts.{Acts}
use Rattle.plans.specs.declared.request.Request.{Request}
use Rattle.plans.specs.Request.{target_of, at, spoken, asked, request_of, granted}
use Rattle.step.specs.Pick.{unchanged, carried_out, acting}
use Rattle.lean_step.specs.LeanStep.{in_variable, at_variable, lean_acting, lean_process_step}
use Rattle.lean_words.specs.Items.{address_in, value_in}
use Rattle.lean_words.specs.Processes.{busy_in}
use Rattle.lean_words.specs.Rights.{row_in, grants_flags}
use Rattle.lean_code.specs.Fields.{word_from, template_words, defined_words}
use Rattle.lean_code.specs.Heads.{target_written, target_from, action_words, head_words}
use Rattle.lean_code.specs.Ranged.{RangedSlot}
use Rattle.lean_code.proofs.WordLaws.{value_address}
use Rattle.lean_code.proofs.FieldLaws.{from_code, from_host, from_variable, target_in_law}
use Rattle.lean_code.proofs.Rewritten.{busy_in_law, variable_in_law}
use Rattle.lean_code.proofs.TemplateLaws.{Fielded, fielded, defined_in_law}
use Rattle.lean.specs.Types.{Locality, Process, Row, Target, Action, Instruction, Net, Answer, Picked}
use Rattle.lean.specs.Words.{Words, net_in}
use Rattle.lean.specs.Actions.{aim_at, aim_of, target_in}
use Rattle.lean.specs.Standing.{Seated}
use Rattle.lean.proofs.Frame.{slot_in, row_at_law}
use Rattle.lean.proofs.Seats.{net_ok, nodes_are, seat_host, seat_running, seat_instruction}

-- ---- what a seat knows of its process
module _ (start : Net) (w : Words) (a k : ℕ) (ws : List ℕ) (p : Process) (c : Instruction) (seat : Seated start w a k ws p c) where
  pub seat_few : w.count ≤ 16
  unfolding net_in
  seat_few = (net_ok start w seat.stands).addresses_most

  pub seat_ranged : RangedSlot ws
  seat_ranged =
      subst RangedSlot (sym (slot_in w.slots a k (seat_host start w a k ws p c seat) seat.slot) ∙ seat.words_are)
      (seat.stands.ranged.slots_in.each a k (seat_host start w a k ws p c seat) seat.slot)

  pub seat_values : (v : ℕ) → v < 8 → variable_at p v ≡ value_in (get_or ws v 0)
  seat_values v l = ap (λ (q : Process). variable_at q v) (sym seat.decoded) ∙ variable_in_law ws v seat.busy l

  pub seat_fields : Fielded w.count c
  seat_fields = fielded start.format w.count start.length c (seat_instruction start w a k ws p c seat)

  -- its origin's word, and its row
  pub seat_origin : p.origin.0 ≡ get_or ws 9 0
  unfolding busy_in address_in
  seat_origin =
      let l = seat_ranged.origin in
      let e : get_or ws 9 0 % 256 ≡ get_or ws 9 0 = omega arith in
      ap (λ (q : Process). q.origin.0) (sym seat.decoded ∙ busy_in_law ws seat.busy) ∙ e

  pub seat_row :
      row_for (node_at (net_in start w) (address_of a)) p
      ≡ row_in (get_or (get_or w.rows (a % 16) []) (get_or ws 9 0 % 16) [])
  seat_row =
      let host = seat_host start w a k ws p c seat in
      let o : p.origin.0 < w.count = (seat_running start w a k ws p c seat).origin_ok in
      let same = seat_origin in
      let near : a % 16 ≡ a = omega arith in
      let low : get_or ws 9 0 % 16 ≡ p.origin.0 = omega (arith, seat_few) in
      sym (row_in_law (node_at (net_in start w) (address_of a)) p (omega (arith, seat_few)))
      ∙ row_at_law start (nodes_are start w seat.stands) w a host p.origin.0 (omega (arith, seat_few))
      ∙ ap₂ (λ (i j : ℕ). row_in (get_or (get_or w.rows i []) j [])) (sym near) (sym low)

  -- an address that a target points to is in use
  seat_sound : (v : ℕ) → v < 8 → value_sound w.count (variable_at p v) ≡ true
  unfolding variable_at
  seat_sound v l = (seat_running start w a k ws p c seat).values.holds v l

  held_below : (v : ℕ) → v < 8 → get_or ws v 0 < 256 → get_or ws v 0 < w.count
  unfolding value_sound
  held_below v l h =
      ltb-true (get_or ws v 0) w.count
      (sym (ap (value_sound w.count) (seat_values v l ∙ value_address (get_or ws v 0) h)) ∙ seat_sound v l)

  target_below :
      (t : Target) → target_sound w.count t ≡ true → word_from ws a (target_from t) (target_written t) < 256
      → word_from ws a (target_from t) (target_written t) < w.count
  unfolding target_from target_written target_sound
  target_below (Target.Written l) s h = rw (from_code ws a l.0) (ltb-true l.0 w.count s)
  target_below Target.Own s h = rw (from_host ws a 0) seat.used
  target_below (Target.Held v) s h =
      let l : v < 8 = ltb-true v 8 s in
      let e : word_from ws a v 0 ≡ get_or ws v 0 = from_variable ws a v 0 l in
      rw e (held_below v l (omega arith))

  -- a target in a variable comes from a word below 9, and no other does
  from_high : (t : Target) → target_sound w.count t ≡ true → leb 9 (target_from t) ≡ not (in_variable t)
  unfolding target_from target_sound in_variable
  from_high (Target.Written l) s = refl
  from_high Target.Own s = refl
  from_high (Target.Held v) s = lt-leb 9 v (omega (arith, ltb-true v 8 s))

  -- ---- its action
  pub seat_acts : (x : Action) → c.action ≡ x → Acts start.format w.count start.length x c
  seat_acts x act =
      subst (λ (y : Action). Acts start.format w.count start.length y c) act (seat_instruction start w a k ws p c seat)

  pub seat_head : (x : Action) (i : ℕ) → c.action ≡ x → get_or (head_words c) i 0 ≡ get_or (action_words c.count x) i 0
  unfolding head_words
  seat_head x i act = ap (λ (y : Action). get_or (action_words c.count y) i 0) act

  pub seat_asks : (x : Action) → c.action ≡ x → request_of (address_of a) p c ≡ asked (address_of a) p (evaluated_of (address_of a) p c) x
  unfolding request_of
  seat_asks x act = ap (asked (address_of a) p (evaluated_of (address_of a) p c)) act

-- ---- two choices by one test
module _ {A B : Type 0} (R : A → B → Type 0) where
  pub alike : (t : Bool) (x y : A) (u v : B) → (t ≡ true → R x u) → (t ≡ false → R y v) → R (choose t x y) (choose t u v)
  unfolding choose
  alike true x y u v f g = f refl
  alike false x y u v f g = g refl

-- ---- what the lean step comes to, by the target's word
module _
    (start : Net) (w : Words) (a k : ℕ) (ws : List ℕ) (p : Process) (c : Instruction) (seat : Seated start w a k ws p c)
    (t : Target) (f : Locality → Request) (right : ℕ)
    (at_from : get_or (head_words c) 2 0 ≡ target_from t) (at-written : get_or (head_words c) 1 0 ≡ target_written t)
    (sound : target_sound w.count t ≡ true)
    (asks : request_of (address_of a) p c ≡ spoken (evaluated_of (address_of a) p c) (target_of (address_of a) p t) f)
    (looks : at_variable c.action ≡ in_variable t)
    (grants : (fs : List Bool) (l : ℕ) → l < 16 → grants_flags fs l right ≡ granted (row_in fs) (f (address_of l)))
    (P : ℕ → Picked → Type 0)
    (lacks : P 22 (unchanged Answer.NotSet (net_in start w)))
    (barred : P 20 (unchanged Answer.NoRight (net_in start w)))
    (reaches : (l : ℕ) → l < w.count → defined_words ws (template_words c) ≡ true
    → P l (carried_out (net_in start w) (address_of a) k p (evaluated_of (address_of a) p c) (f (address_of l))))
  where
    abbrev s : Net
    s = net_in start w

    abbrev e : Evaluated
    e = evaluated_of (address_of a) p c

    abbrev x : ℕ
    x = word_from ws a (target_from t) (target_written t)

    abbrev fs : List Bool
    fs = get_or (get_or w.rows (a % 16) []) (get_or ws 9 0 % 16) []

    -- the step of a request, at a variable or not
    stepping : Bool → Request → Picked
    stepping b r = choose b (acting s (address_of a) k p e r) (carried_out s (address_of a) k p e r)

    step_is : lean_process_step s (address_of a) k p c ≡ stepping (in_variable t) (spoken e (target_of (address_of a) p t) f)
    unfolding lean_process_step lean_acting stepping
    step_is = rw (looks, asks)

    lack_is : (b : Bool) → stepping b Request.Lack ≡ unchanged Answer.NotSet s
    unfolding stepping acting granted carried_out choose
    lack_is true = refl
    lack_is false = refl

    -- the right at a target in a variable
    granted_is : x < 256 → grants_flags fs (x % 16) right ≡ granted (row_for (node_at s (address_of a)) p) (f (address_of x))
    granted_is h =
        let below = target_below start w a k ws p c seat t sound h in
        let few = seat_few start w a k ws p c seat in
        let near : x % 16 ≡ x = omega arith in
        ap (λ (i : ℕ). grants_flags fs i right) near
        ∙ grants fs x (omega arith)
        ∙ ap (λ (r : Row). granted r (f (address_of x))) (sym (seat_row start w a k ws p c seat))

    reached :
        (b : Bool) → x < 256 → defined_words ws (template_words c) ≡ true
        → P (choose (not b) (x % 16) (choose (grants_flags fs (x % 16) right) (x % 16) 20)) (stepping b (f (address_of x)))
    unfolding stepping choose acting
    reached b h known = go b
      where
        below : x < w.count
        below = target_below start w a k ws p c seat t sound h

        here : P (x % 16) (carried_out s (address_of a) k p e (f (address_of x)))
        here =
            let few = seat_few start w a k ws p c seat in
            let l = below in
            let near : x % 16 ≡ x = omega arith in
            subst (λ (i : ℕ). P i (carried_out s (address_of a) k p e (f (address_of x)))) (sym near) (reaches x below known)

        go :
            (b : Bool)
            → P (choose (not b) (x % 16) (choose (grants_flags fs (x % 16) right) (x % 16) 20)) (stepping b (f (address_of x)))
        go false = here
        go true =
            subst
            (λ (g : Bool). P (choose g (x % 16) 20) (stepping true (f (address_of x))))
            (sym (granted_is h))
            (alike P (granted (row_for (node_at s (address_of a)) p) (f (address_of x))) _ _ _ _ (λ _. here) (λ _. barred))

    -- by what the words know
    by_word :
        (known far : Bool) → defined_words ws (template_words c) ≡ known → ltb x 256 ≡ far
        → P (choose (both known far) (choose (not (in_variable t)) (x % 16) (choose (grants_flags fs (x % 16) right) (x % 16) 20)) 22)
        (stepping (in_variable t) (choose known (at (choose far (Some (address_of x)) None) f) Request.Lack))
    unfolding both choose at
    by_word false far d h = subst (P 22) (sym (lack_is (in_variable t))) lacks
    by_word true false d h = subst (P 22) (sym (lack_is (in_variable t))) lacks
    by_word true true d h = reached (in_variable t) (ltb-true x 256 h) d

    pub aimed :
        P (target_in w.slots w.rows (head_words c) (template_words c) a k right) (lean_process_step s (address_of a) k p c)
    unfolding target_in aim_of aim_at spoken
    aimed =
        let defined = defined_in_law w.count a ws p (seat_few start w a k ws p c seat) seat.used (seat_ranged start w a k ws p c seat)
        (seat_values start w a k ws p c seat) c (seat_fields start w a k ws p c seat) in
        let target = target_in_law w.count a ws p (seat_few start w a k ws p c seat) seat.used (seat_ranged start w a k ws p c seat)
        (seat_values start w a k ws p c seat) t sound in
        rw (seat.words_are, at_from, at-written, from_high start w a k ws p c seat t sound, step_is, target, ← defined)
        (by_word _ _ refl refl)
