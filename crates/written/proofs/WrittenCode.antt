-- Instructions (`specs/Instruction.antt`, `specs/ImageOf.antt`, 5): what is read is what is written.
-- Assumes nothing.
use Prim.Native.Nat.{ℕ, zero, suc, ◌+◌, ◌<◌, ◌≤◌}
use mathlib.Core.Path.{◌≡◌, refl, sym, ap, subst, ◌∙◌}
use mathlib.Core.Bool.{Bool, true, false}
use mathlib.Core.List.{List, [], ◌∷◌, ◌++◌}
use native.Mathlib.Omega.{arith}
use lib.Dec.{eqb}
use Rattle.net.specs.Choice.{choose}
use Rattle.net.specs.declared.locality.Group.{Group}
use Rattle.written.specs.Types.{Place, Target, Action, Instruction}
use Rattle.net.specs.Records.{place_of, zero_instruction, with_action, pattern_at}
use Rattle.sound.specs.Soundness.{target_sound, group_sound}
use Rattle.readers.specs.Reader.{Reader, pure, alternative, ◌>>=◌}
use Rattle.bitreader.specs.Fields.{place}
use Rattle.instructions.specs.Instruction.{template, communication, evaluation, forking}
use Rattle.instructions.specs.Instruction.{creation, group, spreading, actions_in, instruction}
use Rattle.written.specs.ImageOf.{bits_of, place_bits, variable_bits, target_bits, template_bits, action_bits, instruction_bits}
use Rattle.written.proofs.ReadsWrites.{Reads, Ranged, reads_map, reads_pure, reads_field, reads_bits}
use Rattle.written.proofs.ReadsParts.{reads_in, reads_tested}
use Rattle.written.proofs.WrittenFields.{reads_place, reads_variable}
use Rattle.written.proofs.WrittenPatterns.{reads_target}
use Rattle.written.proofs.WrittenTemplate.{TemplateOk, reads_template}

-- ---- the parts of an action
target_of : Action → Target
target_of Action.Stop = Target.Own
target_of (Action.Out t p) = t
target_of (Action.In t p) = t
target_of (Action.Read t p) = t
target_of (Action.Eval t sent p) = t
target_of (Action.New v p) = Target.Own
target_of (Action.Fork p q) = Target.Own
target_of (Action.OutAll g p) = Target.Own

group_of : Action → Group
group_of Action.Stop = record { 0 = 0 }
group_of (Action.Out t p) = record { 0 = 0 }
group_of (Action.In t p) = record { 0 = 0 }
group_of (Action.Read t p) = record { 0 = 0 }
group_of (Action.Eval t sent p) = record { 0 = 0 }
group_of (Action.New v p) = record { 0 = 0 }
group_of (Action.Fork p q) = record { 0 = 0 }
group_of (Action.OutAll g p) = g

-- the place before the last one: what an eval sends, where a fork goes first
first_of : Action → Place
first_of Action.Stop = place_of 0
first_of (Action.Out t p) = p
first_of (Action.In t p) = p
first_of (Action.Read t p) = p
first_of (Action.Eval t sent p) = sent
first_of (Action.New v p) = p
first_of (Action.Fork p q) = p
first_of (Action.OutAll g p) = p

last_of : Action → Place
last_of Action.Stop = place_of 0
last_of (Action.Out t p) = p
last_of (Action.In t p) = p
last_of (Action.Read t p) = p
last_of (Action.Eval t sent p) = p
last_of (Action.New v p) = p
last_of (Action.Fork p q) = q
last_of (Action.OutAll g p) = p

variable_of : Action → ℕ
variable_of Action.Stop = 0
variable_of (Action.Out t p) = 0
variable_of (Action.In t p) = 0
variable_of (Action.Read t p) = 0
variable_of (Action.Eval t sent p) = 0
variable_of (Action.New v p) = v
variable_of (Action.Fork p q) = 0
variable_of (Action.OutAll g p) = 0

abbrev last_bits : Instruction → List Bool
last_bits c = place_bits (last_of c.action)

-- ---- an out, to a target or to a set, an in or a read, whichever `make` makes of what it goes to and of its next place
abbrev spoken_bits : {To : Type 0} → (To → List Bool) → (Action → To) → Instruction → List Bool
spoken_bits to_bits toOf c = to_bits (toOf c.action) ++ (template_bits c ++ last_bits c)

-- what it goes to, its template and its next place in range
unfoldable pub Communicated : {To : Type 0} → (To → Type 0) → (To → Place → Action) → Bool → ℕ → ℕ → Instruction → Type 0
Communicated {To} Fine make formals n k b =
    (t : To) × Fine t
    × ((c : Instruction) × TemplateOk formals n c × ((p : Place) × (p.0 < k) × (with_action c (make t p) ≡ b)))

-- a set of 16 bits, each member an address in use
pub record GroupOk (n : ℕ) (g : Group) : Type 0 where
  pub fits : g.0 < 65536
  pub members : group_sound n g ≡ true

-- a target of which an address is in use
abbrev pub TargetOk : ℕ → Target → Type 0
TargetOk n t = target_sound n t ≡ true

module _ (n k : ℕ) where
  unfoldable pub Evaluated : Instruction → Type 0
  Evaluated b =
      (t : Target) × (target_sound n t ≡ true)
      × ((sent : Place) × (sent.0 < k)
      × ((p : Place) × (p.0 < k) × (with_action zero_instruction (Action.Eval t sent p) ≡ b)))

  unfoldable pub Created : Instruction → Type 0
  Created b =
      (v : ℕ) × (v < 8) × ((p : Place) × (p.0 < k) × (with_action zero_instruction (Action.New v p) ≡ b))

  unfoldable pub Forked : Instruction → Type 0
  Forked b =
      (p : Place) × (p.0 < k) × ((q : Place) × (q.0 < k) × (with_action zero_instruction (Action.Fork p q) ≡ b))

  -- an instruction, by the number of its action
  unfoldable pub Acting : ℕ → Instruction → Type 0
  Acting zero b = zero_instruction ≡ b
  Acting (suc zero) b = Communicated (TargetOk n) Action.Out false n k b
  Acting (suc (suc zero)) b = Communicated (TargetOk n) Action.In true n k b
  Acting (suc (suc (suc zero))) b = Communicated (TargetOk n) Action.Read true n k b
  Acting (suc (suc (suc (suc zero)))) b = Evaluated b
  Acting (suc (suc (suc (suc (suc zero))))) b = Created b
  Acting (suc (suc (suc (suc (suc (suc zero)))))) b = Forked b
  Acting (suc (suc (suc (suc (suc (suc (suc v))))))) b = Communicated (GroupOk n) Action.OutAll false n k b

-- one of the actions of format f
unfoldable pub InstructionOk : ℕ → ℕ → ℕ → Instruction → Type 0
InstructionOk f n k c = (v : ℕ) × Ranged 0 (actions_in f) v × Acting n k v c

actions_most : (f : ℕ) → actions_in f ≤ 8
unfolding actions_in choose
actions_most f = by (eqb f 1)
  where
    by : (b : Bool) → choose b 7 8 ≤ 8
    by true = omega arith
    by false = omega arith

abbrev targeted_bits : Instruction → List Bool
targeted_bits = spoken_bits target_bits target_of

abbrev spread_bits : Instruction → List Bool
spread_bits = spoken_bits (λ g. bits_of 16 g.0) group_of

abbrev evaluation_bits : Instruction → List Bool
evaluation_bits c = target_bits (target_of c.action) ++ (place_bits (first_of c.action) ++ last_bits c)

abbrev creation_bits : Instruction → List Bool
creation_bits c = variable_bits (variable_of c.action) ++ last_bits c

abbrev forking_bits : Instruction → List Bool
forking_bits c = place_bits (first_of c.action) ++ last_bits c

acting_bits : ℕ → Instruction → List Bool
acting_bits zero b = []
acting_bits (suc zero) b = targeted_bits b
acting_bits (suc (suc zero)) b = targeted_bits b
acting_bits (suc (suc (suc zero))) b = targeted_bits b
acting_bits (suc (suc (suc (suc zero)))) b = evaluation_bits b
acting_bits (suc (suc (suc (suc (suc zero))))) b = creation_bits b
acting_bits (suc (suc (suc (suc (suc (suc zero)))))) b = forking_bits b
acting_bits (suc (suc (suc (suc (suc (suc (suc v))))))) b = spread_bits b

-- its bits open with its number
Opens : ℕ → Instruction → Type 0
Opens v b = instruction_bits b ≡ bits_of 3 v ++ acting_bits v b

reads_group : (n : ℕ) → Reads (group n) (λ g. bits_of 16 g.0) (GroupOk n)
unfolding group
reads_group n =
    reads_map (λ (v : ℕ). record { 0 = v }) (reads_tested 16 (λ v. group_sound n (record { 0 = v })) 23 (reads_bits 16))
    (λ v x. record { fits = x.0; members = x.1 }) (λ v x. refl) (λ g x. (g.0, (x.fits, x.members), refl))

module _ (n k : ℕ) (h : n ≤ 16) (l : k ≤ 512) where
  reads_spoken :
      {To : Type 0} {Fine : To → Type 0} {to_bits : To → List Bool} {m : Reader To} (toOf : Action → To)
      (make : To → Place → Action) (formals : Bool) → Reads m to_bits Fine → ((t : To) (p : Place) → toOf (make t p) ≡ t)
      → ((t : To) (p : Place) → last_of (make t p) ≡ p)
      → Reads (m >>= (λ t. template formals n >>= (λ c. place k >>= (λ p. pure (with_action c (make t p))))))
      (spoken_bits to_bits toOf) (Communicated Fine make formals n k)
  unfolding Communicated with_action template_bits pattern_at
  reads_spoken {To} {to_bits = to_bits} toOf make formals r e d =
      reads_in (spoken_bits to_bits toOf) r
      (λ t ok. reads_in (λ b. template_bits b ++ last_bits b) (reads_template formals n h)
      (λ c good. reads_map (λ p. with_action c (make t p)) (reads_place k l) (λ p m. (p, m, refl))
      (λ p m. ap place_bits (d t p)) (λ b z. z))
      (λ c b good z. ap (λ (y : Instruction). template_bits y ++ last_bits b) (sym z.2)))
      (λ t b ok z. ap (λ (y : To). to_bits y ++ (template_bits b ++ last_bits b))
      (ap (λ (y : Instruction). toOf y.action) (sym z.2.2) ∙ e t _))

  reads_targeted :
      (make : Target → Place → Action) (formals : Bool) → ((t : Target) (p : Place) → target_of (make t p) ≡ t)
      → ((t : Target) (p : Place) → last_of (make t p) ≡ p)
      → Reads (communication make formals n k) targeted_bits (Communicated (TargetOk n) make formals n k)
  unfolding communication
  reads_targeted make formals = reads_spoken target_of make formals (reads_target n h)

  reads_spreading : Reads (spreading n k) spread_bits (Communicated (GroupOk n) Action.OutAll false n k)
  unfolding spreading group_of last_of
  reads_spreading = reads_spoken group_of Action.OutAll false (reads_group n) (λ g p. refl) (λ g p. refl)

  reads_evaluation : Reads (evaluation n k) evaluation_bits (Evaluated n k)
  unfolding evaluation Evaluated with_action target_of first_of last_of
  reads_evaluation =
      reads_in evaluation_bits (reads_target n h)
      (λ t ok. reads_in (λ b. place_bits (first_of b.action) ++ last_bits b) (reads_place k l)
      (λ sent m. reads_map (λ p. with_action zero_instruction (Action.Eval t sent p)) (reads_place k l)
      (λ p g. (p, g, refl)) (λ p g. refl) (λ b z. z))
      (λ sent b m z. ap (λ (y : Instruction). place_bits (first_of y.action) ++ last_bits b) (sym z.2)))
      (λ t b ok z.
      ap (λ (y : Instruction). target_bits (target_of y.action) ++ (place_bits (first_of b.action) ++ last_bits b))
      (sym z.2.2))

  reads_creation : Reads (creation k) creation_bits (Created n k)
  unfolding creation Created with_action variable_of last_of
  reads_creation =
      reads_in creation_bits reads_variable
      (λ v m. reads_map (λ p. with_action zero_instruction (Action.New v p)) (reads_place k l)
      (λ p g. (p, g, refl)) (λ p g. refl) (λ b z. z))
      (λ v b m z. ap (λ (y : Instruction). variable_bits (variable_of y.action) ++ last_bits b) (sym z.2))

  reads_forking : Reads (forking k) forking_bits (Forked n k)
  unfolding forking Forked with_action first_of last_of
  reads_forking =
      reads_in forking_bits (reads_place k l)
      (λ p m. reads_map (λ q. with_action zero_instruction (Action.Fork p q)) (reads_place k l)
      (λ q g. (q, g, refl)) (λ q g. refl) (λ b z. z))
      (λ p b m z. ap (λ (y : Instruction). place_bits (first_of y.action) ++ last_bits b) (sym z.2))

  reads_acting : (v : ℕ)
      → Reads
      (alternative
      (pure zero_instruction
      ∷ communication Action.Out false n k
      ∷ communication Action.In true n k
      ∷ communication Action.Read true n k
      ∷ evaluation n k
      ∷ creation k
      ∷ forking k
      ∷ [])
      (spreading n k)
      v)
      (acting_bits v) (Acting n k v)
  unfolding alternative Acting acting_bits target_of last_of
  reads_acting zero = reads_pure zero_instruction
  reads_acting (suc zero) = reads_targeted Action.Out false (λ t p. refl) (λ t p. refl)
  reads_acting (suc (suc zero)) = reads_targeted Action.In true (λ t p. refl) (λ t p. refl)
  reads_acting (suc (suc (suc zero))) = reads_targeted Action.Read true (λ t p. refl) (λ t p. refl)
  reads_acting (suc (suc (suc (suc zero)))) = reads_evaluation
  reads_acting (suc (suc (suc (suc (suc zero))))) = reads_creation
  reads_acting (suc (suc (suc (suc (suc (suc zero)))))) = reads_forking
  reads_acting (suc (suc (suc (suc (suc (suc (suc v))))))) = reads_spreading

  acting_opens : (v : ℕ) (b : Instruction) → v < 8 → Acting n k v b → Opens v b
  unfolding Opens Acting acting_bits Communicated Evaluated Created Forked instruction_bits action_bits with_action target_of group_of first_of last_of variable_of zero_instruction bits_of
  acting_opens zero b r a = subst (Opens 0) a refl
  acting_opens (suc zero) b r a = subst (Opens 1) a.2.2.2 refl
  acting_opens (suc (suc zero)) b r a = subst (Opens 2) a.2.2.2 refl
  acting_opens (suc (suc (suc zero))) b r a = subst (Opens 3) a.2.2.2 refl
  acting_opens (suc (suc (suc (suc zero)))) b r a = subst (Opens 4) a.2.2.2 refl
  acting_opens (suc (suc (suc (suc (suc zero))))) b r a = subst (Opens 5) a.2.2 refl
  acting_opens (suc (suc (suc (suc (suc (suc zero)))))) b r a = subst (Opens 6) a.2.2 refl
  acting_opens (suc (suc (suc (suc (suc (suc (suc zero))))))) b r a = subst (Opens 7) a.2.2.2 refl
  acting_opens (suc (suc (suc (suc (suc (suc (suc (suc v)))))))) b r a = absurd (omega arith)

  pub reads_instruction : (f : ℕ) → Reads (instruction f n k) instruction_bits (InstructionOk f n k)
  unfolding instruction InstructionOk Opens
  reads_instruction f =
      let most = actions_most f in
      reads_in instruction_bits (reads_field 3 0 (actions_in f) 25 (omega arith)) (λ v r. reads_acting v)
      (λ v b r. acting_opens v b (omega (arith, r.below)))
