-- What is stored is read back: the words of an instruction give that instruction, and those of a process its code
-- (`specs/Loading.antt`). Assumes nothing.
use Prim.Native.Nat.{ℕ, zero, suc, ◌+◌, ◌-◌, ◌%◌, ◌<◌, ◌≤◌}
use mathlib.Core.Path.{◌≡◌, refl, sym, ap, ◌∙◌}
use mathlib.Core.List.{List, [], ◌∷◌, ◌++◌, append_assoc}
use native.Mathlib.Omega.{arith}
use lib.ListN.{get_or, length}
use lib.IntN.{ℤ}
use borrow.Author.Tests.{lt-ltb, le-ltb}
use Rattle.net.specs.Choice.{choose}
use Rattle.net.specs.Records.{pattern_at, zero_instruction, zero_template_field, with_action}
use Rattle.net.proofs.Laws.{choose_true, choose_false}
use Rattle.text.specs.Joined.{joined}
use Rattle.text.specs.Signed.{complement_of, signed}
use Rattle.terms.specs.Types.{Place, Group, Target, Pattern, TemplateField, Instruction}
use Rattle.terms.specs.Terms.{Process, Action, nil, name, fork, act, out, input, read, eval, newloc, out_all}
use Rattle.terms.specs.Numbering.{Start, start_of, size, size_in, instruction_of, fork_of, code_of, code_in}
use Rattle.terms.specs.Table.{start_word, target_word, pattern_word, template_words, instruction_words, stop_words, action_words, words_of, words_in}
use Rattle.terms.specs.Loading.{target_of, pattern_of, field_of, group_in, action_of, loaded, fits_target, fits_reading, fits_pattern, FitsTemplate}
use Rattle.terms.specs.Loading.{loaded_all, fits, fits_in, Resolves}
use Rattle.terms.proofs.LoadingLaws.{target_written_law, target_own, target_held, pattern_reading, pattern_address, pattern_own, pattern_held}
use Rattle.terms.proofs.LoadingLaws.{pattern_formal_reading, pattern_formal_address}

-- ---- one word
pub target_back : (t : Target) → fits_target t → target_of (target_word t) ≡ t
unfolding fits_target target_word
target_back (Target.Written l) h = sym (target_written_law l.0 l h (omega arith))
target_back Target.Own h = sym (target_own 256 (omega arith) (omega arith))
target_back (Target.Held v) h = sym (target_held (512 + v) v (omega arith) (omega arith) (omega arith))

pub group_back : (g : Group) → g.0 < 65536 → group_in g.0 ≡ g
unfolding group_in
group_back g h = let low : g.0 % 65536 ≡ g.0 = omega arith in ap (λ (v : ℕ). record { 0 = v }) low

signed_back : (x : ℤ) → fits_reading x → (complement_of x < 4294967296) × (x ≡ signed (complement_of x))
unfolding fits_reading complement_of signed
signed_back (ℤ.pos v) h = (omega arith, sym (choose_true _ _ _ (lt-ltb v 2147483648 h)))
signed_back (ℤ.negsuc v) h = (
  omega arith,
  sym (choose_false _ _ _ (le-ltb (4294967295 - v) 2147483648 (omega arith)) ∙ ap ℤ.negsuc (omega arith)),
)

pub pattern_back : (x : Pattern) → fits_pattern x → pattern_of (pattern_word x) ≡ x
unfolding fits_pattern pattern_word
pattern_back (Pattern.Reading x) h = let s = signed_back x h in sym (pattern_reading (complement_of x) x s.0 s.1)
pattern_back (Pattern.Address l) h = sym (pattern_address (4294967296 + l.0) (omega arith) l (omega arith) (omega arith))
pattern_back Pattern.Own h = sym (pattern_own 4294967552 (omega arith) (omega arith) (omega arith))
pattern_back (Pattern.Held v) h =
    sym (pattern_held (4294967808 + v) (omega arith) (omega arith) (omega arith) v (omega arith) (omega arith))
pattern_back (Pattern.FormalReading v) h =
    sym (pattern_formal_reading (4294968064 + v) (omega arith) (omega arith) (omega arith) v (omega arith) (omega arith) (omega arith))
pattern_back (Pattern.FormalAddress v) h =
    sym (pattern_formal_address (4294968320 + v) (omega arith) (omega arith) (omega arith) v (omega arith) (omega arith) (omega arith))

-- ---- the words of an instruction
fields_back :
    (fs : List TemplateField) (d : TemplateField) → length fs ≡ 4 → ((i : ℕ) → i < 4 → pattern_of (pattern_word (get_or fs i d).pattern) ≡ (get_or fs i d).pattern)
    → field_of (pattern_word (get_or fs 0 d).pattern) ∷ field_of (pattern_word (get_or fs 1 d).pattern) ∷ field_of (pattern_word (get_or fs 2 d).pattern) ∷ field_of (pattern_word (get_or fs 3 d).pattern) ∷ [] ≡ fs
unfolding field_of
fields_back [] d l h = absurd (omega arith)
fields_back (a ∷ []) d l h = absurd (omega arith)
fields_back (a ∷ b ∷ []) d l h = absurd (omega arith)
fields_back (a ∷ b ∷ c ∷ []) d l h = absurd (omega arith)
fields_back (a ∷ b ∷ c ∷ e ∷ []) d l h = rw (h 0 (omega arith), h 1 (omega arith), h 2 (omega arith), h 3 (omega arith)) refl
fields_back (a ∷ b ∷ c ∷ e ∷ f ∷ fs) d l h = absurd (omega arith)

pub instruction_back :
    (kind target : ℕ) (c : Instruction) (next second : ℕ) (rest : List ℕ) (p q : Place) → FitsTemplate c
    → loaded (λ j. get_or (instruction_words kind target c next second ++ rest) j 0) p q ≡ with_action c (action_of kind target p q)
unfolding loaded instruction_words template_words joined pattern_at with_action
instruction_back kind target c next second rest p q f =
    ap (λ (fs : List TemplateField). record { action = action_of kind target p q; count = c.count; template = fs })
    (fields_back c.template _ f.four (λ i h. pattern_back _ (f.fields i h)))

pub zero_fits : FitsTemplate zero_instruction
unfolding zero_instruction zero_template_field pattern_at fits_pattern fits_reading
zero_fits = record { four = refl; fields = fields }
  where
    fields : (i : ℕ) → i < 4 → fits_pattern (pattern_at zero_instruction i)
    fields zero h = omega arith
    fields (suc zero) h = omega arith
    fields (suc (suc zero)) h = omega arith
    fields (suc (suc (suc zero))) h = omega arith
    fields (suc (suc (suc (suc i)))) h = absurd (omega arith)

-- ---- the words of a process
module _ (resolve : ℕ → Place) (place : Start → Place) (r : Resolves resolve place) where
  pub start_back : (n : ℕ) (x : Process) → fits x → n ≤ 512 → resolve (start_word (start_of n x)) ≡ place (start_of n x)
  unfolding fits start_word start_of
  start_back n nil h b = r.numbers n b
  start_back n (name k) h b = r.names k h
  start_back n (fork p q) h b = r.numbers n b
  start_back n (act a p) h b = r.numbers n b

  step_back :
      (m kind target : ℕ) (c : Instruction) (next second : ℕ) (rest : List ℕ) → FitsTemplate c
      → loaded_all resolve (suc m) (instruction_words kind target c next second ++ rest)
      ≡ with_action c (action_of kind target (resolve next) (resolve second)) ∷ loaded_all resolve m rest
  unfolding loaded_all instruction_words template_words joined
  step_back m kind target c next second rest f =
      ap (λ (i : Instruction). i ∷ loaded_all resolve m rest)
      (instruction_back kind target c next second rest (resolve next) (resolve second) f)

  action_back :
      (m n : ℕ) (a : Action) (w : ℕ) (q : Start) (rest : List ℕ) → fits_in a → suc n ≤ 512 → resolve w ≡ place q
      → loaded_all resolve (suc m) (action_words n a w ++ rest) ≡ instruction_of place n a q ∷ loaded_all resolve m rest
  unfolding action_words instruction_of fits_in action_of choose
  action_back m n (out c t) w q rest h b e =
      step_back m 1 (target_word t) c w 0 rest h.0 ∙ rw (target_back t h.1, e) refl
  action_back m n (input c t) w q rest h b e =
      step_back m 2 (target_word t) c w 0 rest h.0 ∙ rw (target_back t h.1, e) refl
  action_back m n (read c t) w q rest h b e =
      step_back m 3 (target_word t) c w 0 rest h.0 ∙ rw (target_back t h.1, e) refl
  action_back m n (eval p t) w q rest h b e =
      step_back m 4 (target_word t) zero_instruction w (start_word (start_of (suc n) p)) rest zero_fits
      ∙ rw (target_back t h.1, e, start_back (suc n) p h.0 b) refl
  action_back m n (newloc v) w q rest h b e =
      let low : v % 256 ≡ v = omega arith in step_back m 5 v zero_instruction w 0 rest zero_fits ∙ rw (low, e) refl
  action_back m n (out_all c g) w q rest h b e = step_back m 7 g.0 c w 0 rest h.0 ∙ rw (group_back g h.1, e) refl

  stop_back : (m : ℕ) (rest : List ℕ) → loaded_all resolve (suc m) (stop_words ++ rest) ≡ zero_instruction ∷ loaded_all resolve m rest
  unfolding stop_words with_action action_of choose zero_instruction
  stop_back m rest = step_back m 0 0 zero_instruction 0 0 rest zero_fits

  fork_back :
      (m i j : ℕ) (p q : Process) (rest : List ℕ) → fits p → fits q → i ≤ 512 → j ≤ 512
      → loaded_all resolve (suc m) (instruction_words 6 0 zero_instruction (start_word (start_of i p)) (start_word (start_of j q)) ++ rest)
      ≡ fork_of place (start_of i p) (start_of j q) ∷ loaded_all resolve m rest
  unfolding fork_of action_of choose
  fork_back m i j p q rest f g a b =
      step_back m 6 0 zero_instruction (start_word (start_of i p)) (start_word (start_of j q)) rest zero_fits
      ∙ rw (start_back i p f a, start_back j q g b) refl

  none_and : (k : ℕ) → 0 + k ≡ k
  none_and k = omega arith

  one_and : (k : ℕ) → 1 + k ≡ suc k
  one_and k = omega arith

  both_and : (a b k : ℕ) → suc (a + b) + k ≡ suc (a + (b + k))
  both_and a b k = omega arith

  mutual
    unfolding fits fits_in size size_in words_of words_in stop_words code_of code_in fork_of

    pub code_back :
        (n k : ℕ) (x : Process) (rest : List ℕ) → fits x → n + size x ≤ 512
        → loaded_all resolve (size x + k) (words_of n x ++ rest) ≡ code_of place n x ++ loaded_all resolve k rest
    code_back n k nil rest h b = ap (λ (m : ℕ). loaded_all resolve m (stop_words ++ rest)) (one_and k) ∙ stop_back k rest
    code_back n k (name j) rest h b = ap (λ (m : ℕ). loaded_all resolve m rest) (none_and k)
    code_back n k (fork p q) rest h b =
        let own = instruction_words 6 0 zero_instruction (start_word (start_of (suc n) p)) (start_word (start_of (suc n + size p) q)) in
        let left = words_of (suc n) p in
        let right = words_of (suc n + size p) q in
        ap (λ (m : ℕ). loaded_all resolve m ((own ++ (left ++ right)) ++ rest)) (both_and (size p) (size q) k)
        ∙ ap (loaded_all resolve (suc (size p + (size q + k))))
        (append_assoc own (left ++ right) rest ∙ ap (λ (l : List ℕ). own ++ l) (append_assoc left right rest))
        ∙ fork_back (size p + (size q + k)) (suc n) (suc n + size p) p q (left ++ (right ++ rest)) h.0 h.1 (omega arith) (omega arith)
        ∙ ap (λ (l : List Instruction). fork_of place (start_of (suc n) p) (start_of (suc n + size p) q) ∷ l)
        (code_back (suc n) (size q + k) p (right ++ rest) h.0 (omega arith)
        ∙ ap (λ (l : List Instruction). code_of place (suc n) p ++ l) (code_back (suc n + size p) k q rest h.1 (omega arith))
        ∙ sym (append_assoc (code_of place (suc n) p) (code_of place (suc n + size p) q) (loaded_all resolve k rest)))
    code_back n k (act a p) rest h b =
        let own = action_words n a (start_word (start_of (suc n + size_in a) p)) in
        let held = words_in (suc n) a in
        let behind = words_of (suc n + size_in a) p in
        ap (λ (m : ℕ). loaded_all resolve m (((own ++ held) ++ behind) ++ rest)) (both_and (size_in a) (size p) k)
        ∙ ap (loaded_all resolve (suc (size_in a + (size p + k))))
        (append_assoc (own ++ held) behind rest ∙ append_assoc own held (behind ++ rest))
        ∙ action_back (size_in a + (size p + k)) n a (start_word (start_of (suc n + size_in a) p)) (start_of (suc n + size_in a) p)
        (held ++ (behind ++ rest)) h.0 (omega arith) (start_back (suc n + size_in a) p h.1 (omega arith))
        ∙ ap (λ (l : List Instruction). instruction_of place n a (start_of (suc n + size_in a) p) ∷ l)
        (code_in_back (suc n) (size p + k) a (behind ++ rest) h.0 (omega arith)
        ∙ ap (λ (l : List Instruction). code_in place (suc n) a ++ l) (code_back (suc n + size_in a) k p rest h.1 (omega arith))
        ∙ sym (append_assoc (code_in place (suc n) a) (code_of place (suc n + size_in a) p) (loaded_all resolve k rest)))

    pub code_in_back :
        (n k : ℕ) (a : Action) (rest : List ℕ) → fits_in a → n + size_in a ≤ 512
        → loaded_all resolve (size_in a + k) (words_in n a ++ rest) ≡ code_in place n a ++ loaded_all resolve k rest
    code_in_back n k (out c t) rest h b = ap (λ (m : ℕ). loaded_all resolve m rest) (none_and k)
    code_in_back n k (input c t) rest h b = ap (λ (m : ℕ). loaded_all resolve m rest) (none_and k)
    code_in_back n k (read c t) rest h b = ap (λ (m : ℕ). loaded_all resolve m rest) (none_and k)
    code_in_back n k (eval p t) rest h b = code_back n k p rest h.0 b
    code_in_back n k (newloc v) rest h b = ap (λ (m : ℕ). loaded_all resolve m rest) (none_and k)
    code_in_back n k (out_all c g) rest h b = ap (λ (m : ℕ). loaded_all resolve m rest) (none_and k)
