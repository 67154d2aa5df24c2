-- What is asked of a source (document 01, "The planners' notation"; document 02, slips 3 and 13), with the numbers that a text
-- which breaks it is refused with. n is the number of addresses, x what lines are judged by. Nothing here reads a text.
use Rattle.std.specs.Prelude.{ℕ, suc, ◌-◌, ◌<◌, ◌≤◌, ◌≡◌, Bool, true, false, List, [], ◌∷◌, ◌++◌, map, length, replicate}
use Rattle.net.specs.Records.{zero_field, zero_tuple, zero_template_field, zero_instruction}
use Rattle.sound.specs.Soundness.{item_sound, row_sound, target_sound, group_sound, pattern_sound, is_actual, binds_anew}
use Rattle.fresh.specs.Fresh.{item_fits, pattern_fits}
use Rattle.keeping.specs.Admission.{admits}
use Rattle.terms.specs.Terms.{Process, Action, nil, name, fork, act, out, input, read, eval, newloc, out_all}
use Rattle.linking.specs.Source.{Line, definition, process, tuple, Policy, plain, by_origin, Source}
use Rattle.linking.specs.Counts.{processes_in, tuples_in, counted}
use Rattle.linking.specs.Compiled.{total, compiled}
use Rattle.linking.specs.Names.{names_right}
use Rattle.notation.specs.Scopes.{scope_of}
use Rattle.sources.specs.Types.{Locality, Group, Item, Tuple, Row, Target, Pattern, Instruction, Scope}

-- of each element of ys holds R, with those that stand before it: xs, and the elements of ys before it
pub data Each {A : Type 0} (R : List A → A → Type 0) : List A → List A → Type 0 where
  none : {xs : List A} → Each R xs []
  more : {xs : List A} {y : A} {ys : List A} → R xs y → Each R (xs ++ (y ∷ [])) ys → Each R xs (y ∷ ys)

-- ---- rows: 16 rights, none over an address without a row (23)
pub record RowFormed (n : ℕ) (r : Row) : Type 0 where
  pub whole : length r.rights ≡ 16
  pub within : row_sound n r ≡ true

-- the rows of a node: one for each origin (31)
pub record NodeFormed (n : ℕ) (rs : List Row) : Type 0 where
  pub each_origin : length rs ≡ n
  pub rows : Each (λ before. RowFormed n) [] rs

-- 1 to 16 addresses (31, 22)
pub data PolicyFormed : Policy → Type 0 where
  one_row :
      {rs : List Row} → 1 ≤ length rs → length rs ≤ 16 → Each (λ before. RowFormed (length rs)) [] rs → PolicyFormed (plain rs)
  each_origin :
      {rss : List (List Row)}
      → 1 ≤ length rss → length rss ≤ 16 → Each (λ before. NodeFormed (length rss)) [] rss → PolicyFormed (by_origin rss)

-- ---- tuples: one to four fields (22), addresses with a row (23), readings of 32 bits (31)
pub record ItemFormed (n : ℕ) (before : List Item) (x : Item) : Type 0 where
  pub in_range_law : item_sound n x ≡ true
  pub fits : item_fits x ≡ true

-- the tuple of these fields, with zero records behind them and no mark yet
unfoldable pub tuple_of : List Item → Tuple
tuple_of xs = record {
  count = length xs;
  fields = map (λ x. record { item = x }) xs ++ replicate (4 - length xs) zero_field;
  mark = zero_tuple.mark;
}

pub record TupleFormed (n : ℕ) (t : Tuple) : Type 0 where
  pub items : List Item
  pub some : 1 ≤ length items
  pub few : length items ≤ 4
  pub each : Each (ItemFormed n) [] items
  pub is : tuple_of items ≡ t

-- ---- templates: one to four fields (22), addresses with a row (23), variables below 8 and readings of 32 bits (31)

-- the template of these fields, with zero records behind them and no action yet
unfoldable pub template_of : List Pattern → Instruction
template_of xs = record {
  action = zero_instruction.action;
  count = length xs;
  template = map (λ x. record { pattern = x }) xs ++ replicate (4 - length xs) zero_template_field;
}

-- a field behind those before it: no formal where none is allowed (26), no variable formal twice (27)
pub record PatternFormed (formals : Bool) (n : ℕ) (before : List Pattern) (x : Pattern) : Type 0 where
  pub in_range_law : pattern_sound n x ≡ true
  pub fits : pattern_fits x ≡ true
  pub actual : formals ≡ false → is_actual x ≡ true
  pub anew : binds_anew (template_of before) (length before) x ≡ true

pub record TemplateFormed (formals : Bool) (n : ℕ) (c : Instruction) : Type 0 where
  pub patterns : List Pattern
  pub some : 1 ≤ length patterns
  pub few : length patterns ≤ 4
  pub each : Each (PatternFormed formals n) [] patterns
  pub is : template_of patterns ≡ c

-- ---- targets: an address with a row (23), a variable below 8 (31)
pub record TargetFormed (n : ℕ) (t : Target) : Type 0 where
  pub in_range_law : target_sound n t ≡ true

-- ---- sets: 16 bits, members with a row (23)
pub record GroupFormed (n : ℕ) (g : Group) : Type 0 where
  pub in_range_law : group_sound n g ≡ true
  pub fits : g.0 < 65536

-- ---- processes, at most d deep in brackets and evals together (32); names from A0 to A511, variables below 8 (31)
mutual
  pub data ProcessFormed (x : Scope) : ℕ → Process → Type 0 where
    stops : {d : ℕ} → ProcessFormed x d nil
    calls : {d k : ℕ} → k < 512 → ProcessFormed x d (name k)
    forks : {d : ℕ} {p q : Process} → ProcessFormed x d p → ProcessFormed x d q → ProcessFormed x (suc d) (fork p q)
    acts : {d : ℕ} {a : Action} {p : Process} → ActionFormed x d a → ProcessFormed x d p → ProcessFormed x d (act a p)

  -- an out has no formals; an eval's process is one level deeper; a set stands in format 2 alone (31)
  pub data ActionFormed (x : Scope) : ℕ → Action → Type 0 where
    puts :
        {d : ℕ} {c : Instruction} {t : Target}
        → TemplateFormed false x.addresses c → TargetFormed x.addresses t → ActionFormed x d (out c t)
    takes :
        {d : ℕ} {c : Instruction} {t : Target}
        → TemplateFormed true x.addresses c → TargetFormed x.addresses t → ActionFormed x d (input c t)
    reads :
        {d : ℕ} {c : Instruction} {t : Target}
        → TemplateFormed true x.addresses c → TargetFormed x.addresses t → ActionFormed x d (read c t)
    sends : {d : ℕ} {p : Process} {t : Target} → ProcessFormed x d p → TargetFormed x.addresses t → ActionFormed x (suc d) (eval p t)
    opens : {d v : ℕ} → v < 8 → ActionFormed x d (newloc v)
    shares :
        {d : ℕ} {c : Instruction} {g : Group}
        → x.format ≡ 2 → TemplateFormed false x.addresses c → GroupFormed x.addresses g → ActionFormed x d (out_all c g)

-- ---- a line, behind those before it: an address with a row (23), fewer than four processes and fewer than sixteen tuples
-- there before (22)
pub data LineFormed (x : Scope) : List Line → Line → Type 0 where
  defines : {ls : List Line} {k : ℕ} {p : Process} → k < 512 → ProcessFormed x 32 p → LineFormed x ls (definition k p)
  runs :
      {ls : List Line} {a : Locality} {p : Process}
      → a.0 < x.addresses → counted (processes_in a) ls < 4 → ProcessFormed x 32 p → LineFormed x ls (process a p)
  holds :
      {ls : List Line} {a : Locality} {t : Tuple}
      → a.0 < x.addresses → counted (tuples_in a) ls < 16 → TupleFormed x.addresses t → LineFormed x ls (tuple a t)

-- ---- the whole: policies, right names (33), 1 to 512 instructions (22), each process within its row (30)
pub record WellFormed (x : Source) : Type 0 where
  pub policies : PolicyFormed x.policy
  pub each_line : Each (LineFormed (scope_of x.policy)) [] x.lines
  pub names : names_right x.lines ≡ true
  pub least : 1 ≤ total x.lines
  pub most : total x.lines ≤ 512
  pub admitted : admits (compiled x) ≡ true
