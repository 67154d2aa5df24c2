-- A text whose rows and lines are read into tables and a net gives what `specs/Text.antt` says. Assumes nothing.
use Prim.Native.Nat.{ℕ, zero, suc, ◌<◌, ◌≤◌}
use mathlib.Core.Path.{◌≡◌, refl, sym, ap, subst, ◌∙◌}
use mathlib.Core.Bool.{Bool, true, false}
use mathlib.Core.List.{List}
use native.Mathlib.Omega.{arith}
use lib.ListN.{length, set, replicate}
use lib.Dec.{leb}
use borrow.Author.Tests.{lt-leb}
use Rattle.net.specs.Choice.{choose, both, fold, in_range}
use Rattle.net.specs.Records.{empty_net, with_counts}
use Rattle.net.specs.Shape.{Shaped}
use Rattle.net.proofs.Laws.{choose_true, choose_false, in_range_law, in_range_high}
use Rattle.keeping.specs.Admission.{admits}
use Rattle.std.proofs.Common.{Result, Ok, Err}
use Rattle.readers.specs.Reader.{Parsed, got, fault}
use Rattle.lexemes.specs.Progress.{Reads, Stood, Stands}
use Rattle.lexemes.proofs.Reading.{reads_pure, reads_then, reads_failed}
use Rattle.readers.specs.Progress.{came}
use Rattle.net.proofs.FoldLaws.{fold_none, fold_more, fold_end}
use Rattle.text.specs.Buffer.{over}
use Rattle.linking.specs.Source.{Line, Policy, Source}
use Rattle.linking.specs.Compiled.{total, addresses_of, place_in, code_from, peopled, with_code, governed, compiled}
use Rattle.linking.specs.Names.{names_right}
use Rattle.linking.specs.NameTable.{names_right_in}
use Rattle.linking.specs.Placing.{place_at, linked_code, moved_net, with_linked, linked_net}
use Rattle.linking.specs.State.{State, begun, after_all, own_names, FitAll}
use Rattle.linking.proofs.NameTableLaws.{names_same}
use Rattle.linking.proofs.Held.{held_all, resolves_all}
use Rattle.linking.proofs.Linked.{code_all}
use Rattle.linking.proofs.Moved.{moved_all}
use Rattle.linking.proofs.Peopled.{peopled_any_counts, peopled_frame, after_count}
use Rattle.linking.proofs.Governed.{governed_addresses, governed_counts}
use Rattle.linking.proofs.NodeCounts.{none_busy}
use Rattle.notation.specs.Types.{Fault, TextReader, Instruction, Net, Scope}
use Rattle.rows.specs.Policies.{policy}
use Rattle.notation.specs.Scopes.{scope_of}
use Rattle.notation.specs.Lines.{lines, source}
use Rattle.rows.specs.Progress.{Ruled}
use Rattle.notation.specs.LineProgress.{Lines, scope_in, state_of, AllLined}
use Rattle.notation.specs.Text.{Verdict, Opened, refused, accepted, judged_source, judged, read_of}
use Rattle.notation.specs.Judging.{judged_net, judged_count, judged_names}
use Rattle.rows.proofs.PolicyLaws.{format_read, addresses_read}

-- ---- what is judged, one after another
no_second : (a b : Bool) → b ≡ false → false ≡ both a b
unfolding both
no_second true b e = sym e
no_second false b e = refl

module _ (table bodies starts : List ℕ) (n : ℕ) (s : Net) (o : Opened) where
  pub count_none : n < 1 → o ≡ refused 22 → o ≡ judged_count table bodies starts n s
  unfolding judged_count in_range both
  count_none z h = h ∙ sym (choose_false _ _ _ (rw (lt-leb 1 n z) refl))

  pub count_right : (t : Net) → 1 ≤ n → n ≤ 512 → t ≡ linked_net (place_at bodies) table starts n s → o ≡ judged_net t
      → o ≡ judged_count table bodies starts n s
  unfolding judged_count
  count_right t z m e h = h ∙ ap judged_net e ∙ sym (choose_true _ _ _ (in_range_law 1 n 512 z m))

  pub count_many : 512 < n → o ≡ refused 22 → o ≡ judged_count table bodies starts n s
  unfolding judged_count in_range
  count_many m h = h ∙ sym (choose_false _ _ _ (sym (no_second (leb 1 n) (leb n 512) (lt-leb n 512 m))))

module _ (table : List ℕ) (uses : List Bool) (bodies : List ℕ) (defs : List Bool) (starts : List ℕ) (n : ℕ) (twice : Bool) (s : Net) (o : Opened) where
  module _ (ok : Bool) (e : ok ≡ names_right_in bodies defs uses twice) where
    pub names_judged : ok ≡ true → o ≡ judged_count table bodies starts n s → o ≡ judged_names table uses bodies defs starts n twice s
    unfolding judged_names
    names_judged t h = h ∙ sym (choose_true _ _ _ (sym e ∙ t))

    pub names_wrong : ok ≡ false → o ≡ refused 33 → o ≡ judged_names table uses bodies defs starts n twice s
    unfolding judged_names
    names_wrong f h = h ∙ sym (choose_false _ _ _ (sym e ∙ f))

-- ---- the net of a source
module _ (x : Policy) (ls : List Line) (few : addresses_of x ≤ 16) (shape : Shaped (governed x 0)) (fit : FitAll ls (begun (governed x 0))) where
  abbrev Now : State
  Now = after_all ls (begun (governed x 0))

  same_names : names_right_in Now.bodies Now.defs Now.uses Now.twice ≡ names_right ls
  same_names = names_same ls Now.bodies Now.defs Now.uses Now.twice (held_all ls (governed x 0) fit)

  counted_all : Now.count ≡ total ls
  unfolding begun
  counted_all = after_count ls (begun (governed x 0)) ∙ omega arith

  module _ (whole : total ls ≤ 512) where
    abbrev peopled_net : Net
    peopled_net = peopled (place_in ls) 0 ls (governed x 0)

    moved_there : moved_net (place_at Now.bodies) Now.starts Now.net ≡ peopled_net
    moved_there =
        moved_all (place_at Now.bodies) (place_in ls) (resolves_all ls (governed x 0) fit whole) ls (governed x 0) shape (none_busy x 0 few) fit whole

    coded_there : (code : List Instruction) → linked_code (place_at Now.bodies) Now.table (total ls) code ≡ over code 0 (code_from (place_in ls) 0 ls)
    coded_there = code_all (place_at Now.bodies) (place_in ls) (resolves_all ls (governed x 0) fit whole) ls (governed x 0) fit whole

    counts_there : with_counts peopled_net peopled_net.addresses (total ls) ≡ peopled (place_in ls) 0 ls (governed x (total ls))
    counts_there =
        ap (λ (n : ℕ). with_counts peopled_net n (total ls)) ((peopled_frame (place_in ls) 0 ls (governed x 0)).addresses_are ∙ governed_addresses x 0)
        ∙ sym (peopled_any_counts (place_in ls) 0 ls (governed x 0) (addresses_of x) (total ls))
        ∙ ap (peopled (place_in ls) 0 ls) (governed_counts x (total ls) 0)

    pub linked_compiled :
        linked_net (place_at Now.bodies) Now.table Now.starts (total ls) Now.net ≡ compiled (record { policy = x; lines = ls })
    unfolding linked_net with_linked compiled with_code
    linked_compiled =
        ap (λ (t : Net). with_linked (place_at Now.bodies) Now.table (total ls) (with_counts t t.addresses (total ls))) moved_there
        ∙ ap (λ (t : Net). with_linked (place_at Now.bodies) Now.table (total ls) t) counts_there
        ∙ ap (λ (c : List Instruction). record { format = Whole.format; addresses = Whole.addresses; length = Whole.length; nodes = Whole.nodes; code = c }) (coded_there Whole.code)
      where
        Whole : Net
        Whole = peopled (place_in ls) 0 ls (governed x (total ls))

  -- what the tables and the net are judged to give is what the source gives
  judged_same :
      judged_names Now.table Now.uses Now.bodies Now.defs Now.starts Now.count Now.twice Now.net
      ≡ judged_source (record { policy = x; lines = ls })
  unfolding judged_names judged_count judged_source judged_net
  judged_same =
      rw (same_names, counted_all)
      (ap (λ (o : Opened). choose (names_right ls) o (refused 33)) (ranged (in_range 1 (total ls) 512) refl))
    where
      ranged :
          (b : Bool) → in_range 1 (total ls) 512 ≡ b
          → choose (in_range 1 (total ls) 512) (judged_net (linked_net (place_at Now.bodies) Now.table Now.starts (total ls) Now.net)) (refused 22)
          ≡ choose (in_range 1 (total ls) 512) (judged_net (compiled (record { policy = x; lines = ls }))) (refused 22)
      ranged true e = ap (λ (t : Net). choose (in_range 1 (total ls) 512) (judged_net t) (refused 22)) (linked_compiled (in_range_high 1 (total ls) 512 e))
      ranged false e = choose_false _ _ _ e ∙ sym (choose_false _ _ _ e)

-- ---- before the first line
pub from_begun :
    (table : List ℕ) (uses : List Bool) (bodies : List ℕ) (defs : List Bool) (starts : List ℕ) (net : Net)
    → table ≡ replicate 4608 0 → uses ≡ replicate 512 false → bodies ≡ own_names → defs ≡ replicate 512 false → starts ≡ replicate 64 0
    → ◌≡◌ {A = State} (record { count = 0; table = table; uses = uses; bodies = bodies; defs = defs; twice = false; starts = starts; net = net }) (begun net)
unfolding begun
from_begun table uses bodies defs starts net a b c d e = rw (a, b, c, d, e) refl

-- ---- the whole text
module _ (s : List ℕ) (r₀ : TextReader) (e : r₀.text.now ≡ s) (d : r₀.at ≡ 0) (o : Opened) where
  -- a source read
  source_of : (q : ℕ) (x : Result Source Fault) (r : TextReader) → Reads r₀ source x r → judged (came x r.at) ≡ read_of s
  unfolding read_of
  source_of q x r h = ap judged (h.gave ∙ ap (λ (t : List ℕ). source t r₀.at) e ∙ ap (source s) d)

  faulty : (f : Fault) (r : TextReader) → Reads r₀ source (Err f) r → o ≡ refused f.number → o ≡ read_of s
  unfolding judged came
  faulty f r h g = g ∙ source_of 0 (Err f) r h

  pub policy_fault : (f : Fault) (r : TextReader) → Stands Ruled r₀ policy (Err f) r → o ≡ refused f.number → o ≡ read_of s
  unfolding source
  policy_fault f r h g = faulty f r (reads_failed r₀ r policy _ f h.told) g

  module _ (r₁ : TextReader) (net : Net) (g : Stood Ruled r₀ policy net r₁) where
    -- what lines are judged by is known from the net of the policies
    scope_read : scope_in net ≡ scope_of g.read
    unfolding scope_of
    scope_read = rw (addresses_read g.read net g.stands, format_read g.read net g.stands) refl

    pub lines_fault : (f : Fault) (r : TextReader) → Reads r₁ (lines (scope_in net)) (Err f) r → o ≡ refused f.number → o ≡ read_of s
    unfolding source
    lines_fault f r h u =
        faulty f r
        (reads_then r₀ r₁ policy r _ g.read (Err f) g.went (reads_failed r₁ r (lines (scope_of g.read)) _ f (rw scope_read at h))) u

    module _ (r : TextReader) (ls : List Line) (h : Reads r₁ (lines (scope_in net)) (Ok ls) r) where
      source_read : Reads r₀ source (Ok (record { policy = g.read; lines = ls })) r
      unfolding source
      source_read =
          reads_then r₀ r₁ policy r _ g.read (Ok (record { policy = g.read; lines = ls })) g.went
          (reads_then r₁ r (lines (scope_of g.read)) r _ ls (Ok (record { policy = g.read; lines = ls })) (rw scope_read at h)
          (reads_pure r r (record { policy = g.read; lines = ls })))

      parts : State → Opened
      parts t = judged_names t.table t.uses t.bodies t.defs t.starts t.count t.twice t.net

      pub text_read : (b b' : Lines) → Shaped net → state_of b ≡ begun net → AllLined b b' ls tt
          → o ≡ judged_names b'.code.table.now b'.code.used.now b'.bodies.now b'.defs.now b'.starts.now b'.code.count b'.twice b'.net.now
          → o ≡ read_of s
      unfolding judged came parts
      text_read b b' shape begin l u =
          let first : state_of b ≡ begun (governed g.read 0) = begin ∙ ap begun g.stands.standing in
          u
          ∙ ap parts (l.kept ∙ ap (after_all ls) first)
          ∙ judged_same g.read ls g.stands.within (rw g.stands.standing at shape) (subst (FitAll ls) first l.fit)
          ∙ source_of 0 (Ok (record { policy = g.read; lines = ls })) r source_read

pub ruleset judging = (count_none, count_right, count_many, names_judged, names_wrong)

pub ruleset owned = (fold_none, fold_more, fold_end)
