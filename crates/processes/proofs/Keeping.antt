-- Laws of readers that keep something of what they read (`Keeps` of `specs/Progress.antt`): what its parts keep, the whole
-- keeps. Assumes nothing.
use Rattle.std.proofs.Common.{◌≡◌, ℕ, Bool, true, false, List, refl, sym, ap, ◌∙◌}
use Rattle.std.specs.Prelude.{Result, Ok, Err}
use borrow.Author.Tests.{eq-eqb, ne_eqb}
use Rattle.std.specs.Result.{IsErrAnd}
use Rattle.std.proofs.lemmas.Result.{err_from_is_err_and}
use Rattle.net.specs.Choice.{choose}
use Rattle.net.proofs.Laws.{choose_true, choose_false}
use Rattle.readers.specs.Reader.{Reader, pure, ◌>>=◌, ◌>>◌, fault_at}
use Rattle.lexemes.specs.Lexemes.{byte_at, look, fail}
use Rattle.lexemes.specs.Progress.{Reads}
use Rattle.lexemes.proofs.Reading.{reads_pure, reads_then, reads_fault, reads_fail}
use Rattle.processes.specs.Types.{Fault, TextReader}
use Rattle.processes.specs.Progress.{Keeps}

reads_as : {A : Type 0} (r q : TextReader) (m m' : Reader A) (o : Result A Fault) → m r.text.now r.at ≡ m' r.text.now r.at → Reads r m o q → Reads r m' o q
reads_as r q m m' o e h = record { gave = h.gave ∙ e; same = h.same }

module _ {A B : Type 0} (P : A → B → Type 0) (r q : TextReader) where
  pub keeps_as : (m m' : Reader A) (o : Result B Fault) → m r.text.now r.at ≡ m' r.text.now r.at → Keeps r m P o q → Keeps r m' P o q
  keeps_as m m' (Ok b) e h = record { told = record { tree = h.told.tree; read = reads_as r q m m' _ e h.told.read; holds = h.told.holds } }
  keeps_as m m' (Err f) e h = record { told = reads_as r q m m' _ e h.told }

  pub keeps_look : (f : ℕ → Reader A) (b : ℕ) (o : Result B Fault) → b ≡ byte_at r.text.now r.at → Keeps r (f b) P o q → Keeps r (look f) P o q
  unfolding look
  keeps_look f b o e h = keeps_as (f b) (look f) o (ap (λ (c : ℕ). f c r.text.now r.at) e) h

  pub keeps_true : (b : Bool) (m m' : Reader A) (o : Result B Fault) → b ≡ true → Keeps r m P o q → Keeps r (choose b m m') P o q
  keeps_true b m m' o e h = rw (choose_true b m m' e) h

  pub keeps_false : (b : Bool) (m m' : Reader A) (o : Result B Fault) → b ≡ false → Keeps r m' P o q → Keeps r (choose b m m') P o q
  keeps_false b m m' o e h = rw (choose_false b m m' e) h

pub keeps_pure : {A B : Type 0} (P : A → B → Type 0) (r : TextReader) (a : A) (b : B) → P a b → Keeps r (pure a) P (Ok b) r
keeps_pure P r a b h = record { told = record { tree = a; read = reads_pure r r a; holds = h } }

pub keeps_fail : {A B : Type 0} (P : A → B → Type 0) (r : TextReader) (n : ℕ) (e : Fault) → e ≡ fault_at n r.at 0 → Keeps r (fail n) P (Err e) r
keeps_fail P r n e h = record { told = reads_fail r n e h }

module _ {A B C : Type 0} (P : B → C → Type 0) (r q : TextReader) (m : Reader A) where
  module _ (t : TextReader) where
    pub keeps_then : (f : A → Reader B) (a : A) (o : Result C Fault) → Reads r m (Ok a) q → Keeps q (f a) P o t → Keeps r (m >>= f) P o t
    keeps_then f a (Ok c) h k = record { told = record { tree = k.told.tree; read = reads_then r q m t f a _ h k.told.read; holds = k.told.holds } }
    keeps_then f a (Err e) h k = record { told = reads_then r q m t f a _ h k.told }

    pub keeps_next : (f : Reader B) (a : A) (o : Result C Fault) → Reads r m (Ok a) q → Keeps q f P o t → Keeps r (m >> f) P o t
    unfolding ◌>>◌
    keeps_next f a o h k = keeps_then (λ _. f) a o h k

  failed : (f : A → Reader B) (e : Fault) → Reads r m (Err e) q → Keeps r (m >>= f) P (Err e) q
  failed f e h = record { told = reads_fault r q m f e (Err e) h refl }

  pub keeps_fault : (f : A → Reader B) (e : Fault) (o : Result C Fault) → Reads r m (Err e) q → IsErrAnd o (λ d. d ≡ e) → Keeps r (m >>= f) P o q
  keeps_fault f e o h k = let p = err_from_is_err_and o k in rw (p.1, p.2) (failed f e h)

  pub keeps_next_fault : (f : Reader B) (e : Fault) (o : Result C Fault) → Reads r m (Err e) q → IsErrAnd o (λ d. d ≡ e) → Keeps r (m >> f) P o q
  unfolding ◌>>◌
  keeps_next_fault f e o h k = keeps_fault (λ _. f) e o h k

pub ruleset keeping = (keeps_pure, keeps_look, keeps_true, keeps_false, keeps_then, keeps_next, keeps_fault, keeps_next_fault, keeps_fail, eq-eqb, ne_eqb)

-- ---- a reader that keeps something, and more after it
module _ {A B : Type 0} (P : A → B → Type 0) (r q : TextReader) (m : Reader A) where
  module _ {C D : Type 0} (Q : C → D → Type 0) (f : A → Reader C) where
    pub keeps_via : (t : TextReader) (b : B) (o : Result D Fault) → Keeps r m P (Ok b) q → ((a : A) → P a b → Keeps q (f a) Q o t) → Keeps r (m >>= f) Q o t
    keeps_via t b o h k = keeps_then Q r q m t f h.told.tree o h.told.read (k h.told.tree h.told.holds)

    pub keeps_via_fault : (e : Fault) (o : Result D Fault) → Keeps r m P (Err e) q → IsErrAnd o (λ d. d ≡ e) → Keeps r (m >>= f) Q o q
    keeps_via_fault e o h k = keeps_fault Q r q m f e o h.told k

module _ {A B : Type 0} (P Q : A → B → Type 0) (r q : TextReader) (m : Reader A) where
  pub keeps_map : (o : Result B Fault) → ((a : A) (b : B) → P a b → Q a b) → Keeps r m P o q → Keeps r m Q o q
  keeps_map (Ok b) h k = record { told = record { tree = k.told.tree; read = k.told.read; holds = h _ b k.told.holds } }
  keeps_map (Err e) h k = record { told = k.told }

module _ {A B C : Type 0} (P : A → B → Type 0) (Q : C → B → Type 0) (r q : TextReader) (m : Reader A) (g : A → C) where
  pub keeps_then_pure : (o : Result B Fault) → ((a : A) (b : B) → Reads r m (Ok a) q → P a b → Q (g a) b) → Keeps r m P o q
      → Keeps r (m >>= (λ a. pure (g a))) Q o q
  keeps_then_pure (Ok b) h k =
      keeps_then Q r q m q (λ a. pure (g a)) k.told.tree (Ok b) k.told.read (keeps_pure Q q (g k.told.tree) b (h k.told.tree b k.told.read k.told.holds))
  keeps_then_pure (Err e) h k = keeps_fault Q r q m (λ a. pure (g a)) e (Err e) k.told refl
