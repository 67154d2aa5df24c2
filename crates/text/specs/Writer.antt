-- Describes the code, and is no part of what a reader has to believe: how a writer into a lent buffer stands for lists.
use Rattle.std.specs.Prelude.{ℕ, ◌+◌, List, length, min, max, ltb, leb, ◌||◌, if◌then◌else◌, Option, None, Some}
use Rattle.text.specs.Buffer.{over}
use Rattle.text.specs.declared.writer.Writer.{Writer}

-- the writer after a text, of bytes or of bits: it stands behind what fitted, and is full once something didn't
unfoldable pub after : {A : Type 0} → Writer A → List A → Writer A
after w text = record {
  out = record { ref_ptr = w.out.ref_ptr; ghost_name = w.out.ghost_name; now = over w.out.now w.at text };
  at = min (w.at + length text) (max w.at (length w.out.now));
  full = w.full || ltb (max w.at (length w.out.now)) (w.at + length text);
}

-- how much is written, where all of it fitted
unfoldable pub written : {A : Type 0} → Writer A → Option ℕ
written w = if w.full then None else Some w.at

-- the length of a text, where it fits in a buffer of so many elements
unfoldable pub fitted : {A : Type 0} → List A → ℕ → Option ℕ
fitted text room = if leb (length text) room then Some (length text) else None
