-- A mode that works in place: what it answers, and what it leaves in the buffer.
--   answered    granted where the buffer is whole blocks, and refused where it is not
--   left_by     the buffer after it: its blocks as the mode has them, or all as it was
-- Assumes nothing.
use Rattle.std.specs.Prelude.{ℕ, cond, List, Ok, Err, Result}
use Rattle.cipher.specs.Block.{as_blocks, as_bytes, is_whole}
use Rattle.refusal.specs.declared.cause.Refusal.{Refusal}
use Rattle.refusal.specs.declared.cause.Refusal.TheVariants.{NotWholeBlocks}

abbrev pub answered : List ℕ → Result (Unit {0}) Refusal
answered buffer = cond (is_whole buffer) (Ok tt) (Err NotWholeBlocks)

abbrev pub left_by : (List ℕ → List ℕ) → List ℕ → List ℕ
left_by mode buffer = cond (is_whole buffer) (as_bytes (mode (as_blocks buffer))) buffer
