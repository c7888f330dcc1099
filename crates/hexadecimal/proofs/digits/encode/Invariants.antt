-- What is written so far and the digits of the bytes to come are the digits of all bytes.
use Rattle.std.proofs.Common.{◌≡◌, ◌++◌, string_bytes}
use Rattle.std.specs.Slice.Iter.{chunks_rest, chunks_size}
use Rattle.hexadecimal.specs.Hex.{hex}
use Rattle.hexadecimal.proofs.digits.encode.Given as goal

abbrev pub invariant-loop-piece : goal.invariant-loop-piece
invariant-loop-piece l =
    goal.iterator-loop-piece.can_next l.piece-iterator
    × goal.iterator-loop-piece.is_finite l.piece-iterator
    × (chunks_size l.piece-iterator ≡ 32)
    × (string_bytes l.text ++ hex (chunks_rest l.piece-iterator) ≡ hex l.bytes)
