-- What stands at the front of the text are the digits of the bytes that are passed.
use Rattle.std.proofs.Common.{◌≡◌, ◌*◌, take}
use Rattle.hexadecimal.specs.Hex.{hex}
use Rattle.hexadecimal.proofs.digits.digits_of.Given as goal

abbrev pub invariant-loop-i : goal.invariant-loop-i
invariant-loop-i l = take (2 * l.i) l.text ≡ hex (take l.i l.piece)
