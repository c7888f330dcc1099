-- What is read so far and what is left write together what the whole text writes.
use Rattle.std.proofs.Common.{◌≡◌, length, vec_items}
use Rattle.hexadecimal.specs.Hex.{unhex}
use Rattle.hexadecimal.proofs.Laws.{behind}
use Rattle.hexadecimal.proofs.digits.decode.Given as goal

abbrev pub invariant-loop-rest : goal.invariant-loop-rest
invariant-loop-rest l = behind (vec_items l.bytes) (unhex l.rest) ≡ unhex l.text

abbrev pub decreases-loop-rest : goal.decreases-loop-rest
decreases-loop-rest l = length l.rest
