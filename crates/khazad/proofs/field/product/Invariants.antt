use Rattle.std.proofs.Common.{◌≡◌, ◌-◌, ◌<◌}
use lib.Bits.{bit_xor}
use Rattle.khazad.specs.Khazad.{times, mul}
use Rattle.khazad.proofs.field.product.Given as goal

-- the sum so far and what the bits that are left will add
abbrev pub invariant-loop-turn : goal.invariant-loop-turn
invariant-loop-turn l = (l.power < 256) × (bit_xor l.sum (times (8 - l._turn) l.bits l.power) ≡ mul l.a l.x)
