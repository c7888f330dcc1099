use Rattle.std.proofs.Common.{◌≡◌, ◌+◌, ◌-◌, ◌*◌, ◌/◌, ◌%◌, sym, ap, ◌∙◌, arith, rules}
use lib.Bits.{bit_xor}
use Rattle.khazad.specs.Khazad.{times, mul}
use Rattle.khazad.specs.Products.{one_bit_more, no_bit_more, share_standing, share_clear}
use Rattle.khazad.proofs.field.product.Goals as goal
use Rattle.khazad.proofs.field.product.Goals.{then-bits-eq1, else-bits-eq1}

pub loop-turn-init : goal.loop-turn-init
unfolding mul
loop-turn-init c = search rules

pub loop-turn-preserved : goal.loop-turn-preserved
loop-turn-preserved c =
    let bits = c.loop-turn.bits in
    let power = c.loop-turn.power in
    let sum = c.loop-turn.sum in
    let share : c.if-bits-eq1.sum ≡ bit_xor sum (bits % 2 * power) = elim c.if-bits-eq1.branch [
      | then-bits-eq1 w ↦ w.sum-is ∙ share_standing bits power sum w.if-bits-eq1.true
      | else-bits-eq1 w ↦ w.sum-is ∙ share_clear bits power sum w.if-bits-eq1.false
    ] in (
      c.double-power.type_inv,
      ap (λ p. bit_xor c.if-bits-eq1.sum (times (8 - (c.loop-turn._turn + 1)) (bits / 2) p)) c.double-power.ensures
          ∙ one_bit_more c.loop-turn._turn bits power sum c.if-bits-eq1.sum (omega arith) share
          ∙ c.loop-turn.invariant.1,
    )

pub returns : goal.returns
returns c = sym (no_bit_more c.loop-turn._turn c.loop-turn.bits c.loop-turn.power c.loop-turn.sum (omega arith)) ∙ c.loop-turn.invariant.1
