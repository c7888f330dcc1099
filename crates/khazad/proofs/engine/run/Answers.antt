use Rattle.std.proofs.Common.{◌^◌, ◌<◌, ◌≡◌, get_or, refl, arith, rules}
use lib.Bits.{xor_lt}
use Rattle.khazad.specs.Khazad.{rounds}
use Rattle.khazad.proofs.Rounds.{before_cut, one_round_more, all_rounds}
use Rattle.khazad.proofs.engine.run.Goals as goal

pub loop-key-init : goal.loop-key-init
unfolding rounds
loop-key-init g c = refl

pub loop-key-preserved : goal.loop-key-preserved
loop-key-preserved g c = search (rules, one_round_more, before_cut)

pub returns : goal.returns
returns g c =
    let last : get_or c.args.keys.now 8 0 < 2 ^ 64 = omega arith in
    let all : c.loop-key.key-index ≡ 7 = omega arith in
    all_rounds c.args.keys.now c.args.block c.loop-key.key-index c.loop-key.state c.gamma.result
    all c.loop-key.invariant c.gamma.ensures (xor_lt 64 c.gamma.result (get_or c.args.keys.now 8 0) c.gamma.type_inv last)
