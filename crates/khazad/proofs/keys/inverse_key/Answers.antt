use Rattle.std.proofs.Common.{arith, rules}
use Rattle.khazad.specs.Khazad.{inverse}
use Rattle.khazad.proofs.Schedules.{first_backward, last_backward}
use Rattle.khazad.proofs.keys.inverse_key.Goals as goal

pub returns-in-0 : goal.returns-in-0
returns-in-0 g c = let first = first_backward c.args.keys.now (omega arith) in search rules

pub returns-in-8 : goal.returns-in-8
returns-in-8 g c = let last = last_backward c.args.keys.now (omega arith) in search rules

pub returns-in_default : goal.returns-in_default
unfolding inverse
returns-in_default g c = search rules
