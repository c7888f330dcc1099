use Rattle.std.proofs.Common.{rules}
use Rattle.timed.proofs.Halves.{halves}
use Rattle.timed.proofs.key_of.Goals as goal

pub returns : goal.returns
returns c = let whole = halves c.args.first c.args.second c.ranges.first.fits c.ranges.second.fits in search rules
