use Rattle.std.proofs.Common.{arith}
use Rattle.khazad.specs.Boxes.{upper_is, lower_is}
use Rattle.khazad.proofs.sbox.exchange.Goals as goal

pub returns : goal.returns
returns c =
    let u = upper_is c.args.nibbles.0 c.args.nibbles.1 c.requires.0 c.requires.1 in
    let l = lower_is c.args.nibbles.0 c.args.nibbles.1 c.requires.0 c.requires.1 in
    record { value = cc; bound = (omega arith, omega arith) }
