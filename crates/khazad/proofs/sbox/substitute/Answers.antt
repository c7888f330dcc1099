use Rattle.std.proofs.Common.{rules}
use Rattle.khazad.specs.Boxes.{all_nibbles, S-by_pairs}
use Rattle.khazad.proofs.sbox.substitute.Goals as goal

-- both mini-boxes hold nibbles, by their entries as they stand
pub exchange-n-requires : goal.exchange-n-requires
exchange-n-requires c = c.boxed.ensures.bound (search (rules, all_nibbles)) (search (rules, all_nibbles))

pub exchange-n-requires-2 : goal.exchange-n-requires-2
exchange-n-requires-2 c = c.boxed-2.ensures.bound (search (rules, all_nibbles)) (search (rules, all_nibbles))

pub returns : goal.returns
returns c = search (rules, S-by_pairs)
