use Rattle.std.proofs.Common.{rules}
use Rattle.khazad.specs.Products.{dbl-is}
use Rattle.khazad.proofs.field.double.Goals as goal

pub returns : goal.returns
returns c = search (rules, dbl-is)
