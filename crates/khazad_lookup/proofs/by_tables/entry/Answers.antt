use Rattle.std.proofs.Common.{arith}
use Rattle.khazad_lookup.proofs.Rule.{each_entry}
use Rattle.khazad_lookup.proofs.by_tables.entry.Goals as goal

pub returns : goal.returns
returns c = each_entry c.eight_tables.result.now c.eight_tables.ensures c.args.k c.args.x c.requires (omega arith)
