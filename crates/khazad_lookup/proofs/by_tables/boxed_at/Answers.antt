use Rattle.std.proofs.Common.{rules}
use Rattle.khazad_lookup.proofs.Sums.{masked_entry}
use Rattle.khazad_lookup.proofs.by_tables.boxed_at.Goals as goal

pub returns : goal.returns
returns c = search (rules, masked_entry)
