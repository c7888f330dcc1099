use Rattle.std.proofs.Common.{rules}
use Rattle.khazad_lookup.proofs.Sums.{γ-cancels}
use Rattle.khazad_lookup.proofs.by_tables.ByTablesLayers.theta.Goals as goal

pub returns : goal.returns
returns c = search (rules, γ-cancels)
