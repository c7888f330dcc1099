-- The test over every entry is computed here: `refl` says that it passes.
use Rattle.std.proofs.Common.{refl}
use Rattle.cipher.specs.Block.{be_number}
use Rattle.khazad.specs.Khazad.{dbl, times, mul, S, scaled}
use Rattle.khazad_lookup.specs.Table.{table_entry, tables_by_rule}
use Rattle.khazad_lookup.proofs.Rule.{tested_tables}
use Rattle.khazad_lookup.proofs.tables.eight_tables.Goals as goal

pub returns : goal.returns
unfolding tables_by_rule table_entry scaled S mul times dbl be_number
returns c = tested_tables _ tables_by_rule refl
