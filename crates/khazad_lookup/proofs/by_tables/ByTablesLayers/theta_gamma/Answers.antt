use Rattle.std.proofs.Common.{rules}
use Rattle.cipher.proofs.Numbers.{block_bytes}
use Rattle.cipher.specs.Block.{be_bytes}
use Rattle.khazad_lookup.proofs.Sums.{entries_add_up}
use Rattle.khazad_lookup.proofs.by_tables.ByTablesLayers.theta_gamma.Goals as goal

pub returns : goal.returns
returns c = let whole = entries_add_up (be_bytes 8 c.args.block) (block_bytes c.args.block) in search rules
