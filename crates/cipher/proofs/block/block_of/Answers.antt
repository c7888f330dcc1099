use Rattle.std.proofs.Common.{sym, ◌∙◌}
use Rattle.cipher.proofs.Rows.{of_array}
use Rattle.cipher.proofs.Numbers.{number_places}
use Rattle.cipher.proofs.block.block_of.Goals as goal

pub returns : goal.returns
returns c = c.from_be_bytes.ensures ∙ sym (number_places c.args.bytes (of_array _ _ c.well_formed.0).0)
