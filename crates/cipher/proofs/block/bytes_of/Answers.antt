use Rattle.std.proofs.Common.{sym, ◌∙◌}
use Rattle.cipher.proofs.Numbers.{block_places}
use Rattle.cipher.proofs.block.bytes_of.Goals as goal

pub returns : goal.returns
returns c = c.to_be_bytes.ensures ∙ sym (block_places c.args.block)
