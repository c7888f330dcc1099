use Rattle.std.proofs.Common.{sym, ◌∙◌, arith}
use Rattle.std.proofs.lemmas.Slice.{put_mid-paste}
use Rattle.cipher.specs.Block.{be_bytes}
use Rattle.cipher.proofs.Numbers.{block_bytes}
use Rattle.cipher.proofs.block.put_block.Goals as goal

pub returns : goal.returns
returns c =
    put_mid-paste c.args.at _ c.args.bytes.now c.copy_from_slice.new.self (be_bytes 8 c.args.block) 8
    (c.copy_from_slice.ensures.after ∙ c.bytes_of.ensures) (omega arith) (sym (block_bytes c.args.block).0)
