use Rattle.std.proofs.Common.{◌≤◌, length, sym, ap, ◌∙◌, subst, arith}
use Rattle.cipher.specs.Block.{Bytes}
use Rattle.cipher.proofs.Numbers.{block_bytes}
use Rattle.cipher.proofs.Rows.{byte_at}
use lib.Bits.{xor_zero_l}
use Rattle.khazad_lookup.specs.Table.{added}
use Rattle.khazad_lookup.proofs.Sums.{one_byte_more, no_byte_more}
use Rattle.khazad_lookup.proofs.by_tables.added_up.Goals as goal

pub loop-k-init : goal.loop-k-init
loop-k-init g c f says = xor_zero_l (added f 0 c.bytes_of-a.result)

pub loop-k-preserved : goal.loop-k-preserved
loop-k-preserved g c f says =
    let bytes = subst (Bytes 8) (sym c.bytes_of-a.ensures) (block_bytes c.args.block) in
    one_byte_more f c.bytes_of-a.result c.loop-k.k c.loop-k.sum c.part-sum.result (omega arith) (says _ _ _ (omega arith) (byte_at 8 c.bytes_of-a.result bytes c.loop-k.k (omega arith)) c.part-sum.ensures) ∙ c.loop-k.invariant f says

pub returns : goal.returns
returns g c f says =
    let end : length c.bytes_of-a.result ≤ c.loop-k.k = omega arith in
    sym (no_byte_more f c.bytes_of-a.result c.loop-k.k c.loop-k.sum end) ∙ c.loop-k.invariant f says ∙ ap (added f 0) c.bytes_of-a.ensures
