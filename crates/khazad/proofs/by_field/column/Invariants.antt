use Rattle.std.proofs.Common.{◌≡◌, ◌*◌, get_or, length}
use lib.Bits.{bit_xor}
use Rattle.khazad.specs.Khazad.{θ}
use Rattle.khazad.proofs.Columns.{dot_flat}
use Rattle.khazad.proofs.by_field.column.Given as goal

-- the sum so far and what the bytes that are left will add
abbrev pub invariant-loop-row : goal.invariant-loop-row
invariant-loop-row l =
    let entries = l.row-iterator.a.rest.now in
    let bytes = l.row-iterator.b.rest.now in record {
      size : l.row-iterator.a.size ≡ 8;
      long : length entries ≡ 8 * length bytes;
      sum : bit_xor l.sum (dot_flat bytes entries l.j) ≡ get_or (θ l.fn.a) l.j 0;
    }
