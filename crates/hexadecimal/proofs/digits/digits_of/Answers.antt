-- Each turn puts the two digits of one byte; digits are ASCII, and so they are a text.
use Rattle.std.proofs.Common.{refl, rules}
use Rattle.hexadecimal.specs.Hex.{hex}
use Rattle.std.proofs.lemmas.Str.{IsUtf8-from_ascii}
use Rattle.hexadecimal.proofs.Laws.{two_marks_more, whole_piece, hex-ascii, all_bytes}
use Rattle.hexadecimal.proofs.digits.digits_of.Goals as goal

pub loop-i-init : goal.loop-i-init
unfolding hex
loop-i-init c = refl

pub loop-i-preserved : goal.loop-i-preserved
loop-i-preserved c =
    two_marks_more c.args.piece.now c.loop-i.text c.loop-i.i c.digit_mark.result c.digit_mark-in-loop-i.result
    c.loop-i-test.true (search rules) c.loop-i.invariant c.digit_mark.ensures c.digit_mark-in-loop-i.ensures

pub unreachable-requires : goal.unreachable-requires
unreachable-requires c =
    let piece = c.args.piece.now in
    let front = whole_piece piece c.loop-i.text c.loop-i.i c.loop-i-test.false c.loop-i.auto.i-end c.loop-i.invariant in
    c.in_default.ensures.cases.0 (rw front (IsUtf8-from_ascii (hex piece) (hex-ascii piece (all_bytes piece c.type_inv.piece))))
