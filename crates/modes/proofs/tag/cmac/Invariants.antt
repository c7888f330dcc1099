use Rattle.std.proofs.Common.{◌≡◌, length}
use Rattle.modes.specs.Cmac.{tag_from, CMAC}
use Rattle.modes.proofs.tag.cmac.Given as goal

abbrev pub invariant-loop-block : goal.invariant-loop-block
invariant-loop-block g l =
    let m = g.C.Cipher in
    let CIPH = m.enciphered (m.key l.cipher) in
    tag_from CIPH l.chain l.left ≡ CMAC CIPH l.message

abbrev pub decreases-loop-block : goal.decreases-loop-block
decreases-loop-block g l = length l.left
