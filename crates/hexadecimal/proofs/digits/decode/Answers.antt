-- Each turn reads one pair.
use Rattle.std.proofs.Common.{◌≤◌, length, vec_items, ◌∙◌, rules}
use Rattle.hexadecimal.proofs.Laws.{pair-is_a_byte_more}
use Rattle.hexadecimal.proofs.digits.decode.Goals as goal

pub loop-rest-preserved : goal.loop-rest-preserved
loop-rest-preserved c =
    let rest = c.loop-rest.rest.now in
    let two : 2 ≤ length rest = search rules in
    pair-is_a_byte_more (vec_items c.loop-rest.bytes) (vec_items c.push.new.self) rest c.in-Some.byte two c.in-Some.ensures c.in_ok-push.ensures.items ∙ c.loop-rest.invariant
