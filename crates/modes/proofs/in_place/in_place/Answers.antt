use Rattle.std.proofs.Common.{arith, of_calls}
use Rattle.modes.proofs.Walk.{walk_none, walk_more, walk_all}
use Rattle.modes.proofs.in_place.in_place.Goals as goal
use Rattle.modes.proofs.in_place.in_place.Goals.{else-loop-at-test, then-loop-at-test+else-at-end-at-gt8}

pub loop-at-init : goal.loop-at-init
loop-at-init g c = (c.requires, walk_none)

pub loop-at-preserved : goal.loop-at-preserved
loop-at-preserved g c = (
  search of_calls,
  walk_more c.loop-at.invariant.1 c.loop-at.auto.buffer (omega (arith, c.loop-at.invariant.1.place)) c.block_at-block.ensures c.step.ensures c.put_block.ensures,
)

pub returns-clause-written : goal.returns-clause-written
returns-clause-written g c =
    let w = c.loop-at.invariant.1 in
    let same = c.loop-at.auto.buffer in
    elim c.loop-at-test.branch [
      | else-loop-at-test d ↦ walk_all w same (omega arith) d.buffer-is
      | then-loop-at-test+else-at-end-at-gt8 d ↦
          walk_all (walk_more w same (omega (arith, w.place)) d.block_at-block.ensures d.step.ensures d.put_block.ensures) (omega arith) (omega arith) d.buffer-is
    ]
