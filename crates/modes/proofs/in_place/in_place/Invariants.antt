use Rattle.modes.proofs.Walk.{Walked}
use Rattle.modes.proofs.in_place.in_place.Given as goal

abbrev pub invariant-loop-at : goal.invariant-loop-at
invariant-loop-at g l = goal.F-IsAlwaysCallable g l.step × Walked (goal.F-step g) l.fn.step l.initial.buffer l.at l.step l.buffer
