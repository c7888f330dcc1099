use Rattle.std.proofs.Common.{◌≡◌}
use Rattle.cipher.specs.Block.{be_bytes}
use Rattle.khazad.specs.Khazad.{rounds}
use Rattle.khazad.specs.Blocks.{rows_of}
use Rattle.khazad.proofs.engine.run.Given as goal

abbrev pub invariant-loop-key : goal.invariant-loop-key
invariant-loop-key g l = be_bytes 8 l.state ≡ rounds (rows_of l.keys) l.key-index (be_bytes 8 l.initial.state)
