-- No route before r is a locked exit route of the line.
use Rattle.laws.proofs.Loops.{Failed}
use Rattle.tables.specs.Locks.{locked_exit}
use Rattle.line_block.proofs.line_release.exit_is_locked.Given as goal

abbrev pub invariant-loop-r : goal.invariant-loop-r
invariant-loop-r l = Failed l.n (locked_exit l.rs l.phases l.k) l.r
