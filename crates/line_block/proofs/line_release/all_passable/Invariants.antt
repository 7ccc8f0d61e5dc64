-- The blocks before block i are open and not barred.
use Rattle.laws.proofs.Loops.{SoFar}
use Rattle.line_block.specs.LineRelease.{passable}
use Rattle.line_block.proofs.line_release.all_passable.Given as goal

abbrev pub invariant-loop-i : goal.invariant-loop-i
invariant-loop-i l = SoFar l.n (passable l.t.stage.now l.t.bar.now l.k) l.i
