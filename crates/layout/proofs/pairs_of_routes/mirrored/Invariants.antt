-- Each row before r is listed both ways.
use Rattle.laws.proofs.Loops.{SoFar}
use Rattle.layout.specs.Sound.{row_mirrors}
use Rattle.layout.proofs.pairs_of_routes.mirrored.Given as goal

abbrev pub invariant-loop-r : goal.invariant-loop-r
invariant-loop-r l = SoFar l.n (row_mirrors l.m) l.r
