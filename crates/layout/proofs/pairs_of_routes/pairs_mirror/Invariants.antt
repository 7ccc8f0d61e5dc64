-- Each pair of r and a route before q is listed both ways.
use Rattle.laws.proofs.Loops.{SoFar}
use Rattle.layout.specs.Sound.{pair_mirrors}
use Rattle.layout.proofs.pairs_of_routes.pairs_mirror.Given as goal

abbrev pub invariant-loop-q : goal.invariant-loop-q
invariant-loop-q l = SoFar l.r (pair_mirrors l.m l.r) l.q
