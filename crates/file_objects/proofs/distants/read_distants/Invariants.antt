-- So many turns are done.
use Rattle.laws.proofs.Loops.{Turned}
use Rattle.file_objects.specs.Distants.{distant_turn}
use Rattle.file_objects.proofs.distants.read_distants.Given as goal

abbrev pub invariant-loop-i : goal.invariant-loop-i
invariant-loop-i l = Turned l.i-end (distant_turn l.s l.signals) l.initial.t l.t l.i
