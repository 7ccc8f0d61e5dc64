-- So many turns are done.
use Rattle.laws.proofs.Loops.{Turned}
use Rattle.pairs.specs.Pairs.{pair_turn}
use Rattle.pairs.proofs.read_pairs.Given as goal

abbrev pub invariant-loop-i : goal.invariant-loop-i
invariant-loop-i l = Turned l.i-end (pair_turn l.s l.few) l.initial.t l.t l.i
