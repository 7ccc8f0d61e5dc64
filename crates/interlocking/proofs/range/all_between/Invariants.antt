-- Whether the entries before i are in range.
use lib.ListN.{get_or}
use Rattle.laws.proofs.Loops.{Gathered}
use Rattle.track.specs.Lists.{between}
use Rattle.interlocking.proofs.range.all_between.Given as goal

abbrev pub invariant-loop-i : goal.invariant-loop-i
invariant-loop-i l = Gathered l.n (λ k. between l.low l.high (get_or l.xs k 0)) l.all l.i
