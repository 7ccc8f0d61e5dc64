-- The places before k are open where they must be.
use Rattle.laws.proofs.Each.{Redone}
use Rattle.track.specs.Sizes.{most_places}
use Rattle.interlocking.specs.Own.{open_at}
use Rattle.interlocking.proofs.orders.opened_stages.Given as goal

abbrev pub invariant-loop-k : goal.invariant-loop-k
invariant-loop-k l = Redone most_places l.m (open_at l.ls l.l) l.initial.stage l.stage l.k
