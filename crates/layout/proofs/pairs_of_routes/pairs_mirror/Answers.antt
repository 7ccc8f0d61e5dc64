-- A test for each route before, which ends at the first that fails.
use Rattle.laws.proofs.Loops.{alls}
use Rattle.layout.proofs.pairs_of_routes.pairs_mirror.Goals as goal

pub loop-q-init : goal.loop-q-init
loop-q-init c = search alls

pub returns-then-not-pair_mirrors : goal.returns-then-not-pair_mirrors
returns-then-not-pair_mirrors c = search alls

pub loop-q-preserved : goal.loop-q-preserved
loop-q-preserved c = search alls

pub returns : goal.returns
returns c = search alls
