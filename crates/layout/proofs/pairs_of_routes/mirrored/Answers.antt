-- A test for each row, which ends at the first that fails.
use Rattle.laws.proofs.Loops.{alls}
use Rattle.layout.proofs.pairs_of_routes.mirrored.Goals as goal

pub loop-r-init : goal.loop-r-init
loop-r-init c = search alls

pub returns-then-not-row_mirrors : goal.returns-then-not-row_mirrors
returns-then-not-row_mirrors c = search alls

pub loop-r-preserved : goal.loop-r-preserved
loop-r-preserved c = search alls

pub returns : goal.returns
returns c = search alls
