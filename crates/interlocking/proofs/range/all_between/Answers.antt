-- Each entry was tested.
use Rattle.laws.proofs.Loops.{gathers}
use Rattle.interlocking.specs.State.{codes}
use Rattle.interlocking.proofs.range.all_between.Goals as goal

-- before the first turn
pub loop-i-init : goal.loop-i-init
loop-i-init c = search gathers

-- one turn more
pub loop-i-preserved : goal.loop-i-preserved
loop-i-preserved c = search gathers

-- the answer
pub returns : goal.returns
unfolding codes
returns c = search gathers
