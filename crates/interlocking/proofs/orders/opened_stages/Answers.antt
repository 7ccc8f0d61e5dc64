-- The places before k are open where they must be.
use Rattle.laws.proofs.Each.{redoes}
use Rattle.interlocking.proofs.orders.opened_stages.Goals as goal

-- before the first turn
pub loop-k-init : goal.loop-k-init
loop-k-init c = search redoes

-- one turn more
pub loop-k-preserved : goal.loop-k-preserved
loop-k-preserved c = search redoes

-- the answer
pub returns : goal.returns
returns c = search redoes
