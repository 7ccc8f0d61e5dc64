-- A search that leaves at the first route that is locked and conflicts.
use Rattle.reasons.proofs.SearchLaws.{finds}
use Rattle.reasons.proofs.searches.lowest_conflicting.Goals as goal

-- before the first turn
pub loop-q-init : goal.loop-q-init
loop-q-init c = search finds

-- one turn more
pub loop-q-preserved : goal.loop-q-preserved
loop-q-preserved c = search finds

-- none is found
pub returns : goal.returns
returns c = search finds

-- it leaves here
pub returns-then-conflicts_with : goal.returns-then-conflicts_with
returns-then-conflicts_with c = search finds
