-- A search that leaves at the first route that is locked and lists the point; there is none past the table.
use Rattle.reasons.proofs.SearchLaws.{routes}
use Rattle.reasons.proofs.searches.lowest_route_locking.Goals as goal

-- before the first turn
pub loop-r-init : goal.loop-r-init
loop-r-init c = search routes

-- one turn more
pub loop-r-preserved : goal.loop-r-preserved
loop-r-preserved c = search routes

-- none is found
pub returns : goal.returns
returns c = search routes

-- it leaves here
pub returns-then-route_locks : goal.returns-then-route_locks
returns-then-route_locks c = search routes
