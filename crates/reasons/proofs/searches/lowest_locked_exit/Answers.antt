-- A search that leaves at the first locked exit route of the line; there is none past the table.
use Rattle.reasons.proofs.SearchLaws.{exits}
use Rattle.reasons.proofs.searches.lowest_locked_exit.Goals as goal

-- before the first turn
pub loop-r-init : goal.loop-r-init
loop-r-init c = search exits

-- one turn more
pub loop-r-preserved : goal.loop-r-preserved
loop-r-preserved c = search exits

-- none is found
pub returns : goal.returns
returns c = search exits

-- it leaves here
pub returns-then-is_locked_exit : goal.returns-then-is_locked_exit
returns-then-is_locked_exit c = search exits
