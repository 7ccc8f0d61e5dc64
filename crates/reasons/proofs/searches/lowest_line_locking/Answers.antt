-- A search that leaves at the first line that is secured and lists the point; there is none past the table.
use Rattle.reasons.proofs.SearchLaws.{lines}
use Rattle.reasons.proofs.searches.lowest_line_locking.Goals as goal

-- before the first turn
pub loop-l-init : goal.loop-l-init
loop-l-init c = search lines

-- one turn more
pub loop-l-preserved : goal.loop-l-preserved
loop-l-preserved c = search lines

-- none is found
pub returns : goal.returns
returns c = search lines

-- it leaves here
pub returns-then-line_locks : goal.returns-then-line_locks
returns-then-line_locks c = search lines
