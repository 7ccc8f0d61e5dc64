-- By the line that stands there; past the last line there is one of nothing, with no blocks.
use Rattle.reasons.proofs.Laws.{block_there, no_block}
use Rattle.reasons.proofs.events.no_such_block.Goals as goal

-- one is found
pub returns-in-Some : goal.returns-in-Some
returns-in-Some c = block_there _ _ _ _ c.in-Some.ensures.lookup.3.1

-- none is found
pub returns-in-None : goal.returns-in-None
returns-in-None c = no_block _ _ _ c.in-None.ensures.lookup.3
