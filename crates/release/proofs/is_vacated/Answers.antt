-- Its path sections are asked and, for an entrance route, the block nearest its end.
use borrow.Author.Rules.{rules}
use Rattle.laws.specs.Tests.{◌and◌, implies}
use Rattle.release.specs.Release.{vacated}
use Rattle.release.proofs.is_vacated.Goals as goal

pub returns-then-a-ne-ENTRANCE_ROUTE : goal.returns-then-a-ne-ENTRANCE_ROUTE
unfolding vacated implies ◌and◌
returns-then-a-ne-ENTRANCE_ROUTE c = search rules

pub returns-else-a-ne-ENTRANCE_ROUTE : goal.returns-else-a-ne-ENTRANCE_ROUTE
unfolding vacated implies ◌and◌
returns-else-a-ne-ENTRANCE_ROUTE c = search rules

pub returns-else-all_free : goal.returns-else-all_free
unfolding vacated implies ◌and◌
returns-else-all_free c = search rules
