-- By the 90th second; or, the third step done, where it is vacated.
use borrow.Author.Rules.{rules}
use Rattle.laws.specs.Tests.{◌and◌, ◌or◌}
use Rattle.release.specs.Release.{goes}
use Rattle.release.proofs.is_released.Goals as goal

pub returns-then-waited : goal.returns-then-waited
unfolding goes ◌and◌ ◌or◌
returns-then-waited c = search rules

pub returns-then-steps-eq3 : goal.returns-then-steps-eq3
unfolding goes ◌and◌ ◌or◌
returns-then-steps-eq3 c = search rules

pub returns-else-steps-eq3 : goal.returns-else-steps-eq3
unfolding goes ◌and◌ ◌or◌
returns-else-steps-eq3 c = search rules
