-- The tests, one after the other.
use borrow.Author.Rules.{rules}
use Rattle.laws.specs.Tests.{◌and◌}
use Rattle.line_block.specs.PassingBack.{released_entrance_by}
use Rattle.line_block.proofs.passing_back.is_released_entrance.Goals as goal

pub returns : goal.returns
unfolding released_entrance_by ◌and◌
returns c = search rules
