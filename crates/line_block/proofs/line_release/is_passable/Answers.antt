-- Both tests.
use borrow.Author.Rules.{rules}
use Rattle.laws.specs.Tests.{◌and◌}
use Rattle.line_block.specs.LineRelease.{passable}
use Rattle.line_block.proofs.line_release.is_passable.Goals as goal

pub returns-then-is_open : goal.returns-then-is_open
unfolding passable ◌and◌
returns-then-is_open c = search rules

pub returns-else-is_open : goal.returns-else-is_open
unfolding passable ◌and◌
returns-else-is_open c = search rules
