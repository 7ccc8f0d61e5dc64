-- Both tests, on the two entries read.
use borrow.Author.Rules.{rules}
use Rattle.laws.specs.Tests.{◌and◌}
use Rattle.line_block.specs.Entries.{entry_proceeds}
use Rattle.line_block.proofs.far_sections.route_proceeds.Goals as goal

pub returns : goal.returns
unfolding entry_proceeds ◌and◌
returns c = search rules
