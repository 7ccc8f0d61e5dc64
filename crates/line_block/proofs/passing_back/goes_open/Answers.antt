-- Both tests, on the two entries read.
use borrow.Author.Rules.{rules}
use Rattle.laws.specs.Tests.{◌and◌}
use Rattle.tables.specs.Blocks.{stage_of}
use Rattle.line_block.specs.PassingBack.{goes_open}
use Rattle.line_block.proofs.passing_back.goes_open.Goals as goal

pub returns : goal.returns
unfolding goes_open stage_of ◌and◌
returns c = search rules
