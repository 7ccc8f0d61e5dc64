-- The stage is one of the two.
use borrow.Author.Rules.{rules}
use Rattle.laws.specs.Tests.{◌or◌}
use Rattle.tables.specs.Blocks.{stage_of}
use Rattle.line_block.specs.LineRelease.{was_passed, last_block}
use Rattle.line_block.proofs.line_release.was_passed.Goals as goal

pub returns-in-3 : goal.returns-in-3
unfolding was_passed last_block stage_of ◌or◌
returns-in-3 c = search rules

pub returns-in_default : goal.returns-in_default
unfolding was_passed last_block stage_of ◌or◌
returns-in_default c = search rules

pub returns-in_default-2 : goal.returns-in_default-2
unfolding was_passed last_block stage_of ◌or◌
returns-in_default-2 c = search rules
