-- What the line shows decides first, then what lets a train into the block.
use borrow.Author.Rules.{rules}
use Rattle.laws.specs.Choice.{when◌then◌else◌}
use Rattle.laws.specs.Tests.{◌and◌, every}
use Rattle.signals.specs.BlockSignals.{light_shown, block_shown_where}
use Rattle.signals.proofs.block_signals.block_shown.Goals as goal

pub returns-then-s-w : goal.returns-then-s-w
unfolding block_shown_where light_shown every ◌and◌ when◌then◌else◌
returns-then-s-w c = search rules

pub returns-then-is_unbarred : goal.returns-then-is_unbarred
unfolding block_shown_where light_shown every ◌and◌ when◌then◌else◌
returns-then-is_unbarred c = search rules

pub returns : goal.returns
unfolding block_shown_where light_shown every ◌and◌ when◌then◌else◌
returns c = search rules
