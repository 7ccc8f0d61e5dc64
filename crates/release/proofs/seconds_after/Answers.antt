-- A tick counts for a cancelling route, up to 89.
use borrow.Author.Rules.{rules}
use Rattle.laws.specs.Choice.{when◌then◌else◌}
use Rattle.laws.specs.Tests.{◌and◌}
use Rattle.release.specs.Release.{seconds_after}
use Rattle.release.proofs.seconds_after.Goals as goal

pub returns-then-seconds-lt89 : goal.returns-then-seconds-lt89
unfolding seconds_after ◌and◌ when◌then◌else◌
returns-then-seconds-lt89 c = search rules

pub returns : goal.returns
unfolding seconds_after ◌and◌ when◌then◌else◌
returns c = search rules
