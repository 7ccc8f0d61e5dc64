-- A return for each line of the table, behind the tests of the lines before it.
use borrow.Author.Rules.{rules}
use Rattle.laws.specs.Choice.{when◌then◌else◌}
use Rattle.laws.specs.Tests.{◌and◌, ◌or◌}
use Rattle.release.specs.Release.{steps_after}
use Rattle.release.proofs.steps_after.Goals as goal

pub returns-then-steps-eq3 : goal.returns-then-steps-eq3
unfolding steps_after ◌and◌ ◌or◌ when◌then◌else◌
returns-then-steps-eq3 c = search rules

pub returns-then-w-eq-NONE : goal.returns-then-w-eq-NONE
unfolding steps_after ◌and◌ ◌or◌ when◌then◌else◌
returns-then-w-eq-NONE c = search rules

pub returns-then-w-eq-FREE : goal.returns-then-w-eq-FREE
unfolding steps_after ◌and◌ ◌or◌ when◌then◌else◌
returns-then-w-eq-FREE c = search rules

pub returns-then-steps-eq2 : goal.returns-then-steps-eq2
unfolding steps_after ◌and◌ ◌or◌ when◌then◌else◌
returns-then-steps-eq2 c = search rules

pub returns-then-w-eq-FREE-2 : goal.returns-then-w-eq-FREE-2
unfolding steps_after ◌and◌ ◌or◌ when◌then◌else◌
returns-then-w-eq-FREE-2 c = search rules

pub returns-then-w-eq-OCCUPIED-2 : goal.returns-then-w-eq-OCCUPIED-2
unfolding steps_after ◌and◌ ◌or◌ when◌then◌else◌
returns-then-w-eq-OCCUPIED-2 c = search rules

pub returns-then-steps-eq1-2 : goal.returns-then-steps-eq1-2
unfolding steps_after ◌and◌ ◌or◌ when◌then◌else◌
returns-then-steps-eq1-2 c = search rules

pub returns-then-w-eq-OCCUPIED-3 : goal.returns-then-w-eq-OCCUPIED-3
unfolding steps_after ◌and◌ ◌or◌ when◌then◌else◌
returns-then-w-eq-OCCUPIED-3 c = search rules

pub returns : goal.returns
unfolding steps_after ◌and◌ ◌or◌ when◌then◌else◌
returns c = search rules
