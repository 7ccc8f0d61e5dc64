-- Stage 1 becomes 2, stage 2 becomes 1, or the stage stays.
use native.Mathlib.Omega.{arith}
use Rattle.std.proofs.lemmas.Grind.{common_steps}
use Rattle.laws.specs.Choice.{when◌then◌else◌}
use Rattle.laws.specs.Tests.{◌and◌}
use Rattle.passage.specs.Passage.{far_stage}
use Rattle.passage.proofs.far_stage.Goals as goal

pub returns-in-2 : goal.returns-in-2
unfolding far_stage ◌and◌ when◌then◌else◌
returns-in-2 c = grind (arith, common_steps)

pub returns-in_default : goal.returns-in_default
unfolding far_stage ◌and◌ when◌then◌else◌
returns-in_default c = grind (arith, common_steps)

pub returns-in_default-2 : goal.returns-in_default-2
unfolding far_stage ◌and◌ when◌then◌else◌
returns-in_default-2 c = grind (arith, common_steps)
