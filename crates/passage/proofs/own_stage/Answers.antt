-- Occupied leaves stages 1 and 2, and takes any other to 1.
use native.Mathlib.Omega.{arith}
use Rattle.std.proofs.lemmas.Grind.{common_steps}
use Rattle.laws.specs.Choice.{when◌then◌else◌}
use Rattle.laws.specs.Tests.{◌or◌}
use Rattle.passage.specs.Passage.{own_stage}
use Rattle.passage.proofs.own_stage.Goals as goal

pub returns-in-2 : goal.returns-in-2
unfolding own_stage ◌or◌ when◌then◌else◌
returns-in-2 c = grind (arith, common_steps)

pub returns-in-2-2 : goal.returns-in-2-2
unfolding own_stage ◌or◌ when◌then◌else◌
returns-in-2-2 c = grind (arith, common_steps)
