-- The signals are compared, and a common section or point is a number that two sets share.
use native.Mathlib.Omega.{arith}
use Rattle.std.proofs.lemmas.Grind.{common_steps}
use Rattle.laws.specs.Tests.{◌or◌}
use Rattle.rules.specs.Sets.{clashing}
use Rattle.rules.proofs.clash.Goals as goal

pub returns-then-share-2 : goal.returns-then-share-2
unfolding clashing ◌or◌
returns-then-share-2 c = grind (arith, common_steps)

pub returns-else-share-2 : goal.returns-else-share-2
unfolding clashing ◌or◌
returns-else-share-2 c = grind (arith, common_steps)
