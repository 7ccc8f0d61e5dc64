-- The line's blocks differ, and their set shares nothing with that of the lines before.
use native.Mathlib.Omega.{arith}
use Rattle.std.proofs.lemmas.Grind.{common_steps}
use Rattle.laws.specs.Tests.{◌and◌}
use Rattle.rules.specs.Rules.{once}
use Rattle.rules.proofs.Sets.{again_is}
use Rattle.rules.proofs.blocks_once.Goals as goal

pub returns-then-blocks_differ : goal.returns-then-blocks_differ
unfolding once ◌and◌
returns-then-blocks_differ c = grind (arith, common_steps, again_is c.args.ls.now c.args.l)

pub returns-else-blocks_differ : goal.returns-else-blocks_differ
unfolding once ◌and◌
returns-else-blocks_differ c = grind (arith, common_steps, again_is c.args.ls.now c.args.l)
