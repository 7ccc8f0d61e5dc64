-- The code asks the eight tests of section 2 in their order.
use native.Mathlib.Omega.{arith}
use Rattle.std.proofs.lemmas.Grind.{common_steps}
use Rattle.laws.specs.Tests.{◌and◌, ◌or◌, every}
use Rattle.track.specs.Ranges.{route_fits}
use Rattle.track.proofs.route_fits.Goals as goal

pub returns-then-all_refer-2 : goal.returns-then-all_refer-2
unfolding route_fits every ◌or◌ ◌and◌
returns-then-all_refer-2 c = grind (arith, common_steps)

pub returns-else-all_refer-2 : goal.returns-else-all_refer-2
unfolding route_fits every ◌or◌ ◌and◌
returns-else-all_refer-2 c = grind (arith, common_steps)
