-- An exit route, or two path sections.
use native.Mathlib.Omega.{arith}
use Rattle.std.proofs.lemmas.Grind.{common_steps}
use Rattle.laws.specs.Tests.{◌or◌}
use Rattle.rules.specs.Rules.{route_length}
use Rattle.rules.proofs.route_length.Goals as goal

pub returns-then-a-eq-EXIT_ROUTE : goal.returns-then-a-eq-EXIT_ROUTE
unfolding route_length ◌or◌
returns-then-a-eq-EXIT_ROUTE c = grind (arith, common_steps)

pub returns-else-a-eq-EXIT_ROUTE : goal.returns-else-a-eq-EXIT_ROUTE
unfolding route_length ◌or◌
returns-else-a-eq-EXIT_ROUTE c = grind (arith, common_steps)
