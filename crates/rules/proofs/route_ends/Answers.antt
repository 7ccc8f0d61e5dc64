-- The code asks the three clauses of rule 5 in their order.
use native.Mathlib.Omega.{arith}
use Rattle.std.proofs.lemmas.Grind.{common_steps}
use Rattle.laws.specs.Tests.{◌and◌, ◌or◌, implies, every}
use Rattle.rules.specs.Rules.{route_ends}
use Rattle.rules.proofs.route_ends.Goals as goal

pub returns-then-a-eq-ENTRANCE_ROUTE : goal.returns-then-a-eq-ENTRANCE_ROUTE
unfolding route_ends every implies ◌and◌ ◌or◌
returns-then-a-eq-ENTRANCE_ROUTE c = grind (arith, common_steps)

pub returns-else-a-eq-ENTRANCE_ROUTE : goal.returns-else-a-eq-ENTRANCE_ROUTE
unfolding route_ends every implies ◌and◌ ◌or◌
returns-else-a-eq-ENTRANCE_ROUTE c = grind (arith, common_steps)

pub returns-else-last_section-section : goal.returns-else-last_section-section
unfolding route_ends every implies ◌and◌ ◌or◌
returns-else-last_section-section c = grind (arith, common_steps)
