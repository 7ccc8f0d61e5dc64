-- There is a carrier, and what it shows is one of the two.
use borrow.Author.Rules.{rules}
use Rattle.laws.specs.Tests.{◌and◌, ◌or◌}
use Rattle.signals.specs.Distants.{stop_or_dark, carrier_darkens}
use Rattle.signals.proofs.distants.carrier_darkens.Goals as goal

pub returns-in-20 : goal.returns-in-20
unfolding carrier_darkens stop_or_dark ◌and◌ ◌or◌
returns-in-20 c = search rules

pub returns-in_default : goal.returns-in_default
unfolding carrier_darkens stop_or_dark ◌and◌ ◌or◌
returns-in_default c = search rules

pub returns-else-carrier-ne0 : goal.returns-else-carrier-ne0
unfolding carrier_darkens stop_or_dark ◌and◌ ◌or◌
returns-else-carrier-ne0 c = search rules
