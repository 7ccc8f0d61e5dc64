-- Its own entry, then each before it.
use Rattle.laws.specs.Tests.{◌and◌}
use Rattle.layout.specs.Sound.{row_mirrors}
use Rattle.layout.proofs.pairs_of_routes.row_mirrors.Goals as goal

pub returns : goal.returns
unfolding row_mirrors ◌and◌
returns c = cc
