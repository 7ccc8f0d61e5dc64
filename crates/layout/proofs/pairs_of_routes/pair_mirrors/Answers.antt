-- Both entries are looked at.
use Rattle.laws.specs.Tests.{◌and◌}
use Rattle.layout.specs.Sound.{pair_mirrors}
use Rattle.layout.proofs.pairs_of_routes.pair_mirrors.Goals as goal

pub returns : goal.returns
unfolding pair_mirrors ◌and◌
returns c = cc
