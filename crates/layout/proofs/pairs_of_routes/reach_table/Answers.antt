-- An entry for each route.
use Rattle.laws.proofs.Tables.{fills}
use Rattle.layout.proofs.Tested.{reach_at}
use Rattle.layout.specs.Walks.{reaches}
use Rattle.layout.proofs.pairs_of_routes.reach_table.Goals as goal

pub loop-i-init : goal.loop-i-init
loop-i-init c = search fills

pub loop-i-preserved : goal.loop-i-preserved
loop-i-preserved c = search (fills, reach_at)

pub returns : goal.returns
unfolding reaches
returns c = search fills
