-- Nothing is asked.
use borrow.Author.Rules.{rules}
use Rattle.layout.specs.Walks.{no_reach}
use Rattle.layout.proofs.pairs_of_routes.no_reach.Goals as goal

pub returns : goal.returns
unfolding no_reach
returns c = search rules
