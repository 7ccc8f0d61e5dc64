-- A row of 48 for each route.
use borrow.Author.Rules.{rules}
use Rattle.pairs.specs.Pairs.{place_of}
use Rattle.pairs.proofs.place_of.Goals as goal

pub returns : goal.returns
unfolding place_of
returns c = search rules
