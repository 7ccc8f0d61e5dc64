-- As many as there are places, each empty.
use borrow.Author.Rules.{rules}
use Rattle.pairs.specs.Pairs.{no_pairs}
use Rattle.pairs.proofs.no_pairs.Goals as goal

pub returns : goal.returns
unfolding no_pairs
returns c = search rules
