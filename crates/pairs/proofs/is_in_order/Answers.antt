-- Smaller first, and after the last one.
use borrow.Author.Rules.{rules}
use Rattle.laws.specs.Tests.{◌and◌, ◌or◌}
use Rattle.pairs.specs.Pairs.{comes_after, in_order}
use Rattle.pairs.proofs.is_in_order.Goals as goal

pub returns : goal.returns
unfolding in_order comes_after ◌and◌ ◌or◌
returns c = search rules
