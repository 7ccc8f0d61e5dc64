-- Each count is its own.
use borrow.Author.Rules.{rules}
use Rattle.layout.specs.Layout.{counts}
use Rattle.layout.proofs.Layout.counts.Goals as goal

pub returns : goal.returns
unfolding counts
returns c = search rules
