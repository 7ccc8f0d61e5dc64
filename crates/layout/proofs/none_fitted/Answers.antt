-- A table of no heads.
use borrow.Author.Rules.{rules}
use Rattle.layout.specs.Layout.{none_fitted}
use Rattle.layout.proofs.none_fitted.Goals as goal

pub returns : goal.returns
unfolding none_fitted
returns c = search rules
