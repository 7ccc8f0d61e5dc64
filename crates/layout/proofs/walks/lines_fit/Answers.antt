-- The closure is the test of one line.
use borrow.Author.Rules.{rules}
use Rattle.laws.proofs.Chains.{all_asked}
use Rattle.layout.specs.Layout.{line_in}
use Rattle.layout.proofs.walks.lines_fit.Goals as goal

pub returns : goal.returns
unfolding line_in
returns c = all_asked c.all.ensures.ran (λ x b q k. search rules)
