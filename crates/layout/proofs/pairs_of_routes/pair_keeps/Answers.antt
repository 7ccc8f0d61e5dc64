-- What is listed keeps rule 6, and what is not must not clash.
use borrow.Author.Rules.{rules}
use Rattle.layout.proofs.Tested.{pair_listed, pair_unlisted}
use Rattle.layout.proofs.pairs_of_routes.pair_keeps.Goals as goal

pub returns-then-entry-eq1 : goal.returns-then-entry-eq1
returns-then-entry-eq1 c = search (rules, pair_listed)

pub returns : goal.returns
returns c = search (rules, pair_unlisted)
