-- Path and overlap together, as sets.
use borrow.Author.Rules.{rules}
use Rattle.reasons.proofs.InTheWay.{route_by_set}
use Rattle.reasons.proofs.route_not_free.Goals as goal

-- the answer
pub returns : goal.returns
returns c = search (rules, route_by_set)
