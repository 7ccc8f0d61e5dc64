-- The section asked for is the point's own, a set of one.
use borrow.Author.Rules.{rules}
use Rattle.reasons.proofs.InTheWay.{point_by_set}
use Rattle.reasons.proofs.point_not_free.Goals as goal

-- the answer
pub returns : goal.returns
returns c = search (rules, point_by_set)
