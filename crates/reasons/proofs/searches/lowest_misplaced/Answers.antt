-- The lowest number in the set of the points that are not read in position, where it is a point.
use borrow.Author.Rules.{rules}
use Rattle.reasons.proofs.InTheWay.{point_found}
use Rattle.reasons.proofs.searches.lowest_misplaced.Goals as goal

-- the answer
pub returns : goal.returns
returns c = search (rules, point_found)
