-- The blocks of the line, as a set.
use borrow.Author.Rules.{rules}
use Rattle.reasons.proofs.InTheWay.{line_by_set}
use Rattle.reasons.proofs.line_not_free.Goals as goal

-- the answer
pub returns : goal.returns
returns c = search (rules, line_by_set)
