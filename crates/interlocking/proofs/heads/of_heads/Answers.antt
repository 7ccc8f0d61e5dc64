-- The row of an event of heads, with what is asked by its kind.
use borrow.Author.Rules.{rules}
use Rattle.interlocking.proofs.Trying.{row_by_kind}
use Rattle.interlocking.proofs.heads.of_heads.Goals as goal

-- the answer
pub returns : goal.returns
returns c = search (rules, row_by_kind)
