-- By whether it is the last piece.
use Rattle.fitted.proofs.Read.{through_last, through_more}
use Rattle.fitted.proofs.read_through.Goals as goal

pub returns-then-last : goal.returns-then-last
returns-then-last c = through_last _ _ c.if-last.true

pub returns : goal.returns
returns c = through_more _ _ c.if-last.false
