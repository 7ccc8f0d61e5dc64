-- What is left from the place on tells the rest: each number is told, and the first fault or the end of the bytes ends it.
use Rattle.fitted.proofs.Read.{pieces}
use Rattle.fitted.proofs.tell_piece.Goals as goal

pub returns-in-Err : goal.returns-in-Err
returns-in-Err c = search pieces

pub loop-at-preserved : goal.loop-at-preserved
loop-at-preserved c = search pieces

pub loop-at-smaller : goal.loop-at-smaller
loop-at-smaller c = search pieces

pub returns : goal.returns
returns c = search pieces
