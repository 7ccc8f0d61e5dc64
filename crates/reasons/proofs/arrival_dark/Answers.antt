-- The test itself, on the entrance signal of the arrival end.
use Rattle.reasons.specs.Reasons.{arrival_dark}
use Rattle.reasons.proofs.arrival_dark.Goals as goal

-- the answer
pub returns : goal.returns
unfolding arrival_dark
returns c = cc
