-- No section is told, and none is lacking.
use Rattle.fitted.specs.Fitted.{none_told}
use Rattle.fitted.proofs.none_told.Goals as goal

pub returns : goal.returns
unfolding none_told
returns c = cc
