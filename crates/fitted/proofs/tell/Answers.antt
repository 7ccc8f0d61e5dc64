-- The table and whether a section is lacking, each with the number told.
use Rattle.fitted.specs.Fitted.{tell}
use Rattle.fitted.proofs.tell.Goals as goal

pub returns : goal.returns
unfolding tell
returns c = cc
