-- Field by field.
use mathlib.Core.Path.{refl}
use Rattle.fitted.specs.Fitted.{with_told}
use Rattle.fitted.proofs.equip.Goals as goal

pub returns : goal.returns
unfolding with_told
returns c = refl
