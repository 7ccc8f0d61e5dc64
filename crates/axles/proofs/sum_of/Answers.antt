-- The two sums and their difference, each round 65,536.
use mathlib.Core.Path.{refl}
use native.Mathlib.Omega.{arith}
use Rattle.axles.proofs.Laws.{sum_made}
use Rattle.axles.proofs.sum_of.Goals as goal

pub returns : goal.returns
returns c = sum_made c.args.x _ _ _ refl refl (omega arith) (omega arith)
