-- The table of fitted sections has no more than 64.
use native.Mathlib.Omega.{arith}
use borrow.Author.Rules.{rules}
use Rattle.interlocking.proofs.Trying.{fitted_below}
use Rattle.interlocking.proofs.heads.fitted_number.Goals as goal

-- the number fits a byte
pub overflow_cast-result : goal.overflow_cast-result
overflow_cast-result c = let o = fitted_below c.args.fitted.now c.args.g (search rules) c.requires in omega arith
