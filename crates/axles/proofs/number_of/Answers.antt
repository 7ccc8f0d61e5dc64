-- The sum at the last reset is taken off, and the rest is signed.
use Prim.Native.Nat.{◌+◌, ◌-◌, ◌%◌}
use native.Mathlib.Omega.{arith}
use borrow.Author.Rules.{rules}
use Rattle.axles.proofs.Laws.{number_made}
use Rattle.axles.proofs.number_of.Goals as goal

pub returns : goal.returns
returns c = number_made c.args.x c.sum_of.result ((c.sum_of.result + (65536 - c.args.x.sum)) % 65536) _ (search rules) (omega arith) (omega arith) (search rules)
