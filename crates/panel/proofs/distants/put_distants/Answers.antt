-- Each is written after those before it.
use borrow.Author.Rules.{rules}
use mathlib.Core.Path.{refl}
use native.Mathlib.Omega.{arith}
use Rattle.panel.proofs.Writes.{writes}
use Rattle.panel.proofs.distants.put_distants.Goals as goal

pub loop-d-init : goal.loop-d-init
loop-d-init c = (omega arith, omega arith, refl, search writes)

pub loop-d-preserved : goal.loop-d-preserved
loop-d-preserved c = (omega arith, omega arith, search rules, search writes)

pub returns : goal.returns
returns c = search writes
