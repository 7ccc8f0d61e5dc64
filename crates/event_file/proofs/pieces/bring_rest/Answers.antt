-- One byte more.
use native.Mathlib.Omega.{arith}
use Rattle.event_file.proofs.Rest.{rest_on, rests}
use Rattle.event_file.proofs.pieces.bring_rest.Goals as goal

pub loop-at-init : goal.loop-at-init
loop-at-init c = (omega arith, search rests)

pub loop-at-preserved : goal.loop-at-preserved
loop-at-preserved c = (omega arith, rest_on _ _ _ _ _ _ c.loop-at.invariant.1 c.loop-at.invariant.0 (omega arith) (omega arith))

pub returns : goal.returns
returns c = search rests
