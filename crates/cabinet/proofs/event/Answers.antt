-- The answer's number and detail are told, and its next state stands in the record.
use Rattle.std.proofs.Common.{refl}
use Rattle.cabinet.specs.Calls.{after_call, tells, of_event}
use Rattle.cabinet.specs.Cabinet.{reply}
use Rattle.cabinet.proofs.event.Goals as goal

pub returns : goal.returns
unfolding reply tells of_event after_call
returns c = rw c.step-a.ensures (refl, refl)
