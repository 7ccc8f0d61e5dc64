-- The answer's number and detail are told, and what it leaves stands in both records.
use Rattle.std.proofs.Common.{refl}
use Rattle.cabinet.specs.Calls.{after_call, tells, of_fit}
use Rattle.cabinet.specs.Cabinet.{load_reply}
use Rattle.cabinet.proofs.hiruketawha_fit.Goals as goal

pub returns : goal.returns
unfolding load_reply tells of_fit after_call
returns c = rw (← c.fit-file.ensures) (rw (← c.answer_file.ensures.0, ← c.answer_file.ensures.1) refl, c.answer_file.ensures.2)
