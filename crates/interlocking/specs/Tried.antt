-- An event tried, as the code answers it: `Ok` with what it did, or `Err` with the reason for which it is refused.
use Rattle.std.specs.Prelude.{Result, Ok, Err}
use Rattle.reasons.specs.declared.answers.Reason.{Reason}
use Rattle.reasons.specs.Refusal.{refused}
use Rattle.reasons.specs.Told.{number_of, detail_of}
use Rattle.interlocking.specs.declared.Core.{Core}
use Rattle.interlocking.specs.declared.Tried.{Tried}
use Rattle.interlocking.specs.declared.trial.Done.{Done}
use Rattle.interlocking.specs.Parts.{moves, stays}

-- what it is by its row: done, or refused
abbrev pub tried_by : Core → Result Done Reason → Tried
tried_by c (Ok d) = moves d.next d.gives
tried_by c (Err e) = stays (refused (number_of e) (detail_of e)) c
