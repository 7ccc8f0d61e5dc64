-- At whole minutes each length is the table's own number.
use mathlib.Core.Path.{sym, ap, ◌∙◌}
use Rattle.block_lengths.specs.Told.{told}
use Rattle.lengths_text.proofs.Metres.{metres_stopping, metres_plain, never_refused}
use Rattle.lengths_text.proofs.sheet.whole_metres.Goals as goal

pub returns-in-Ok : goal.returns-in-Ok
returns-in-Ok c =
    metres_stopping _ _ _ _ _ c.requires.0 c.requires.1 c.speed_of.ensures (ap told (sym c.in-Ok.is) ∙ c.lengths.ensures) _ c.if-stopping.true c.millimetres.ensures

pub returns-in-Ok-2 : goal.returns-in-Ok-2
returns-in-Ok-2 c =
    metres_plain _ _ _ _ _ c.requires.0 c.requires.1 c.speed_of.ensures (ap told (sym c.in-Ok.is) ∙ c.lengths.ensures) _ c.if-stopping.false c.millimetres-in-Ok-2.ensures

pub returns-in-Err : goal.returns-in-Err
returns-in-Err c = never_refused _ _ _ _ c.requires.0 c.requires.1 c.speed_of.ensures (ap told (sym c.in-Err.is) ∙ c.lengths.ensures)
