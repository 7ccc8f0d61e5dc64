-- A fault met before stays; one that is met here ends the reading, with no number.
use mathlib.Core.Path.{refl}
use Rattle.fields.specs.Fields.{failed}
use Rattle.fields.proofs.Laws.{field_stays, met_end}
use Rattle.fields.proofs.field.Goals as goal

pub returns-then-c-ne0 : goal.returns-then-c-ne0
unfolding failed
returns-then-c-ne0 c = field_stays _ _ c.if-c-ne0.true _ _ _

pub returns-in-Err : goal.returns-in-Err
returns-in-Err c =
    rw (c.detail.ensures, c.number.ensures)
    (met_end _ _ _ _ _ c.if-c-ne0.false (c.in-Err.ensures _ (record { none = c.if-c-ne0.false; place = refl })).0)
