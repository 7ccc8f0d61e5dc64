-- A fault met before stays; one that is met here ends the reading, with no number; else the number that was read.
use mathlib.Core.Path.{refl}
use Rattle.fields.specs.Fields.{failed}
use Rattle.pairs.proofs.Laws.{count_behind, count_at_fault}
use Rattle.pairs.proofs.Stays.{count_stays}
use Rattle.pairs.proofs.pair_count.Goals as goal

pub returns-then-c-ne0 : goal.returns-then-c-ne0
unfolding failed
returns-then-c-ne0 c = count_stays _ _ c.if-c-ne0.true

pub returns-in-Ok : goal.returns-in-Ok
returns-in-Ok c = count_behind _ _ (c.in-Ok.ensures _ (record { none = c.if-c-ne0.false; place = refl }))

pub returns-in-Err : goal.returns-in-Err
returns-in-Err c =
    rw (c.detail.ensures, c.number.ensures)
    (count_at_fault _ _ c.if-c-ne0.false (c.in-Err.ensures _ (record { none = c.if-c-ne0.false; place = refl })).0)
