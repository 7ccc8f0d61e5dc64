-- Kind by kind, the row of the method that is called.
use Rattle.laws.specs.Choice.{when◌then◌else◌}
use Rattle.interlocking.specs.Rows.{row_with}
use Rattle.interlocking.proofs.Rows.{row_at}
use Rattle.interlocking.proofs.event.event_tried.Goals as goal

-- kind 1
pub returns-in-1 : goal.returns-in-1
unfolding row_with when◌then◌else◌
returns-in-1 c = row_at _ _ _ _ _ _ _ _ _ _ 1 c.in-1.is c.section_reading.ensures

-- kind 2
pub returns-in-2 : goal.returns-in-2
unfolding row_with when◌then◌else◌
returns-in-2 c = row_at _ _ _ _ _ _ _ _ _ _ 2 c.in-2.is c.point_reading.ensures

-- kind 3
pub returns-in-3 : goal.returns-in-3
unfolding row_with when◌then◌else◌
returns-in-3 c = row_at _ _ _ _ _ _ _ _ _ _ 3 c.in-3.is c.throw.ensures

-- kind 4
pub returns-in-4 : goal.returns-in-4
unfolding row_with when◌then◌else◌
returns-in-4 c = row_at _ _ _ _ _ _ _ _ _ _ 4 c.in-4.is c.set.ensures

-- kind 5
pub returns-in-5 : goal.returns-in-5
unfolding row_with when◌then◌else◌
returns-in-5 c = row_at _ _ _ _ _ _ _ _ _ _ 5 c.in-5.is c.cancel.ensures

-- kind 6
pub returns-in-6 : goal.returns-in-6
unfolding row_with when◌then◌else◌
returns-in-6 c = row_at _ _ _ _ _ _ _ _ _ _ 6 c.in-6.is c.secure.ensures

-- kind 7
pub returns-in-7 : goal.returns-in-7
unfolding row_with when◌then◌else◌
returns-in-7 c = row_at _ _ _ _ _ _ _ _ _ _ 7 c.in-7.is c.release_by_hand.ensures

-- kind 8
pub returns-in-8 : goal.returns-in-8
unfolding row_with when◌then◌else◌
returns-in-8 c = row_at _ _ _ _ _ _ _ _ _ _ 8 c.in-8.is c.set_bar.ensures

-- kind 9
pub returns-in-9 : goal.returns-in-9
unfolding row_with when◌then◌else◌
returns-in-9 c = row_at _ _ _ _ _ _ _ _ _ _ 9 c.in-9.is c.set_bar-in-9.ensures

-- kind 10
pub returns-in-10 : goal.returns-in-10
unfolding row_with when◌then◌else◌
returns-in-10 c = row_at _ _ _ _ _ _ _ _ _ _ 10 c.in-10.is c.second.ensures

-- kind 15
pub returns-in-15 : goal.returns-in-15
unfolding row_with when◌then◌else◌
returns-in-15 c = row_at _ _ _ _ _ _ _ _ _ _ 15 c.in-15.is c.lamp_report.ensures

-- none of the kinds that have a method of their own
pub of_heads_or_unknown-requires : goal.of_heads_or_unknown-requires
of_heads_or_unknown-requires c =
    let n = c.in_default.in_default-own.rest in (
      c.requires,
      record {
        no_section = n.0.0.0.0.0.0.0.0.0.0.1;
        no_point = n.0.0.0.0.0.0.0.0.0.1;
        no_throw = n.0.0.0.0.0.0.0.0.1;
        no_set = n.0.0.0.0.0.0.0.1;
        no_cancel = n.0.0.0.0.0.0.1;
        no_secure = n.0.0.0.0.0.1;
        no_release = n.0.0.0.0.1;
        no_bar = n.0.0.0.1;
        no_unbar = n.0.0.1;
        no_second = n.0.1;
        no_lamp = n.1;
      },
    )
