-- A route by which a train has arrived tells its line, and any other none.
use Rattle.line_block.proofs.PassingBackLaws.{arrived_none, arrived_unreleased, arrived_nowhere, arrived_here}
use Rattle.line_block.proofs.passing_back.arrivals.Goals.{then-a-lt-MOST_LINES+then-is_released_entrance, else-a-lt-MOST_LINES, else-a-lt-MOST_LINES-via-then-a-lt-MOST_LINES+else-is_released_entrance, else-a-lt-MOST_LINES-via-else-a-lt-MOST_LINES}
use Rattle.line_block.proofs.passing_back.arrivals.Goals as goal

pub loop-r-init : goal.loop-r-init
loop-r-init c = arrived_none _ _ _ _

pub loop-r-preserved : goal.loop-r-preserved
loop-r-preserved c =
    let told = c.loop-r.invariant in
    let there = c.route_at-a.ensures in
    let way = c.direction_of-w.ensures in
    elim c.if-a-lt-MOST_LINES.branch [
      | then-a-lt-MOST_LINES+then-is_released_entrance w ↦
          rw w.arrived-is (arrived_here _ _ _ _ _ _ told _ _ there way _ w.is_released_entrance.ensures w.if-is_released_entrance.true w.if-a-lt-MOST_LINES.true)
      | else-a-lt-MOST_LINES w ↦ rw w.arrived-is (elim w.else-a-lt-MOST_LINES.branch [
        | else-a-lt-MOST_LINES-via-then-a-lt-MOST_LINES+else-is_released_entrance x ↦
            arrived_unreleased _ _ _ _ _ _ told _ _ there way _ x.is_released_entrance.ensures x.if-is_released_entrance.false
        | else-a-lt-MOST_LINES-via-else-a-lt-MOST_LINES x ↦ arrived_nowhere _ _ _ _ _ _ told _ _ there way x.if-a-lt-MOST_LINES.false
      ])
    ]
