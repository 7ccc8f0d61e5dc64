-- The layout is asked; where it is within the tables the image is drawn, where there is room.
use Rattle.panel.proofs.Answers.{run_unsound, asked_holds, run_drawn}
use Rattle.panel.proofs.panel_in_run.Goals as goal

pub returns-then-not-is_drawable : goal.returns-then-not-is_drawable
returns-then-not-is_drawable c = run_unsound _ _ _ _ c.is_drawable.ensures c.if-not-is_drawable.true-raw

pub draw_in-requires : goal.draw_in-requires
draw_in-requires c = asked_holds _ _ c.is_drawable.ensures c.if-not-is_drawable.false-raw

pub returns : goal.returns
returns c = run_drawn _ _ _ _ _ _ c.is_drawable.ensures c.if-not-is_drawable.false-raw c.draw_in.ensures
