-- The buffer's length is asked: too short, it is 27, and where there is room the image is drawn.
use borrow.Author.Rules.{rules}
use Rattle.panel.proofs.Answers.{too_short, done}
use Rattle.panel.proofs.draw_in.Goals as goal

pub returns-then-buffer-n : goal.returns-then-buffer-n
returns-then-buffer-n c = too_short _ _ _ _ c.panel_length-n.ensures (search rules)

pub returns : goal.returns
returns c = done _ _ _ _ c.panel_length-n.ensures (search rules) _ c.draw.ensures
