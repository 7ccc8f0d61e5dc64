-- The line's direction and whether its points are in position are told once, then its blocks are written.
use Rattle.panel.specs.Writes.{line_by}
use Rattle.panel.proofs.lines.put_line.Goals as goal

pub returns : goal.returns
unfolding line_by
returns c = rw (← c.direction_of.ensures, ← c.line_placed.ensures) c.put_blocks.ensures
