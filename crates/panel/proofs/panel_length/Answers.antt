-- The counts and three for each block, added up.
use native.Mathlib.Omega.{arith}
use Rattle.panel.specs.Panel.{panel_length}
use Rattle.panel.proofs.panel_length.Goals as goal

pub returns : goal.returns
unfolding panel_length
returns c = omega (arith, c.count_blocks-blocks.ensures.0)
