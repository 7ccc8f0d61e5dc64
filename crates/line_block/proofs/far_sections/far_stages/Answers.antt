-- The tables hold the places.
use native.Mathlib.Omega.{arith}
use Rattle.line_block.proofs.Lines.{few_fit}
use Rattle.line_block.proofs.far_sections.far_stages.Goals as goal

pub moved_stages-requires : goal.moved_stages-requires
moved_stages-requires c = omega (arith, few_fit _ _ c.few_lines.ensures)
