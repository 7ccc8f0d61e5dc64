-- The far signal is asked, or it does not matter.
use Rattle.line_block.proofs.FarSections.{far_asked, far_moot}
use Rattle.line_block.proofs.far_sections.moved_stage.Goals as goal

pub returns-then-was-far : goal.returns-then-was-far
returns-then-was-far c = far_asked _ _ _ _ _ _ _ _ c.direction_of-w.ensures _ _ _ c.line_at-b.ensures c.if-w-eq-NEUTRAL.false c.far_reading-far.ensures _ (c.far_dropped-dropped.ensures _ c.line_at-b.ensures) c.far_stage.ensures

pub returns : goal.returns
returns c = far_moot _ _ _ _ _ _ _ _ c.direction_of-w.ensures _ _ _ c.line_at-b.ensures c.if-w-eq-NEUTRAL.false c.far_reading-far.ensures c.if-was-far.false c.far_stage-2.ensures
