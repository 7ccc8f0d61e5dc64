-- The lamp is asked, or it does not matter.
use mathlib.Core.Path.{refl}
use Rattle.line_block.proofs.OwnReadingLaws.{own_asked, own_moot}
use Rattle.line_block.proofs.own_readings.given_stage.Goals as goal

pub returns-then-given-was : goal.returns-then-given-was
returns-then-given-was c e p = own_asked _ _ _ _ _ _ _ _ _ refl p _ _ _ c.direction_of-w.ensures c.far_stop_lit-lit.ensures c.own_stage.ensures

pub returns : goal.returns
returns c e p = own_moot _ _ _ _ _ _ _ _ _ refl p _ c.if-given-was.false c.own_stage-2.ensures
