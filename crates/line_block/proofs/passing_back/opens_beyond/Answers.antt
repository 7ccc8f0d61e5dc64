-- The next block opens, or does not and does not wait, or waits, so that what lies beyond it decides.
use mathlib.Core.Path.{sym, ◌∙◌}
use Rattle.tables.specs.Blocks.{stage_of}
use Rattle.line_block.proofs.PassingBackLaws.{beyond_last, beyond_opens, beyond_shut, beyond_on}
use Rattle.line_block.proofs.passing_back.opens_beyond.Goals as goal

pub returns-then-goes_open : goal.returns-then-goes_open
unfolding stage_of
returns-then-goes_open c f g = beyond_opens _ _ _ _ _ _ _ _ _ c.loop-c-test.true c.from_arrival-j.ensures c.goes_open.ensures c.if-goes_open.true ∙ sym (c.loop-c.invariant f)

pub returns-then-held_at-ne-STAGE_3 : goal.returns-then-held_at-ne-STAGE_3
unfolding stage_of
returns-then-held_at-ne-STAGE_3 c f g =
    beyond_shut _ _ _ _ _ _ _ _ _ c.loop-c-test.true c.from_arrival-j.ensures c.goes_open.ensures _ c.if-goes_open.false c.held_at.ensures c.if-held_at-ne-STAGE_3.true
    ∙ sym (c.loop-c.invariant f)

pub loop-c-preserved : goal.loop-c-preserved
unfolding stage_of
loop-c-preserved c f =
    c.loop-c.invariant f
    ∙ beyond_on _ _ _ _ _ _ _ _ _ c.loop-c-test.true c.from_arrival-j.ensures c.goes_open.ensures _ c.if-goes_open.false c.held_at.ensures c.if-held_at-ne-STAGE_3.false

pub returns : goal.returns
unfolding stage_of
returns c f g = g ∙ sym (c.loop-c.invariant f ∙ beyond_last _ _ _ _ _ _ _ c.loop-c-test.false)
