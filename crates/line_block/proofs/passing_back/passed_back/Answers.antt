-- A block that does not wait stays; of one that waits what lies beyond it decides.
use borrow.Author.Rules.{rules}
use mathlib.Core.Path.{refl}
use Rattle.laws.proofs.Arrays.{length_mapped}
use Rattle.laws.proofs.Each.{redo_start, redo_on, redo_skip}
use Rattle.line_block.proofs.PassingBackLaws.{place_idle, place_waits}
use Rattle.line_block.proofs.passing_back.passed_back.Goals as goal

pub loop-k-init : goal.loop-k-init
loop-k-init c = redo_start _ _ _ _ c.requires (search (rules, length_mapped, c.copied-stage.type_inv))

pub loop-k-preserved-then-stage-k-ne-STAGE_3 : goal.loop-k-preserved-then-stage-k-ne-STAGE_3
loop-k-preserved-then-stage-k-ne-STAGE_3 c = redo_skip _ _ _ _ _ _ c.loop-k.invariant c.loop-k-test.true (place_idle _ _ _ _ _ _ _ c.if-stage-k-ne-STAGE_3.true)

pub loop-k-preserved : goal.loop-k-preserved
loop-k-preserved c =
    redo_on _ _ _ _ _ _ _ c.loop-k.invariant c.loop-k-test.true
    (place_waits _ _ _ _ _ _ _ _ _ _ c.if-stage-k-ne-STAGE_3.false c.line_at-b.ensures c.direction_of-w.ensures (c.waited_stage.ensures _ refl))
