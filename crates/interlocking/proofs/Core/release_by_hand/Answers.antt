-- Refused by its numbers, refused besides, or done.
use native.Mathlib.Omega.{arith}
use mathlib.Core.Path.{refl, ap, ◌∙◌}
use Rattle.interlocking.proofs.Trying.{moves_on, object_below, lines_known}
use Rattle.interlocking.specs.Rows.{manual_row}
use Rattle.interlocking.specs.Own.{own_manual}
use Rattle.interlocking.specs.State.{with_lines}
use Rattle.interlocking.specs.Parts.{core_of, headless}
use Rattle.refusals.specs.Orders.{manual_refusal}
use Rattle.interlocking.proofs.Core.release_by_hand.Goals as goal

-- the number fits a byte
pub overflow_cast-l : goal.overflow_cast-l
overflow_cast-l c = let o = object_below _ _ _ _ _ c.in_ok-numbers_reason.ensures _ refl in omega arith

-- done
pub returns : goal.returns
unfolding manual_row own_manual with_lines core_of
returns c = moves_on _ _ _ _ _ (manual_row c.args.a.layout.now (headless c.args.self c.args.a.lamps.now) c.args.line c.args.ground) _ c.in_ok-numbers_reason.ensures refl refl c.is_outside-wrong.ensures (c.in_ok-manual_refusal.ensures ∙ ap (λ t. manual_refusal c.args.a.layout.now t c.args.line) c.tables_of.ensures) _ _ c.release_by_hand.ensures c.gives_nothing.ensures

-- there are no more lines than the tables hold
pub release_by_hand-requires : goal.release_by_hand-requires
release_by_hand-requires c = lines_known _ _ _ _ _ c.in_ok-numbers_reason.ensures _ c.requires
