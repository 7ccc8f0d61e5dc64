-- Refused by its numbers, refused besides, or done.
use native.Mathlib.Omega.{arith}
use mathlib.Core.Path.{refl, ap, ◌∙◌}
use Rattle.interlocking.proofs.Trying.{moves_on, object_below, second_fits}
use Rattle.interlocking.specs.Rows.{throw_row}
use Rattle.interlocking.specs.Own.{own_throw}
use Rattle.interlocking.specs.State.{with_points}
use Rattle.interlocking.specs.Parts.{core_of, headless}
use Rattle.refusals.specs.Orders.{throw_refusal}
use Rattle.interlocking.proofs.Core.throw.Goals as goal

-- the number fits a byte
pub overflow_cast-p : goal.overflow_cast-p
overflow_cast-p c = let o = object_below _ _ _ _ _ c.in_ok-numbers_reason.ensures _ refl in omega arith

-- the second number fits a byte
pub overflow_cast-position : goal.overflow_cast-position
overflow_cast-position c = let o = second_fits _ _ _ _ _ c.in_ok-numbers_reason.ensures _ c.is_outside-wrong.ensures in omega arith

-- done
pub returns : goal.returns
unfolding throw_row own_throw with_points core_of
returns c = moves_on _ _ _ _ _ (throw_row c.args.a.layout.now (headless c.args.self c.args.a.lamps.now) c.args.point c.args.position) _ c.in_ok-numbers_reason.ensures refl refl c.is_outside-wrong.ensures (c.in_ok-throw_refusal.ensures ∙ ap (λ t. throw_refusal c.args.a.layout.now t c.args.point) c.tables_of.ensures) _ _ c.throw.ensures c.gives_nothing.ensures
