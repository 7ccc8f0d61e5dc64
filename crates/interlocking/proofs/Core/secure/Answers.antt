-- Refused by its numbers, refused besides, or done.
use native.Mathlib.Omega.{arith}
use mathlib.Core.Path.{refl, ap, ◌∙◌}
use Rattle.interlocking.proofs.Trying.{moves_on, object_below, second_fits}
use Rattle.interlocking.specs.Rows.{secure_row}
use Rattle.interlocking.specs.Own.{own_secure}
use Rattle.interlocking.specs.State.{with_lines}
use Rattle.interlocking.specs.Parts.{core_of, headless}
use Rattle.refusals.specs.Orders.{secure_refusal}
use Rattle.interlocking.proofs.Core.secure.Goals as goal

-- the number fits a byte
pub overflow_cast-l : goal.overflow_cast-l
overflow_cast-l c = let o = object_below _ _ _ _ _ c.in_ok-numbers_reason.ensures _ refl in omega arith

-- the second number fits a byte
pub overflow_cast-w : goal.overflow_cast-w
overflow_cast-w c = let o = second_fits _ _ _ _ _ c.in_ok-numbers_reason.ensures _ c.is_outside-wrong.ensures in omega arith

-- done
pub returns : goal.returns
unfolding secure_row own_secure with_lines core_of
returns c = moves_on _ _ _ _ _ (secure_row c.args.a.layout.now (headless c.args.self c.args.a.lamps.now) c.args.line c.args.direction) _ c.in_ok-numbers_reason.ensures refl refl c.is_outside-wrong.ensures (c.in_ok-secure_refusal.ensures ∙ ap (λ t. secure_refusal c.args.a.layout.now t c.args.line c.args.direction) c.tables_of.ensures) _ _ c.secure.ensures c.gives_nothing.ensures
