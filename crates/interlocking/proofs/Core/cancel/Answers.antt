-- Refused by its numbers, refused besides, or done.
use native.Mathlib.Omega.{arith}
use mathlib.Core.Path.{refl, ap, ◌∙◌}
use Rattle.interlocking.proofs.Trying.{moves_on, object_below}
use Rattle.interlocking.specs.Rows.{cancel_row}
use Rattle.interlocking.specs.Own.{own_cancel}
use Rattle.interlocking.specs.State.{with_routes}
use Rattle.interlocking.specs.Parts.{core_of, headless}
use Rattle.refusals.specs.Orders.{cancel_refusal}
use Rattle.interlocking.proofs.Core.cancel.Goals as goal

-- the number fits a byte
pub overflow_cast-r : goal.overflow_cast-r
overflow_cast-r c = let o = object_below _ _ _ _ _ c.in_ok-numbers_reason.ensures _ refl in omega arith

-- done
pub returns : goal.returns
unfolding cancel_row own_cancel with_routes core_of
returns c = moves_on _ _ _ _ _ (cancel_row c.args.a.layout.now (headless c.args.self c.args.a.lamps.now) c.args.route c.args.unused) _ c.in_ok-numbers_reason.ensures refl refl refl (c.in_ok-cancel_refusal.ensures ∙ ap (λ t. cancel_refusal t c.args.route) c.tables_of.ensures) _ _ c.cancel.ensures c.gives_nothing.ensures
