-- Refused by its numbers, refused besides, or done.
use native.Mathlib.Omega.{arith}
use mathlib.Core.Path.{refl, ap, ◌∙◌}
use Rattle.interlocking.proofs.Trying.{moves_on, object_below}
use Rattle.interlocking.specs.Rows.{set_row}
use Rattle.interlocking.specs.Parts.{headless}
use Rattle.refusals.specs.Orders.{set_refusal}
use Rattle.interlocking.proofs.Departure.{set_moved}
use Rattle.interlocking.proofs.Core.set.Goals as goal

-- the number fits a byte
pub overflow_cast-r : goal.overflow_cast-r
overflow_cast-r c = let o = object_below _ _ _ _ _ c.in_ok-numbers_reason.ensures _ refl in omega arith

-- done
pub returns : goal.returns
unfolding set_row
returns c = moves_on _ _ _ _ _ (set_row c.args.a.layout.now (headless c.args.self c.args.a.lamps.now) c.args.route c.args.unused) _ c.in_ok-numbers_reason.ensures refl refl refl (c.in_ok-set_refusal.ensures ∙ ap (λ t. set_refusal c.args.a.layout.now t c.args.route) c.tables_of.ensures) _ _ (set_moved _ _ _ _ _ _ _ c.route_at.ensures c.secure_first-first.ensures c.lock.ensures) c.gives_nothing.ensures
