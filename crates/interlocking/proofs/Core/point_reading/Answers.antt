-- Refused by its numbers, or done.
use native.Mathlib.Omega.{arith}
use mathlib.Core.Path.{refl, ap, ◌∙◌}
use Rattle.interlocking.proofs.Trying.{moves_on, object_below}
use Rattle.interlocking.specs.Rows.{point_row}
use Rattle.interlocking.specs.Own.{own_point}
use Rattle.interlocking.specs.State.{with_points}
use Rattle.interlocking.specs.Parts.{core_of, headless, bare}
use Rattle.interlocking.proofs.Core.point_reading.Goals as goal

-- the number fits a byte
pub overflow_cast-point : goal.overflow_cast-point
overflow_cast-point c = let o = object_below _ _ _ _ _ c.in_ok-numbers_reason.ensures _ refl in omega arith

-- done
pub returns : goal.returns
unfolding point_row own_point with_points core_of
returns c = moves_on _ _ _ _ _ (point_row c.args.a.layout.now (headless c.args.self c.args.a.lamps.now) c.args.point c.args.code) _ c.in_ok-numbers_reason.ensures refl refl refl refl _ _ (c.read_point.ensures ∙ ap (λ v. core_of (own_point (bare c.args.self) c.args.point v)) c.reading_for.ensures) c.gives_nothing.ensures
