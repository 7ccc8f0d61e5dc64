-- Refused by its numbers, or done.
use native.Mathlib.Omega.{arith}
use mathlib.Core.Path.{refl}
use Rattle.interlocking.proofs.Trying.{moves_on, object_below}
use Rattle.interlocking.specs.Rows.{bar_row}
use Rattle.interlocking.specs.Own.{own_bar}
use Rattle.interlocking.specs.State.{with_bars}
use Rattle.interlocking.specs.Parts.{core_of, headless}
use Rattle.interlocking.proofs.Core.set_bar.Goals as goal

-- the number fits a byte
pub overflow_cast-line : goal.overflow_cast-line
overflow_cast-line c = let o = object_below _ _ _ _ _ c.in_ok-numbers_reason.ensures _ refl in omega arith

-- done
pub returns : goal.returns
unfolding bar_row own_bar with_bars core_of
returns c = moves_on _ _ _ _ _ (bar_row c.args.bar c.args.a.layout.now (headless c.args.self c.args.a.lamps.now) c.args.line c.args.block) _ c.in_ok-numbers_reason.ensures refl refl c.no_such_block-wrong.ensures refl _ _ c.set_bar.ensures c.gives_nothing.ensures
