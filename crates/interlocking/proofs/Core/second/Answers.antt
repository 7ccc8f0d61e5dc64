-- Refused by its numbers, or done: a second is given.
use mathlib.Core.Path.{refl}
use Rattle.laws.specs.Tests.{◌and◌}
use Rattle.interlocking.specs.Parts.{core_of, headless}
use Rattle.interlocking.specs.Rows.{a_second, second_row}
use Rattle.interlocking.proofs.Trying.{moves_on}
use Rattle.interlocking.proofs.Core.second.Goals as goal

-- done
pub returns : goal.returns
unfolding second_row a_second core_of ◌and◌
returns c = moves_on _ _ _ _ _ (second_row (headless c.args.self c.args.a.lamps.now) c.args.first c.args.second) _ c.in_ok-numbers_reason.ensures refl refl refl refl _ _ refl refl
