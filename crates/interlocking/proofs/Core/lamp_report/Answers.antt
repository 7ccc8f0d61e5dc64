-- Refused by its numbers, or done: the nine tables stay, whatever the lamps are and whatever is reported.
use mathlib.Core.Path.{refl, ap}
use Rattle.interlocking.proofs.Trying.{moves_on}
use Rattle.interlocking.specs.Rows.{lamp_row}
use Rattle.interlocking.specs.Own.{own_lamp}
use Rattle.interlocking.specs.State.{with_lamps}
use Rattle.interlocking.specs.Parts.{core_of, headless}
use lib.Dec.{leb}
use Rattle.interlocking.proofs.Core.lamp_report.Goals as goal

-- done
pub returns : goal.returns
unfolding lamp_row own_lamp with_lamps core_of
returns c = moves_on _ _ _ _ _ (lamp_row c.args.a.layout.now (headless c.args.self c.args.a.lamps.now) c.args.signal c.args.code) _ c.in_ok-numbers_reason.ensures (ap (λ n. leb n c.args.signal) c.signal_count-count.ensures) refl refl refl _ _ refl c.gives_nothing.ensures
