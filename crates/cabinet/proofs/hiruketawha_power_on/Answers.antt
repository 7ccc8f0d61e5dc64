-- The layout with no objects and the cold state stand in the records.
use Rattle.std.proofs.Common.{ap, ◌∙◌}
use Rattle.layout.specs.declared.Layout.{Layout}
use Rattle.interlocking.specs.State.{cold}
use Rattle.cabinet.specs.Calls.{records, at_power_on, after_call}
use Rattle.cabinet.proofs.hiruketawha_power_on.Goals as goal

pub returns : goal.returns
unfolding after_call at_power_on
returns c = ap (records c.no_layout.result) c.cold.ensures ∙ ap (λ (L : Layout). records L cold) c.no_layout.ensures
