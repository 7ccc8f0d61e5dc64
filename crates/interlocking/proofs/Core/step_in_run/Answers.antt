-- No more is asked than that the tables hold the objects, that there is a section, and that none is lacking.
use borrow.Author.Rules.{rules}
use Rattle.laws.specs.Tests.{◌and◌}
use Rattle.track.specs.Lists.{between}
use Rattle.interlocking.specs.Step.{asked_in_run}
use Rattle.interlocking.specs.Parts.{core_step_in_run}
use Rattle.interlocking.proofs.Core.step_in_run.Goals as goal

pub returns : goal.returns
unfolding core_step_in_run asked_in_run between ◌and◌
returns c = search rules
