-- By whether it is a count.
use Rattle.laws.proofs.Choice.{choices}
use Rattle.laws.specs.Tests.{◌or◌}
use Rattle.interlocking.specs.Parts.{wrong_count}
use Rattle.interlocking.proofs.heads.is_wrong_count.Goals as goal

-- it leaves here
pub returns-then-kind : goal.returns-then-kind
unfolding ◌or◌ wrong_count
returns-then-kind c = search choices

-- the answer
pub returns : goal.returns
unfolding ◌or◌ wrong_count
returns c = search choices
