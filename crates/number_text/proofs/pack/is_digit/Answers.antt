-- Both bounds are asked.
use Rattle.laws.specs.Tests.{◌and◌}
use Rattle.number_text.specs.Text.{is_digit}
use Rattle.number_text.proofs.pack.is_digit.Goals as goal

pub returns : goal.returns
unfolding is_digit ◌and◌
returns c = c.is_ascii_digit.ensures.value
