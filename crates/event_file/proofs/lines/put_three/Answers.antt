-- A number, a space, two numbers.
use Rattle.event_file.proofs.Numerals.{numerals}
use Rattle.event_file.proofs.lines.put_three.Goals as goal

pub returns : goal.returns
returns c = search numerals
