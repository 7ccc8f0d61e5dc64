-- A number, a space, a number.
use Rattle.event_file.proofs.Numerals.{numerals}
use Rattle.event_file.proofs.lines.put_two.Goals as goal

pub returns : goal.returns
returns c = search numerals
