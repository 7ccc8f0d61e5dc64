-- A space, then the digits.
use Rattle.event_file.proofs.Numerals.{numerals}
use Rattle.event_file.proofs.lines.put_spaced.Goals as goal

pub returns : goal.returns
returns c = search numerals
