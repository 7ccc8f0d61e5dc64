-- A space, but not at the start of a line.
use Rattle.number_text.proofs.Writes.{seams}
use Rattle.number_text.proofs.unpack.put_before.Goals as goal

pub returns-then-column-eq0 : goal.returns-then-column-eq0
returns-then-column-eq0 c = search seams

pub returns : goal.returns
returns c = search seams
