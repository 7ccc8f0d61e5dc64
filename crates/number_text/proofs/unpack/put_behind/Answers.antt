-- The end of a full line.
use Rattle.number_text.proofs.Writes.{seams}
use Rattle.number_text.proofs.unpack.put_behind.Goals as goal

pub returns-then-column-ne0 : goal.returns-then-column-ne0
returns-then-column-ne0 c = search seams

pub returns : goal.returns
returns c = search seams
