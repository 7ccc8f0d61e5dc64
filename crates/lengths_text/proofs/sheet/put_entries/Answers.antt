-- One length more.
use Rattle.lengths_text.proofs.Writing.{sides}
use Rattle.lengths_text.proofs.sheet.put_entries.Goals as goal

pub loop-column-init : goal.loop-column-init
loop-column-init c = search sides

pub loop-column-preserved : goal.loop-column-preserved
loop-column-preserved c = search sides

pub returns : goal.returns
returns c = search sides
