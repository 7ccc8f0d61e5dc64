-- One row more.
use Rattle.lengths_text.proofs.Texts.{rows}
use Rattle.lengths_text.proofs.sheet.put_rows.Goals as goal

pub loop-row-init : goal.loop-row-init
loop-row-init c = search rows

pub loop-row-preserved : goal.loop-row-preserved
loop-row-preserved c = search rows

pub returns : goal.returns
returns c = search rows
