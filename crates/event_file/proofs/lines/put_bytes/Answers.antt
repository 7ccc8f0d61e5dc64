-- One byte more.
use Rattle.event_file.proofs.Numerals.{panels}
use Rattle.event_file.proofs.lines.put_bytes.Goals as goal

pub loop-i-init : goal.loop-i-init
loop-i-init c = search panels

pub loop-i-preserved : goal.loop-i-preserved
loop-i-preserved c = search panels

pub returns : goal.returns
returns c = search panels
