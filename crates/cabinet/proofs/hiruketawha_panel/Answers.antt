-- What the panel answers of both records is told, and its bytes stand in the buffer.
use Rattle.cabinet.specs.Calls.{tells, of_panel}
use Rattle.cabinet.specs.Cabinet.{drawn_reply}
use Rattle.cabinet.proofs.hiruketawha_panel.Goals as goal

pub returns : goal.returns
unfolding drawn_reply tells of_panel
returns c = (c.panel.ensures.0, c.panel.ensures.1)
