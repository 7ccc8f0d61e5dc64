-- With the panel or without.
use Rattle.event_file.proofs.PanelText.{lines_most}
use Rattle.event_file.proofs.pieces.most_line.Goals as goal

pub returns-then-panel : goal.returns-then-panel
returns-then-panel c = search lines_most

pub returns-else-panel : goal.returns-else-panel
returns-else-panel c = search lines_most
