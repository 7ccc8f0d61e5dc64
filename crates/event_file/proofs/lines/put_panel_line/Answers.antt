-- The panel of a run is drawn, at most 512 bytes, and its line is written.
use borrow.Author.Rules.{rules}
use Rattle.event_file.proofs.PanelText.{run_drawn_fits, run_line_made}
use Rattle.event_file.proofs.lines.put_panel_line.Goals as goal

pub put_image_line-requires : goal.put_image_line-requires
put_image_line-requires c = search (rules, run_drawn_fits)

pub returns : goal.returns
returns c = search (rules, run_line_made)
