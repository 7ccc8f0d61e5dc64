-- The panel of the cold start is drawn, at most 512 bytes, and its line is written.
use borrow.Author.Rules.{rules}
use Rattle.event_file.proofs.PanelText.{drawn_fits, panel_line_made}
use Rattle.event_file.proofs.frame.put_cold.Goals as goal

pub put_image_line-requires : goal.put_image_line-requires
put_image_line-requires c = search (rules, drawn_fits)

pub returns : goal.returns
returns c = search (rules, panel_line_made)
