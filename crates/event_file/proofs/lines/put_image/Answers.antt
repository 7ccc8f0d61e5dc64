-- A space, a stroke, the bytes; each byte takes at most four.
use borrow.Author.Rules.{rules}
use Rattle.event_file.proofs.PanelText.{image_made}
use Rattle.event_file.proofs.lines.put_image.Goals as goal

pub returns : goal.returns
returns c = search (rules, image_made)
