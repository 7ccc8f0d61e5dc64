-- The three numbers, the end.
use borrow.Author.Rules.{rules}
use Rattle.event_file.proofs.PanelText.{plain_made}
use Rattle.event_file.proofs.lines.put_line.Goals as goal

pub returns : goal.returns
returns c = search (rules, plain_made)
