-- The headway in minutes and seconds, the lengths, the end.
use borrow.Author.Rules.{rules}
use Rattle.lengths_text.proofs.Texts.{row_made}
use Rattle.lengths_text.proofs.sheet.put_row.Goals as goal

pub returns : goal.returns
returns c = search (rules, row_made)
