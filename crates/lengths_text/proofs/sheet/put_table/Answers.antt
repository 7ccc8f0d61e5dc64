-- The head of the columns and the rows.
use borrow.Author.Rules.{rules}
use Rattle.numerals.specs.Words.{ascii}
use Rattle.lengths_text.proofs.Texts.{table_made}
use Rattle.lengths_text.proofs.sheet.put_table.Goals as goal

pub returns : goal.returns
unfolding ascii
returns c = search (rules, table_made)
