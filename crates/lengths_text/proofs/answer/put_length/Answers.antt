-- Metres, the point, millimetres, the word.
use borrow.Author.Rules.{rules}
use Rattle.lengths_text.proofs.Texts.{measured_made}
use Rattle.lengths_text.proofs.answer.put_length.Goals as goal

pub returns : goal.returns
returns c = search (rules, measured_made)
