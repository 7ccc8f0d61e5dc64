-- The word, and there is room for the digits behind it.
use borrow.Author.Rules.{rules}
use Rattle.lengths_text.proofs.Texts.{named_made}
use Rattle.lengths_text.proofs.answer.put_named.Goals as goal

pub returns : goal.returns
returns c = search (rules, named_made)
