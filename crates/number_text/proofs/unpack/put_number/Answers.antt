-- The space, the digits, the end.
use borrow.Author.Rules.{rules}
use Rattle.number_text.proofs.Writes.{number_made}
use Rattle.number_text.proofs.unpack.put_number.Goals as goal

pub returns : goal.returns
returns c = search (rules, number_made)
