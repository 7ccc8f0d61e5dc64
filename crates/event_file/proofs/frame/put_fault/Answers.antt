-- The word, the two numbers, the end.
use borrow.Author.Rules.{rules}
use Rattle.event_file.proofs.Framing.{fault_made}
use Rattle.event_file.proofs.frame.put_fault.Goals as goal

pub returns : goal.returns
returns c = search (rules, fault_made)
