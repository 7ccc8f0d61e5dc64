-- Its stores, put together.
use borrow.Author.Rules.{rules}
use Rattle.interlocking.proofs.Laws.{secure_made}
use Rattle.interlocking.specs.Parts.{core_of}
use Rattle.interlocking.specs.State.{with_lines}
use Rattle.interlocking.proofs.orders.secure.Goals as goal

-- the answer
pub returns : goal.returns
unfolding with_lines core_of
returns c = search (rules, secure_made)
