-- Its stores, put together.
use borrow.Author.Rules.{rules}
use Rattle.interlocking.proofs.Laws.{lock_made}
use Rattle.interlocking.specs.Parts.{core_of}
use Rattle.interlocking.specs.State.{with_routes}
use Rattle.interlocking.proofs.orders.lock.Goals as goal

-- the answer
pub returns : goal.returns
unfolding with_routes core_of
returns c = search (rules, lock_made)
