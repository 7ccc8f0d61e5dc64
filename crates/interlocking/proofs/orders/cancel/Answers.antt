-- Its stores, put together.
use borrow.Author.Rules.{rules}
use Rattle.interlocking.proofs.Laws.{cancel_made}
use Rattle.interlocking.specs.Parts.{core_of}
use Rattle.interlocking.specs.State.{with_routes}
use Rattle.interlocking.proofs.orders.cancel.Goals as goal

-- the answer
pub returns : goal.returns
unfolding with_routes core_of
returns c = search (rules, cancel_made)
