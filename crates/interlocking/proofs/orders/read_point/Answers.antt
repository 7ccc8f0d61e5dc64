-- Its stores, put together.
use borrow.Author.Rules.{rules}
use Rattle.interlocking.proofs.Laws.{point_made}
use Rattle.interlocking.specs.Parts.{core_of}
use Rattle.interlocking.specs.State.{with_points}
use Rattle.interlocking.proofs.orders.read_point.Goals as goal

-- the answer
pub returns : goal.returns
unfolding with_points core_of
returns c = search (rules, point_made)
