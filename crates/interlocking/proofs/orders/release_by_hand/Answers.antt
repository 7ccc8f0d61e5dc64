-- A store, and the stages made anew.
use borrow.Author.Rules.{rules}
use Rattle.interlocking.proofs.Laws.{manual_made}
use Rattle.interlocking.specs.Parts.{core_of}
use Rattle.interlocking.specs.State.{with_lines}
use Rattle.interlocking.proofs.orders.release_by_hand.Goals as goal

-- the answer
pub returns : goal.returns
unfolding with_lines core_of
returns c = search (rules, manual_made)
