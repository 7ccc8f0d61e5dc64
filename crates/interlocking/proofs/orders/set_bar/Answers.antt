-- Its stores, put together.
use borrow.Author.Rules.{rules}
use Rattle.interlocking.proofs.Laws.{bar_made}
use Rattle.interlocking.specs.Parts.{core_of}
use Rattle.interlocking.specs.State.{with_bars}
use Rattle.tables.specs.Blocks.{place}
use Rattle.interlocking.proofs.orders.set_bar.Goals as goal

-- the answer
pub returns : goal.returns
unfolding with_bars core_of place
returns c = search (rules, bar_made)
