-- The lowest number in the set of the sections of blocks that are held or barred.
use borrow.Author.Rules.{rules}
use Rattle.reasons.proofs.InTheWay.{block_found}
use Rattle.reasons.proofs.searches.lowest_taken.Goals as goal

-- the answer
pub returns : goal.returns
returns c = search (rules, block_found)
