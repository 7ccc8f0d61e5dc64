-- The lowest route that the search finds is the detail.
use borrow.Author.Rules.{rules}
use Rattle.reasons.proofs.Laws.{found_some, found_none}
use Rattle.laws.proofs.Arrays.{length_mapped}
use Rattle.reasons.specs.Reasons.{exit_locked}
use Rattle.reasons.proofs.exit_locked.Goals as goal

-- one is found
pub returns-in-Some : goal.returns-in-Some
unfolding exit_locked
returns-in-Some c = search (rules, length_mapped, found_some)

-- none is found
pub returns-in-None : goal.returns-in-None
unfolding exit_locked
returns-in-None c = search (rules, length_mapped, found_none)
