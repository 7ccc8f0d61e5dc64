-- The lowest line that the search finds is the detail.
use borrow.Author.Rules.{rules}
use Rattle.reasons.proofs.Laws.{found_some, found_none}
use Rattle.laws.proofs.Arrays.{length_mapped}
use Rattle.reasons.specs.Reasons.{by_line}
use Rattle.reasons.proofs.by_line.Goals as goal

-- one is found
pub returns-in-Some : goal.returns-in-Some
unfolding by_line
returns-in-Some c = search (rules, length_mapped, found_some)

-- none is found
pub returns-in-None : goal.returns-in-None
unfolding by_line
returns-in-None c = search (rules, length_mapped, found_none)
