-- The search by the table of conflicts finds the lowest such route, which is the detail.
use borrow.Author.Rules.{rules}
use Rattle.reasons.proofs.Laws.{conflict_some, conflict_none}
use Rattle.laws.proofs.Arrays.{length_mapped}
use Rattle.reasons.proofs.conflicting.Goals as goal

-- one is found
pub returns-in-Some : goal.returns-in-Some
returns-in-Some c = search (rules, length_mapped, conflict_some)

-- none is found
pub returns-in-None : goal.returns-in-None
returns-in-None c = search (rules, length_mapped, conflict_none)
