-- The search by the table of stages finds the lowest section, which is the detail.
use borrow.Author.Rules.{rules}
use Rattle.reasons.proofs.Laws.{held_some, held_none}
use Rattle.laws.proofs.Arrays.{length_mapped}
use Rattle.reasons.proofs.block_held.Goals as goal

-- one is found
pub returns-in-Some : goal.returns-in-Some
returns-in-Some c = search (rules, length_mapped, held_some)

-- none is found
pub returns-in-None : goal.returns-in-None
returns-in-None c = search (rules, length_mapped, held_none)
