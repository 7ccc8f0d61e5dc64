-- The search by the table of bars finds the lowest section, which is the detail.
use borrow.Author.Rules.{rules}
use Rattle.reasons.proofs.Laws.{barred_some, barred_none}
use Rattle.laws.proofs.Arrays.{length_mapped}
use Rattle.reasons.proofs.block_barred.Goals as goal

-- one is found
pub returns-in-Some : goal.returns-in-Some
returns-in-Some c = search (rules, length_mapped, barred_some)

-- none is found
pub returns-in-None : goal.returns-in-None
returns-in-None c = search (rules, length_mapped, barred_none)
