-- By whether there is such a section.
use borrow.Author.Rules.{rules}
use Rattle.fitted.proofs.Read.{lacking_now, lacking_still}
use Rattle.fitted.proofs.lacking_with.Goals as goal

pub returns-then-wide-n : goal.returns-then-wide-n
returns-then-wide-n c = search (rules, lacking_now)

pub returns : goal.returns
returns c = search (rules, lacking_still)
