-- The groups are read, then held to the largest.
use Rattle.numbers.proofs.Cases.{cases}
use Rattle.numbers.proofs.read_groups.Goals as goal

pub returns-in_err-number : goal.returns-in_err-number
returns-in_err-number c = search cases

pub returns-then-number-gt-LARGEST : goal.returns-then-number-gt-LARGEST
returns-then-number-gt-LARGEST c = search cases

pub returns : goal.returns
returns c = search cases
