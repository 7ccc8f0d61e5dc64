-- The bytes that may be taken: one less with each call.
use Rattle.numbers.proofs.+groups.Given as goal

abbrev pub decreases-groups : goal.decreases-groups
decreases-groups l = l.left
