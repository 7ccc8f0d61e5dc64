-- The groups left fall with each call.
use Rattle.number_text.proofs.pack.+put_groups.Given as goal

abbrev pub decreases-put_groups : goal.decreases-put_groups
decreases-put_groups l = l.left
