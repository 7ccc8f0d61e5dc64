-- A digit, or the fill where the number is over.
use Rattle.laws.proofs.Choice.{choices}
use Rattle.lengths_text.specs.Places.{place}
use Rattle.lengths_text.proofs.places.place_of.Goals as goal

pub returns-then-n-eq0 : goal.returns-then-n-eq0
unfolding place
returns-then-n-eq0 c = search choices

pub returns-else-n-eq0 : goal.returns-else-n-eq0
unfolding place
returns-else-n-eq0 c = search choices
