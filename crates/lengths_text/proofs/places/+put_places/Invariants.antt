-- The places left fall with each call.
use Rattle.lengths_text.proofs.places.+put_places.Given as goal

abbrev pub decreases-put_places : goal.decreases-put_places
decreases-put_places l = l.k
