-- The places before the last digit, and that.
use Rattle.lengths_text.proofs.Writing.{placing}
use Rattle.lengths_text.proofs.places.put_filled.Goals as goal

pub returns : goal.returns
returns c = search placing
