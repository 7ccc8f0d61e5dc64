-- The places before the last of them are those of a tenth, one place less.
use Rattle.lengths_text.proofs.Writing.{placing}
use Rattle.lengths_text.proofs.places.+put_places.Goals as goal

pub returns-then-k-eq0 : goal.returns-then-k-eq0
returns-then-k-eq0 t c = search placing

pub returns : goal.returns
returns t c = search placing
