-- The digits before the last are those of a tenth, in one place less.
use Rattle.numerals.proofs.Numerals.{numerals}
use Rattle.numerals.proofs.+write_digits.Goals as goal

pub returns-then-places-eq0 : goal.returns-then-places-eq0
returns-then-places-eq0 t c = search numerals

pub returns-then-n-lt10 : goal.returns-then-n-lt10
returns-then-n-lt10 t c = search numerals

pub returns : goal.returns
returns t c = search numerals
