-- Nothing is written where there is no room, else the text.
use native.Mathlib.Omega.{arith}
use Rattle.numerals.proofs.Numerals.{put_no_room, put_room}
use Rattle.numerals.proofs.put_digits.Goals as goal

pub returns-then-out-at : goal.returns-then-out-at
returns-then-out-at c = put_no_room _ _ _ _ (omega arith)

pub returns-then-out-at-2 : goal.returns-then-out-at-2
returns-then-out-at-2 c = put_no_room _ _ _ _ (omega arith)

pub returns : goal.returns
returns c = put_room _ _ _ _ _ _ (omega arith) c.write_digits.ensures
