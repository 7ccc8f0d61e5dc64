-- The number is written where the word ends; no number, one too large, and a byte of the word write nothing.
use Rattle.number_text.proofs.Writes.{gifts}
use Rattle.number_text.proofs.pack.put_given.Goals as goal
use Rattle.number_text.proofs.pack.put_given.Goals.{else-s-eq1-via-then-s-eq1+then-s-le-LARGEST+else-is_end, else-s-eq1-via-then-s-eq1+else-s-le-LARGEST, else-s-eq1-via-else-s-eq1}

pub returns-then-is_end : goal.returns-then-is_end
returns-then-is_end c = search gifts

pub returns : goal.returns
returns c =
    elim c.else-s-eq1.branch [
      | else-s-eq1-via-then-s-eq1+then-s-le-LARGEST+else-is_end w ↦ search gifts
      | else-s-eq1-via-then-s-eq1+else-s-le-LARGEST w ↦ search gifts
      | else-s-eq1-via-else-s-eq1 w ↦ search gifts
    ]
