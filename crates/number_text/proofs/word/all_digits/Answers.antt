-- A walk that leaves at the first byte that is no digit.
use Rattle.laws.proofs.Loops.{alls}
use Rattle.number_text.proofs.word.all_digits.Goals as goal

pub loop-byte-init : goal.loop-byte-init
loop-byte-init c = search alls

pub loop-byte-preserved : goal.loop-byte-preserved
loop-byte-preserved c = search alls

pub returns-then-not-is_digit : goal.returns-then-not-is_digit
returns-then-not-is_digit c = search alls

pub returns : goal.returns
returns c = search alls
