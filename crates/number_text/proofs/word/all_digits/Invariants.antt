-- All bytes so far are digits.
use lib.ListN.{length, get_or}
use Rattle.laws.proofs.Loops.{SoFar}
use Rattle.number_text.specs.Text.{is_digit}
use Rattle.number_text.proofs.word.all_digits.Given as goal

abbrev pub invariant-loop-byte : goal.invariant-loop-byte
invariant-loop-byte l = SoFar (length l.fn.word) (λ k. is_digit (get_or l.fn.word k 0)) l.byte-index
