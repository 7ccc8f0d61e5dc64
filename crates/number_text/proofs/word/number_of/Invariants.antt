-- The number of the bytes so far.
use lib.ListN.{length, get_or}
use Rattle.laws.proofs.Loops.{Turned}
use Rattle.number_text.specs.Text.{next_value}
use Rattle.number_text.proofs.word.number_of.Given as goal

abbrev pub invariant-loop-byte : goal.invariant-loop-byte
invariant-loop-byte l = Turned (length l.fn.word) (λ k v. next_value v (get_or l.fn.word k 0)) 0 l.value l.byte-index
