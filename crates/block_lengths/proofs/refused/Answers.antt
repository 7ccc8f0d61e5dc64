-- The zeros of the record, which the code writes by their bits.
use borrow.Author.Rules.{rules}
use lib.Ieee.{of_int, of_bits}
use Rattle.block_lengths.specs.Lengths.{float, refusal}
use Rattle.block_lengths.proofs.refused.Goals as goal

pub returns : goal.returns
unfolding of_int of_bits float refusal
returns c = search rules
