-- The product is of a number of 16 bits and one below 60; then one division and one sum, each as the definition has it.
use borrow.Author.Rules.{rules}
use lib.Ieee.{add, div, of_int, of_bits}
use Rattle.block_lengths.specs.Lengths.{float, interpolated}
use Rattle.block_lengths.proofs.interpolate.Goals as goal

pub returns : goal.returns
unfolding add div of_int of_bits float interpolated
returns c = search rules
