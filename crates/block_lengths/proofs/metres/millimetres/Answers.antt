-- Above 0 and below 2 ^ 53 m the half millimetres of the bits, halved upwards; else none.
use borrow.Author.Rules.{rules}
use Rattle.block_lengths.proofs.Nearest.{bits_short, millimetres_are, none_of_nothing, none_of_long}
use Rattle.block_lengths.proofs.metres.millimetres.Goals as goal

pub half_millimetres-halves-requires : goal.half_millimetres-halves-requires
half_millimetres-halves-requires c = search (rules, bits_short)

pub returns-then-length-2 : goal.returns-then-length-2
returns-then-length-2 c = search (rules, millimetres_are)

pub returns-else-length-2 : goal.returns-else-length-2
returns-else-length-2 c = search (rules, none_of_nothing)

pub returns-else-length : goal.returns-else-length
returns-else-length c = search (rules, none_of_long)
