-- The shift is 1075 at most, and 2000 times 53 digits have 64.
use Rattle.laws.proofs.Choice.{choices}
use Rattle.block_lengths.specs.Bits.{shift_of, halves_of}
use Rattle.block_lengths.proofs.metres.half_millimetres.Goals as goal

pub returns-then-shift-gt63 : goal.returns-then-shift-gt63
unfolding shift_of halves_of
returns-then-shift-gt63 c = search choices

pub returns : goal.returns
unfolding shift_of halves_of
returns c = search choices
