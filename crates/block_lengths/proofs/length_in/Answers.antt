-- At a headway of the table what it prints; else between two rows, of which the second is no lower.
use borrow.Author.Rules.{rules}
use Rattle.laws.proofs.Choice.{choices}
use Rattle.block_lengths.proofs.Laws.{no_lower, between_rows}
use Rattle.block_lengths.specs.Paper.{row_of, seconds_over, entry}
use Rattle.block_lengths.specs.Lengths.{float, length_in}
use Rattle.block_lengths.proofs.length_in.Goals as goal

pub returns-then-seconds-eq0 : goal.returns-then-seconds-eq0
unfolding entry row_of seconds_over float length_in
returns-then-seconds-eq0 c = search choices

pub interpolate-requires : goal.interpolate-requires
unfolding entry row_of seconds_over
interpolate-requires c = search (rules, no_lower)

pub returns : goal.returns
unfolding entry row_of seconds_over
returns c = search (rules, between_rows)
