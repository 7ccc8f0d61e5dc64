-- The printed table with its misprint put right is the code's, number by number.
use borrow.Author.Rules.{rules}
use Rattle.laws.specs.Choice.{when◌then◌else◌}
use Rattle.laws.specs.Tests.{lowest, lowest_from}
use Rattle.block_lengths.specs.Paper.{speeds, row_of, column_of, corrected, printed71, table71}
use Rattle.block_lengths.proofs.paper.table_7_1.Goals as goal

pub returns : goal.returns
unfolding printed71 table71 speeds row_of column_of lowest lowest_from when◌then◌else◌ corrected
returns c = search rules
