-- What a planner finds by hand: a third of the way from 120 to 180 seconds, at 70 km/h.
use mathlib.Core.Path.{◌≡◌, refl}
use lib.Ieee.{add, div, of_int}
use Rattle.laws.specs.Choice.{when◌then◌else◌}
use Rattle.laws.specs.Tests.{lowest, lowest_from}
use Rattle.block_lengths.specs.Paper.{speeds, printed71, printed72, row_of, seconds_over, column_of, entry, corrected, table71, table72}
use Rattle.block_lengths.specs.Lengths.{float, interpolated, length_in}
use Rattle.block_lengths.specs.Millimetres.{nearest_millimetre, millimetres}

-- table 7.1: 1400 m and a third of 860 m, 1686 2/3 m; table 7.2: 1210 m and a third of 770 m, 1466 2/3 m
pub by_hand : (millimetres (length_in table71 140 (column_of 70)) ≡ 1686667) × (millimetres (length_in table72 140 (column_of 70)) ≡ 1466667)
unfolding speeds printed71 printed72 row_of seconds_over column_of entry corrected table71 table72 float interpolated length_in nearest_millimetre millimetres lowest lowest_from when◌then◌else◌ add div of_int
by_hand = (refl, refl)
