-- In each turn a turn for each event of twelve bytes.
use Rattle.std.proofs.Common.{length, ◌-◌}
use Rattle.step_bench.proofs.play.Given as goal

-- the bytes left
abbrev pub decreases-loop-at : goal.decreases-loop-at
decreases-loop-at l = length l.events - l.at
