-- A turn for each line adds its block signals; no more than 508 each, so the sum fits.
use Prim.Native.Nat.{◌+◌, ◌*◌, ◌≤◌}
use mathlib.Core.Path.{◌≡◌}
use Rattle.track.specs.SignalNumbers.{signal_count}
use Rattle.track.proofs.signals.signals_counted.Given as goal

-- the main signals and the block signals of the first l lines are counted
abbrev pub invariant-loop-l : goal.invariant-loop-l
invariant-loop-l l = (l.count ≡ signal_count l.m l.l l.ls) × (l.count ≤ 255 + 508 * l.l)
