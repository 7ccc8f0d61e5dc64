-- The blocks of the first l lines are counted.
use Prim.Native.Nat.{◌*◌, ◌≤◌}
use mathlib.Core.Path.{◌≡◌}
use Rattle.panel.specs.Panel.{blocks}
use Rattle.panel.proofs.lines.count_blocks.Given as goal

abbrev pub invariant-loop-l : goal.invariant-loop-l
invariant-loop-l l = (l.l ≤ l.n) × (l.count ≡ blocks l.l l.ls) × (l.count ≤ 255 * l.l)
