-- The directions of the lines before line k are made.
use Rattle.laws.proofs.Each.{Redone}
use Rattle.track.specs.Sizes.{most_lines}
use Rattle.track.specs.Objects.{line}
use Rattle.line_block.specs.Entries.{few_lines}
use Rattle.line_block.specs.LineRelease.{ends_by, direction_after}
use Rattle.line_block.proofs.line_release.directions_after.Given as goal

abbrev pub invariant-loop-k : goal.invariant-loop-k
invariant-loop-k l =
    Redone most_lines (few_lines l.l.lines)
    (λ i was. direction_after (ends_by (line l.l.line i) l.l.routes l.l.route l.before.stage.now l.now.stage.now l.now.bar.now l.now.phase.now) i was)
    l.initial.direction l.direction l.k
