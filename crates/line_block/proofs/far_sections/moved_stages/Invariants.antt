-- The stages at the places before k have gone by their far sections and far signals.
use Rattle.laws.proofs.Each.{Redone}
use Rattle.track.specs.Sizes.{most_places}
use Rattle.line_block.specs.FarSections.{far_stage_at}
use Rattle.line_block.specs.Entries.{proceeds_by}
use Rattle.line_block.proofs.far_sections.moved_stages.Given as goal

abbrev pub invariant-loop-k : goal.invariant-loop-k
invariant-loop-k l =
    Redone most_places l.m
    (far_stage_at l.ls l.now.direction.now l.now.section.now
    (proceeds_by l.ls l.s.routes l.s.entry.now l.before.phase.now l.before.direction.now l.before.point.now l.before.stage.now l.before.bar.now)
    (proceeds_by l.ls l.s.routes l.s.entry.now l.now.phase.now l.now.direction.now l.now.point.now l.now.stage.now l.now.bar.now))
    l.initial.stage l.stage l.k
