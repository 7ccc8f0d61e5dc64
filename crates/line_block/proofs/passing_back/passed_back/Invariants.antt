-- The blocks before place k have opened where they waited and what lies beyond them opens.
use lib.ListN.{get_or}
use mathlib.Core.Bool.{false}
use Rattle.laws.proofs.Each.{Redone}
use Rattle.track.specs.Sizes.{most_places}
use Rattle.line_block.specs.PassingBack.{goes_open, waited_stage_at}
use Rattle.line_block.proofs.passing_back.passed_back.Given as goal

abbrev pub invariant-loop-k : goal.invariant-loop-k
invariant-loop-k l =
    Redone most_places l.m (waited_stage_at l.ls l.now.direction.now (goes_open l.before.stage.now l.now.stage.now) (λ j w. get_or l.arrived j false) l.now.stage.now)
    l.initial.stage l.stage l.k
