-- The stages at the places before k have gone by what the event gives their blocks.
use Rattle.laws.proofs.Each.{Redone}
use Rattle.track.specs.Sizes.{most_places}
use Rattle.line_block.specs.OwnReadings.{own_stage_at}
use Rattle.line_block.proofs.own_readings.given_stages.Given as goal

abbrev pub invariant-loop-k : goal.invariant-loop-k
invariant-loop-k l = Redone most_places l.places (own_stage_at l.m l.ls l.t.direction.now l.t.lamp.now l.e) l.initial.stage l.stage l.k
