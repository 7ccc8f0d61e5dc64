-- What was found of the places before k.
use lib.Dec.{eqb}
use lib.ListN.{get_or}
use mathlib.Core.Bool.{not}
use Rattle.laws.proofs.Loops.{Gathered}
use Rattle.track.specs.Codes.{stage3}
use Rattle.track.specs.Sizes.{most_places}
use Rattle.line_block.proofs.passing_back.none_waits.Given as goal

abbrev pub invariant-loop-k : goal.invariant-loop-k
invariant-loop-k l = Gathered most_places (λ j. not (eqb (get_or l.stages j 0) stage3)) l.none l.k
