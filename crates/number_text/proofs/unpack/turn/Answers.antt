-- A fault before, or what stands at the next place.
use mathlib.Core.Path.{ap, sym, ◌∙◌}
use Rattle.numbers.specs.Number.{number_at}
use Rattle.numbers.proofs.Cases.{number_same}
use Rattle.number_text.specs.Pieces.{place_of, stop_given, in_numbers}
use Rattle.number_text.proofs.Turns.{fault_stops, turn_goes, turn_stopped}
use Rattle.number_text.proofs.unpack.turn.Goals as goal

pub returns-in-Err : goal.returns-in-Err
returns-in-Err c = turn_stopped _ (in_numbers c.args.p) _ _ (fault_stops _ c.in-Err.is)

pub returns-in-Ok : goal.returns-in-Ok
returns-in-Ok c =
    turn_goes _ (in_numbers c.args.p) _ _ _ _ _ (ap stop_given c.in-Ok.is) (number_same _ _ c.read-n.ensures ∙ ap (number_at _) (sym (ap place_of c.in-Ok.is)))
    c.go_on.ensures
