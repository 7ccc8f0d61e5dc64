-- A number, or a fault.
use mathlib.Core.Path.{refl}
use Rattle.number_text.specs.Pieces.{in_numbers}
use Rattle.number_text.proofs.Turns.{value_went, fault_went}
use Rattle.number_text.proofs.unpack.go_on.Goals as goal

pub returns-in-Ok : goal.returns-in-Ok
returns-in-Ok c = value_went _ (in_numbers c.args.p) _ _ _ _ _ c.in-Ok.is c.next_column.ensures c.put_number-written.ensures

pub returns-in-Err : goal.returns-in-Err
returns-in-Err c = fault_went _ (in_numbers c.args.p) _ _ c.in-Err.is refl refl
