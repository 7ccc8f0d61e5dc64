-- An accepted file gives the layout that it makes and the cold state, a refused one the records before.
use Rattle.std.proofs.Common.{refl}
use Rattle.cabinet.proofs.Laws.{file_accepted, file_refused}
use Rattle.cabinet.proofs.answer_file.Goals as goal

pub returns-in-Ok : goal.returns-in-Ok
returns-in-Ok c = rw c.in-Ok.is (refl, refl, file_accepted _ _ _ _ c.cold.ensures)

pub returns-in-Err : goal.returns-in-Err
returns-in-Err c = rw (c.number.ensures, c.detail.ensures, c.in-Err.is) (refl, refl, file_refused _ _ _)
