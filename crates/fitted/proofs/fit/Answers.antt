-- Nothing is told, then the file as one piece, then the answer.
use Rattle.fitted.proofs.Read.{answer_fault, answer_read}
use Rattle.fitted.proofs.Whole.{fit_is, whole_end}
use Rattle.fitted.proofs.fit.Goals as goal

pub returns-in-Bad : goal.returns-in-Bad
returns-in-Bad c = fit_is _ _ _ _ c.none_told-none.ensures c.tell_piece-p.ensures (answer_fault _ _ _ c.in-Bad.is)

pub returns : goal.returns
returns c = fit_is _ _ _ _ c.none_told-none.ensures c.tell_piece-p.ensures (answer_read _ _ (whole_end c.args.layout.now _ _ _ c.tell_piece-p.ensures c.in_default.not-Bad) c.equip.ensures)
