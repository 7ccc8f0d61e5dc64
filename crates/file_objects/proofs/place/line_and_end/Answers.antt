-- By the kind, which was read before.
use Rattle.std.proofs.lemmas.Result.{err_from_is_err_and}
use Rattle.file_objects.proofs.Parts.{end_none, end_cut, end_cut1, end_made}
use Rattle.file_objects.proofs.place.line_and_end.Goals as goal

pub returns-then-kind-eq0 : goal.returns-then-kind-eq0
returns-then-kind-eq0 c = λ k h e. end_none _ k _ h e c.if-kind-eq0.true

pub returns-in_err-line : goal.returns-in_err-line
returns-in_err-line c = λ k h e. let p = err_from_is_err_and c.from_residual.result c.from_residual.ensures.1 in rw (p.1, p.2) (let m = c.in_err-line.ensures k h in (end_cut1 _ k _ e c.if-kind-eq0.false m.0, m.1))

pub returns-in_err-end : goal.returns-in_err-end
returns-in_err-end c = λ k h e. let p = err_from_is_err_and c.from_residual-in_err-end.result c.from_residual-in_err-end.ensures.1 in rw (p.1, p.2) (let m = c.in_err-end.ensures _ (c.in_ok-line.ensures k h).0 in (end_cut _ k _ e c.if-kind-eq0.false m.0, m.1))

pub returns : goal.returns
returns c = λ k h e. let l = c.in_ok-line.ensures k h in end_made _ k _ e c.if-kind-eq0.false l (c.in_ok-end.ensures _ l.0)
