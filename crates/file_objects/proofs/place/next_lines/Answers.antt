-- So many lines are read; a fault ends them.
use native.Mathlib.Omega.{arith}
use Rattle.std.proofs.lemmas.Result.{err_from_is_err_and}
use Rattle.fields.proofs.Laws.{begun}
use Rattle.file_objects.proofs.Turns.{lines_begin, lines_few, lines_next, lines_none, lines_cut, lines_end}
use Rattle.file_objects.proofs.place.next_lines.Goals as goal

pub returns-in_err-count : goal.returns-in_err-count
returns-in_err-count c = λ k h. let p = err_from_is_err_and c.from_residual.result c.from_residual.ensures.1 in rw (p.1, p.2) (let m = c.in_err-count.ensures k h in (lines_none _ _ k m.0, m.1))

pub loop-i-init : goal.loop-i-init
loop-i-init c = λ k h. rw c.no_lines-line.ensures (lines_begin _ _ k (c.in_ok-count.ensures k h))

pub returns-in_err-one : goal.returns-in_err-one
returns-in_err-one c = λ k h. let p = err_from_is_err_and c.from_residual-in_err-one.result c.from_residual-in_err-one.ensures.1 in rw (p.1, p.2) (let d = c.loop-i.invariant k h in let m = c.in_err-one.ensures _ d.stands in (lines_cut _ _ k _ d (omega arith) m.0, m.1))

pub bounds-line-i : goal.bounds-line-i
bounds-line-i c = omega (arith, lines_few _ _ _ (c.loop-i.invariant _ (begun _)))

pub loop-i-preserved : goal.loop-i-preserved
loop-i-preserved c = λ k h. let d = c.loop-i.invariant k h in lines_next _ _ k _ d (c.in_ok-one.ensures _ d.stands)

pub returns : goal.returns
returns c = λ k h. lines_end _ _ k _ (c.loop-i.invariant k h) (omega arith) (omega arith)
