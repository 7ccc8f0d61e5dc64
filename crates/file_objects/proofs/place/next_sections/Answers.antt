-- So many of the sections are read; a fault ends them.
use native.Mathlib.Omega.{arith}
use Rattle.std.proofs.lemmas.Result.{err_from_is_err_and}
use Rattle.fields.proofs.Laws.{begun}
use Rattle.file_objects.proofs.Turns.{sections_begin, sections_few, sections_next, sections_none, sections_cut, sections_end}
use Rattle.file_objects.proofs.place.next_sections.Goals as goal

pub returns-in_err-count : goal.returns-in_err-count
returns-in_err-count c = λ k h. let p = err_from_is_err_and c.from_residual.result c.from_residual.ensures.1 in rw (p.1, p.2) (let m = c.in_err-count.ensures k h in (sections_none _ k _ m.0, m.1))

pub loop-i-init : goal.loop-i-init
loop-i-init c = λ k h. rw c.no_sections-section.ensures (sections_begin _ k _ (c.in_ok-count.ensures k h))

pub returns-in_err-own : goal.returns-in_err-own
returns-in_err-own c = λ k h. let p = err_from_is_err_and c.from_residual-in_err-own.result c.from_residual-in_err-own.ensures.1 in rw (p.1, p.2) (let d = c.loop-i.invariant k h in let m = c.in_err-own.ensures _ d.stands in (sections_cut _ k _ _ d (omega arith) m.0, m.1))

pub bounds-section-i : goal.bounds-section-i
bounds-section-i c = omega (arith, sections_few _ _ _ (c.loop-i.invariant _ (begun _)))

pub loop-i-preserved : goal.loop-i-preserved
loop-i-preserved c = λ k h. let d = c.loop-i.invariant k h in sections_next _ k _ _ d (c.in_ok-own.ensures _ d.stands)

pub returns : goal.returns
returns c = λ k h. sections_end _ k _ _ (c.loop-i.invariant k h) (omega arith) (omega arith)
