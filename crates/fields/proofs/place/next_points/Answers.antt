-- A turn for each point that the count says; a fault ends them.
use native.Mathlib.Omega.{arith}
use Rattle.std.proofs.lemmas.Result.{err_from_is_err_and}
use Rattle.fields.proofs.Turns.{points_begin, points_next, points_none, points_cut, points_half, points_end}
use Rattle.fields.proofs.place.next_points.Goals as goal

pub returns-in_err-count : goal.returns-in_err-count
returns-in_err-count c = λ k h. let p = err_from_is_err_and c.from_residual.result c.from_residual.ensures.1 in rw (p.1, p.2) (let m = c.in_err-count.ensures k h in (points_none _ k _ m.0, m.1))

pub loop-i-init : goal.loop-i-init
loop-i-init c = λ k h. points_begin _ k _ (c.in_ok-count.ensures k h)

pub returns-in_err-number : goal.returns-in_err-number
returns-in_err-number c = λ k h. let p = err_from_is_err_and c.from_residual-in_err-number.result c.from_residual-in_err-number.ensures.1 in rw (p.1, p.2) (let d = c.loop-i.invariant k h in let m = c.in_err-number.ensures _ d.stands in (points_cut _ k _ _ d (omega arith) m.0, m.1))

pub returns-in_err-way : goal.returns-in_err-way
returns-in_err-way c = λ k h. let p = err_from_is_err_and c.from_residual-in_err-way.result c.from_residual-in_err-way.ensures.1 in rw (p.1, p.2) (let d = c.loop-i.invariant k h in let m = c.in_err-way.ensures _ (c.in_ok-number.ensures _ d.stands).0 in (points_half _ k _ _ d (omega arith) m.0, m.1))

pub loop-i-preserved : goal.loop-i-preserved
loop-i-preserved c = λ k h.
    let d = c.loop-i.invariant k h in
    let n = c.in_ok-number.ensures _ d.stands in
    rw (c.put8.ensures, c.put8-in-loop-i.ensures) (points_next _ k _ _ d n (c.in_ok-way.ensures _ n.0))

pub returns : goal.returns
returns c = λ k h. points_end _ k _ _ (c.loop-i.invariant k h) (omega arith) (omega arith)
