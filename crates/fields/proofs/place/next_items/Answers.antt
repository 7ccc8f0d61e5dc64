-- A turn for each number that the count says; a fault ends them.
use native.Mathlib.Omega.{arith}
use Rattle.std.proofs.lemmas.Result.{err_from_is_err_and}
use Rattle.fields.proofs.Turns.{items_begin, items_next, items_none, items_cut, items_end}
use Rattle.fields.proofs.place.next_items.Goals as goal

pub returns-in_err-count : goal.returns-in_err-count
returns-in_err-count c = λ k h. let p = err_from_is_err_and c.from_residual.result c.from_residual.ensures.1 in rw (p.1, p.2) (let m = c.in_err-count.ensures k h in (items_none _ k _ _ _ m.0, m.1))

pub loop-i-init : goal.loop-i-init
loop-i-init c = λ k h. items_begin _ k _ _ _ (c.in_ok-count.ensures k h)

pub returns-in_err-number : goal.returns-in_err-number
returns-in_err-number c = λ k h. let p = err_from_is_err_and c.from_residual-in_err-number.result c.from_residual-in_err-number.ensures.1 in rw (p.1, p.2) (let d = c.loop-i.invariant k h in let m = c.in_err-number.ensures _ d.stands in (items_cut _ k _ _ _ _ d (omega arith) m.0, m.1))

pub loop-i-preserved : goal.loop-i-preserved
loop-i-preserved c = λ k h. let d = c.loop-i.invariant k h in rw c.put8.ensures (items_next _ k _ _ _ _ d (c.in_ok-number.ensures _ d.stands))

pub returns : goal.returns
returns c = λ k h. items_end _ k _ _ _ _ (c.loop-i.invariant k h) (omega arith) (omega arith)
