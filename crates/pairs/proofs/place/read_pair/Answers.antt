-- Its two numbers, and its order; a fault ends it.
use mathlib.Core.Path.{refl, sym, ◌∙◌}
use Rattle.std.proofs.lemmas.Result.{err_from_is_err_and}
use Rattle.pairs.proofs.Laws.{pair_cut, pair_cut1, pair_made, pair_bad}
use Rattle.pairs.proofs.place.read_pair.Goals as goal

pub returns-in_err-first : goal.returns-in_err-first
returns-in_err-first c = λ k h. let p = err_from_is_err_and c.from_residual.result c.from_residual.ensures.1 in rw (p.1, p.2) (let m = c.in_err-first.ensures k h in (pair_cut1 _ _ k _ m.0, m.1))

pub returns-in_err-second : goal.returns-in_err-second
returns-in_err-second c = λ k h. let p = err_from_is_err_and c.from_residual-in_err-second.result c.from_residual-in_err-second.ensures.1 in rw (p.1, p.2) (let m = c.in_err-second.ensures _ (c.in_ok-first.ensures k h).0 in (pair_cut _ _ k _ m.0, m.1))

pub returns-then-is_in_order : goal.returns-then-is_in_order
returns-then-is_in_order c = λ k h. let a = c.in_ok-first.ensures k h in pair_made _ _ k _ a (c.in_ok-second.ensures _ a.0) (sym c.if-is_in_order.true ∙ c.is_in_order.ensures)

pub returns : goal.returns
returns c = λ k h. let a = c.in_ok-first.ensures k h in (pair_bad _ _ k _ a (c.in_ok-second.ensures _ a.0) (sym c.if-is_in_order.false ∙ c.is_in_order.ensures), refl)
