-- A turn for each pair that the count says; a fault ends them.
use native.Mathlib.Omega.{arith}
use Rattle.std.proofs.lemmas.Result.{err_from_is_err_and}
use Rattle.fields.proofs.Laws.{begun}
use Rattle.pairs.proofs.Laws.{few_is, named_few, pair_place, pair_mirror, pairs_begin, pairs_next, pairs_none, pairs_cut, pairs_end}
use Rattle.pairs.proofs.place.next_pairs.Goals as goal

pub returns-in_err-count : goal.returns-in_err-count
returns-in_err-count c = λ k h. let p = err_from_is_err_and c.from_residual.result c.from_residual.ensures.1 in rw (p.1, p.2) (let m = c.in_err-count.ensures k h in (pairs_none _ _ k m.0, m.1))

pub loop-i-init : goal.loop-i-init
loop-i-init c = λ k h. rw c.no_pairs-conflict.ensures (pairs_begin _ _ k (c.in_ok-count.ensures k h))

pub returns-in_err-pair : goal.returns-in_err-pair
returns-in_err-pair c = λ k h. let p = err_from_is_err_and c.from_residual-in_err-pair.result c.from_residual-in_err-pair.ensures.1 in rw (p.1, p.2) (let d = c.loop-i.invariant k h in let m = rw (few_is c.args.routes c.min-few.ensures, d.is_last) at c.in_err-pair.ensures _ d.stands in (pairs_cut _ _ k _ d (omega arith) m.0, m.1))

pub bounds-conflict-place : goal.bounds-conflict-place
bounds-conflict-place c =
    let d = c.loop-i.invariant _ (begun _) in
    let g = c.in_ok-pair.ensures _ d.stands in
    pair_place _ _ _ _ (named_few c.args.routes (few_is c.args.routes c.min-few.ensures)) g.1 c.place_of-place.ensures

pub bounds-conflict-mirror : goal.bounds-conflict-mirror
bounds-conflict-mirror c =
    let d = c.loop-i.invariant _ (begun _) in
    let g = c.in_ok-pair.ensures _ d.stands in
    pair_mirror _ _ _ _ (named_few c.args.routes (few_is c.args.routes c.min-few.ensures)) g.1 c.place_of-mirror.ensures

pub loop-i-preserved : goal.loop-i-preserved
loop-i-preserved c = λ k h.
    let d = c.loop-i.invariant k h in
    pairs_next _ _ k _ d (rw (few_is c.args.routes c.min-few.ensures, d.is_last) at c.in_ok-pair.ensures _ d.stands) c.place_of-place.ensures c.place_of-mirror.ensures

pub returns : goal.returns
returns c = λ k h. pairs_end _ _ k _ (c.loop-i.invariant k h) (omega arith) (omega arith)
