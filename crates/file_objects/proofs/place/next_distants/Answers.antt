-- By the version; a turn for each distant that the count says; a fault ends them.
use native.Mathlib.Omega.{arith}
use Rattle.std.proofs.lemmas.Result.{err_from_is_err_and}
use Rattle.fields.proofs.Laws.{begun}
use Rattle.file_objects.proofs.DistantTurns.{distants_begin, distants_few, distants_next, distants_none, distants_cut, distants_half, distants_end, listing, listing_none}
use Rattle.file_objects.proofs.place.next_distants.Goals as goal

pub returns-then-version-lt-DISTANTS_VERSION : goal.returns-then-version-lt-DISTANTS_VERSION
returns-then-version-lt-DISTANTS_VERSION c = λ k h. rw (c.no_distants-carrier.ensures, c.no_distants-announced.ensures) (listing_none _ _ _ k c.if-version-lt-DISTANTS_VERSION.true h)

pub returns-in_err-count : goal.returns-in_err-count
returns-in_err-count c = λ k h. let p = err_from_is_err_and c.from_residual.result c.from_residual.ensures.1 in rw (p.1, p.2) (let m = c.in_err-count.ensures k h in (rw (← listing _ _ _ k c.if-version-lt-DISTANTS_VERSION.false) (distants_none _ _ k m.0), m.1))

pub loop-i-init : goal.loop-i-init
loop-i-init c = λ k h. rw (c.no_distants-carrier.ensures, c.no_distants-announced.ensures) (distants_begin _ _ k (c.in_ok-count.ensures k h))

pub returns-in_err-carrying : goal.returns-in_err-carrying
returns-in_err-carrying c = λ k h. let p = err_from_is_err_and c.from_residual-in_err-carrying.result c.from_residual-in_err-carrying.ensures.1 in rw (p.1, p.2) (let d = c.loop-i.invariant k h in let m = c.in_err-carrying.ensures _ d.stands in (rw (← listing _ _ _ k c.if-version-lt-DISTANTS_VERSION.false) (distants_cut _ _ k _ d (omega arith) m.0), m.1))

pub returns-in_err-signal : goal.returns-in_err-signal
returns-in_err-signal c = λ k h. let p = err_from_is_err_and c.from_residual-in_err-signal.result c.from_residual-in_err-signal.ensures.1 in rw (p.1, p.2) (let d = c.loop-i.invariant k h in let m = c.in_err-signal.ensures _ (c.in_ok-carrying.ensures _ d.stands).0 in (rw (← listing _ _ _ k c.if-version-lt-DISTANTS_VERSION.false) (distants_half _ _ k _ d (omega arith) m.0), m.1))

pub bounds-carrier-i : goal.bounds-carrier-i
bounds-carrier-i c = omega (arith, distants_few _ _ _ (c.loop-i.invariant _ (begun _)))

pub bounds-announced-i : goal.bounds-announced-i
bounds-announced-i c = omega (arith, distants_few _ _ _ (c.loop-i.invariant _ (begun _)))

pub loop-i-preserved : goal.loop-i-preserved
loop-i-preserved c = λ k h. let d = c.loop-i.invariant k h in let x = c.in_ok-carrying.ensures _ d.stands in distants_next _ _ k _ d x (c.in_ok-signal.ensures _ x.0)

pub returns : goal.returns
returns c = λ k h. rw (← listing _ _ _ k c.if-version-lt-DISTANTS_VERSION.false) (distants_end _ _ k _ (c.loop-i.invariant k h) (omega arith) (omega arith))
