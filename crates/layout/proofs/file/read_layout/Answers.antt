-- Its parts, one after another; a fault ends them.
use mathlib.Core.Path.{refl}
use Rattle.std.proofs.lemmas.Result.{err_from_is_err_and}
use Rattle.layout.proofs.Laws.{whole_cut, whole_cut1, whole_cut2, whole_cut3, whole_cut4, whole_made, counts_there, few_there}
use Rattle.layout.proofs.file.read_layout.Goals as goal

pub returns-in_err-h : goal.returns-in_err-h
returns-in_err-h c = let p = err_from_is_err_and c.from_residual.result c.from_residual.ensures.1 in rw (p.1, p.2) (let m = c.in_err-h.ensures in (whole_cut1 _ m.0, m.1))

pub returns-in_err-l : goal.returns-in_err-l
returns-in_err-l c =
    let h = c.in_ok-h.ensures in
    let p = err_from_is_err_and c.from_residual-in_err-l.result c.from_residual-in_err-l.ensures.1 in rw (p.1, p.2) (let m = rw (counts_there _ h refl) at c.in_err-l.ensures _ h.0 in (whole_cut2 _ m.0, m.1))

pub few_signals-signals-requires : goal.few_signals-signals-requires
few_signals-signals-requires c =
    let h = c.in_ok-h.ensures in
    let l = rw (counts_there _ h refl) at c.in_ok-l.ensures _ h.0 in
    rw (h.1.4, l.1.0, l.1.1) (few_there c.args.s.now)

pub returns-in_err-d : goal.returns-in_err-d
returns-in_err-d c =
    let h = c.in_ok-h.ensures in
    let l = rw (counts_there _ h refl) at c.in_ok-l.ensures _ h.0 in
    let g = rw (h.1.4, l.1.0, l.1.1) at c.few_signals-signals.ensures in
    let p = err_from_is_err_and c.from_residual-in_err-d.result c.from_residual-in_err-d.ensures.1 in rw (p.1, p.2) (let m = rw (h.1.0, g) at c.in_err-d.ensures _ l.0 in (whole_cut3 _ m.0, m.1))

pub returns-in_err-r : goal.returns-in_err-r
returns-in_err-r c =
    let h = c.in_ok-h.ensures in
    let l = rw (counts_there _ h refl) at c.in_ok-l.ensures _ h.0 in
    let g = rw (h.1.4, l.1.0, l.1.1) at c.few_signals-signals.ensures in
    let d = rw (h.1.0, g) at c.in_ok-d.ensures _ l.0 in
    let p = err_from_is_err_and c.from_residual-in_err-r.result c.from_residual-in_err-r.ensures.1 in rw (p.1, p.2) (let m = rw (counts_there _ h l.1.0) at c.in_err-r.ensures _ d.0 in (whole_cut4 _ m.0, m.1))

pub returns-in_err-p : goal.returns-in_err-p
returns-in_err-p c =
    let h = c.in_ok-h.ensures in
    let l = rw (counts_there _ h refl) at c.in_ok-l.ensures _ h.0 in
    let g = rw (h.1.4, l.1.0, l.1.1) at c.few_signals-signals.ensures in
    let d = rw (h.1.0, g) at c.in_ok-d.ensures _ l.0 in
    let r = rw (counts_there _ h l.1.0) at c.in_ok-r.ensures _ d.0 in
    let p = err_from_is_err_and c.from_residual-in_err-p.result c.from_residual-in_err-p.ensures.1 in rw (p.1, p.2) (let m = rw r.1.0 at c.in_err-p.ensures _ r.0 in (whole_cut _ m.0, m.1))

pub returns : goal.returns
returns c =
    let h = c.in_ok-h.ensures in
    let l = rw (counts_there _ h refl) at c.in_ok-l.ensures _ h.0 in
    let g = rw (h.1.4, l.1.0, l.1.1) at c.few_signals-signals.ensures in
    let d = rw (h.1.0, g) at c.in_ok-d.ensures _ l.0 in
    let r = rw (counts_there _ h l.1.0) at c.in_ok-r.ensures _ d.0 in
    let p = rw r.1.0 at c.in_ok-p.ensures _ r.0 in
    whole_made _ h l.1.0 l.1.1 d.1.0 d.1.1 d.1.2 r.1.0 r.1.1 p.0 p.1.1 c.none_fitted-fitted.ensures
