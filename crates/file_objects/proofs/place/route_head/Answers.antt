-- Its parts, one after another; a fault ends them.
use mathlib.Core.Path.{sym}
use Rattle.std.proofs.lemmas.Result.{err_from_is_err_and}
use Rattle.file_objects.proofs.Parts.{head_cut, head_cut1, head_cut2, head_cut3, head_made}
use Rattle.file_objects.proofs.place.route_head.Goals as goal

pub returns-in_err-entry : goal.returns-in_err-entry
returns-in_err-entry c = λ k h. let p = err_from_is_err_and c.from_residual.result c.from_residual.ensures.1 in rw (p.1, p.2) (let m = c.in_err-entry.ensures k h in (head_cut1 _ _ k m.0, m.1))

pub returns-in_err-kind : goal.returns-in_err-kind
returns-in_err-kind c = λ k h. let p = err_from_is_err_and c.from_residual-in_err-kind.result c.from_residual-in_err-kind.ensures.1 in rw (p.1, p.2) (let x = c.in_ok-entry.ensures k h in let m = c.in_err-kind.ensures _ x.0 in (head_cut2 _ _ k m.0, m.1))

pub returns-in_err-place : goal.returns-in_err-place
returns-in_err-place c = λ k h. let p = err_from_is_err_and c.from_residual-in_err-place.result c.from_residual-in_err-place.ensures.1 in rw (p.1, p.2) (let x = c.in_ok-entry.ensures k h in let y = c.in_ok-kind.ensures _ x.0 in let m = c.in_err-place.ensures _ y.0 (sym y.1) in (head_cut3 _ _ k m.0, m.1))

pub returns-in_err-diverging : goal.returns-in_err-diverging
returns-in_err-diverging c = λ k h. let p = err_from_is_err_and c.from_residual-in_err-diverging.result c.from_residual-in_err-diverging.ensures.1 in rw (p.1, p.2) (let x = c.in_ok-entry.ensures k h in let y = c.in_ok-kind.ensures _ x.0 in let z = c.in_ok-place.ensures _ y.0 (sym y.1) in let m = c.in_err-diverging.ensures _ z.0 in (head_cut _ _ k m.0, m.1))

pub returns : goal.returns
returns c = λ k h. let x = c.in_ok-entry.ensures k h in let y = c.in_ok-kind.ensures _ x.0 in let z = c.in_ok-place.ensures _ y.0 (sym y.1) in let w = c.in_ok-diverging.ensures _ z.0 in head_made _ _ k w.0 x.1 y.1 z.1.0 z.1.1 w.1
