-- Its parts, one after another; a fault ends them.
use Rattle.std.proofs.lemmas.Result.{err_from_is_err_and}
use Rattle.file_objects.proofs.Parts.{route_cut, route_cut1, route_cut2, route_cut3, route_made}
use Rattle.file_objects.proofs.place.read_route.Goals as goal

pub returns-in_err-head : goal.returns-in_err-head
returns-in_err-head c = λ k h. let p = err_from_is_err_and c.from_residual.result c.from_residual.ensures.1 in rw (p.1, p.2) (let m = c.in_err-head.ensures k h in (route_cut1 _ _ k m.0, m.1))

pub returns-in_err-path : goal.returns-in_err-path
returns-in_err-path c = λ k h. let p = err_from_is_err_and c.from_residual-in_err-path.result c.from_residual-in_err-path.ensures.1 in rw (p.1, p.2) (let g = c.in_ok-head.ensures k h in let m = c.in_err-path.ensures _ g.0 in (route_cut2 _ _ k m.0, m.1))

pub returns-in_err-overlap : goal.returns-in_err-overlap
returns-in_err-overlap c = λ k h. let p = err_from_is_err_and c.from_residual-in_err-overlap.result c.from_residual-in_err-overlap.ensures.1 in rw (p.1, p.2) (let g = c.in_ok-head.ensures k h in let x = c.in_ok-path.ensures _ g.0 in let m = c.in_err-overlap.ensures _ x.0 in (route_cut3 _ _ k m.0, m.1))

pub returns-in_err-points : goal.returns-in_err-points
returns-in_err-points c = λ k h. let p = err_from_is_err_and c.from_residual-in_err-points.result c.from_residual-in_err-points.ensures.1 in rw (p.1, p.2) (let g = c.in_ok-head.ensures k h in let x = c.in_ok-path.ensures _ g.0 in let y = c.in_ok-overlap.ensures _ x.0 in let m = c.in_err-points.ensures _ y.0 in (route_cut _ _ k m.0, m.1))

pub returns : goal.returns
returns c = λ k h. let g = c.in_ok-head.ensures k h in let x = c.in_ok-path.ensures _ g.0 in let y = c.in_ok-overlap.ensures _ x.0 in let w = c.in_ok-points.ensures _ y.0 in route_made _ _ k g x.1.0 x.1.1 y.1.0 y.1.1 w.0 w.1.0 w.1.1 w.1.2
