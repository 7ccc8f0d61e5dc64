-- Its parts, one after another; a fault ends them.
use Rattle.std.proofs.lemmas.Result.{err_from_is_err_and}
use Rattle.file_objects.proofs.Parts.{line_cut, line_cut1, line_cut2, line_cut3, line_cut4, line_cut5, line_made}
use Rattle.file_objects.proofs.place.read_line.Goals as goal

pub returns-in_err-blocks : goal.returns-in_err-blocks
returns-in_err-blocks c = λ k h. let p = err_from_is_err_and c.from_residual.result c.from_residual.ensures.1 in rw (p.1, p.2) (let m = c.in_err-blocks.ensures k h in (line_cut1 _ _ k m.0, m.1))

pub returns-in_err-innera : goal.returns-in_err-innera
returns-in_err-innera c = λ k h. let p = err_from_is_err_and c.from_residual-in_err-innera.result c.from_residual-in_err-innera.ensures.1 in rw (p.1, p.2) (let b = c.in_ok-blocks.ensures k h in let m = c.in_err-innera.ensures _ b.0 in (line_cut2 _ _ k m.0, m.1))

pub returns-in_err-innerb : goal.returns-in_err-innerb
returns-in_err-innerb c = λ k h. let p = err_from_is_err_and c.from_residual-in_err-innerb.result c.from_residual-in_err-innerb.ensures.1 in rw (p.1, p.2) (let b = c.in_ok-blocks.ensures k h in let x = c.in_ok-innera.ensures _ b.0 in let m = c.in_err-innerb.ensures _ x.0 in (line_cut3 _ _ k m.0, m.1))

pub returns-in_err-entrancea : goal.returns-in_err-entrancea
returns-in_err-entrancea c = λ k h. let p = err_from_is_err_and c.from_residual-in_err-entrancea.result c.from_residual-in_err-entrancea.ensures.1 in rw (p.1, p.2) (let b = c.in_ok-blocks.ensures k h in let x = c.in_ok-innera.ensures _ b.0 in let y = c.in_ok-innerb.ensures _ x.0 in let m = c.in_err-entrancea.ensures _ y.0 in (line_cut4 _ _ k m.0, m.1))

pub returns-in_err-entranceb : goal.returns-in_err-entranceb
returns-in_err-entranceb c = λ k h. let p = err_from_is_err_and c.from_residual-in_err-entranceb.result c.from_residual-in_err-entranceb.ensures.1 in rw (p.1, p.2) (let b = c.in_ok-blocks.ensures k h in let x = c.in_ok-innera.ensures _ b.0 in let y = c.in_ok-innerb.ensures _ x.0 in let z = c.in_ok-entrancea.ensures _ y.0 in let m = c.in_err-entranceb.ensures _ z.0 in (line_cut5 _ _ k m.0, m.1))

pub returns-in_err-points : goal.returns-in_err-points
returns-in_err-points c = λ k h. let p = err_from_is_err_and c.from_residual-in_err-points.result c.from_residual-in_err-points.ensures.1 in rw (p.1, p.2) (let b = c.in_ok-blocks.ensures k h in let x = c.in_ok-innera.ensures _ b.0 in let y = c.in_ok-innerb.ensures _ x.0 in let z = c.in_ok-entrancea.ensures _ y.0 in let w = c.in_ok-entranceb.ensures _ z.0 in let m = c.in_err-points.ensures _ w.0 in (line_cut _ _ k m.0, m.1))

pub returns : goal.returns
returns c = λ k h.
    let b = c.in_ok-blocks.ensures k h in
    let x = c.in_ok-innera.ensures _ b.0 in
    let y = c.in_ok-innerb.ensures _ x.0 in
    let z = c.in_ok-entrancea.ensures _ y.0 in
    let w = c.in_ok-entranceb.ensures _ z.0 in
    let p = c.in_ok-points.ensures _ w.0 in
    line_made _ _ k p.0 b.1.0 b.1.1 x.1 y.1 z.1 w.1 p.1.0 p.1.1 p.1.2
