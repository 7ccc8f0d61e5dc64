-- Its parts, one after another; a fault ends them.
use mathlib.Core.Path.{refl, sym}
use Rattle.std.proofs.lemmas.Result.{err_from_is_err_and}
use Rattle.fields.specs.Reading.{Stands}
use Rattle.layout.specs.Load.{start}
use Rattle.layout.proofs.Laws.{heading_cut, heading_cut1, heading_cut2, heading_cut3, heading_made}
use Rattle.layout.proofs.file.read_heading.Goals as goal

pub returns-in_err-version : goal.returns-in_err-version
returns-in_err-version c = let b : Stands start c.args.at.now = record { none = refl; place = sym c.requires } in let p = err_from_is_err_and c.from_residual.result c.from_residual.ensures.1 in rw (p.1, p.2) (let m = c.in_err-version.ensures start b in (heading_cut1 _ m.0, m.1))

pub returns-in_err-sections : goal.returns-in_err-sections
returns-in_err-sections c = let b : Stands start c.args.at.now = record { none = refl; place = sym c.requires } in let x = c.in_ok-version.ensures start b in let p = err_from_is_err_and c.from_residual-in_err-sections.result c.from_residual-in_err-sections.ensures.1 in rw (p.1, p.2) (let m = c.in_err-sections.ensures _ x.0 in (heading_cut2 _ m.0, m.1))

pub returns-in_err-owned : goal.returns-in_err-owned
returns-in_err-owned c = let b : Stands start c.args.at.now = record { none = refl; place = sym c.requires } in let x = c.in_ok-version.ensures start b in let y = c.in_ok-sections.ensures _ x.0 in let p = err_from_is_err_and c.from_residual-in_err-owned.result c.from_residual-in_err-owned.ensures.1 in rw (p.1, p.2) (let m = rw y.1 at c.in_err-owned.ensures _ y.0 in (heading_cut3 _ m.0, m.1))

pub returns-in_err-signals : goal.returns-in_err-signals
returns-in_err-signals c = let b : Stands start c.args.at.now = record { none = refl; place = sym c.requires } in let x = c.in_ok-version.ensures start b in let y = c.in_ok-sections.ensures _ x.0 in let z = rw y.1 at c.in_ok-owned.ensures _ y.0 in let p = err_from_is_err_and c.from_residual-in_err-signals.result c.from_residual-in_err-signals.ensures.1 in rw (p.1, p.2) (let m = c.in_err-signals.ensures _ z.0 in (heading_cut _ m.0, m.1))

pub returns : goal.returns
returns c = let b : Stands start c.args.at.now = record { none = refl; place = sym c.requires } in let x = c.in_ok-version.ensures start b in let y = c.in_ok-sections.ensures _ x.0 in let z = rw y.1 at c.in_ok-owned.ensures _ y.0 in let w = c.in_ok-signals.ensures _ z.0 in heading_made _ w.0 x.1 y.1 z.1.0 z.1.1 w.1
