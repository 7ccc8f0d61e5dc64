-- A fault, bytes left over, a broken rule, or the layout.
use Rattle.std.proofs.lemmas.Result.{err_from_is_err_and}
use Rattle.layout.proofs.Laws.{whole_few, load_fault, load_left, load_rule, load_well}
use Rattle.layout.proofs.load.Goals as goal

pub returns-in_err-layout : goal.returns-in_err-layout
returns-in_err-layout c = let p = err_from_is_err_and c.from_residual.result c.from_residual.ensures.1 in rw (p.1, p.2) (load_fault _ c.in_err-layout.ensures.0)

pub returns-then-at-s : goal.returns-then-at-s
returns-then-at-s c = load_left _ c.in_ok-layout.ensures c.if-at-s.true

pub first_broken-requires : goal.first_broken-requires
first_broken-requires c = (whole_few _ c.in_ok-layout.ensures.1).0

pub returns-in-Some : goal.returns-in-Some
returns-in-Some c = load_rule _ c.in_ok-layout.ensures c.if-at-s.false c.in-Some.ensures.0 c.in-Some.ensures.1

pub returns-in-None : goal.returns-in-None
returns-in-None c = load_well _ c.in_ok-layout.ensures c.if-at-s.false c.in-None.ensures
