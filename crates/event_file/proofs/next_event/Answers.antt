-- Nothing left, or three numbers one after another, of which the first fault is told.
use mathlib.Core.Path.{ap, refl}
use native.Mathlib.Omega.{arith}
use Rattle.std.proofs.lemmas.Result.{err_from_is_err_and}
use Rattle.event_file.specs.Read.{next_told}
use Rattle.event_file.proofs.Reading.{read_small, event_none, kind_bad, first_bad, second_bad, event_taken}
use Rattle.event_file.proofs.next_event.Goals as goal

pub returns-then-file-at : goal.returns-then-file-at
returns-then-file-at c = ap next_told (event_none _ _ c.if-file-at.true)

pub returns-in_err-kind : goal.returns-in_err-kind
returns-in_err-kind c =
    let p = err_from_is_err_and c.from_residual.result c.from_residual.ensures.1 in
    rw (p.1, p.2) (ap next_told (kind_bad _ _ c.if-file-at.false _ _ c.in_err-kind.ensures))

pub returns-in_err-first : goal.returns-in_err-first
returns-in_err-first c =
    let p = err_from_is_err_and c.from_residual-in_err-first.result c.from_residual-in_err-first.ensures.1 in
    rw (p.1, p.2) (ap next_told (first_bad _ _ c.if-file-at.false _ _ c.in_ok-kind.ensures _ _ c.in_err-first.ensures))

pub returns-in_err-second : goal.returns-in_err-second
returns-in_err-second c =
    let p = err_from_is_err_and c.from_residual-in_err-second.result c.from_residual-in_err-second.ensures.1 in
    rw (p.1, p.2) (ap next_told (second_bad _ _ c.if-file-at.false _ _ c.in_ok-kind.ensures _ _ c.in_ok-first.ensures _ _ c.in_err-second.ensures))

pub overflow_cast-result : goal.overflow_cast-result
overflow_cast-result c = omega (arith, read_small _ _ _ c.in_ok-kind.ensures _ _ refl)

pub overflow_cast-result-2 : goal.overflow_cast-result-2
overflow_cast-result-2 c = omega (arith, read_small _ _ _ c.in_ok-first.ensures _ _ refl)

pub overflow_cast-result-3 : goal.overflow_cast-result-3
overflow_cast-result-3 c = omega (arith, read_small _ _ _ c.in_ok-second.ensures _ _ refl)

pub returns : goal.returns
returns c = ap next_told (event_taken _ _ c.if-file-at.false _ _ c.in_ok-kind.ensures _ _ c.in_ok-first.ensures _ _ c.in_ok-second.ensures)
