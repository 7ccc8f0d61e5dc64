-- Refused by its numbers, refused besides, or done: the section is given what its heads say.
use mathlib.Core.Path.{refl, ap, sym, ◌∙◌}
use Rattle.reasons.specs.Told.{told}
use Rattle.interlocking.specs.Own.{own_section}
use Rattle.interlocking.specs.Rows.{head_row}
use Rattle.interlocking.specs.Parts.{core_of, headless}
use Rattle.interlocking.proofs.Trying.{moves_on, misfit_none, lines_known, heads_moved, reading_given, fitted_known}
use Rattle.interlocking.proofs.heads.said_of.Goals as goal

-- the section has heads
pub fitted_number-section-requires : goal.fitted_number-section-requires
fitted_number-section-requires c = fitted_known _ _ _ _ _ c.in_ok-numbers_reason.ensures _ _ _ c.reason_if-misfit.ensures c.is_fitted.ensures

-- there are no more lines than the tables hold
pub read_section-requires : goal.read_section-requires
read_section-requires c = lines_known _ _ _ _ _ c.in_ok-numbers_reason.ensures _ c.requires

-- done
pub returns : goal.returns
unfolding head_row
returns c =
    let there = c.fitted_number-section.ensures in
    let says = c.reading-reading.ensures in
    moves_on _ _ _ _ _ (head_row c.args.a.layout.now (headless c.args.s c.args.a.lamps.now) c.args.y c.args.g c.args.missing c.args.wrong (told c.args.besides)) _ c.in_ok-numbers_reason.ensures refl
    (misfit_none _ _ _ _ c.reason_if-misfit.ensures c.is_fitted.ensures) refl (sym (ap told c.in_ok-besides.was)) _ _
    (heads_moved _ _ _ _ _ _ _ _ _
    (c.read_section.ensures ∙ ap (λ k. core_of (own_section c.args.a.layout.now.signals c.args.a.layout.now.line c.args.a.layout.now.lines (headless c.args.s c.args.a.lamps.now) k c.reading-reading.result)) there) says)
    (ap (λ k. record { section = k; reading = c.reading-reading.result; tick = 0 }) there ∙ reading_given _ says)
