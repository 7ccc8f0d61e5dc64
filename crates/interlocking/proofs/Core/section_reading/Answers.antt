-- Refused by its numbers, or done: the section is given what is recorded of its code.
use native.Mathlib.Omega.{arith}
use mathlib.Core.Path.{refl, ap, ◌∙◌}
use Rattle.interlocking.proofs.Trying.{moves_on, object_below, misfit_found}
use Rattle.interlocking.specs.Rows.{section_row}
use Rattle.interlocking.specs.Own.{own_section}
use Rattle.interlocking.specs.Parts.{core_of, headless}
use Rattle.interlocking.proofs.Trying.{reading_given, lines_known}
use Rattle.interlocking.proofs.Core.section_reading.Goals as goal

-- the number fits a byte
pub overflow_cast-g : goal.overflow_cast-g
overflow_cast-g c = let o = object_below _ _ _ _ _ c.in_ok-numbers_reason.ensures _ refl in omega arith

-- done
pub returns : goal.returns
unfolding section_row
returns c = moves_on _ _ _ _ _ (section_row c.args.a.layout.now (headless c.args.self c.args.a.lamps.now) c.args.section c.args.code) _ c.in_ok-numbers_reason.ensures refl (misfit_found _ _ _ _ c.reason_if-misfit.ensures c.is_fitted.ensures) refl refl _ _ (c.read_section.ensures ∙ ap (λ v. core_of (own_section c.args.a.layout.now.signals c.args.a.layout.now.line c.args.a.layout.now.lines (headless c.args.self c.args.a.lamps.now) c.args.section v)) c.reading_for-reading.ensures) (reading_given _ c.reading_for-reading.ensures)

-- there are no more lines than the tables hold
pub read_section-requires : goal.read_section-requires
read_section-requires c = lines_known _ _ _ _ _ c.in_ok-numbers_reason.ensures _ c.requires
