-- The walks, where the counts let them be made.
use borrow.Author.Tests.{lt-leb}
use Rattle.laws.proofs.Tests.{every_fails}
use borrow.Author.Rules.{rules}
use Rattle.layout.specs.Layout.{counts}
use Rattle.layout.specs.Sound.{fits}
use Rattle.layout.proofs.Tested.{sections_many, distants_many, fits_made}
use Rattle.layout.proofs.in_range.Goals as goal

pub returns-then-l-gt-MOST_SECTIONS : goal.returns-then-l-gt-MOST_SECTIONS
returns-then-l-gt-MOST_SECTIONS c = search sections_many

pub returns-then-l-gt-MOST_POINTS : goal.returns-then-l-gt-MOST_POINTS
unfolding fits
returns-then-l-gt-MOST_POINTS c = every_fails _ 2 (lt-leb _ _ c.if-l-gt-MOST_POINTS.true)

pub returns-then-most_distants_of-l : goal.returns-then-most_distants_of-l
returns-then-most_distants_of-l c = search (rules, distants_many)

pub returns-then-l-gt-MOST_TRAIN_ROUTES : goal.returns-then-l-gt-MOST_TRAIN_ROUTES
unfolding fits
returns-then-l-gt-MOST_TRAIN_ROUTES c = every_fails _ 9 (lt-leb _ _ c.if-l-gt-MOST_TRAIN_ROUTES.true)

pub returns : goal.returns
unfolding fits counts
returns c =
    fits_made _ _ _ _ _ _ _ _ _ c.is_between-sections.ensures c.sections_fit-points.ensures c.lines_fit-lines.ensures c.distants_fit-distants.ensures
    c.routes_fit-routes.ensures c.heads_fit.ensures c.is_between.ensures c.most_distants_of.ensures c.if-most_distants_of-l.false c.if-l-gt-MOST_TRAIN_ROUTES.false
