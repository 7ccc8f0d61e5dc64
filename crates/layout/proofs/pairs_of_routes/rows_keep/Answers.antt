-- A test for each route and each before it, which ends at the first that fails.
use mathlib.Core.Path.{ap}
use mathlib.Core.Bool.{not}
use borrow.Author.Rules.{rules}
use Rattle.laws.proofs.Loops.{alls}
use Rattle.laws.proofs.Loops.{held_on}
use Rattle.laws.proofs.Arrays.{length_mapped}
use Rattle.layout.proofs.Tested.{rows_stop, rows_on, row_at}
use Rattle.layout.proofs.pairs_of_routes.rows_keep.Goals as goal

pub loop-r-init : goal.loop-r-init
loop-r-init c = search alls

pub loop-q-init : goal.loop-q-init
loop-q-init c = search alls

pub returns-then-not-pair_keeps : goal.returns-then-not-pair_keeps
returns-then-not-pair_keeps c =
    rows_stop _ _ _ _ _ c.loop-r.invariant (search rules) c.loop-q.invariant (search rules)
    (row_at _ _ _ _ _ (search (rules, length_mapped)) (search rules) (search rules) c.pair_keeps.ensures) (ap not c.if-not-pair_keeps.true)

pub loop-q-preserved : goal.loop-q-preserved
loop-q-preserved c =
    held_on _ _ _ c.loop-q.invariant (search rules) (row_at _ _ _ _ _ (search (rules, length_mapped)) (search rules) (search rules) c.pair_keeps.ensures)
    (ap not c.if-not-pair_keeps.false)

pub loop-r-preserved : goal.loop-r-preserved
loop-r-preserved c = rows_on _ _ _ _ _ c.loop-r.invariant (search rules) c.loop-q.invariant (search rules)

pub returns : goal.returns
returns c = search alls
