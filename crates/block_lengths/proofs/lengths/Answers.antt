-- The headway, then the speed, then both tables, each of which rises.
use mathlib.Core.Path.{refl, sym, ◌∙◌}
use mathlib.Core.Logic.{inl, inr}
use native.Mathlib.Omega.{arith}
use Rattle.block_lengths.proofs.Columns.{column_is, column_none}
use Rattle.block_lengths.proofs.Laws.{not_refused, rises_too, no_column, both_lengths}
use Rattle.block_lengths.proofs.Right.{headway_refused}
use Rattle.block_lengths.proofs.Tables.{rises71, rises72}
use Rattle.block_lengths.specs.Paper.{column_of}
use Rattle.block_lengths.proofs.lengths.Goals as goal
use Rattle.block_lengths.proofs.lengths.Goals.{then-headway-lt120-via-then-headway-lt120, then-headway-lt120-via-else-headway-lt120+then-headway-gt600}

-- a headway that is none of 120 to 600
pub returns-then-headway-lt120 : goal.returns-then-headway-lt120
returns-then-headway-lt120 c =
    elim c.then-headway-lt120.branch [
      | then-headway-lt120-via-then-headway-lt120 w ↦ headway_refused _ _ (inl w.if-headway-lt120.true)
      | then-headway-lt120-via-else-headway-lt120+then-headway-gt600 w ↦ headway_refused _ _ (inr w.if-headway-gt600.true)
    ]

-- a speed that no column has
pub returns-in_default : goal.returns-in_default
returns-in_default c =
    no_column _ _ (column_of c.args.speed) refl (not_refused _ (omega arith) (omega arith)) _ (column_none _ (sym c.column_of.ensures ∙ c.in_default.is)) refl

-- both tables rise
pub length_in-requires : goal.length_in-requires
length_in-requires c =
    (omega arith, omega arith, (column_is _ (sym c.column_of.ensures ∙ c.in-Some.is)).1, rises_too _ _ c.table_7_1.ensures rises71)

pub length_in-requires-2 : goal.length_in-requires-2
length_in-requires-2 c =
    (omega arith, omega arith, (column_is _ (sym c.column_of.ensures ∙ c.in-Some.is)).1, rises_too _ _ c.table_7_2.ensures rises72)

-- the column's length in each
pub returns : goal.returns
returns c =
    let found = column_is _ (sym c.column_of.ensures ∙ c.in-Some.is) in
    both_lengths _ _ _ found.0 (not_refused _ (omega arith) (omega arith)) _ _ _ _ found.1 c.table_7_1.ensures c.table_7_2.ensures c.length_in.ensures c.length_in-2.ensures
