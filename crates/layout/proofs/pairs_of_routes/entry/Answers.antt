-- The place of two routes lies in the table.
use borrow.Author.Rules.{rules}
use Rattle.pairs.proofs.Laws.{place_inside}
use Rattle.layout.specs.Layout.{entry_of}
use Rattle.layout.proofs.pairs_of_routes.entry.Goals as goal

pub bounds-m-place : goal.bounds-m-place
bounds-m-place c = search (rules, place_inside)

pub returns : goal.returns
unfolding entry_of
returns c = cc
