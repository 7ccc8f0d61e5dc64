-- The walk over the routes makes their tables: an idle route stays as it is, and a locked one takes what becomes of it.
use borrow.Author.Rules.{rules}
use mathlib.Core.Path.{refl, ap}
use Rattle.laws.proofs.Arrays.{length_mapped}
use Rattle.laws.proofs.Each.{redo_start, redo_on, redo_skip}
use Rattle.track.specs.declared.Route.{Route}
use Rattle.interlocking.proofs.Walk.{walk_ended}
use Rattle.interlocking.proofs.Settled.{route_in, turn_lent, idle_stays, signal_falls, phase_takes, step_takes, second_takes, idle_kept, falls_on}
use Rattle.interlocking.proofs.answering.walk_routes.Goals as goal

pub loop-r-init : goal.loop-r-init
loop-r-init c = (
  c.requires,
  redo_start _ _ _ _ c.requires refl,
  redo_start _ _ _ _ (search (rules, c.requires)) (search (rules, length_mapped, c.well_formed)),
  redo_start _ _ _ _ (search (rules, c.requires)) (search (rules, length_mapped, c.well_formed)),
  redo_start _ _ _ _ c.requires (search (rules, length_mapped, c.well_formed)),
  redo_start _ _ _ _ c.requires (search (rules, length_mapped, c.well_formed)),
)

pub loop-r-preserved-then-s-k-eq-IDLE : goal.loop-r-preserved-then-s-k-eq-IDLE
loop-r-preserved-then-s-k-eq-IDLE c =
    let i = c.loop-r.invariant in
    let there = c.loop-r-test.true in
    let none = c.if-s-k-eq-IDLE.true in (
      i.0,
      redo_on _ _ _ _ _ _ _ i.1 there (ap (λ (a : Route). a.entry) (route_in _ _ _ _ (search (rules, length_mapped, c.well_formed)) there i.0)),
      redo_skip _ _ _ _ _ _ i.2 there (idle_kept _ _ _ _ _ _ i.2 none),
      redo_skip _ _ _ _ _ _ i.3 there (idle_stays _ _ _ _ _ there i.0 _ _ none),
      redo_skip _ _ _ _ _ _ i.4 there (idle_stays _ _ _ _ _ there i.0 _ _ none),
      redo_skip _ _ _ _ _ _ i.5 there (idle_stays _ _ _ _ _ there i.0 _ _ none),
    )

pub loop-r-preserved : goal.loop-r-preserved
loop-r-preserved c =
    let i = c.loop-r.invariant in
    let there = c.loop-r-test.true in
    let live = c.if-s-k-eq-IDLE.false in
    let same = route_in _ _ _ _ (search (rules, length_mapped, c.well_formed)) there i.0 in
    let x = turn_lent _ c.args.s _ _ _ _ _ _ c.tables_of-t.ensures c.route_settled-x.ensures in (
      i.0,
      redo_on _ _ _ _ _ _ _ i.1 there (ap (λ (a : Route). a.entry) same),
      redo_on _ _ _ _ _ _ _ i.2 there (falls_on _ _ _ _ _ _ i.2 _ (signal_falls _ _ _ _ _ there i.0 _ _ _ same live x)),
      redo_on _ _ _ _ _ _ _ i.3 there (phase_takes _ _ _ _ _ there i.0 _ _ _ same live x _),
      redo_on _ _ _ _ _ _ _ i.4 there (step_takes _ _ _ _ _ there i.0 _ _ _ same live x _),
      redo_on _ _ _ _ _ _ _ i.5 there (second_takes _ _ _ _ _ there i.0 _ _ _ same live x _),
    )

pub returns : goal.returns
returns c =
    let i = c.loop-r.invariant in
    walk_ended _ _ _ _ _ _ _ _ _ _ i.1 i.2 i.3 i.4 i.5 c.loop-r-test.false
