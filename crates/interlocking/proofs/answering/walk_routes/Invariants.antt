-- The five tables, made for the routes before r.
use Prim.Native.Nat.{◌≤◌}
use lib.ListN.{replicate}
use Rattle.laws.proofs.Each.{Redone}
use Rattle.track.specs.Sizes.{most_train_routes, most_routes}
use Rattle.track.specs.Objects.{route}
use Rattle.interlocking.specs.Settle.{fallen_at, route_after, unless_idle}
use Rattle.interlocking.specs.Parts.{bare}
use Rattle.interlocking.proofs.Walk.{fell}
use Rattle.interlocking.proofs.answering.walk_routes.Given as goal

abbrev pub invariant-loop-r : goal.invariant-loop-r
invariant-loop-r l =
    (l.l.routes ≤ most_train_routes)
    × Redone most_train_routes l.l.routes (λ i was. (route l.l.route i).entry) (replicate most_train_routes 0) l.entry l.r
    × Redone most_routes l.l.routes (fallen_at l.l.line l.l.route (bare l.fn.s)) l.fn.s.phase l.fallen l.r
    × Redone most_routes l.l.routes (λ i was. unless_idle (fell l.l.line l.l.route l.l.routes (bare l.fn.s)) i was (route_after l.l.line l.l.route (fell l.l.line l.l.route l.l.routes (bare l.fn.s)) l.e i).phase) l.fn.s.phase l.phase l.r
    × Redone most_train_routes l.l.routes (λ i was. unless_idle (fell l.l.line l.l.route l.l.routes (bare l.fn.s)) i was (route_after l.l.line l.l.route (fell l.l.line l.l.route l.l.routes (bare l.fn.s)) l.e i).steps) l.fn.s.steps l.steps l.r
    × Redone most_train_routes l.l.routes (λ i was. unless_idle (fell l.l.line l.l.route l.l.routes (bare l.fn.s)) i was (route_after l.l.line l.l.route (fell l.l.line l.l.route l.l.routes (bare l.fn.s)) l.e i).seconds) l.fn.s.seconds l.seconds l.r
