-- The walk over the routes, once its loop has ended.
use Prim.Native.Nat.{ℕ, ◌≤◌}
use mathlib.Core.List.{List}
use Rattle.laws.specs.Tables.{each}
use Rattle.laws.proofs.Each.{Redone, redo_end}
use Rattle.track.specs.declared.Line.{Line}
use Rattle.track.specs.declared.Route.{Route}
use Rattle.track.specs.Sizes.{most_train_routes, most_routes}
use Rattle.track.specs.Objects.{route}
use Rattle.tables.specs.declared.Gives.{Gives}
use Rattle.interlocking.specs.Walk.{IsWalk}
use Rattle.layout.specs.declared.Layout.{Layout}
use Rattle.interlocking.specs.declared.State.{State}
use Rattle.interlocking.specs.State.{with_routes}
use Rattle.interlocking.specs.Settle.{fallen_at, signals, route_after, unless_idle}

-- the state whose signals have fallen, of n routes
unfoldable pub fell : List Line → List Route → ℕ → State → State
fell ls rs n s = with_routes s (each n (fallen_at ls rs s) s.phase) s.steps s.seconds

-- once the loop has been at all routes its five tables are those
module _ (L : Layout) (s : State) (e : Gives) (blank entry fallen phase steps seconds : List ℕ) (r : ℕ) where
  abbrev after : State
  after = fell L.line L.route L.routes s

  pub walk_ended : Redone most_train_routes L.routes (λ i was. (route L.route i).entry) blank entry r
      → Redone most_routes L.routes (fallen_at L.line L.route s) s.phase fallen r
      → Redone most_routes L.routes (λ i was. unless_idle after i was (route_after L.line L.route after e i).phase) s.phase phase r
      → Redone most_train_routes L.routes (λ i was. unless_idle after i was (route_after L.line L.route after e i).steps) s.steps steps r
      → Redone most_train_routes L.routes (λ i was. unless_idle after i was (route_after L.line L.route after e i).seconds) s.seconds seconds r
      → L.routes ≤ r → IsWalk L s e blank (record { entry = entry; fallen = fallen; phase = phase; steps = steps; seconds = seconds })
  unfolding fell signals
  walk_ended a b c d f all = record {
    entry = redo_end _ _ _ _ _ _ a all;
    fallen = redo_end _ _ _ _ _ _ b all;
    phase = redo_end _ _ _ _ _ _ c all;
    steps = redo_end _ _ _ _ _ _ d all;
    seconds = redo_end _ _ _ _ _ _ f all;
  }
