-- The step of the whole state, from that of its parts.
use Prim.Native.Nat.{ℕ, ◌<◌}
use mathlib.Core.Path.{◌≡◌, refl, fun_ext}
use native.Mathlib.Omega.{arith}
use borrow.Author.Tests.{ltb-true}
use Rattle.laws.specs.Tables.{each}
use Rattle.laws.proofs.Choice.{if_both}
use Rattle.laws.proofs.Tests.{and_right}
use Rattle.track.specs.Sizes.{most_sections}
use Rattle.track.specs.Signal.{Signal, main, into}
use Rattle.tables.specs.declared.Gives.{Gives}
use Rattle.layout.specs.declared.Layout.{Layout}
use Rattle.interlocking.specs.declared.State.{State}
use Rattle.interlocking.specs.State.{with_routes, with_lines}
use Rattle.interlocking.specs.Settle.{fallen_at, signals, proceeds_in, far_sections, locking_of, route_after, unless_idle, routes_by, routes, arrivals, line_release, settle}
use Rattle.interlocking.specs.Parts.{core_of, bare, whole, head_place}

-- ---- the heads of the section that an event names

-- there is such a place
pub place_below : (k a : ℕ) → head_place k a < most_sections
unfolding head_place
place_below k a = if_both (λ n. n < most_sections) _ (λ t. ltb-true _ _ (and_right _ _ t)) (λ f. omega arith)

-- so of what the code found
pub place_small : (k a p : ℕ) → p ≡ head_place k a → p < most_sections
place_small k a p e = rw e (place_below k a)

-- ---- what follows an event

-- a signal shows proceed by the nine tables
proceeds_same : (L : Layout) (s : State) → proceeds_in L (bare (core_of s)) ≡ proceeds_in L s
unfolding core_of proceeds_in
proceeds_same L s = fun_ext same
  where
    same : (x : Signal) → proceeds_in L (bare (core_of s)) x ≡ proceeds_in L s x
    same (main x) = refl
    same (into l i w) = refl

-- what follows is made of the nine tables, and leaves heads and lamps
pub settle_parts : (L : Layout) (s u : State) (e : Gives) → whole (core_of (settle L (bare (core_of s)) (bare (core_of u)) e)) u.axles u.lamp ≡ settle L s u e
unfolding settle line_release arrivals routes routes_by far_sections signals with_routes with_lines fallen_at route_after locking_of unless_idle core_of
settle_parts L s u e = rw (proceeds_same L s, proceeds_same L (with_routes u (each L.routes (fallen_at L.line L.route u) u.phase) u.steps u.seconds))
