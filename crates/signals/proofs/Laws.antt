-- What keeps a signal at proceed, by the first test that fails.
use mathlib.Core.Path.{◌≡◌}
use mathlib.Core.Bool.{Bool, true, false, not}
use mathlib.Core.List.{List}
use Prim.Native.Nat.{ℕ}
use lib.Dec.{eqb}
use Rattle.laws.specs.Tests.{implies}
use Rattle.laws.proofs.Tests.{every_stops, every_passes, every_last}
use Rattle.track.specs.declared.Line.{Line}
use Rattle.track.specs.declared.Route.{Route}
use Rattle.tables.specs.Readings.{all_free, route_placed}
use Rattle.signals.specs.Signals.{lets_out, clear}

module _ (ls : List Line) (sections points stages bars : List ℕ) (a : Route) (v : Bool) (p : v ≡ all_free sections a.paths a.path) where
  -- a path section does not read free: no
  pub clear_way : not v ≡ true → false ≡ clear ls sections points stages bars a
  unfolding clear
  clear_way h = every_stops _ _ v p h

  module _ (u : Bool) (q : u ≡ all_free sections a.overlaps a.overlap) (h : not v ≡ false) where
    -- an overlap section does not: no
    pub clear_beyond : not u ≡ true → false ≡ clear ls sections points stages bars a
    unfolding clear
    clear_beyond g = every_passes _ _ v _ false p h (every_stops _ _ u q g)

    module _ (x : Bool) (t : x ≡ route_placed points a) (g : not u ≡ false) where
      -- a point is not in position: no
      pub clear_placed : not x ≡ true → false ≡ clear ls sections points stages bars a
      unfolding clear
      clear_placed k = every_passes _ _ v _ false p h (every_passes _ _ u _ false q g (every_stops _ _ x t k))

      -- else, for an exit route, by the block that it enters
      pub clear_out : (r : Bool) → not x ≡ false → r ≡ implies (eqb a.kind 2) (lets_out ls points stages bars a) → r ≡ clear ls sections points stages bars a
      unfolding clear
      clear_out r k e = every_passes _ _ v _ r p h (every_passes _ _ u _ r q g (every_passes _ _ x _ r t k (every_last _ r e)))
