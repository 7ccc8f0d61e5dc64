-- Setting a route, with its line secured first where it is an exit route on a neutral line (L5): of the tables that locking it leaves alone, only the
-- directions are another.
use Prim.Native.Nat.{ℕ}
use mathlib.Core.Path.{◌≡◌, refl, ap, ◌∙◌}
use mathlib.Core.Bool.{Bool, true, false}
use mathlib.Core.List.{List}
use Rattle.laws.specs.Choice.{when◌then◌else◌}
use Rattle.laws.specs.Tables.{put}
use Rattle.track.specs.declared.Route.{Route}
use Rattle.track.specs.Codes.{leaving}
use Rattle.track.specs.Objects.{route}
use Rattle.track.specs.Sizes.{most_lines}
use Rattle.tables.specs.Locks.{departs}
use Rattle.interlocking.specs.declared.State.{State}
use Rattle.interlocking.specs.declared.Core.{Core}
use Rattle.interlocking.specs.State.{with_routes, with_lines}
use Rattle.interlocking.specs.Own.{own_secure, own_lock, secure_first, own_set}
use Rattle.interlocking.specs.Parts.{core_of, headless, bare}

-- the directions in which route a locks
abbrev pub first_directions : List ℕ → Route → List ℕ
first_directions directions a = when departs directions a then put most_lines directions a.line (leaving a.end) else directions

-- the state with these
pub first_lines : (s : State) (a : Route) → secure_first s a ≡ with_lines s (first_directions s.direction a) s.stage
unfolding secure_first own_secure with_lines when◌then◌else◌
first_lines s a = go (departs s.direction a)
  where
    go : (t : Bool) → (when t then own_secure s a.line (leaving a.end) else s)
        ≡ with_lines s (when t then put most_lines s.direction a.line (leaving a.end) else s.direction) s.stage
    go true = refl
    go false = refl

-- so it is set
pub set_lines : (rs : List Route) (s : State) (r : ℕ) → own_set rs s r ≡ own_lock (with_lines s (first_directions s.direction (route rs r)) s.stage) r
unfolding own_set
set_lines rs s r = ap (λ t. own_lock t r) (first_lines s (route rs r))

-- what setting a route does looks at no lamp
pub set_moved : (s : Core) (lamps : List ℕ) (rs : List Route) (r : ℕ) (a : Route) (first t : Core) → a ≡ route rs r → first ≡ core_of (secure_first (bare s) a)
    → t ≡ core_of (own_lock (bare first) r) → t ≡ core_of (own_set rs (headless s lamps) r)
unfolding own_lock with_routes with_lines core_of
set_moved s lamps rs r a first t e f q =
    q ∙ rw (f, e, first_lines (bare s) (route rs r), set_lines rs (headless s lamps) r)
