-- Routes and lines in a search: one that its table has is what its record says, and one past the table's end is idle or neutral.
use Prim.Native.Nat.{ℕ, ◌+◌, ◌<◌, ◌≤◌}
use mathlib.Core.Path.{◌≡◌, refl, sym, ap, ◌∙◌}
use mathlib.Core.Bool.{Bool, true, false, not}
use mathlib.Core.List.{List}
use native.Mathlib.Omega.{arith}
use borrow.Author.Rules.{rules}
use lib.Dec.{eqb, ltb}
use lib.ListN.{length, get_or}
use Rattle.laws.specs.Tests.{◌and◌, any_below, lowest}
use Rattle.laws.specs.Tables.{read}
use Rattle.laws.proofs.Arrays.{read_in, length_mapped}
use Rattle.laws.proofs.Both.{both_left}
use Rattle.laws.specs.Choice.{when◌then◌else◌}
use Rattle.laws.proofs.Choice.{if_ge, if_lt, Is, which, chosen, passed_over}
use Rattle.laws.proofs.Choice as choice
use Rattle.laws.proofs.Searches.{Sought, seek_start, seek_on, seek_here, seek_end, lowest_some}
use Rattle.track.specs.declared.Line.{Line}
use Rattle.track.specs.declared.Route.{Route}
use Rattle.track.specs.Codes.{neutral, idle}
use Rattle.track.specs.Sizes.{most_lines, most_train_routes, most_routes}
use Rattle.track.specs.Lists.{among}
use Rattle.track.specs.Objects.{no_line, line, no_route, route}
use Rattle.tables.specs.Locks.{direction, locked, locked_exit_by, locked_exit}
use Rattle.std.specs.Prelude.{Option, Some, None}
use Rattle.std.specs.Option.{is_none}
use Rattle.reasons.specs.Searches.{route_locks, line_locks, lowest_found}

-- a number at which the test is known to fail is passed over
pub none_there : (n : ℕ) (p : ℕ → Bool) (i : ℕ) → Sought n p i → i < n → false ≡ p i → Sought n p (i + 1)
none_there n p i s l e = seek_on n p i s l e refl

module _ (n : ℕ) (p : ℕ → Bool) (i : ℕ) (s : Sought n p i) where
  -- the test holds at i: it is found
  pub find_here : {b : Bool} → i < n → b ≡ p i → b ≡ true → Some i ≡ lowest_found n p
  unfolding lowest_found
  find_here l d e = let h : i ≡ lowest n p = seek_here n p i s l d e in rw (← h) (if_lt i n (Some i) None (Some i) l refl)

  -- no number is left: none is found
  pub find_none : n ≤ i → None ≡ lowest_found n p
  unfolding lowest_found
  find_none l = let h : n ≡ lowest n p = seek_end n p i s l in rw (← h) (if_ge n n (Some n) None None (omega arith) refl)

-- none is found just where the test holds at none
pub found_nowhere : (n : ℕ) (p : ℕ → Bool) (o : Option ℕ) → o ≡ lowest_found n p → is_none o ≡ not (any_below n p)
unfolding lowest_found
found_nowhere n p o e = ap is_none e ∙ go (which (ltb (lowest n p) n))
  where
    go : Is (ltb (lowest n p) n) → is_none (when ltb (lowest n p) n then Some (lowest n p) else None) ≡ not (any_below n p)
    go (choice.holds t) = ap is_none (chosen _ _ _ t) ∙ ap not (sym t ∙ lowest_some n p)
    go (choice.fails t) = ap is_none (passed_over _ _ _ t) ∙ ap not (sym t ∙ lowest_some n p)

-- for loops that look for the lowest, if any
pub ruleset finds = (rules, seek_start, seek_on, find_here, find_none)

-- past the table no route is locked
idle_past : (phases : List ℕ) (r : ℕ) → most_routes ≤ r → locked phases r ≡ false
unfolding locked read
idle_past phases r h = sym (ap (λ x. not (eqb x idle)) (if_ge r most_routes (get_or phases r 0) idle idle h refl))

-- ---- locked routes that list a point

module _ (rs : List Route) (phases : List ℕ) (p r : ℕ) where
  -- none past the table
  pub route_past : most_train_routes ≤ r → false ≡ route_locks rs phases p r
  unfolding route_locks
  route_past h = both_left _ _ (idle_past phases r h)

  -- inside it, by the record that the table has there
  pub route_there : (d : Route) {v : Bool} → v ≡ locked phases r and among (get_or rs r d).points (get_or rs r d).point p → length rs ≡ most_train_routes → r < most_train_routes
      → v ≡ route_locks rs phases p r
  unfolding route_locks route
  route_there d e q b = e ∙ ap (λ (a : Route). locked phases r and among a.points a.point p) (read_in rs r most_train_routes d no_route q b)

-- for that search
pub ruleset routes = (finds, length_mapped, none_there, route_past, route_there)

-- ---- locked exit routes of a line

module _ (rs : List Route) (phases : List ℕ) (l r : ℕ) where
  -- none past the table
  pub exit_past : most_train_routes ≤ r → false ≡ locked_exit rs phases l r
  unfolding locked_exit locked_exit_by
  exit_past h = both_left _ _ (idle_past phases r h)

  -- inside it, by the record that the table has there
  pub exit_there : (d : Route) {v : Bool} → v ≡ locked_exit_by phases (get_or rs r d) l r → length rs ≡ most_train_routes → r < most_train_routes → v ≡ locked_exit rs phases l r
  unfolding locked_exit route
  exit_there d e q b = e ∙ ap (λ (a : Route). locked_exit_by phases a l r) (read_in rs r most_train_routes d no_route q b)

-- for that search
pub ruleset exits = (finds, length_mapped, none_there, exit_past, exit_there)

-- ---- secured lines that list a point

module _ (ls : List Line) (directions : List ℕ) (p l : ℕ) where
  -- none past the table: it is neutral
  pub line_past : most_lines ≤ l → false ≡ line_locks ls directions p l
  unfolding line_locks read
  line_past h = both_left _ _ (sym (ap (λ x. not (eqb x neutral)) (if_ge l most_lines (get_or directions l 0) neutral neutral h refl)))

  -- inside it, by the record that the table has there
  pub line_there : (d : Line) {v : Bool} → v ≡ not (eqb (direction directions l) neutral) and among (get_or ls l d).points (get_or ls l d).point p
      → length ls ≡ most_lines → l < most_lines → v ≡ line_locks ls directions p l
  unfolding line_locks line
  line_there d e q b =
      e ∙ ap (λ (a : Line). not (eqb (direction directions l) neutral) and among a.points a.point p) (read_in ls l most_lines d no_line q b)

-- for that search
pub ruleset lines = (finds, length_mapped, none_there, line_past, line_there)
