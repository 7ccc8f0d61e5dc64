-- What is refused, one reason at a time (section 3). The detail is always the lowest number that applies.
use Rattle.std.specs.Prelude.{ℕ, not, List, eqb, ltb}
use Rattle.laws.specs.Choice.{when◌then◌else◌}
use Rattle.laws.specs.Tests.{◌and◌, lowest}
use Rattle.track.specs.declared.Line.{Line}
use Rattle.track.specs.Codes.{occupied}
use Rattle.track.specs.Sizes.{most_sections, most_points}
use Rattle.track.specs.Objects.{line, entrance}
use Rattle.tables.specs.Readings.{reading}
use Rattle.tables.specs.Blocks.{is_open, unbarred}
use Rattle.tables.specs.Locks.{locked, locked_exit}
use Rattle.passage.specs.Passage.{arrival}
use Rattle.lamps.specs.Lamps.{reports_none}
use Rattle.reasons.specs.Searches.{unfree, misplaced, route_locks, line_locks, failing}
use Rattle.layout.specs.declared.Layout.{Layout}
use Rattle.layout.specs.Layout.{is_fitted, conflict}
use Rattle.reasons.specs.Refusal.{Refusal, refused, no_refusal, refused_if, found}

-- 7, 8: a section asked for is occupied, reads none; the lowest-numbered of those asked for that doesn't read free decides which
unfoldable pub not_free : List ℕ → ℕ → Refusal
not_free sections set =
    when ltb (lowest most_sections (unfree sections set)) most_sections then
    refused (when eqb (reading sections (lowest most_sections (unfree sections set))) occupied then 7 else 8) (lowest most_sections (unfree sections set))
    else no_refusal

-- 6: a point is not read in position
unfoldable pub not_placed : List ℕ → ℕ → List ℕ → List ℕ → Refusal
not_placed points n ps ws = found 6 most_points (misplaced points n ps ws)

-- 5: a route that conflicts with r is locked
unfoldable pub conflicting : Layout → List ℕ → ℕ → Refusal
conflicting L phases r = found 5 L.routes (λ q. locked phases q and conflict L r q)

-- 15: a locked route lists the point; 16: a secured line does
unfoldable pub by_route : Layout → List ℕ → ℕ → Refusal
by_route L phases p = found 15 L.routes (route_locks L.route phases p)

unfoldable pub by_line : Layout → List ℕ → ℕ → Refusal
by_line L directions p = found 16 L.lines (line_locks L.line directions p)

-- 17: an exit route of line l is locked
unfoldable pub exit_locked : Layout → List ℕ → ℕ → Refusal
exit_locked L phases l = found 17 L.routes (locked_exit L.route phases l)

-- 11: a block of line l is barred; 10: is held: the lowest of the sections that stand for such blocks
unfoldable pub block_barred : List Line → List ℕ → ℕ → Refusal
block_barred ls bars l = found 11 most_sections (failing (unbarred bars l) (line ls l))

unfoldable pub block_held : List Line → List ℕ → ℕ → Refusal
block_held ls stages l = found 10 most_sections (failing (is_open stages l) (line ls l))

-- 31: the lamp of the entrance signal at the arrival end of direction w reports none (L3)
unfoldable pub arrival_dark : Line → List ℕ → ℕ → Refusal
arrival_dark b lamps w = refused_if (reports_none lamps (entrance b (arrival w))) 31 (entrance b (arrival w))

-- 30: section g has no heads; 34: it has, and so takes no reading of kind 1 (L1)
unfoldable pub no_heads : Layout → ℕ → Refusal
no_heads L g = refused_if (not (is_fitted L g)) 30 g

unfoldable pub has_heads : Layout → ℕ → Refusal
has_heads L g = refused_if (is_fitted L g) 34 g
