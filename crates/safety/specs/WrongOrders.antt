-- Boxes that are wrong in what they refuse of an order (section 3): one reason is not asked, or not of all.
use Rattle.std.specs.Prelude.{ℕ, [], ◌∷◌, eqb}
use Rattle.laws.specs.Choice.{when◌then◌else◌}
use Rattle.laws.specs.Tests.{◌and◌}
use Rattle.laws.specs.Tables.{read, put}
use Rattle.sets.specs.Sets.{joined}
use Rattle.track.specs.declared.Route.{Route}
use Rattle.track.specs.Codes.{neutral, leaving, throw_point, set_route, secure_line, release_line}
use Rattle.track.specs.Sizes.{most_points, most_lines}
use Rattle.track.specs.Objects.{line, route}
use Rattle.track.specs.Blocks.{line_sections}
use Rattle.tables.specs.Locks.{locked, departs}
use Rattle.layout.specs.declared.Layout.{Layout}
use Rattle.layout.specs.Layout.{conflict}
use Rattle.reasons.specs.Refusal.{Refusal, no_refusal, refused_if, found, first_of}
use Rattle.reasons.specs.Reasons.{not_free, by_route, by_line, conflicting, exit_locked}
use Rattle.refusals.specs.Orders.{route_refusal, secure_refusal}
use Rattle.refusals.specs.Events.{numbers_refusal}
use Rattle.interlocking.specs.declared.State.{State}
use Rattle.interlocking.specs.State.{tables_of, with_lines}
use Rattle.interlocking.specs.Settle.{signals, far_sections, routes, arrivals, line_release}
use Rattle.interlocking.specs.Rows.{Row, row_of}
use Rattle.interlocking.specs.Step.{asked_in_run}
use Rattle.step_facts.specs.Run.{Event}
use Rattle.safety.specs.WrongBoxes.{Box, step_by, refuses, does}

-- what is refused, where of an event of kind k the first is asked in place of its row's 30 or 34 (L1), the second in place of what its row refuses besides
abbrev pub asks_by : ℕ → (Row → Refusal) → (Row → Refusal) → Layout → State → Event → Refusal
asks_by k misfit besides L s e =
    let row : Row = row_of L s k e.first e.second in
    when eqb e.kind k then first_of (numbers_refusal (asked_in_run L) row.missing e.first (misfit row) row.wrong ∷ besides row ∷ []) else refuses L s e

-- where an order of kind k is refused by this
abbrev pub refuse_by : ℕ → (Layout → State → ℕ → ℕ → Refusal) → Layout → State → Event → Refusal
refuse_by k refuse L s e = asks_by k (λ row. row.misfit) (λ row. refuse L s e.first e.second) L s e

-- the box that refuses so
abbrev pub refuses_by : ℕ → (Layout → State → ℕ → ℕ → Refusal) → Box
refuses_by k refuse = step_by (refuse_by k refuse) does signals far_sections routes arrivals line_release

-- ---- manual release

-- 17 is not asked
abbrev pub releases_locked : Box
releases_locked = refuses_by release_line (λ L s l ground. not_free s.section (line_sections (line L.line l)))

-- 7 and 8 are not asked
abbrev pub releases_taken : Box
releases_taken = refuses_by release_line (λ L s l ground. exit_locked L s.phase l)

-- ---- secure

-- 12 is not asked: as if the line were neutral
abbrev pub secures_anew : Box
secures_anew = refuses_by secure_line (λ L s l w. secure_refusal L (tables_of (with_lines s (put most_lines s.direction l neutral) s.stage)) l w)

-- only 17 is asked, as of a manual release: the line may be turned as soon as no exit route of it is locked
abbrev pub turns_unlocked : Box
turns_unlocked = refuses_by secure_line (λ L s l w. exit_locked L s.phase l)

-- ---- set route

-- what is refused of a route that is set, the conflicting routes by this and the rest by that
abbrev set_by : (Layout → State → ℕ → Refusal) → (Layout → State → Route → Refusal) → Box
set_by conflicts rest =
    refuses_by set_route (λ L s r b. first_of (refused_if (locked s.phase r) 4 r ∷ conflicts L s r ∷ rest L s (route L.route r) ∷ []))

-- 5 is not asked
abbrev pub asks_no_conflict : Box
asks_no_conflict = set_by (λ L s r. no_refusal) (λ L s a. route_refusal L (tables_of s) a)

-- 5 is asked of lower numbers only
abbrev pub asks_lower : Box
asks_lower = set_by (λ L s r. found 5 r (λ q. locked s.phase q and conflict L r q)) (λ L s a. route_refusal L (tables_of s) a)

-- 9 is not asked: as if the line were secured that way, unless it is neutral (L5)
abbrev pub sets_unsecured : Box
sets_unsecured =
    set_by (λ L s r. conflicting L s.phase r)
    (λ L s a. route_refusal L (tables_of (when departs s.direction a then s else with_lines s (put most_lines s.direction a.line (leaving a.end)) s.stage)) a)

-- a route without its overlap
abbrev bare : Route → Route
bare a = record {
  entry = a.entry;
  kind = a.kind;
  line = a.line;
  end = a.end;
  diverging = a.diverging;
  paths = a.paths;
  path = a.path;
  overlaps = 0;
  overlap = a.overlap;
  points = a.points;
  point = a.point;
  position = a.position;
}

-- 7 and 8 are not asked of the overlap
abbrev pub asks_no_overlap : Box
asks_no_overlap = set_by (λ L s r. conflicting L s.phase r) (λ L s a. route_refusal L (tables_of s) (bare a))

-- ---- throw

-- 15 is not asked
abbrev pub throws_locked : Box
throws_locked =
    refuses_by throw_point (λ L s p w. first_of (by_line L s.direction p ∷ not_free s.section (joined 0 (read most_points 0 L.pointsection p)) ∷ []))

-- 16 is not asked
abbrev pub throws_secured : Box
throws_secured =
    refuses_by throw_point (λ L s p w. first_of (by_route L s.phase p ∷ not_free s.section (joined 0 (read most_points 0 L.pointsection p)) ∷ []))

-- 7 and 8 are not asked
abbrev pub throws_taken : Box
throws_taken = refuses_by throw_point (λ L s p w. first_of (by_route L s.phase p ∷ by_line L s.direction p ∷ []))
