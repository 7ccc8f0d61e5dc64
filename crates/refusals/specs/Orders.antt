-- What is refused of each order, in the paper's order (section 3).
use Rattle.std.specs.Prelude.{ℕ, not, [], ◌∷◌, eqb}
use Rattle.laws.specs.Choice.{when◌then◌else◌}
use Rattle.laws.specs.Tables.{read}
use Rattle.sets.specs.Sets.{merged_set, set_of, joined}
use Rattle.track.specs.declared.Line.{Line}
use Rattle.track.specs.declared.Route.{Route}
use Rattle.track.specs.Codes.{exit_route, neutral, leaving, cancelling}
use Rattle.track.specs.Sizes.{most_points}
use Rattle.track.specs.Objects.{line, route, nearest}
use Rattle.track.specs.Blocks.{block_detail, line_sections}
use Rattle.tables.specs.Tables.{Tables}
use Rattle.tables.specs.Blocks.{is_open, unbarred}
use Rattle.tables.specs.Locks.{direction, phase, locked, departs}
use Rattle.layout.specs.declared.Layout.{Layout}
use Rattle.reasons.specs.Refusal.{Refusal, no_refusal, refused_if, first_of}
use Rattle.reasons.specs.Reasons.{not_free, not_placed, conflicting, by_route, by_line, exit_locked, block_barred, block_held, arrival_dark}

-- throw: 15, 16, then 7/8 for the point's own section
unfoldable pub throw_refusal : Layout → Tables → ℕ → Refusal
throw_refusal L t p =
    first_of (by_route L t.phase p ∷ by_line L t.direction p ∷ not_free t.section (joined 0 (read most_points 0 L.pointsection p)) ∷ [])

-- secure in direction w: 12, 11, 6 for the line's points, 10, 31 (L3)
unfoldable pub secure_refusal : Layout → Tables → ℕ → ℕ → Refusal
secure_refusal L t l w =
    let b : Line = line L.line l in
    first_of (
    refused_if (not (eqb (direction t.direction l) neutral)) 12 (direction t.direction l)
    ∷ block_barred L.line t.bar l
    ∷ not_placed t.point b.points b.point b.position
    ∷ block_held L.line t.stage l
    ∷ arrival_dark b t.lamp w
    ∷ [])

-- the line of exit route a: a neutral one is first secured the route's way, and the refusals are those of secure (L5); 9 for one secured the other way
unfoldable pub way_refusal : Layout → Tables → Route → Refusal
way_refusal L t a =
    when departs t.direction a then secure_refusal L t a.line (leaving a.end)
    else refused_if (not (eqb (direction t.direction a.line) (leaving a.end))) 9 a.line

-- an exit route besides: on a neutral line the refusals of secure (L5), 9, 6 for the line's points, 11, 10 for the block it enters
unfoldable pub exit_refusal : Layout → Tables → Route → Refusal
exit_refusal L t a =
    let b : Line = line L.line a.line in
    let i : ℕ = nearest b a.end in
    first_of (
    way_refusal L t a
    ∷ not_placed t.point b.points b.point b.position
    ∷ refused_if (not (unbarred t.bar a.line i)) 11 (block_detail b i)
    ∷ refused_if (not (is_open t.stage a.line i)) 10 (block_detail b i)
    ∷ [])

-- set route after 4 and 5: 6, 7/8 over path and overlap; an exit route then the refusals of secure where the line is neutral (L5), 9, 6, 11, 10
unfoldable pub route_refusal : Layout → Tables → Route → Refusal
route_refusal L t a =
    first_of (
    not_placed t.point a.points a.point a.position
    ∷ not_free t.section (merged_set (set_of a.paths a.path) (set_of a.overlaps a.overlap))
    ∷ (when eqb a.kind exit_route then exit_refusal L t a else no_refusal)
    ∷ [])

-- set route: 4, 5, then 6, 7/8, and of an exit route the refusals of secure where the line is neutral (L5), 9, 6, 11, 10
unfoldable pub set_refusal : Layout → Tables → ℕ → Refusal
set_refusal L t r =
    first_of (refused_if (locked t.phase r) 4 r ∷ conflicting L t.phase r ∷ route_refusal L t (route L.route r) ∷ [])

-- cancel: 13, 14
unfoldable pub cancel_refusal : Tables → ℕ → Refusal
cancel_refusal t r = first_of (refused_if (not (locked t.phase r)) 13 r ∷ refused_if (eqb (phase t.phase r) cancelling) 14 r ∷ [])

-- manual release: 17, then 7/8 over the line's blocks
unfoldable pub manual_refusal : Layout → Tables → ℕ → Refusal
manual_refusal L t l = first_of (exit_locked L t.phase l ∷ not_free t.section (line_sections (line L.line l)) ∷ [])
