-- Branch T, computed: it loads and is sound (section 8).
use Prim.Native.Nat.{ℕ}
use mathlib.Core.Path.{◌≡◌, refl}
use mathlib.Core.Bool.{true}
use Rattle.laws.specs.Choice.{when◌then◌else◌}
use Rattle.laws.specs.Tests.{◌and◌, ◌or◌, implies, every, all_below, any_below}
use Rattle.laws.specs.Tables.{iter}
use Rattle.numbers.specs.Number.{groups_at, at_most, number_at}
use Rattle.fields.specs.Fields.{failed, judge, field, code, reference}
use Rattle.fields.specs.Lists.{item_turn, items, point_turn, points}
use Rattle.track.specs.Objects.{no_line, no_route, line, route, inner, entrance}
use Rattle.track.specs.Blocks.{in_block, blocks_differ}
use Rattle.track.specs.Lists.{among, all_differ, between, referring, positions}
use Rattle.track.specs.Ranges.{points_fit, line_fits, route_fits}
use Rattle.file_objects.specs.Sections.{no_sections, section_turn, sections}
use Rattle.file_objects.specs.Lines.{a_line, no_lines, line_turn, lines_from, lines}
use Rattle.file_objects.specs.Distants.{most_distants_of, without_distants, distants}
use Rattle.file_objects.specs.Routes.{an_end, line_and_end, route_head, a_route, no_routes, route_turn, routes_from, routes}
use Rattle.pairs.specs.Pairs.{place_of, no_pairs, counted, pair_count, comes_after, in_order, pair_of, ordered, a_pair, listed, pair_turn, no_pair, pairs_from, named, pairs}
use Rattle.rules.specs.Rules.{share, has_block, is_block, has_inner, is_inner, in_path, has_entrance, is_entrance, once, line_ends, line_points, route_lists, route_length, route_ends, has_point, clashes}
use Rattle.layout.specs.Layout.{none_fitted, counts, line_in, route_in, entry_of, conflict}
use Rattle.layout.specs.Rules.{rule1, rule2, rule3, rule4, rule5, rule6, rule7, first_failed, broken}
use Rattle.layout.specs.Sound.{sections_fit, fits, pair_mirrors, row_mirrors, mirrored, sound}
use Rattle.layout.specs.Load.{heading, counts_of, whole, refused, finished, load}
use Rattle.layout_facts.specs.BranchT.{branch_t, layout_t}

-- whoever unfolds this unfolds all that loading and soundness are made of
unfoldable pub computed : ℕ
unfolding when◌then◌else◌ ◌and◌ ◌or◌ implies every all_below any_below iter
    groups_at at_most number_at failed judge field code reference item_turn items point_turn points
    no_line no_route line route inner entrance in_block blocks_differ among all_differ between referring positions points_fit line_fits route_fits
    no_sections section_turn sections a_line no_lines line_turn lines_from lines most_distants_of without_distants distants an_end line_and_end route_head a_route no_routes route_turn routes_from routes
    place_of no_pairs counted pair_count comes_after in_order pair_of ordered a_pair listed pair_turn no_pair pairs_from named pairs
    share has_block is_block has_inner is_inner in_path has_entrance is_entrance once line_ends line_points route_lists route_length route_ends has_point clashes
    none_fitted counts line_in route_in entry_of conflict rule1 rule2 rule3 rule4 rule5 rule6 rule7 first_failed broken
    sections_fit fits pair_mirrors row_mirrors mirrored sound heading counts_of whole refused finished load branch_t
computed = 0

-- T loads with 0
pub branch_t_number : (load branch_t).number ≡ 0
unfolding computed
branch_t_number = refl

-- and detail 0
pub branch_t_detail : (load branch_t).detail ≡ 0
unfolding computed
branch_t_detail = refl

-- T is sound
pub branch_t_sound : sound layout_t ≡ true
unfolding computed
branch_t_sound = refl
