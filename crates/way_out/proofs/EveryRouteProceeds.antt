-- Every route can be set with its signal at proceed: from every state that a run can reach on a layout in use the way to proceed leads there.
use Prim.Native.Nat.{ℕ, zero, suc, ◌+◌, ◌*◌, ◌<◌, ◌≤◌}
use mathlib.Core.Path.{◌≡◌, refl, ◌∙◌}
use mathlib.Core.Bool.{Bool, true, false}
use mathlib.Core.Logic.{inr}
use mathlib.Core.List.{List, []}
use native.Mathlib.Omega.{arith}
use borrow.Author.Tests.{eqb-true}
use lib.Dec.{eqb}
use lib.ListN.{length, length-append}
use Rattle.laws.specs.Choice.{when◌then◌else◌}
use Rattle.laws.specs.Totals.{total, bit, count}
use Rattle.laws.proofs.Choice.{if_both}
use Rattle.laws.specs.Tables.{join}
use Rattle.laws.proofs.Tables.{length_table}
use Rattle.track.specs.Codes.{leaving}
use Rattle.layout.specs.declared.Layout.{Layout}
use Rattle.layout.specs.Layout.{is_fitted, line_in, route_in}
use Rattle.layout.specs.Sound.{sound}
use Rattle.layout.specs.Load.{load}
use Rattle.layout_facts.specs.Plain.{own_section, line_point, line_position, path, overlap, route_point, route_position, LineRanges, RouteRanges, Sound}
use Rattle.layout_facts.proofs.Sound.{sound_says}
use Rattle.layout_facts.proofs.Loaded.{loaded_sound}
use Rattle.fitted.proofs.InUse.{in_use_sound}
use Rattle.step_facts.specs.Run.{Event, from_cold}
use Rattle.interlocking.specs.declared.State.{State}
use Rattle.panel.specs.Panel.{route_byte}
use Rattle.way_out.specs.WayToProceed.{unbars, reads_free, counts_after, all_reads_free, throws, reads_placed, placing, counts_after_path, counts_after_overlap, counts_after_points, clearing, readying, line_for, way_to_proceed, PointsAgree, fitted_for_line, fitted_asked, WayToProceed, EveryRouteProceeds}
use Rattle.way_out.specs.Freeing.{CountsOf, fitted_among, fitted_blocks}
use Rattle.panel.proofs.Image.{shows_main, shows_route}
use Rattle.way_out.proofs.Goes.{Whole, run_whole, after_that}
use Rattle.way_out.proofs.NoDeadEnd.{freeing_length, way_short, goes_to_rest, among_few, blocks_few, none_among, none_in_blocks, loaded_unfitted}
use Rattle.way_out.proofs.WayToProceed.{comes_to_proceed}

-- a section that is freed has one event, and six more where it has heads; a block has none
one_short : (L : Layout) (cs : CountsOf) (g : ℕ) → length (reads_free L cs g) ≤ 1 + 6 * bit (is_fitted L g)
unfolding reads_free
one_short L cs g = if_both (λ (es : List Event). length es ≤ 1 + 6 * bit (is_fitted L g)) _ (λ t. omega arith) (λ f. omega (arith, freeing_length L cs g))

-- so for n sections
free_short : (L : Layout) (cs : CountsOf) (n : ℕ) (g : ℕ → ℕ) → length (all_reads_free L cs n g) ≤ n + 6 * fitted_among L n g
unfolding all_reads_free join fitted_among count total
free_short L cs zero g = omega arith
free_short L cs (suc n) g = let h = free_short L cs n g in let one = one_short L (counts_after cs n g) (g n) in simp length-append (omega arith)

-- n points: a section for each, a throw and a reading of each
place_short : (L : Layout) (cs : CountsOf) (n : ℕ) (p w : ℕ → ℕ) → length (placing L cs n p w) ≤ 3 * n + 6 * fitted_among L n (λ j. own_section L (p j))
unfolding placing throws reads_placed
place_short L cs n p w = let h = free_short L cs n (λ j. own_section L (p j)) in simp (length-append, length_table) (omega arith)

module _ (L : Layout) (ok : sound L ≡ true) (r : ℕ) (b : r < L.routes) where
  -- what an exit route asks of its line: at most eight unbars, eight points, and the lamp's report (L3)
  line_short : (cs : CountsOf) → length (line_for L cs r) ≤ 33 + 6 * fitted_for_line L r
  unfolding line_for fitted_for_line readying unbars when◌then◌else◌
  line_short cs = go (eqb (route_in L r).kind 2) refl
    where
      l : ℕ
      l = (route_in L r).line

      go : (t : Bool) → eqb (route_in L r).kind 2 ≡ t
          → length (when t then readying L cs l (leaving (route_in L r).end) else []) ≤ 33 + 6 * (when t then fitted_among L (line_in L l).points (λ j. own_section L (line_point L l j)) else 0)
      go true e =
          let S : Sound L = sound_says L ok in
          let line : LineRanges L l = S.ranges.lines _ ((S.ranges.routes r b).line (inr (eqb-true _ 2 e))).0 in
          let points = place_short L cs (line_in L l).points (line_point L l) (line_position L l) in
          simp (length-append, length_table) (omega (arith, line.block_count, line.point_count))
      go false e = omega arith

  -- how long it is: the way out; at most twelve sections of path and overlap, and eight points; the line; set
  proceed_short : (cs : CountsOf) (s : State) → length (way_to_proceed L cs s r) ≤ L.routes + 9 * L.lines + 160 + 6 * (fitted_blocks L L.lines + fitted_asked L r)
  unfolding way_to_proceed clearing fitted_asked
  proceed_short cs s =
      let S : Sound L = sound_says L ok in
      let own : RouteRanges L r = S.ranges.routes r b in
      let out = way_short L S cs s in
      let paths = free_short L cs (route_in L r).paths (path L r) in
      let overlaps = free_short L (counts_after_path L cs r) (route_in L r).overlaps (overlap L r) in
      let points = place_short L (counts_after_overlap L cs r) (route_in L r).points (route_point L r) (route_position L r) in
      simp length-append (omega (arith, own.path_count, own.overlap_count, own.point_count, line_short (counts_after_points L cs r)))

  -- a route at proceed is shown locked
  locked_byte : (p : ℕ) → p ≡ 1 → route_byte p ≡ 1
  unfolding route_byte when◌then◌else◌
  locked_byte p q = rw q

  -- from any state of a run
  leads_to_proceed : ((route_in L r).kind ≡ 2 → PointsAgree L r) → (cs : CountsOf) (s : State) → Whole s → WayToProceed L cs s r
  unfolding way_to_proceed
  leads_to_proceed agree cs s whole =
      let G = after_that (goes_to_rest L ok cs s whole) (λ t w rest. comes_to_proceed L ok (sound_says L ok) cs r b agree t w rest) in
      record { granted = G.granted; short = proceed_short cs s; locks = shows_route L _ r b ∙ locked_byte _ G.ends.0; shows = shows_main L _ _ ((sound_says L ok).ranges.routes r b).entry ∙ G.ends.1 }

-- so from every state that a run reaches on a sound layout, sections with heads or without
pub sound_proceeds : (L : Layout) → sound L ≡ true → (cs : CountsOf) (es : List Event) (r : ℕ) → r < L.routes → ((route_in L r).kind ≡ 2 → PointsAgree L r) → WayToProceed L cs (from_cold L es) r
sound_proceeds L ok cs es r b agree = leads_to_proceed L ok r b agree cs (from_cold L es) (run_whole L es)

-- so on a layout in use
pub every_route_proceeds : EveryRouteProceeds
every_route_proceeds L u cs es r b agree = sound_proceeds L (in_use_sound u) cs es r b agree

-- ---- how long it is at most, and where no section has heads

module _ (L : Layout) (ok : sound L ≡ true) (r : ℕ) (b : r < L.routes) where
  -- of the sections that a route asks for at most 28 have heads: eight of its path, four of its overlap, eight for its points, eight for those of its line
  asked_few : fitted_asked L r ≤ 28
  unfolding fitted_asked fitted_for_line
  asked_few =
      let own : RouteRanges L r = (sound_says L ok).ranges.routes r b in
      omega (
        arith,
        own.path_count,
        own.overlap_count,
        own.point_count,
        among_few L (route_in L r).paths (path L r),
        among_few L (route_in L r).overlaps (overlap L r),
        among_few L (route_in L r).points (λ j. own_section L (route_point L r j)),
        for_line,
      )
    where
      for_line : fitted_for_line L r ≤ 8
      for_line =
          if_both (λ n. n ≤ 8) _
          (λ t. let S : Sound L = sound_says L ok in
          let line : LineRanges L (route_in L r).line = S.ranges.lines _ ((S.ranges.routes r b).line (inr (eqb-true _ 2 t))).0 in
          omega (arith, line.point_count, among_few L (line_in L (route_in L r).line).points (λ j. own_section L (line_point L (route_in L r).line j))))
          (λ f. omega arith)

  -- so the way has at most 328 events besides what routes and lines take
  pub proceed_longest : (cs : CountsOf) (s : State) → length (way_to_proceed L cs s r) ≤ L.routes + 57 * L.lines + 328
  proceed_longest cs s = omega (arith, proceed_short L ok r b cs s, asked_few, blocks_few L (sound_says L ok) L.lines (omega arith))

  -- and at most 160 where no section has heads
  pub unfitted_proceed_short : ((g : ℕ) → is_fitted L g ≡ false) → (cs : CountsOf) (s : State) → length (way_to_proceed L cs s r) ≤ L.routes + 9 * L.lines + 160
  unfolding fitted_asked fitted_for_line
  unfitted_proceed_short none cs s = omega (arith, proceed_short L ok r b cs s, none_in_blocks L none L.lines, asked)
    where
      for_line : fitted_for_line L r ≡ 0
      for_line = if_both (λ n. n ≡ 0) _ (λ t. none_among L none _ _) (λ f. refl)

      asked : fitted_asked L r ≡ 0
      asked =
          omega (
            arith,
            none_among L none (route_in L r).paths (path L r),
            none_among L none (route_in L r).overlaps (overlap L r),
            none_among L none (route_in L r).points (λ j. own_section L (route_point L r j)),
            for_line,
          )

-- so on an accepted layout
pub accepted_proceed_short : (bytes : List ℕ) → (load bytes).number ≡ 0 → (cs : CountsOf) (s : State) (r : ℕ) → r < (load bytes).layout.routes
    → length (way_to_proceed (load bytes).layout cs s r) ≤ (load bytes).layout.routes + 9 * (load bytes).layout.lines + 160
accepted_proceed_short bytes ok cs s r b = unfitted_proceed_short _ (loaded_sound bytes ok) r b (loaded_unfitted bytes) cs s
