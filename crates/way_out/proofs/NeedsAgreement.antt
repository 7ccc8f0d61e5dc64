-- An exit route is set only where its points and those of its line do not ask one point in two positions: 6 was asked of both lists.
use Prim.Native.Nat.{ℕ, ◌<◌}
use mathlib.Core.Path.{◌≡◌, refl, sym, ap, ◌∙◌}
use mathlib.Core.Logic.{inr}
use mathlib.Core.Bool.{true}
use mathlib.Core.List.{List}
use native.Mathlib.Omega.{arith}
use borrow.Author.Tests.{eqb-true, eq-eqb, leb-false, not-false}
use lib.ListN.{get_or}
use Rattle.laws.specs.Choice.{when◌then◌else◌}
use Rattle.laws.specs.Tests.{◌and◌}
use Rattle.laws.proofs.Searches.{lowest_none}
use Rattle.laws.proofs.Tests.{and_left, and_both, not_both, fails_from, any_none}
use Rattle.track.specs.Sizes.{most_points}
use Rattle.tables.specs.Readings.{point_reading}
use Rattle.layout.specs.declared.Layout.{Layout}
use Rattle.layout.specs.Layout.{line_in, route_in}
use Rattle.layout.specs.Sound.{sound}
use Rattle.layout_facts.specs.Plain.{line_point, line_position, route_point, route_position}
use Rattle.layout_facts.proofs.Sound.{sound_says}
use Rattle.reasons.specs.Refusal.{found}
use Rattle.reasons.specs.Searches.{misplaced}
use Rattle.reasons.specs.Reasons.{not_placed}
use Rattle.refusals.specs.Orders.{exit_refusal, route_refusal, set_refusal}
use Rattle.refusals.proofs.Granted.{granted_at, when_granted, granted_sound, granted_there}
use Rattle.interlocking.specs.declared.State.{State}
use Rattle.interlocking.specs.State.{in_range}
use Rattle.interlocking.specs.Rows.{set_row, row_with, row_of}
use Rattle.interlocking.specs.Step.{row_refusal, refusal}
use Rattle.step_facts.proofs.Step.{not_refused}
use Rattle.way_out.specs.WayToProceed.{SetNeedsAgreement}

-- 6 was not given: each point listed reads its position
placed : (points : List ℕ) (n : ℕ) (ps ws : List ℕ) → (not_placed points n ps ws).number ≡ 0 → (j : ℕ) → j < n → get_or ps j 0 < most_points
    → point_reading points (get_or ps j 0) ≡ get_or ws j 0
unfolding not_placed found misplaced
placed points n ps ws e j b c =
    eqb-true _ _ (not-false _ (fails_from _ (λ t.
    not_both (and_both _ _ (eq-eqb (get_or ps j 0) _ refl) t) (any_none _ _ (lowest_none most_points _ (when_granted _ 6 _ (omega arith) e) (get_or ps j 0) c) j b))))

module _ (L : Layout) (s : State) (r : ℕ) (exit : (route_in L r).kind ≡ 2) (pass : (refusal (sound L and in_range s) L s 4 r 0).number ≡ 0) where
  -- 18, 2: the layout is sound and has the route
  set_there : (sound L ≡ true) × (r < L.routes)
  unfolding refusal row_refusal row_of row_with set_row when◌then◌else◌
  set_there = (and_left _ _ (granted_sound _ _ _ _ _ (granted_at _ pass 0)), leb-false _ _ (granted_there _ _ _ _ _ (granted_at _ pass 0)))

  -- 6: the points of the route and those of its line read their positions
  set_placed : ((not_placed s.point (route_in L r).points (route_in L r).point (route_in L r).position).number ≡ 0)
      × ((not_placed s.point (line_in L (route_in L r).line).points (line_in L (route_in L r).line).point (line_in L (route_in L r).line).position).number ≡ 0)
  unfolding refusal row_refusal row_of row_with set_row when◌then◌else◌ set_refusal route_refusal exit_refusal route_in line_in
  set_placed =
      let lists = granted_at _ (granted_at _ pass 1) 2 in
      (granted_at _ lists 0, granted_at _ (rw (eq-eqb _ _ exit) at (granted_at _ lists 2)) 1)

  -- so one point of both is asked in the position that it reads
  agreed : (j k : ℕ) → j < (route_in L r).points → k < (line_in L (route_in L r).line).points → route_point L r j ≡ line_point L (route_in L r).line k
      → route_position L r j ≡ line_position L (route_in L r).line k
  unfolding route_point route_position line_point line_position
  agreed j k b c q =
      let S = sound_says L set_there.0 in
      let own = S.ranges.routes r set_there.1 in
      let line = S.ranges.lines (route_in L r).line (own.line (inr exit)).0 in
      sym (placed _ _ _ _ set_placed.0 j b (omega (arith, own.points j b, S.ranges.point_count)))
      ∙ ap (point_reading s.point) q
      ∙ placed _ _ _ _ set_placed.1 k c (omega (arith, line.points k c, S.ranges.point_count))

-- a route that is set
pub set_needs_agreement : SetNeedsAgreement
set_needs_agreement L s r exit z = agreed L s r exit (not_refused L s 4 r 0 z)
