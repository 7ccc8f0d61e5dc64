-- What the tests say that an accepted event has passed: the reasons to refuse it that there were not.
use Prim.Native.Nat.{ℕ, ◌*◌, ◌/◌, ◌<◌, ◌≤◌}
use mathlib.Core.Path.{◌≡◌, refl, ◌∙◌}
use mathlib.Core.Logic.{◌≢◌, ◌⊎◌, inl, inr}
use mathlib.Core.Bool.{Bool, true, false}
use mathlib.Core.List.{List}
use native.Mathlib.Decide.{ℕ_discrete}
use native.Mathlib.Omega.{arith}
use borrow.Author.Tests.{eqb-true, eqb-false, eq-eqb, ne_eqb, ltb-false, leb-false, not-true, not-false}
use lib.Dec.{ltb, leb}
use lib.ListN.{get_or}
use Rattle.laws.specs.Choice.{when◌then◌else◌}
use Rattle.laws.specs.Tests.{◌and◌, lowest}
use Rattle.laws.proofs.Choice.{if_both}
use Rattle.laws.proofs.Searches.{lowest_none}
use Rattle.laws.proofs.Tests.{and_left, and_right, and_both, not_both, fails_from, any_at, or_right}
use Rattle.laws.proofs.Arrays.{read_at}
use Rattle.track.specs.Sizes.{most_sections, most_points}
use Rattle.track.specs.Codes.{leaving}
use Rattle.track.specs.Lists.{among}
use Rattle.track.specs.Blocks.{line_sections}
use Rattle.sets.specs.Sets as sets
use Rattle.sets.proofs.Sets.{holds_joined, holds_set_of}
use Rattle.tables.specs.Readings.{reading}
use Rattle.axles.specs.Heads.{speaking}
use Rattle.layout.specs.declared.Layout.{Layout}
use Rattle.layout.specs.Layout.{is_fitted, line_in, route_in, conflict}
use Rattle.layout.specs.Sound.{sound}
use Rattle.tables.specs.Blocks.{is_open}
use Rattle.layout_facts.specs.Plain.{own_section, route_point, line_point, nearest_block, Sound}
use Rattle.reasons.specs.Refusal.{Refusal, refused, found}
use Rattle.reasons.specs.Searches.{unfree, route_locks, line_locks}
use Rattle.tables.specs.Locks.{locked, locked_exit_by, locked_exit, departs}
use Rattle.reasons.specs.Reasons.{not_free, conflicting, by_route, by_line, exit_locked, no_heads, has_heads}
use Rattle.refusals.specs.Orders.{throw_refusal, way_refusal, exit_refusal, route_refusal, set_refusal, cancel_refusal, secure_refusal, manual_refusal}
use Rattle.refusals.proofs.Granted.{granted_at, when_granted, granted_sound, granted_there, granted_fit, granted_second}
use Rattle.interlocking.specs.declared.State.{State}
use Rattle.interlocking.specs.State.{in_range, heads_at, tables_of}
use Rattle.interlocking.specs.Own.{head_section, heads_of}
use Rattle.interlocking.specs.Rows.{section_row, throw_row, set_row, cancel_row, secure_row, manual_row, bar_row, second_row, head_row, count_row, silent_row, reset_row, still_silent, row_with, row_of}
use Rattle.interlocking.specs.Step.{row_refusal, refusal}
use Rattle.interlocking.proofs.Rows.{head_named, reset_named}
use Rattle.step_facts.specs.Run.{Event}
use Rattle.step_facts.proofs.Range.{in_range_means, read_within}
use Rattle.step_facts.proofs.Entries.{phase, direction, stage, block}

-- ---- reasons that there were not

-- a search that found nothing: the test fails at each number searched
found_granted : (number n : ℕ) (p : ℕ → Bool) → 0 < number → (found number n p).number ≡ 0 → (k : ℕ) → k < n → p k ≡ false
unfolding found
found_granted number n p d e = lowest_none n p (when_granted _ number _ d e)

-- where two tests do not both hold and the first does, the second fails
not_second : (a b : Bool) → a ≡ true → a and b ≡ false → b ≡ false
unfolding ◌and◌
not_second a b p e = rw p at e

-- of the sections asked for each reads free
pub all_free : (sections : List ℕ) (set : ℕ) → (not_free sections set).number ≡ 0 → (g : ℕ) → g < most_sections → sets.holds set g ≡ true → reading sections g ≡ 1
unfolding not_free refused unfree
all_free sections set e g b h = eqb-true _ _ (not-false _ (not_second _ _ h (lowest_none most_sections (unfree sections set) (past e) g b)))
  where
    seven_eight : (t : Bool) → ◌≢◌ {A = ℕ} (when t then 7 else 8) 0
    seven_eight t = if_both (λ n. n ≢ 0) t (λ p. omega arith) (λ p. omega arith)

    past : (not_free sections set).number ≡ 0 → ltb (lowest most_sections (unfree sections set)) most_sections ≡ false
    past =
        if_both (λ (r : Refusal). r.number ≡ 0 → ltb (lowest most_sections (unfree sections set)) most_sections ≡ false) _ (λ t z. absurd (seven_eight _ z)) (λ f z. f)

-- ---- what an accepted event has passed

module _ (L : Layout) (s : State) (e : Event) (pass : (refusal (sound L and in_range s) L s e.kind e.first e.second).number ≡ 0) where
  -- 18: the state's codes are in range
  in_range_law : in_range s ≡ true
  unfolding refusal row_refusal
  in_range_law = and_right _ _ (granted_sound _ _ _ _ _ (granted_at _ pass 0))

  -- a line is neutral or secured one of the two ways
  pub two_ways : (l : ℕ) → direction s l ≤ 2
  two_ways l = (read_within ((in_range_means s).0 in_range_law).direction 0 l (omega arith)).1

  -- none of the reasons of its row
  order_granted : (k : ℕ) → e.kind ≡ k → (row_of L s k e.first e.second).besides.number ≡ 0
  unfolding refusal row_refusal
  order_granted k q = rw q at (granted_at _ pass 1)

  -- 2: the route that is set is there
  pub set_there : e.kind ≡ 4 → e.first < L.routes
  unfolding refusal row_refusal row_of row_with set_row when◌then◌else◌
  set_there k = let n = rw k at (granted_at _ pass 0) in leb-false _ _ (granted_there _ _ _ _ _ n)

  -- 5: no route that conflicts with the one set is locked
  pub set_alone : e.kind ≡ 4 → (q : ℕ) → q < L.routes → conflict L e.first q ≡ true → phase s q ≡ 0
  unfolding row_of row_with set_row when◌then◌else◌ set_refusal conflicting locked
  set_alone k q b c =
      let five = granted_at _ (order_granted 4 k) 1 in
      eqb-true _ _ (not-false _ (fails_from _ (λ t. not_both (and_both _ _ t c) (found_granted 5 _ _ (omega arith) five q b))))

  -- nothing is refused of it as an exit route: its line's way, 6, 11, 10
  set_exit : e.kind ≡ 4 → (route_in L e.first).kind ≡ 2 → (exit_refusal L (tables_of s) (route_in L e.first)).number ≡ 0
  unfolding row_of row_with set_row when◌then◌else◌ set_refusal route_refusal route_in
  set_exit k x = rw (eq-eqb _ _ x) at (granted_at _ (granted_at _ (order_granted 4 k) 2) 2)

  -- 9: an exit route's line is secured its way, unless it is neutral
  pub set_way : e.kind ≡ 4 → (route_in L e.first).kind ≡ 2 → direction s (route_in L e.first).line ≢ 0
      → direction s (route_in L e.first).line ≡ leaving (route_in L e.first).end
  unfolding exit_refusal way_refusal departs when◌then◌else◌ ◌and◌
  set_way k x d =
      let way = granted_at _ (set_exit k x) 0 in
      eqb-true _ _ (not-false _ (when_granted _ 9 _ (omega arith) (rw (eq-eqb _ 2 x, ne_eqb _ 0 d) at way)))

  -- L5: a neutral line may be secured its way
  pub set_first : e.kind ≡ 4 → (route_in L e.first).kind ≡ 2 → direction s (route_in L e.first).line ≡ 0
      → (secure_refusal L (tables_of s) (route_in L e.first).line (leaving (route_in L e.first).end)).number ≡ 0
  unfolding exit_refusal way_refusal departs when◌then◌else◌ ◌and◌
  set_first k x z = rw (eq-eqb _ 2 x, eq-eqb _ 0 z) at (granted_at _ (set_exit k x) 0)

  -- 10: the block that it enters is open
  pub set_open : e.kind ≡ 4 → (route_in L e.first).kind ≡ 2
      → stage s (route_in L e.first).line (nearest_block L (route_in L e.first).line (route_in L e.first).end) ≡ 0
  unfolding exit_refusal route_in line_in nearest_block is_open
  set_open k x = eqb-true _ _ (not-false _ (when_granted _ 10 _ (omega arith) (granted_at _ (set_exit k x) 3)))

  -- 13: the route that is cancelled is locked
  pub cancel_locked : e.kind ≡ 5 → phase s e.first ≢ 0
  unfolding row_of row_with cancel_row when◌then◌else◌ cancel_refusal locked
  cancel_locked k = eqb-false _ _ (not-true _ (not-false _ (when_granted _ 13 _ (omega arith) (granted_at _ (order_granted 5 k) 0))))

  -- 12: the line that is secured is neutral
  pub secure_neutral : e.kind ≡ 6 → direction s e.first ≡ 0
  unfolding row_of row_with secure_row when◌then◌else◌ secure_refusal
  secure_neutral k = eqb-true _ _ (not-false _ (when_granted _ 12 _ (omega arith) (granted_at _ (order_granted 6 k) 0)))

  -- 17: no exit route of the line that is released is locked
  pub release_unlocked : e.kind ≡ 7 → (r : ℕ) → r < L.routes → (route_in L r).kind ≡ 2 → (route_in L r).line ≡ e.first → phase s r ≡ 0
  unfolding row_of row_with manual_row when◌then◌else◌ manual_refusal exit_locked locked_exit locked_exit_by locked route_in
  release_unlocked k r b x l =
      let t = found_granted 17 _ _ (omega arith) (granted_at _ (order_granted 7 k) 0) r b in
      eqb-true _ _ (not-false _ (fails_from _ (λ p. not_both (and_both _ _ p (and_both _ _ (eq-eqb _ _ x) (eq-eqb _ _ l))) t)))

  -- 3: both numbers of a second are 0
  pub second_numbers : e.kind ≡ 10 → (e.first ≡ 0) × (e.second ≡ 0)
  unfolding refusal row_refusal row_of row_with second_row when◌then◌else◌
  second_numbers k =
      let wrong = granted_second _ _ _ _ _ (granted_at _ (rw k at pass) 0) in
      let both = not-false _ wrong in
      (eqb-true _ 0 (and_left _ _ both), eqb-true _ 0 (and_right _ _ both))

  -- 7, 8: its blocks read free
  pub release_free : e.kind ≡ 7 → (i : ℕ) → i < (line_in L e.first).blocks → block L e.first i < most_sections → reading s.section (block L e.first i) ≡ 1
  unfolding row_of row_with manual_row when◌then◌else◌ manual_refusal line_sections line_in
  release_free k i b c =
      all_free s.section _ (granted_at _ (order_granted 7 k) 1) _ c
      (holds_set_of _ _ _ c ∙ any_at _ _ i b (eq-eqb (block L e.first i) _ refl))

  -- 2, 34: the section that is given a reading of kind 1 is there, and has no heads
  pub reading_there : e.kind ≡ 1 → (e.first < L.sections) × (is_fitted L e.first ≡ false)
  unfolding refusal row_refusal row_of row_with section_row when◌then◌else◌ has_heads
  reading_there k =
      let n = rw k at (granted_at _ pass 0) in
      (leb-false _ _ (granted_there _ _ _ _ _ n), when_granted _ 34 _ (omega arith) (granted_fit _ _ _ _ _ n))

  -- 30: a section of which it is not given has heads
  is_fitted_law : (g : ℕ) → (no_heads L g).number ≡ 0 → is_fitted L g ≡ true
  unfolding no_heads
  is_fitted_law g n = not-false _ (when_granted _ 30 g (omega arith) n)

  -- 2, 30: the section of an event of heads is there, and has heads
  pub heads_there : (11 ≤ e.kind) × (e.kind ≤ 14)
      → (head_section e.kind e.first < L.sections) × (is_fitted L (head_section e.kind e.first) ≡ true)
  unfolding refusal row_refusal row_of row_with head_row count_row silent_row reset_row still_silent when◌then◌else◌
  heads_there h = go (ℕ_discrete e.kind 11) (ℕ_discrete e.kind 12) (ℕ_discrete e.kind 13)
    where
      Fits : Type 0
      Fits = (head_section e.kind e.first < L.sections) × (is_fitted L (head_section e.kind e.first) ≡ true)

      by_head : leb (2 * L.sections) e.first ≡ false → (no_heads L (e.first / 2)).number ≡ 0 → e.kind ≢ 14 → Fits
      by_head n m d = let b : e.first < 2 * L.sections = leb-false _ _ n in rw (head_named _ _ d) (omega arith, is_fitted_law _ m)

      go : Dec (e.kind ≡ 11) → Dec (e.kind ≡ 12) → Dec (e.kind ≡ 13) → Fits
      go (yes k) y z = let n = rw k at (granted_at _ pass 0) in by_head (granted_there _ _ _ _ _ n) (granted_fit _ _ _ _ _ n) (omega arith)
      go (no x) (yes k) z = let n = rw k at (granted_at _ pass 0) in by_head (granted_there _ _ _ _ _ n) (granted_fit _ _ _ _ _ n) (omega arith)
      go (no x) (no y) (yes k) = let n = rw k at (granted_at _ pass 0) in by_head (granted_there _ _ _ _ _ n) (granted_fit _ _ _ _ _ n) (omega arith)
      go (no x) (no y) (no z) =
          let k : e.kind ≡ 14 = omega arith in
          let n = rw k at (granted_at _ pass 0) in
          rw (reset_named _ _ k) (leb-false _ _ (granted_there _ _ _ _ _ n), is_fitted_law _ (granted_fit _ _ _ _ _ n))

  -- 3: a count has 16 bits
  pub count_few : (e.kind ≡ 11) ⊎ (e.kind ≡ 12) → e.second ≤ 65535
  unfolding refusal row_refusal row_of row_with head_row count_row when◌then◌else◌
  count_few (inl k) = ltb-false _ _ (granted_second _ _ _ _ _ (rw k at (granted_at _ pass 0)))
  count_few (inr k) = ltb-false _ _ (granted_second _ _ _ _ _ (rw k at (granted_at _ pass 0)))

  -- 3: the second number of a silence and of a reset is 0
  pub no_count : (e.kind ≡ 13) ⊎ (e.kind ≡ 14) → e.second ≡ 0
  unfolding refusal row_refusal row_of row_with head_row silent_row reset_row still_silent when◌then◌else◌
  no_count (inl k) = eqb-true _ 0 (not-false _ (granted_second _ _ _ _ _ (rw k at (granted_at _ pass 0))))
  no_count (inr k) = eqb-true _ 0 (not-false _ (granted_second _ _ _ _ _ (rw k at (granted_at _ pass 0))))

  -- 35: both heads of a section speak as it is reset
  pub reset_speaking : e.kind ≡ 14 → speaking (heads_at s.axles e.first) ≡ true
  unfolding row_of row_with head_row reset_row still_silent heads_of head_section when◌then◌else◌
  reset_speaking k = not-false _ (when_granted _ 35 _ (omega arith) (order_granted 14 k))

  -- 2, 3: the block that is barred or unbarred is there
  pub bar_there : (e.kind ≡ 8) ⊎ (e.kind ≡ 9) → (e.first < L.lines) × (e.second < (line_in L e.first).blocks)
  unfolding refusal row_refusal row_of row_with bar_row when◌then◌else◌
  bar_there (inl k) = let n = rw k at (granted_at _ pass 0) in (leb-false _ _ (granted_there _ _ _ _ _ n), leb-false _ _ (granted_second _ _ _ _ _ n))
  bar_there (inr k) = let n = rw k at (granted_at _ pass 0) in (leb-false _ _ (granted_there _ _ _ _ _ n), leb-false _ _ (granted_second _ _ _ _ _ n))

  -- 2: the point that is thrown is there
  throw_there : e.kind ≡ 3 → e.first < L.points
  unfolding refusal row_refusal row_of row_with throw_row when◌then◌else◌
  throw_there k = let n = rw k at (granted_at _ pass 0) in leb-false _ _ (granted_there _ _ _ _ _ n)

  -- 15: no locked route lists it
  pub throw_routes : e.kind ≡ 3 → (r i : ℕ) → r < L.routes → i < (route_in L r).points → route_point L r i ≡ e.first → phase s r ≡ 0
  unfolding row_of row_with throw_row when◌then◌else◌ throw_refusal by_route route_locks among locked route_in route_point
  throw_routes k r i b c q =
      let t = found_granted 15 _ _ (omega arith) (granted_at _ (order_granted 3 k) 0) r b in
      eqb-true _ _ (not-false _ (fails_from _ (λ p. not_both (and_both _ _ p (any_at _ _ i c (eq-eqb _ _ q))) t)))

  -- 16: no secured line does
  pub throw_lines : e.kind ≡ 3 → (l i : ℕ) → l < L.lines → i < (line_in L l).points → line_point L l i ≡ e.first → direction s l ≡ 0
  unfolding row_of row_with throw_row when◌then◌else◌ throw_refusal by_line line_locks among line_in line_point
  throw_lines k l i b c q =
      let t = found_granted 16 _ _ (omega arith) (granted_at _ (order_granted 3 k) 1) l b in
      eqb-true _ _ (not-false _ (fails_from _ (λ p. not_both (and_both _ _ p (any_at _ _ i c (eq-eqb _ _ q))) t)))

  -- 7, 8: its own section reads free
  pub throw_free : Sound L → e.kind ≡ 3 → (own_section L e.first < L.sections) × (reading s.section (own_section L e.first) ≡ 1)
  unfolding row_of row_with throw_row when◌then◌else◌ throw_refusal own_section
  throw_free S k =
      let there = throw_there k in
      let own = S.ranges.points e.first there in
      let below : get_or L.pointsection e.first 0 < most_sections = omega (arith, own, S.ranges.section_count) in (
        own,
        all_free s.section _ (granted_at _ (order_granted 3 k) 2) _ below
            (holds_joined 0 _ _ below ∙ or_right _ _ (eq-eqb _ _ (read_at most_points 0 L.pointsection e.first (omega (arith, S.ranges.point_count))))),
      )
