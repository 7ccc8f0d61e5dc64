-- Nothing is left to follow in a state that a run can reach: to secure a line changes the direction of that line, and nothing follows from it. No signal falls,
-- since each at proceed has all that keeps it there; no far section moves a block, since none reads none under a passage and no signal drops; no route goes,
-- since it would have gone; no block that waits opens, and no line is released.
use Prim.Native.Nat.{ℕ, ◌*◌, ◌/◌, ◌%◌, ◌<◌, ◌≤◌}
use mathlib.Core.Path.{◌≡◌, refl, sym, ap, ap₂, subst, ◌∙◌}
use mathlib.Core.Logic.{◌≢◌, ⊎_elim}
use mathlib.Core.Bool.{true, false}
use mathlib.Core.List.{List}
use native.Mathlib.Decide.{ℕ_discrete, dec_lt}
use native.Mathlib.Omega.{arith}
use borrow.Author.Tests.{eqb-true, eqb-false, eq-eqb, ne_eqb}
use lib.Dec.{eqb}
use lib.ListN.{get_or}
use Rattle.laws.specs.Choice.{when◌then◌else◌}
use Rattle.laws.specs.Tests.{◌and◌}
use Rattle.laws.specs.Tables.{read}
use Rattle.laws.proofs.Arrays.{read_at}
use Rattle.laws.proofs.Choice.{if_both, chosen, passed_over}
use Rattle.laws.proofs.Each.{each_same, each_kept}
use Rattle.laws.proofs.Tests.{and_left, and_right, or_cases, not_both, fails_from, second_fails, every_at, all_at, any_fails}
use Rattle.track.specs.Sizes.{most_lines, most_blocks, most_places, most_train_routes, most_routes}
use Rattle.tables.specs.declared.Gives.{Gives}
use Rattle.tables.specs.Blocks.{place, stage_of, is_open}
use Rattle.tables.specs.Locks as locks
use Rattle.signals.specs.Signals.{fallen, block_proceeds}
use Rattle.passage.specs.Passage.{beyond, signal_at}
use Rattle.passage.specs.Passage as passage
use Rattle.passage.specs.declared.Beyond.{Beyond}
use Rattle.passage.specs.declared.Beyond.TheVariants.{Block, Station}
use Rattle.release.specs.declared.Locking.{Locking}
use Rattle.release.specs.declared.WatchedPair.{WatchedPair}
use Rattle.release.specs.Release.{watched_pair, steps_after, vacated, seconds_after, locking_after}
use Rattle.release.specs.Release as release
use Rattle.line_block.specs.FarSections.{far_moved, far_stage_at, far_stages}
use Rattle.line_block.specs.PassingBack.{no_opening, released_entrance_by, arrives, waited_stage, waited_stage_at, passed_back}
use Rattle.line_block.specs.LineRelease.{last_block, passable, was_passed, ends_by, direction_after, directions_after}
use Rattle.line_block.proofs.PassingBackLaws.{opens_none}
use Rattle.layout.specs.declared.Layout.{Layout}
use Rattle.layout.specs.Layout.{line_in, route_in}
use Rattle.layout.specs.Sound.{sound}
use Rattle.layout_facts.specs.Plain.{nearest_block, Sound}
use Rattle.layout_facts.proofs.Uses.{nearest_there}
use Rattle.interlocking.specs.declared.State.{State}
use Rattle.interlocking.specs.State.{in_range, with_routes, with_lines}
use Rattle.interlocking.specs.Own.{own_secure}
use Rattle.interlocking.specs.Settle.{fallen_at, signals, proceeds_in, far_sections, locking_of, route_after, unless_idle, routes_by, routes, arrivals, line_release, settle}
use Rattle.interlocking.specs.Rows.{nothing, secure_row, row_with, row_of}
use Rattle.interlocking.specs.Step.{refusal, own, gives}
use Rattle.step_facts.specs.Run.{Event, event}
use Rattle.step_facts.proofs.Entries.{phase, direction, stage, steps_of, put_elsewhere}
use Rattle.safety.specs.History.{History, gave_section}
use Rattle.safety.specs.Locked.{gave_first, gave_second, gave_end}
use Rattle.safety.proofs.Given.{granted, order_gives_nothing}
use Rattle.safety.proofs.Told.{reads_kept}
use Rattle.safety.proofs.Steps.{Steps, pair_quiet, pair_told, one_reads}
use Rattle.safety.proofs.Invariant.{Inv}
use Rattle.safety.proofs.Beyond.{far_there}
use Rattle.safety.proofs.Waits.{passage_far}
use Rattle.safety.proofs.LetGo.{pair_told_law, vacated_told}
use Rattle.safety.proofs.SetOrders.{secure_means}
use Rattle.safety.proofs.Trim.{Trim, stored}
use Rattle.safety.proofs.Unmoved.{steps_stay, never_both, idle_unmoved, still_unmoved, before_unasked}

-- a place is that of a block of a line
place_is : (k : ℕ) → place (k / most_blocks) (k % most_blocks) ≡ k
unfolding place
place_is k = omega arith

-- a place of the table of stages, where every block of line l is open: there is no block in stage 1 or 2, or it is one of another line
data PlaceCase (L : Layout) (s : State) (l k : ℕ) : Type 0 where
  idle : get_or s.stage k 0 ≢ 2 → get_or s.stage k 0 ≢ 3 → PlaceCase L s l k
  other : k / most_blocks ≢ l → k / most_blocks < L.lines → k % most_blocks < (line_in L (k / most_blocks)).blocks
      → stage s (k / most_blocks) (k % most_blocks) ≡ get_or s.stage k 0 → PlaceCase L s l k

module _ (L : Layout) (ok : sound L ≡ true) (S : Sound L) (s : State) (h : History) (I : Inv L s h) (T : Trim L s) (l w : ℕ) (b : l < L.lines)
    (pass : (refusal (sound L and in_range s) L s 6 l w).number ≡ 0) where
  -- the order
  abbrev e : Event
  e = event 6 l w

  -- the line secured
  abbrev t : State
  t = own_secure s l w

  -- 10: every block of it is open
  all_open : (i : ℕ) → i < (line_in L l).blocks → stage s l i ≡ 0
  unfolding refusal row_of row_with when◌then◌else◌
  all_open i c = (I.blocks l i b c).opens.1 (((secure_means L ok S s h I l w).0 pass).all_open i c)

  -- any other line keeps its direction
  other_way : (k : ℕ) → k < L.lines → k ≢ l → locks.direction t.direction k ≡ direction s k
  unfolding own_secure with_lines
  other_way k c d = put_elsewhere most_lines 0 s.direction l w k (omega (arith, S.ranges.line_count)) d

  -- ---- signals

  -- no signal falls
  signals_still : signals L t ≡ t
  unfolding signals fallen_at fallen route_in own_secure with_routes with_lines
  signals_still = ap (λ xs. with_routes t xs s.steps s.seconds) (sym (each_kept L.routes _ s.phase (omega (arith, T.phases, S.ranges.route_count)) stands))
    where
      stands : (r : ℕ) → r < L.routes → get_or s.phase r 0 ≡ fallen_at L.line L.route t r (get_or s.phase r 0)
      stands r c = go (ℕ_discrete (get_or s.phase r 0) 1)
        where
          go : Dec (get_or s.phase r 0 ≡ 1) → get_or s.phase r 0 ≡ fallen_at L.line L.route t r (get_or s.phase r 0)
          go (yes q) = q ∙ sym (chosen _ _ _ (eq-eqb _ 1 q) ∙ chosen _ _ _ (I.lights r c (read_at most_routes 0 s.phase r (omega (arith, S.ranges.route_count)) ∙ q)))
          go (no d) = sym (passed_over _ _ _ (ne_eqb _ 1 d))

  -- ---- far sections

  -- it is so here
  place_case : (k : ℕ) → k < most_blocks * L.lines → PlaceCase L s l k
  place_case k c = go (dec_lt (k % most_blocks) (line_in L (k / most_blocks)).blocks) (ℕ_discrete (k / most_blocks) l)
    where
      there : k / most_blocks < L.lines
      there = omega arith

      at : stage s (k / most_blocks) (k % most_blocks) ≡ get_or s.stage k 0
      at = ap (λ n. read most_places 1 s.stage n) (place_is k) ∙ read_at most_places 1 s.stage k (omega (arith, S.ranges.line_count))

      go : Dec (k % most_blocks < (line_in L (k / most_blocks)).blocks) → Dec (k / most_blocks ≡ l) → PlaceCase L s l k
      go (no n) y = let z = T.spare (k / most_blocks) (k % most_blocks) there (omega arith) (omega arith) in idle (omega (arith, at)) (omega (arith, at))
      go (yes i) (yes q) =
          let z : stage s (k / most_blocks) (k % most_blocks) ≡ 0 = ap (λ n. stage s n (k % most_blocks)) q ∙ all_open (k % most_blocks) (rw q at i) in
          idle (omega (arith, at)) (omega (arith, at))
      go (yes i) (no d) = other d there i at

  -- what lies beyond a block of another line shows proceed as it did
  beyond_same : (k v : ℕ) → k < L.lines → k ≢ l → (x : Beyond) → proceeds_in L t (signal_at (line_in L k) k v x) ≡ proceeds_in L s (signal_at (line_in L k) k v x)
  unfolding proceeds_in signal_at block_proceeds own_secure with_lines
  beyond_same k v c d (Block j) = rw (other_way k c d) refl
  beyond_same k v c d (Station end) = refl

  -- so does its far signal
  proceeds_same : (k i v : ℕ) → k < L.lines → k ≢ l → proceeds_in L t (passage.far_signal (line_in L k) k i v) ≡ proceeds_in L s (passage.far_signal (line_in L k) k i v)
  unfolding passage.far_signal
  proceeds_same k i v c d = beyond_same k v c d (beyond (line_in L k) i v)

  -- no block moves
  stage_stays : (k : ℕ) → PlaceCase L s l k → get_or s.stage k 0 ≡ far_stage_at L.line t.direction s.section (proceeds_in L s) (proceeds_in L t) k (get_or s.stage k 0)
  unfolding far_stage_at line_in
  stage_stays k (idle x y) = idle_unmoved _ _ _ _ _ _ _ _ x y
  stage_stays k (other d there i at) =
      still_unmoved _ _ _ _ _ _ _ _ (proceeds_same (k / most_blocks) (k % most_blocks) way there d) (λ q z.
      passage_far L (k / most_blocks) (k % most_blocks) way h ((I.blocks (k / most_blocks) (k % most_blocks) there i).passes (at ∙ q)).1
      (sym (I.reads _ (far_there L S (k / most_blocks) (k % most_blocks) way there i)) ∙ z))
      ∙ ap (λ n. far_moved (line_in L (k / most_blocks)) s.section (proceeds_in L s) (proceeds_in L t) (k / most_blocks) (k % most_blocks) n (get_or s.stage k 0))
      (sym (other_way (k / most_blocks) there d))
    where
      way : ℕ
      way = direction s (k / most_blocks)

  -- so the table of stages stays
  far_kept : far_sections L s t ≡ t
  unfolding far_sections far_stages own_secure with_lines
  far_kept =
      ap (λ xs. with_lines t t.direction xs)
      (sym (each_kept (most_blocks * L.lines) _ s.stage (omega (arith, T.stages, S.ranges.line_count)) (λ k c. stage_stays k (place_case k c))))

  -- ---- routes

  module _ (r : ℕ) (c : r < L.routes) (locked : phase s r ≢ 0) where
    -- the order gives nothing
    quiet : (g : ℕ) → gave_section L g (granted L s e) h ≡ 0
    quiet g = order_gives_nothing L g (granted L s e) h (omega arith, omega arith)

    -- the watched pair of a route, as the history tells it
    pair : watched_pair L.line s.section (route_in L r) nothing ≡ pair_told L r (granted L s e) h
    unfolding own gives row_of row_with secure_row own_secure with_lines when◌then◌else◌
    pair = pair_told_law L S s h I e pass r c

    -- its steps stand
    steps_still : steps_after (watched_pair L.line s.section (route_in L r) nothing) (steps_of s r) ≡ steps_of s r
    steps_still =
        ap (λ (x : WatchedPair). steps_after x (steps_of s r)) pair
        ∙ steps_stay _ (steps_of s r) steps.few none.0 none.1 (λ some d.
        let p = one_reads L r h ((steps.one d).0 some) in
        (reads_kept (gave_first L r) (granted L s e) h none.0 ∙ p.0, λ z. p.1 (sym (reads_kept (gave_second L r) (granted L s e) h none.1) ∙ z)))
      where
        steps : Steps L r (steps_of s r) h
        steps = (I.routes r c).steps locked

        none : (gave_first L r (granted L s e) h ≡ 0) × (gave_second L r (granted L s e) h ≡ 0)
        none = pair_quiet L r (granted L s e) h quiet

    -- it is not vacated after the third step, or it would have gone
    stays_taken : steps_of s r ≡ 3 → vacated L.line s.section (route_in L r) ≡ true → ⊥
    unfolding own row_of row_with secure_row own_secure with_lines when◌then◌else◌
    stays_taken q v =
        let gone = (vacated_told L S s h I e pass r c).0 v in
        (I.routes r c).stands locked q (record {
          path = λ j k d. sym (reads_kept (gave_section L _) (granted L s e) h (quiet _)) ∙ gone.path j k d;
          block = λ k. sym (reads_kept (gave_end L r) (granted L s e) h (quiet _)) ∙ gone.block k;
        })

    -- no second is counted
    seconds_still : (p n : ℕ) → seconds_after nothing p n ≡ n
    unfolding seconds_after nothing
    seconds_still p n = passed_over _ _ _ (second_fails _ _ refl)

    -- it does not go
    goes_not : release.goes L.line s.section (route_in L r) nothing (locking_of s r) (steps_after (watched_pair L.line s.section (route_in L r) nothing) (steps_of s r)) ≡ false
    unfolding release.goes nothing locking_of
    goes_not = fails_from _ (λ x. ⊎_elim (λ p. not_both (and_left _ _ (and_right _ _ p)) refl)
        (λ p. stays_taken (sym steps_still ∙ eqb-true _ 3 (and_left _ _ p)) (and_right _ _ p)) (or_cases _ _ x))

    -- so nothing becomes of it
    locking_still : locking_after L.line s.section (route_in L r) nothing (locking_of s r) ≡ locking_of s r
    unfolding locking_after locking_of
    locking_still = passed_over _ _ _ goes_not ∙ ap₂ (λ x y. record { phase = phase s r; steps = x; seconds = y }) steps_still (seconds_still _ _)

  -- no route goes
  routes_still : routes L t nothing ≡ t
  unfolding routes routes_by unless_idle route_after route_in locking_of own_secure with_routes with_lines
  routes_still = all _ _ _
      (each_kept L.routes _ s.phase (omega (arith, T.phases, S.ranges.route_count)) (entry most_routes s.phase (λ x. x.phase) (omega (arith, S.ranges.route_count)) (λ r. refl)))
      (each_kept L.routes _ s.steps (omega (arith, T.steps, S.ranges.route_count)) (entry most_train_routes s.steps (λ x. x.steps) S.ranges.route_count (λ r. refl)))
      (each_kept L.routes _ s.seconds (omega (arith, T.seconds, S.ranges.route_count)) (entry most_train_routes s.seconds (λ x. x.seconds) S.ranges.route_count (λ r. refl)))
    where
      all : (xs ys zs : List ℕ) → s.phase ≡ xs → s.steps ≡ ys → s.seconds ≡ zs → with_routes t xs ys zs ≡ t
      all xs ys zs p q z = rw (← p, ← q, ← z) refl

      entry : (n : ℕ) (xs : List ℕ) (of : Locking → ℕ) → L.routes ≤ n → ((r : ℕ) → of (locking_of s r) ≡ read n 0 xs r) → (r : ℕ) → r < L.routes
          → get_or xs r 0 ≡ (when eqb (phase s r) 0 then get_or xs r 0 else of (locking_after L.line s.section (route_in L r) nothing (locking_of s r)))
      entry n xs of few same r c =
          if_both (λ (m : ℕ). get_or xs r 0 ≡ m) (eqb (phase s r) 0) (λ z. refl)
          (λ f. sym (ap of (locking_still r c (eqb-false _ 0 f)) ∙ same r ∙ read_at n 0 xs r (omega arith)))

  -- ---- blocks that wait, and the line release

  -- no entrance route was released
  none_arrives : (k v : ℕ) → arrives L.routes L.route s.phase s.phase k v ≡ false
  unfolding arrives released_entrance_by
  none_arrives k v = any_fails _ _ (λ r c x. not_both (and_left _ _ x) (never_both _))

  -- so no block opens
  arrivals_still : arrivals L s t ≡ t
  unfolding arrivals passed_back waited_stage_at waited_stage no_opening own_secure with_lines
  arrivals_still = ap (λ xs. with_lines t t.direction xs) (sym (each_kept (most_blocks * L.lines) _ s.stage (omega (arith, T.stages, S.ranges.line_count)) (λ k c.
      sym (passed_over _ _ _ (second_fails _ _ (second_fails _ _ (opens_none _ s.stage no_opening _ _ _ _ (λ i. refl) (none_arrives _ _))))))))

  -- no line is released: its last block in travel would have been in stage 2 or 3, and be open
  not_ended : (k v : ℕ) → k < L.lines → ends_by (line_in L k) L.routes L.route s.stage s.stage s.bar s.phase k v ≡ true → ⊥
  unfolding ends_by was_passed passable stage_of is_open last_block nearest_block
  not_ended k v c x =
      let now : stage s k (nearest_block L k (passage.arrival v)) ≡ 0 = eqb-true _ 0 (and_left _ _ (all_at _ _ (every_at _ x 1) _ (nearest_there L S k (passage.arrival v) c))) in
      ⊎_elim (λ p. let q : stage s k (nearest_block L k (passage.arrival v)) ≡ 3 = eqb-true _ 3 p in omega arith)
      (λ p. let q : stage s k (nearest_block L k (passage.arrival v)) ≡ 4 = eqb-true _ 4 p in omega arith) (or_cases _ _ (every_at _ x 0))

  -- so the table of directions stays
  release_still : line_release L s t ≡ t
  unfolding line_release directions_after direction_after line_in own_secure with_lines
  release_still =
      ap (λ xs. with_lines t xs s.stage)
      (sym (each_kept L.lines _ t.direction (omega (arith, stored most_lines s.direction l w T.directions, S.ranges.line_count)) (λ k c.
      if_both (λ (n : ℕ). get_or t.direction k 0 ≡ n) _ (λ z. refl) (λ f. if_both (λ (n : ℕ). get_or t.direction k 0 ≡ n) _ (λ x. absurd (not_ended k _ c x)) (λ x. refl)))))

  -- ---- together

  -- so nothing follows from securing a line
  pub secured_settled : settle L s t nothing ≡ t
  unfolding settle
  secured_settled = rw (signals_still, far_kept, routes_still, arrivals_still) release_still

  -- whether the line was secured just before is not asked of what follows, since its blocks are open
  far_alike : (u : State) (k : ℕ) → PlaceCase L s l k
      → far_stage_at L.line u.direction u.section (proceeds_in L s) (proceeds_in L u) k (get_or s.stage k 0)
      ≡ far_stage_at L.line u.direction u.section (proceeds_in L t) (proceeds_in L u) k (get_or s.stage k 0)
  unfolding far_stage_at line_in
  far_alike u k (idle x y) = sym (idle_unmoved _ _ _ _ _ _ _ _ x y) ∙ idle_unmoved _ _ _ _ _ _ _ _ x y
  far_alike u k (other d there i at) = before_unasked _ _ _ _ _ _ _ _ (proceeds_in L t) (sym (proceeds_same (k / most_blocks) (k % most_blocks) _ there d))

  -- so far sections move the same
  far_same : (u : State) → u.stage ≡ s.stage → far_sections L s u ≡ far_sections L t u
  unfolding far_sections far_stages
  far_same u p =
      ap (λ xs. with_lines u u.direction xs)
      (each_same (most_blocks * L.lines) _ _ u.stage (rw p (omega (arith, T.stages, S.ranges.line_count))) (λ k c. subst (λ (xs : List ℕ).
      far_stage_at L.line u.direction u.section (proceeds_in L s) (proceeds_in L u) k (get_or xs k 0)
      ≡ far_stage_at L.line u.direction u.section (proceeds_in L t) (proceeds_in L u) k (get_or xs k 0)) (sym p) (far_alike u k (place_case k c))))

  -- and what follows another event is the same, whether the line was secured just before or not
  pub before_same : (u : State) (g : Gives) → u.stage ≡ s.stage → settle L s u g ≡ settle L t u g
  unfolding settle signals arrivals line_release own_secure with_routes with_lines
  before_same u g p = ap (λ (v : State). line_release L s (arrivals L s (routes L v g))) (far_same (signals L u) p)
