-- The tables of a state that a run can reach are as long as they are at the cold start, and the places past the blocks of a line stay in stage 0.
use Prim.Native.Nat.{ℕ, ◌*◌, ◌%◌, ◌<◌, ◌≤◌}
use mathlib.Core.Path.{◌≡◌, refl, sym, ap, ◌∙◌}
use mathlib.Core.Bool.{Bool}
use mathlib.Core.List.{List, [], ◌∷◌}
use native.Mathlib.Omega.{arith}
use borrow.Author.Tests.{eqb-true, ltb-true, le-ltb}
use lib.ListN.{length, length-replicate}
use Rattle.laws.specs.Choice.{when◌then◌else◌}
use Rattle.laws.specs.Tests.{◌and◌}
use Rattle.laws.specs.Tables.{read, each, put}
use Rattle.laws.proofs.Choice.{if_both, passed_over}
use Rattle.laws.proofs.Each.{length_each}
use Rattle.laws.proofs.Tests.{and_left, and_right, fails_from}
use Rattle.track.specs.Codes.{stage0}
use Rattle.track.specs.Sizes.{most_lines, most_blocks, most_places, most_train_routes, most_routes}
use Rattle.track.specs.Signal.{Signal}
use Rattle.tables.specs.Blocks.{place}
use Rattle.tables.specs.Locks.{departs}
use Rattle.tables.specs.declared.Gives.{Gives}
use Rattle.passage.specs.Passage.{own_stage, far_stage}
use Rattle.line_block.specs.OwnReadings.{own_given, own_stage_at, given_stages, own_stages}
use Rattle.line_block.specs.FarSections.{far_moved, far_stage_at, far_stages}
use Rattle.line_block.specs.PassingBack.{waited_stage_at, passed_back}
use Rattle.line_block.specs.LineRelease.{directions_after}
use Rattle.line_block.proofs.PassingBackLaws.{not_waiting}
use Rattle.layout.specs.declared.Layout.{Layout}
use Rattle.layout.specs.Layout.{line_in, route_in}
use Rattle.layout.specs.Sound.{sound}
use Rattle.layout_facts.specs.Plain.{Sound}
use Rattle.interlocking.specs.declared.State.{State}
use Rattle.interlocking.specs.declared.Answer.{Answer}
use Rattle.interlocking.specs.State.{cold, in_range, with_sections, with_routes, with_lines, with_axles}
use Rattle.interlocking.specs.Own.{own_section, own_lock, own_cancel, own_secure, open_at, own_manual}
use Rattle.interlocking.specs.Settle.{signals, far_sections, routes_by, routes, arrivals, line_release, settle}
use Rattle.interlocking.specs.Step.{step, after}
use Rattle.step_facts.specs.Run.{Event, box, state_after, from_cold}
use Rattle.step_facts.proofs.Entries.{stage, read_same, place_line, place_block, read_block}
use Rattle.step_facts.proofs.Step.{Ending, done, refused_by, ending}
use Rattle.step_facts.proofs.Within.{Done, reads, sets, cancels, secures, opens, leaves, is_done}

-- the five tables that events make anew, and the places past a line's blocks
pub record Trim (L : Layout) (s : State) : Type 0 where
  pub phases : length s.phase ≡ most_routes
  pub steps : length s.steps ≡ most_train_routes
  pub seconds : length s.seconds ≡ most_train_routes
  pub directions : length s.direction ≡ most_lines
  pub stages : length s.stage ≡ most_places
  pub spare : (l i : ℕ) → l < L.lines → (line_in L l).blocks ≤ i → i < most_blocks → stage s l i ≡ stage0

-- a table made anew up to n of its m entries keeps its length
long : (n m : ℕ) (f : ℕ → ℕ → ℕ) (xs : List ℕ) → n ≤ m → length xs ≡ m → length (each n f xs) ≡ m
long n m f xs b e = length_each n f xs (omega arith) ∙ e

-- so does one with an entry stored
pub stored : (m : ℕ) (xs : List ℕ) (a v : ℕ) → length xs ≡ m → length (put m xs a v) ≡ m
unfolding put
stored m xs a v e = long m m _ xs (omega arith) e

module _ (L : Layout) (S : Sound L) where
  -- all the blocks of the lines have their place
  few : most_blocks * L.lines ≤ most_places
  few = omega (arith, S.ranges.line_count)

  -- it is so at the cold start
  pub cold_trim : Trim L cold
  unfolding cold place
  cold_trim = record {
    phases = length-replicate {A = ℕ} most_routes 0;
    steps = length-replicate {A = ℕ} most_train_routes 0;
    seconds = length-replicate {A = ℕ} most_train_routes 0;
    directions = length-replicate {A = ℕ} most_lines 0;
    stages = length-replicate {A = ℕ} most_places stage0;
    spare = λ l i b c d. read_same most_places stage0 stage0 _ (omega (arith, S.ranges.line_count));
  }

  -- a manual release opens the blocks of a line, and no place past them
  shut : (a l i : ℕ) → (line_in L l).blocks ≤ i → i < most_blocks → open_at L.line a (place l i) stage0 ≡ stage0
  unfolding open_at line_in
  shut a l i c d =
      passed_over _ _ _ (fails_from _ (λ t.
      let at : l ≡ a = sym (place_line l i d) ∙ eqb-true _ a (and_left _ _ t) in
      let same : (line_in L l).blocks ≡ (line_in L a).blocks = ap (λ k. (line_in L k).blocks) at in
      let below : place l i % most_blocks < (line_in L a).blocks = ltb-true _ _ (and_right _ _ t) in
      absurd (omega (arith, place_block l i d))))

  -- no far section moves it
  far_spare : (directions sections : List ℕ) (before after : Signal → Bool) (k : ℕ) → far_stage_at L.line directions sections before after k stage0 ≡ stage0
  unfolding far_stage_at far_moved far_stage
  far_spare directions sections before after k = if_both (λ (n : ℕ). n ≡ stage0) _ (λ z. refl) (λ f. passed_over _ _ _ refl ∙ passed_over _ _ _ refl)

  module _ {s : State} (T : Trim L s) where
    -- a rule that leaves stage 0 past a line's blocks leaves it there
    kept : (f : ℕ → ℕ → ℕ) (xs : List ℕ) (l i : ℕ) → l < L.lines → i < most_blocks → read most_places stage0 xs (place l i) ≡ stage0
        → f (place l i) stage0 ≡ stage0 → read most_places stage0 (each (most_blocks * L.lines) f xs) (place l i) ≡ stage0
    kept f xs l i b d was h = read_block l i d L.lines f xs b S.ranges.line_count ∙ ap (f (place l i)) was ∙ h

    -- what an event does itself
    own_trim : {e : Event} {t : State} → Done L s e t → Trim L t
    unfolding own_section own_stages given_stages passed_back own_lock own_cancel own_secure own_manual with_sections with_routes with_lines with_axles
        waited_stage_at own_stage_at own_given own_stage open_at when◌then◌else◌ ◌and◌ line_in
    own_trim (reads k) = record {
      phases = T.phases;
      steps = T.steps;
      seconds = T.seconds;
      directions = T.directions;
      stages = long _ _ _ _ few (long _ _ _ _ few T.stages);
      spare = λ l i b c d. kept _ _ l i b d (kept _ _ l i b d (T.spare l i b c d) (rw (place_line l i d, place_block l i d, le-ltb _ _ c))) (not_waiting _ _ _ _ _ _ _ (omega arith));
    }
    own_trim {e} (sets k) = record {
      phases = stored _ _ _ _ T.phases;
      steps = stored _ _ _ _ T.steps;
      seconds = stored _ _ _ _ T.seconds;
      directions = if_both (λ (xs : List ℕ). length xs ≡ most_lines) (departs s.direction (route_in L e.first)) (λ t. stored most_lines s.direction _ _ T.directions) (λ f. T.directions);
      stages = T.stages;
      spare = T.spare;
    }
    own_trim (cancels k) = record {
      phases = stored _ _ _ _ T.phases;
      steps = T.steps;
      seconds = stored _ _ _ _ T.seconds;
      directions = T.directions;
      stages = T.stages;
      spare = T.spare;
    }
    own_trim (secures k) = record {
      phases = T.phases;
      steps = T.steps;
      seconds = T.seconds;
      directions = stored _ _ _ _ T.directions;
      stages = T.stages;
      spare = T.spare;
    }
    own_trim {e} (opens k) = record {
      phases = T.phases;
      steps = T.steps;
      seconds = T.seconds;
      directions = stored _ _ _ _ T.directions;
      stages = long _ _ _ _ few T.stages;
      spare = λ l i b c d. kept _ _ l i b d (T.spare l i b c d) (shut e.first l i c d);
    }
    own_trim (leaves f u) = record {
      phases = rw u.1 T.phases;
      steps = rw u.4 T.steps;
      seconds = rw u.5 T.seconds;
      directions = rw u.2 T.directions;
      stages = rw u.3 T.stages;
      spare = rw u.3 T.spare;
    }

    -- what follows it
    settle_trim : {t : State} → Trim L t → (g : Gives) → Trim L (settle L s t g)
    unfolding settle line_release directions_after with_lines arrivals passed_back waited_stage_at routes routes_by with_routes far_sections far_stages signals
    settle_trim {t} U g = record {
      phases = long _ _ _ _ (omega (arith, S.ranges.route_count)) (long _ _ _ _ (omega (arith, S.ranges.route_count)) U.phases);
      steps = long _ _ _ _ S.ranges.route_count U.steps;
      seconds = long _ _ _ _ S.ranges.route_count U.seconds;
      directions = long _ _ _ _ S.ranges.line_count U.directions;
      stages = long _ _ _ _ few (long _ _ _ _ few U.stages);
      spare = λ l i b c d. kept _ _ l i b d (kept _ _ l i b d (U.spare l i b c d) (far_spare _ _ _ _ _)) (not_waiting _ _ _ _ _ _ _ (omega arith));
    }

    -- so an event, accepted or refused
    pub trim_next : (e : Event) → Trim L (box L s e).next
    unfolding box step after
    trim_next e = go (ending _ L s e.kind e.first e.second)
      where
        go : {r : Answer} → Ending (sound L and in_range s) L s e.kind e.first e.second r → Trim L r.next
        go (done p) = settle_trim (own_trim (is_done L s e)) _
        go (refused_by p) = T

  -- and every run
  run_trim : (s : State) → Trim L s → (es : List Event) → Trim L (state_after (box L) s es)
  unfolding state_after
  run_trim s T [] = T
  run_trim s T (e ∷ es) = run_trim (box L s e).next (trim_next T e) es

  pub cold_run_trim : (es : List Event) → Trim L (from_cold L es)
  unfolding from_cold
  cold_run_trim es = run_trim cold cold_trim es
