-- What signals show tells of the state, and the state tells what they show. There is a block signal each way, so its direction is one of two.
use Prim.Native.Nat.{ℕ, ◌+◌, ◌<◌, ◌≤◌}
use mathlib.Core.Path.{◌≡◌, sym, ◌∙◌}
use mathlib.Core.Logic.{◌≢◌, ◌⊎◌, inl, inr}
use mathlib.Core.Bool.{true, false}
use native.Mathlib.Decide.{ℕ_discrete}
use native.Mathlib.Omega.{arith}
use borrow.Author.Tests.{eqb-true, eq-eqb, ne_eqb, ltb-true, lt-ltb}
use Rattle.laws.proofs.Choice.{chosen, passed_over}
use Rattle.laws.proofs.Tests.{and_left, and_right, and_both}
use Rattle.signals.specs.Signals.{enterable, main_proceeds, block_proceeds}
use Rattle.track.specs.Signal.{main, into, has_signal}
use Rattle.layout.specs.declared.Layout.{Layout}
use Rattle.track.specs.Sizes.{most_lamps}
use Rattle.track.proofs.SignalNumbers.{signals_few}
use Rattle.layout.specs.Layout.{line_in, signals_in}
use Rattle.layout_facts.specs.Plain.{Sound}
use Rattle.interlocking.specs.declared.State.{State}
use Rattle.panel.specs.Panel.{image}
use Rattle.signals.proofs.Shows.{main_shows_law, main_stops, block_shows_law, block_stops}
use Rattle.panel.specs.Shown.{panel}
use Rattle.safety.specs.Cleared.{Proceeds, Stops}
use Rattle.step_facts.proofs.Entries.{direction}
use Rattle.panel.proofs.Image.{shows_main, shows_into, present_main, present_into}

-- a direction that is not neutral is one of the two ways
pub one_each_way : (w : ℕ) → w ≢ 0 → w ≤ 2 → (w ≡ 1) ⊎ (w ≡ 2)
one_each_way w z few = go (ℕ_discrete w 1)
  where
    go : Dec (w ≡ 1) → (w ≡ 1) ⊎ (w ≡ 2)
    go (yes q) = inl q
    go (no q) = inr (omega arith)

module _ (L : Layout) (s : State) (x : ℕ) where
  -- a main signal shows proceed where a route that starts at it is at proceed
  pub main_lit : x < L.signals → main_proceeds L.routes L.route s.phase x ≡ true → Proceeds (panel L (image L s)) (main x)
  main_lit b t = rw (shows_main L s x b) (ltb-true 20 _ (main_shows_law _ _ _ x ∙ t))

  -- else it shows stop
  pub main_stopped : x < L.signals → main_proceeds L.routes L.route s.phase x ≡ false → Stops (panel L (image L s)) (main x)
  main_stopped b f = shows_main L s x b ∙ main_stops _ _ _ x f

  -- and it shows proceed nowhere else
  pub main_shown : Proceeds (panel L (image L s)) (main x) → main_proceeds L.routes L.route s.phase x ≡ true
  main_shown p = sym (main_shows_law _ _ _ x) ∙ lt-ltb 20 _ (rw (shows_main L s x (present_main L (image L s) x p)) at p)

module _ (L : Layout) (s : State) (l i w : ℕ) where
  -- a block signal that there is shows proceed where it is at proceed
  pub into_lit : l < L.lines → i < (line_in L l).blocks → (w ≡ 1) ⊎ (w ≡ 2) → has_signal (line_in L l).blocks i w ≡ true
      → block_proceeds L.line s.direction s.point s.stage s.bar l i w ≡ true → Proceeds (panel L (image L s)) (into l i w)
  unfolding line_in
  into_lit b c way u t = rw (shows_into L s l i w b c way) (ltb-true 20 _ (block_shows_law _ _ _ _ _ l i w ∙ and_both _ _ u t))

  -- it shows stop where the line is secured its way and no train may be let into its block
  pub into_stops : l < L.lines → i < (line_in L l).blocks → (w ≡ 1) ⊎ (w ≡ 2) → has_signal (line_in L l).blocks i w ≡ true → direction s l ≡ w
      → enterable L.line s.point s.stage s.bar l i ≡ false → Stops (panel L (image L s)) (into l i w)
  unfolding line_in
  into_stops b c way u d f = shows_into L s l i w b c way ∙ block_stops _ _ _ _ _ l i w d u f

  -- it shows proceed only where there is one, the line is secured its way and a train may be let into its block
  pub into_shown : Proceeds (panel L (image L s)) (into l i w)
      → (has_signal (line_in L l).blocks i w ≡ true) × (direction s l ≡ w) × (enterable L.line s.point s.stage s.bar l i ≡ true)
  unfolding block_proceeds line_in
  into_shown p =
      let (b, c, way) = present_into L (image L s) l i w p in
      let t = sym (block_shows_law L.line s.direction s.point s.stage s.bar l i w) ∙ lt-ltb 20 _ (rw (shows_into L s l i w b c way) at p) in
      (and_left _ _ t, eqb-true _ w (and_left _ _ (and_right _ _ t)), and_right _ _ (and_right _ _ t))

-- there are no more signals than lamps: a line has at most eight blocks
pub all_signals : (L : Layout) → Sound L → signals_in L ≤ most_lamps
unfolding line_in signals_in
all_signals L S =
    omega (arith, signals_few L.signals L.line L.lines (λ l b. (S.ranges.lines l b).block_count.1), S.ranges.signal_count, S.ranges.line_count)

-- there is a block signal into block j of n where it lies beyond another
pub far_signal_law : (n w j : ℕ) → (w ≡ 1 → 0 < j) → (w ≢ 1 → j + 1 < n) → has_signal n j w ≡ true
unfolding has_signal
far_signal_law n w j up down = go (ℕ_discrete w 1)
  where
    go : Dec (w ≡ 1) → has_signal n j w ≡ true
    go (yes q) = chosen _ _ _ (eq-eqb w 1 q) ∙ lt-ltb 0 j (up q)
    go (no q) = passed_over _ _ _ (ne_eqb w 1 q) ∙ lt-ltb (j + 1) n (down q)
