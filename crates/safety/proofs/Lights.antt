-- What keeps a signal at proceed (section 4), in the state and in the history; a signal at proceed is one that has not fallen.
use Prim.Native.Nat.{ℕ, ◌<◌, ◌≤◌}
use mathlib.Core.Path.{◌≡◌}
use mathlib.Core.Logic.Iff
use mathlib.Core.Logic.{◌≢◌, ◌↔◌, inr}
use mathlib.Core.Bool.{true}
use mathlib.Core.List.{List}
use native.Mathlib.Decide.{ℕ_discrete}
use native.Mathlib.Omega.{arith}
use borrow.Author.Tests.{eqb-true, eq-eqb}
use lib.Dec.{eqb}
use lib.ListN.{get_or}
use Rattle.laws.specs.Tests.{implies}
use Rattle.laws.proofs.Arrays.{read_at}
use Rattle.laws.proofs.Tests.{implied, implies_from}
use Rattle.layout_facts.proofs.Means.{eqb_means, lastly, ◌also◌, ◌&◌, every_means, all_means}
use Rattle.track.specs.Sizes.{most_listed}
use Rattle.tables.specs.Readings.{all_free, in_position, line_placed, route_placed}
use Rattle.tables.specs.Readings as readings
use Rattle.tables.specs.Blocks.{is_open, unbarred}
use Rattle.signals.specs.Signals.{enterable_by, enterable, lets_out, clear}
use Rattle.layout.specs.declared.Layout.{Layout}
use Rattle.layout.specs.Layout.{line_in, route_in}
use Rattle.layout_facts.specs.Plain.{path, overlap, route_point, route_position, line_point, line_position, nearest_block, Sound}
use Rattle.layout_facts.proofs.Uses.{entered_block}
use Rattle.interlocking.specs.declared.State.{State}
use Rattle.safety.specs.History.{History, section_reads}
use Rattle.safety.specs.Cleared.{Opened}
use Rattle.safety.specs.Secured.{Barred}
use Rattle.safety.specs.Lights.{position, RoutePlaced, LinePlaced, MayEnter, Clear}
use Rattle.step_facts.proofs.Entries.{stage, bar_at, point_at}

-- ---- what keeps a signal at proceed

-- what signals go by is as the history tells it: what sections and points read, which blocks are barred, which are open
pub record SignalsTold (L : Layout) (s : State) (h : History) : Type 0 where
  pub reads : (g : ℕ) → g < L.sections → readings.reading s.section g ≡ section_reads L g h
  pub points : (p : ℕ) → p < L.points → point_at s p ≡ position p h
  pub bars : (l i : ℕ) → l < L.lines → i < (line_in L l).blocks → (bar_at s l i ≢ 0 ↔ Barred l i h)
  pub opens : (l i : ℕ) → l < L.lines → i < (line_in L l).blocks → (stage s l i ≡ 0 ↔ Opened L l i h)

module _ (L : Layout) (S : Sound L) (s : State) (h : History) (T : SignalsTold L s h) where
  -- the sections of a list read free
  free_means : (n : ℕ) (xs : List ℕ) → n ≤ most_listed → ((j : ℕ) → j < n → get_or xs j 0 < L.sections)
      → all_free s.section n xs ≡ true ↔ ((j : ℕ) → j < n → section_reads L (get_or xs j 0) h ≡ 1)
  unfolding all_free
  free_means n xs few there = all_means (λ j c. rw (read_at most_listed 0 xs j (omega arith), T.reads (get_or xs j 0) (there j c)) (eqb_means _ 1))

  -- the points of a list are in position
  placed_means : (n : ℕ) (ps ws : List ℕ) → n ≤ most_listed → ((i : ℕ) → i < n → get_or ps i 0 < L.points)
      → in_position s.point n ps ws ≡ true ↔ ((i : ℕ) → i < n → position (get_or ps i 0) h ≡ get_or ws i 0)
  unfolding in_position
  placed_means n ps ws few there =
      all_means (λ j c. rw (read_at most_listed 0 ps j (omega arith), read_at most_listed 0 ws j (omega arith), T.points (get_or ps j 0) (there j c)) (eqb_means _ _))

  module _ (l i : ℕ) (b : l < L.lines) (c : i < (line_in L l).blocks) where
    -- a block is not barred
    pub bar_means : unbarred s.bar l i ≡ true ↔ ¬ Barred l i h
    unfolding unbarred
    bar_means = (λ t x. (T.bars l i b c).1 x (eqb-true _ 0 t), λ n. eq-eqb _ 0 (go n (ℕ_discrete (bar_at s l i) 0)))
      where
        go : ¬ Barred l i h → Dec (bar_at s l i ≡ 0) → bar_at s l i ≡ 0
        go n (yes z) = z
        go n (no d) = absurd (n ((T.bars l i b c).0 d))

    -- a block may be entered
    pub enter_means : enterable L.line s.point s.stage s.bar l i ≡ true ↔ MayEnter L l i h
    unfolding enterable enterable_by is_open line_placed line_in line_point line_position
    enter_means =
        Iff.trans (every_means (Iff.trans (eqb_means _ 0) (T.opens l i b c) also bar_means also lastly line))
        (λ (o, (u, p)). record { is_open = o; unbarred = u; placed = p }, λ m. m.is_open & m.unbarred & m.placed)
      where
        line : line_placed s.point (line_in L l) ≡ true ↔ LinePlaced L l h
        line = placed_means _ _ _ (S.ranges.lines l b).point_count (S.ranges.lines l b).points

  -- a route's signal has all that keeps it at proceed
  pub clear_means : (r : ℕ) → r < L.routes → clear L.line s.section s.point s.stage s.bar (route_in L r) ≡ true ↔ Clear L r h
  unfolding clear lets_out nearest_block line_in path overlap route_placed route_point route_position
  clear_means r b =
      Iff.trans (every_means (paths also overlaps also points also lastly exit))
      (λ (p, (o, (q, x))). record { path_free = p; overlap_free = o; placed = q; may_enter = x }, λ c. c.path_free & c.overlap_free & c.placed & c.may_enter)
    where
      paths : all_free s.section (route_in L r).paths (route_in L r).path ≡ true ↔ ((j : ℕ) → j < (route_in L r).paths → section_reads L (path L r j) h ≡ 1)
      paths = free_means _ _ (S.ranges.routes r b).path_count.1 (S.ranges.routes r b).paths

      overlaps : all_free s.section (route_in L r).overlaps (route_in L r).overlap ≡ true
          ↔ ((j : ℕ) → j < (route_in L r).overlaps → section_reads L (overlap L r j) h ≡ 1)
      overlaps = free_means _ _ (omega (arith, (S.ranges.routes r b).overlap_count)) (S.ranges.routes r b).overlaps

      points : route_placed s.point (route_in L r) ≡ true ↔ RoutePlaced L r h
      points = placed_means _ _ _ (S.ranges.routes r b).point_count (S.ranges.routes r b).points

      enters : (route_in L r).kind ≡ 2 → lets_out L.line s.point s.stage s.bar (route_in L r) ≡ true
          ↔ MayEnter L (route_in L r).line (nearest_block L (route_in L r).line (route_in L r).end) h
      enters k = enter_means _ _ ((S.ranges.routes r b).line (inr k)).0 (entered_block L S r b k)

      exit : implies (eqb (route_in L r).kind 2) (lets_out L.line s.point s.stage s.bar (route_in L r)) ≡ true
          ↔ ((route_in L r).kind ≡ 2 → MayEnter L (route_in L r).line (nearest_block L (route_in L r).line (route_in L r).end) h)
      exit = (
        λ t k. (enters k).0 (implied _ _ t (eq-eqb _ 2 k)),
        λ f. implies_from _ _ (λ t. let k = eqb-true (route_in L r).kind 2 t in (enters k).1 (f k)),
      )
