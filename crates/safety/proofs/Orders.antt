-- An order to throw, to cancel or to release by hand is not refused just where there is what the history tells that it asks (section 3); `SetOrders` has the
-- same of secure and set.
use Prim.Native.Nat.{ℕ, ◌<◌, ◌≤◌}
use mathlib.Core.Path.{◌≡◌, refl, sym, ◌∙◌}
use mathlib.Core.Logic.Iff
use mathlib.Core.Logic.{◌⊎◌, ◌↔◌, ⊎_elim}
use mathlib.Core.Bool.{Bool, true, false, not}
use mathlib.Core.List.{List}
use native.Mathlib.Omega.{arith}
use lib.Dec.{eqb}
use lib.ListN.{get_or}
use Rattle.laws.specs.Tests.{◌and◌}
use Rattle.laws.specs.Tables.{read}
use Rattle.laws.proofs.Arrays.{read_at}
use Rattle.laws.proofs.Tests.{and_both}
use Rattle.layout_facts.proofs.Means.{eqb_means, leb_means, not_means, and_means, any_means}
use Rattle.layout_facts.proofs.Order.{one_of}
use Rattle.sets.specs.Sets.{set_of, joined}
use Rattle.track.specs.Lists.{between, among}
use Rattle.track.specs.Sizes.{most_sections, most_points}
use Rattle.track.specs.Blocks.{block_detail, line_sections}
use Rattle.tables.specs.Readings.{reading, point_reading}
use Rattle.tables.specs.Blocks.{is_open, unbarred}
use Rattle.tables.specs.Locks.{locked, locked_exit_by, locked_exit}
use Rattle.layout.specs.declared.Layout.{Layout}
use Rattle.layout.specs.Layout.{line_in, route_in}
use Rattle.layout.specs.Sound.{sound}
use Rattle.layout_facts.specs.Plain.{own_section, line_point, line_position, route_point, Sound}
use Rattle.reasons.specs.Refusal.{no_refusal, refused, found}
use Rattle.reasons.specs.Searches.{misplaced, route_locks, line_locks, failing}
use Rattle.reasons.specs.Reasons.{not_free, not_placed, by_route, by_line, exit_locked}
use Rattle.refusals.specs.Events.{numbers_refusal}
use Rattle.refusals.specs.Orders.{throw_refusal, cancel_refusal, manual_refusal}
use Rattle.interlocking.specs.declared.State.{State}
use Rattle.interlocking.specs.State.{in_range}
use Rattle.interlocking.specs.Rows.{Row, throw_row, cancel_row, manual_row}
use Rattle.interlocking.specs.Step.{row_refusal}
use Rattle.step_facts.proofs.Entries.{block, block_there, block_below, phase, direction}
use Rattle.safety.specs.History.{History, section_reads, block_reads}
use Rattle.safety.specs.Locked.{Locked}
use Rattle.safety.specs.Cleared.{Opened}
use Rattle.safety.specs.Secured.{Barred, Neutral}
use Rattle.safety.specs.Lights.{position, LinePlaced}
use Rattle.safety.specs.Grants.{MayThrow, MayCancel, MayRelease}
use Rattle.safety.proofs.Invariant.{Inv}
use Rattle.safety.proofs.Lights.{bar_means}
use Rattle.safety.proofs.Lines.{neutral_told}
use Rattle.safety.proofs.Unrefused.{Lifts, each_means, there_means, right_means, last, ◌before◌, reasons_mean, fails_means, if_means, unless_means, found_means, named_means, AllIn, free_means, list_means, one_means}

-- a second number that is 1 or 2 is not wrong
pub two_means : (w : ℕ) → not (between 1 2 w) ≡ false ↔ (w ≡ 1) ⊎ (w ≡ 2)
unfolding between
two_means w =
    Iff.trans (right_means (and_means (leb_means 1 w) (leb_means w 2)))
    (λ (few, most). one_of w 1 2 (omega arith), ⊎_elim (λ q. (omega arith, omega arith)) (λ q. (omega arith, omega arith)))

-- nor is 0, where it is not used
pub none_means : (n : ℕ) → not (eqb n 0) ≡ false ↔ n ≡ 0
none_means n = right_means (eqb_means n 0)

module _ (L : Layout) (ok : sound L ≡ true) (S : Sound L) (s : State) (h : History) (I : Inv L s h) where
  -- ---- an event by its row

  -- 18 is not given, since layout and state are sound; then 2, 30 or 34, 3, and what is refused besides of an object that there is and fits
  pub fit_means : (a : ℕ) (row : Row) {A F B C : Type 0} → row.missing ≡ false ↔ A → Lifts row.misfit F → row.wrong ≡ false ↔ B → (A → F → Lifts row.besides C)
      → Lifts (row_refusal (sound L and in_range s) a row) (A × F × B × C)
  unfolding row_refusal numbers_refusal
  fit_means a row there fits second order =
      Iff.trans (reasons_mean (reasons_mean (unless_means 0 (omega arith) Iff.rfl before fails_means a (omega arith) before fits before last (fails_means 0 (omega arith))) before last Iff.rfl)) (
        λ ((sounds, (m, (f, w))), o). let p = there.0 m in (p, f, second.0 w, (order p f).0 o),
        λ (p, f, w, o). ((and_both _ _ ok I.ranged, (there.1 p, (f, second.1 w))), (order p f).1 o),
      )

  -- of an event that asks nothing of heads 30 and 34 are not given
  pub row_means : (a : ℕ) (row : Row) {A B C : Type 0} → row.missing ≡ false ↔ A → row.misfit ≡ no_refusal → row.wrong ≡ false ↔ B
      → (A → Lifts row.besides C) → Lifts (row_refusal (sound L and in_range s) a row) (A × B × C)
  unfolding no_refusal refused
  row_means a row there none second order =
      let fits : Lifts row.misfit (Unit {0}) = (λ z. tt, λ z. rw none) in
      Iff.trans (fit_means a row there fits second (λ p f. order p)) (λ (p, f, w, o). (p, w, o), λ (p, w, o). (p, tt, w, o))

  -- ---- what the reasons ask

  -- a route is locked
  pub lock_means : (r : ℕ) → r < L.routes → locked s.phase r ≡ true ↔ Locked L r h
  unfolding locked
  lock_means r b = Iff.trans (not_means (eqb_means (phase s r) 0)) (I.routes r b).locks

  -- a line is neutral
  pub neutral_means : (l : ℕ) → l < L.lines → eqb (direction s l) 0 ≡ true ↔ Neutral L l h
  neutral_means l b = Iff.trans (eqb_means _ 0) (neutral_told L s h I l b)

  -- 6: the points of a list are read in position
  pub placed_means : (n : ℕ) (ps ws : List ℕ) → ((i : ℕ) → i < n → get_or ps i 0 < L.points)
      → Lifts (not_placed s.point n ps ws) ((i : ℕ) → i < n → position (get_or ps i 0) h ≡ get_or ws i 0)
  unfolding not_placed misplaced
  placed_means n ps ws there =
      Iff.trans (named_means (λ j. get_or ps j 0) (λ p j. eqb (point_reading s.point p) (get_or ws j 0)) (omega arith)
      (λ j c. omega (arith, there j c, S.ranges.point_count)))
      (each_means (λ j c. rw (I.points _ (there j c)) (eqb_means _ _)))

  -- 7, 8: the sections of a list read free
  pub listed_means : (n : ℕ) (xs : List ℕ) → ((j : ℕ) → j < n → get_or xs j 0 < L.sections)
      → AllIn (set_of n xs) (λ g. reading s.section g ≡ 1) ↔ ((j : ℕ) → j < n → section_reads L (get_or xs j 0) h ≡ 1)
  listed_means n xs there =
      Iff.trans (list_means n xs (λ j c. omega (arith, there j c, S.ranges.section_count))) (each_means (λ j c. rw (I.reads _ (there j c)) Iff.rfl))

  module _ (l : ℕ) (b : l < L.lines) where
    -- 11, 10: the blocks of a line pass a test
    pub blocks_means : {n : ℕ} (test : ℕ → Bool) {P : ℕ → Type 0} → 0 < n → ((i : ℕ) → i < (line_in L l).blocks → test i ≡ true ↔ P i)
        → Lifts (found n most_sections (failing test (line_in L l))) ((i : ℕ) → i < (line_in L l).blocks → P i)
    unfolding failing block_detail
    blocks_means test some m = Iff.trans (named_means (block L l) (λ g i. test i) some (λ i c. block_below L S l i b c)) (each_means m)

    -- 6 for the line's points
    pub line_means : Lifts (not_placed s.point (line_in L l).points (line_in L l).point (line_in L l).position) (LinePlaced L l h)
    unfolding line_point line_position
    line_means = placed_means _ _ _ (S.ranges.lines l b).points

    module _ (i : ℕ) (c : i < (line_in L l).blocks) where
      -- a block is open
      pub open_means : is_open s.stage l i ≡ true ↔ Opened L l i h
      unfolding is_open
      open_means = Iff.trans (eqb_means _ 0) (I.blocks l i b c).opens

      -- a block is not barred
      pub unbarred_means : unbarred s.bar l i ≡ true ↔ ¬ Barred l i h
      unbarred_means =
          bar_means L S s h (record { reads = I.reads; points = I.points; bars = I.bars; opens = λ l i b c. (I.blocks l i b c).opens }) l i b c

  -- ---- throw

  -- 15 and 16 by the searches over routes and lines, 7 and 8 by the one section
  pub throw_means : (a b : ℕ) → Lifts (row_refusal (sound L and in_range s) a (throw_row L s a b)) (MayThrow L a b h)
  unfolding throw_row throw_refusal by_route by_line route_locks line_locks among line_in route_in line_point route_point own_section
  throw_means a b =
      Iff.trans (row_means a _ (there_means _ a) refl (two_means b) (λ p. reasons_mean (routes before lines before last (own p)))) (
        λ (p, w, (r, (l, f))). record {
          there = p;
          position = w;
          blades = record {
            is_free = f;
            no_route = λ q i c d x y. r q c (y, (i, d, x));
            no_line = λ k i v c d x n y. l k c (λ none. n (sym ((I.lines k c v n).1 y) ∙ (neutral_told L s h I k c).1 none), (i, d, x));
          };
        },
        λ m. (
          m.there,
          m.position,
          (λ q c (y, (i, d, x)). m.blades.no_route q i c d x y, (λ k c (n, (i, d, x)). n (λ y. m.blades.no_line k i 1 c d x (omega arith) y, λ y. m.blades.no_line k i 2 c d x (omega arith) y), m.blades.is_free)),
        ),
      )
    where
      routes : Lifts (by_route L s.phase a)
          ((r : ℕ) → r < L.routes → ¬ (Locked L r h × ((i : ℕ) × (i < (route_in L r).points) × (route_point L r i ≡ a))))
      routes = found_means (omega arith) (λ r c. and_means (lock_means r c) (any_means (λ i d. eqb_means _ a)))

      lines : Lifts (by_line L s.direction a)
          ((l : ℕ) → l < L.lines → ¬ (¬ Neutral L l h × ((i : ℕ) × (i < (line_in L l).points) × (line_point L l i ≡ a))))
      lines = found_means (omega arith) (λ l c. and_means (not_means (neutral_means l c)) (any_means (λ i d. eqb_means _ a)))

      own : a < L.points → Lifts (not_free s.section (joined 0 (read most_points 0 L.pointsection a))) (section_reads L (own_section L a) h ≡ 1)
      own p =
          let there : own_section L a < L.sections = S.ranges.points a p in
          rw (read_at most_points 0 L.pointsection a (omega (arith, S.ranges.point_count)))
          (Iff.trans (free_means _ _) (Iff.trans (one_means _ (omega (arith, S.ranges.section_count))) (rw (I.reads _ there) Iff.rfl)))

  -- ---- cancel

  -- 13 by the route's phase; 14 since a route that is locked is cancelling just where it was cancelled
  pub cancel_means : (a b : ℕ) → Lifts (row_refusal (sound L and in_range s) a (cancel_row L s a b)) (MayCancel L a b h)
  unfolding cancel_row cancel_refusal
  cancel_means a b =
      Iff.trans (row_means a _ (there_means _ a) refl (none_means b) (λ p.
      reasons_mean (unless_means _ (omega arith) (lock_means a p) before last (if_means _ (omega arith) (eqb_means (phase s a) 3))))) (
        λ (p, w, (y, n)). record { there = p; unused = w; locked = y; standing = λ c. n (((I.routes a p).cancels ((I.routes a p).locks.1 y)).1 c) },
        λ m. let told = I.routes a m.there in (m.there, m.unused, (m.locked, λ z. m.standing ((told.cancels (told.locks.1 m.locked)).0 z))),
      )

  -- ---- manual release

  -- 17 by the search over the routes, 7 and 8 by the set of the line's sections
  pub release_means : (a b : ℕ) → Lifts (row_refusal (sound L and in_range s) a (manual_row L s a b)) (MayRelease L a b h)
  unfolding manual_row manual_refusal exit_locked locked_exit locked_exit_by line_sections line_in route_in between
  release_means a b =
      Iff.trans (row_means a _ (there_means _ a) refl ground (λ p. reasons_mean (exits before last (sections p)))) (
        λ (p, w, (x, f)). record { there = p; ground = w; no_exit = λ r c k l y. x r c (y, (k, l)); is_free = f },
        λ m. (m.there, m.ground, (λ r c (y, (k, l)). m.no_exit r c k l y, m.is_free)),
      )
    where
      ground : not (between 1 3 b) ≡ false ↔ (1 ≤ b) × (b ≤ 3)
      ground = right_means (and_means (leb_means 1 b) (leb_means b 3))

      exits : Lifts (exit_locked L s.phase a) ((r : ℕ) → r < L.routes → ¬ (Locked L r h × (((route_in L r).kind ≡ 2) × ((route_in L r).line ≡ a))))
      exits = found_means (omega arith) (λ r c. and_means (lock_means r c) (and_means (eqb_means _ 2) (eqb_means _ a)))

      sections : a < L.lines → Lifts (not_free s.section (line_sections (line_in L a))) ((i : ℕ) → i < (line_in L a).blocks → block_reads L a i h ≡ 1)
      sections p = Iff.trans (free_means _ _) (listed_means _ _ (λ i c. block_there L S a i p c))
