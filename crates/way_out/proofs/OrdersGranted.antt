-- What is granted of the orders that lead a route to proceed: throw and set, from what the reasons to refuse them ask.
use Prim.Native.Nat.{ℕ, ◌<◌}
use mathlib.Core.Path.{◌≡◌, refl, sym, ap, ◌∙◌}
use mathlib.Core.Logic.{◌⊎◌, ⊎_elim}
use mathlib.Core.Bool.{Bool, true, false, not}
use mathlib.Core.List.{List}
use native.Mathlib.Omega.{arith}
use borrow.Author.Tests.{eqb-true, eq-eqb, lt-leb, not-true}
use lib.ListN.{get_or}
use Rattle.laws.specs.Choice.{when◌then◌else◌}
use Rattle.laws.specs.Tests.{◌and◌}
use Rattle.laws.proofs.Arrays.{read_at}
use Rattle.laws.proofs.Choice.{if_both, chosen}
use Rattle.laws.proofs.Tests.{and_left, and_right, and_both, or_cases, not_both, fails_from, any_some, any_fails}
use Rattle.sets.specs.Sets.{merged_set, set_of, holds}
use Rattle.sets.proofs.Sets.{holds_none, holds_union, holds_joined, holds_set_of}
use Rattle.track.specs.declared.Line.{Line}
use Rattle.track.specs.Codes.{leaving}
use Rattle.track.specs.Lists.{between}
use Rattle.track.specs.Sizes.{most_sections, most_points}
use Rattle.track.specs.Objects.{entrance}
use Rattle.tables.specs.Readings.{reading, point_reading}
use Rattle.tables.specs.Blocks.{is_open, unbarred}
use Rattle.tables.specs.Locks.{locked, departs}
use Rattle.passage.specs.Passage.{arrival}
use Rattle.lamps.specs.Lamps.{lamp_of, reports_none}
use Rattle.layout.specs.declared.Layout.{Layout}
use Rattle.layout.specs.Layout.{line_in, route_in}
use Rattle.layout.specs.Sound.{sound}
use Rattle.layout_facts.specs.Plain.{own_section, entrance_signal, nearest_block, line_point, line_position, path, overlap, route_point, route_position, Sound}
use Rattle.layout_facts.proofs.Uses.{entered_block}
use Rattle.reasons.specs.Refusal.{Refusal, refused, no_refusal, found}
use Rattle.reasons.specs.Searches.{misplaced, route_locks, line_locks, failing}
use Rattle.reasons.specs.Reasons.{not_placed, conflicting, by_route, by_line, block_barred, block_held, arrival_dark}
use Rattle.refusals.specs.Orders.{throw_refusal, way_refusal, exit_refusal, route_refusal, set_refusal, secure_refusal}
use Rattle.interlocking.specs.declared.State.{State}
use Rattle.interlocking.specs.State.{in_range, tables_of}
use Rattle.interlocking.specs.Rows.{throw_row, set_row, row_with, row_of}
use Rattle.interlocking.specs.Step.{refusal}
use Rattle.way_out.specs.WayOut.{AtRest}
use Rattle.step_facts.proofs.Entries.{phase, direction}
use Rattle.step_facts.proofs.Granted.{first_none, last_none, when_none, found_none, all_free, granted}

-- ---- what is asked of sections, points and blocks

-- the sections g 0, .., g (n - 1) read free
abbrev pub AllFree : ℕ → (ℕ → ℕ) → State → Type 0
AllFree n g s = (j : ℕ) → j < n → reading s.section (g j) ≡ 1

-- the points p 0, .., p (n - 1) read their positions
abbrev pub AllPlaced : ℕ → (ℕ → ℕ) → (ℕ → ℕ) → State → Type 0
AllPlaced n p w s = (j : ℕ) → j < n → point_reading s.point (p j) ≡ w j

-- so do the points of line l, and those of route r
abbrev pub LinePlaced : Layout → ℕ → State → Type 0
LinePlaced L l s = AllPlaced (line_in L l).points (line_point L l) (line_position L l) s

abbrev pub RoutePlaced : Layout → ℕ → State → Type 0
RoutePlaced L r s = AllPlaced (route_in L r).points (route_point L r) (route_position L r) s

-- the first n blocks of line l are not barred
abbrev pub AllUnbarred : ℕ → ℕ → State → Type 0
AllUnbarred l n s = (i : ℕ) → i < n → unbarred s.bar l i ≡ true

-- 6 is not given where each point listed reads its position
placed_none : (points : List ℕ) (n : ℕ) (ps ws : List ℕ) → ((j : ℕ) → j < n → point_reading points (get_or ps j 0) ≡ get_or ws j 0)
    → (not_placed points n ps ws).number ≡ 0
unfolding not_placed misplaced
placed_none points n ps ws h =
    found_none 6 _ _ (λ p c. any_fails _ _ (λ j b t.
    not_both (eq-eqb _ _ (ap (point_reading points) (sym (eqb-true _ p (and_left _ _ t))) ∙ h j b)) (not-true _ (and_right _ _ t))))

-- 10 and 11 are not given where each block of the line passes their test
passing_none : (number : ℕ) (test : ℕ → Bool) (b : Line) → ((i : ℕ) → i < b.blocks → test i ≡ true) → (found number most_sections (failing test b)).number ≡ 0
unfolding failing
passing_none number test b h = found_none number _ _ (λ g c. any_fails _ _ (λ i k t. not_both (h i k) (not-true _ (and_right _ _ t))))

-- 31 is not given where the lamp of the entrance signal at the arrival end reports stop (L3)
stop_none : (b : Line) (lamps : List ℕ) (w : ℕ) → lamp_of lamps (entrance b (arrival w)) ≡ 1 → (arrival_dark b lamps w).number ≡ 0
unfolding arrival_dark reports_none between ◌and◌
stop_none b lamps w q = when_none _ 31 _ (rw q)

-- ---- throw

module _ (L : Layout) (s : State) (ok : sound L ≡ true) (ranged : in_range s ≡ true) where
  -- one of two positions is no wrong second number
  one_of_two : (w : ℕ) → (w ≡ 1) ⊎ (w ≡ 2) → not (between 1 2 w) ≡ false
  unfolding between ◌and◌
  one_of_two w = ⊎_elim (λ q. rw q) (λ q. rw q)

  -- throw a point, where no route is locked, no line secured and the point's own section reads free
  pub throw_granted : Sound L → (p w : ℕ) → p < L.points → (w ≡ 1) ⊎ (w ≡ 2) → AtRest L s → reading s.section (own_section L p) ≡ 1
      → (refusal (sound L and in_range s) L s 3 p w).number ≡ 0
  unfolding row_of row_with throw_row when◌then◌else◌ throw_refusal by_route by_line route_locks line_locks locked own_section no_refusal refused
  throw_granted S p w b position rest free =
      granted L s ok ranged 3 p w (lt-leb _ p b) refl (one_of_two w position)
      (first_none _ _ _ (found_none 15 _ _ (λ r c. fails_from _ (λ t. not_both (eq-eqb _ 0 (rest.routes r c)) (not-true _ (and_left _ _ t)))))
      (first_none _ _ _ (found_none 16 _ _ (λ l c. fails_from _ (λ t. not_both (eq-eqb _ 0 (rest.lines l c)) (not-true _ (and_left _ _ t)))))
      (last_none _ (all_free s.section _ (λ g c t.
      ⊎_elim (λ z. not_both z (holds_none g)) (λ q. ap (reading s.section) (sym (eqb-true _ g q) ∙ read_at most_points 0 _ p (omega (arith, S.ranges.point_count))) ∙ free)
      (or_cases _ _ (sym (holds_joined 0 _ g c) ∙ t)))))))

-- ---- set a route

-- what an exit route asks of its line: it is neutral and can be secured, since its blocks are open and not barred, its points read their positions and (L3) the
-- lamp of the entrance signal at the arrival end reports stop
pub record LineReady (L : Layout) (r : ℕ) (s : State) : Type 0 where
  pub is_neutral : direction s (route_in L r).line ≡ 0
  pub opened : (i : ℕ) → i < (line_in L (route_in L r).line).blocks → is_open s.stage (route_in L r).line i ≡ true
  pub no_bar : AllUnbarred (route_in L r).line (line_in L (route_in L r).line).blocks s
  pub placed : LinePlaced L (route_in L r).line s
  pub lit : lamp_of s.lamp (entrance_signal L (route_in L r).line (arrival (leaving (route_in L r).end))) ≡ 1

-- what a route is set by: no route is locked, path and overlap read free, its points read their positions; an exit route has what it asks of its line
pub record Prepared (L : Layout) (r : ℕ) (s : State) : Type 0 where
  pub idle : (q : ℕ) → q < L.routes → phase s q ≡ 0
  pub path : AllFree (route_in L r).paths (path L r) s
  pub overlap : AllFree (route_in L r).overlaps (overlap L r) s
  pub placed : RoutePlaced L r s
  pub line : (route_in L r).kind ≡ 2 → LineReady L r s

module _ (L : Layout) (s : State) (ok : sound L ≡ true) (S : Sound L) (ranged : in_range s ≡ true) (r : ℕ) (b : r < L.routes) (P : Prepared L r s) where
  module _ (exit : (route_in L r).kind ≡ 2) (line : LineReady L r s) where
    -- the line is secured first (L5): 12, 11, 6, 10, 31 are not given
    way_none : (way_refusal L (tables_of s) (route_in L r)).number ≡ 0
    unfolding way_refusal departs secure_refusal block_barred block_held line_point line_position entrance_signal line_in
    way_none =
        ap (λ (x : Refusal). x.number) (chosen _ _ _ (and_both _ _ (eq-eqb _ 2 exit) (eq-eqb _ 0 line.is_neutral)))
        ∙ first_none _ _ _ (when_none _ 12 _ (ap not (eq-eqb _ 0 line.is_neutral)))
        (first_none _ _ _ (passing_none 11 _ _ line.no_bar)
        (first_none _ _ _ (placed_none _ _ _ _ line.placed)
        (first_none _ _ _ (passing_none 10 _ _ line.opened) (last_none _ (stop_none _ _ _ line.lit)))))

    -- nor are then 6, 11, 10 of the block that it enters
    exit_none : (exit_refusal L (tables_of s) (route_in L r)).number ≡ 0
    unfolding exit_refusal line_point line_position nearest_block line_in
    exit_none =
        let here = entered_block L S r b exit in
        first_none _ _ _ way_none
        (first_none _ _ _ (placed_none _ _ _ _ line.placed)
        (first_none _ _ _ (when_none _ 11 _ (ap not (line.no_bar _ here))) (last_none _ (when_none _ 10 _ (ap not (line.opened _ here))))))

  -- a section of path or overlap reads free
  listed_free : (g : ℕ) → g < most_sections
      → holds (merged_set (set_of (route_in L r).paths (route_in L r).path) (set_of (route_in L r).overlaps (route_in L r).overlap)) g ≡ true
      → reading s.section g ≡ 1
  unfolding path overlap
  listed_free g c t = ⊎_elim (among _ _ P.path) (among _ _ P.overlap) (or_cases _ _ (sym (holds_union _ _ g) ∙ t))
    where
      among : (n : ℕ) (xs : List ℕ) → ((j : ℕ) → j < n → reading s.section (get_or xs j 0) ≡ 1) → holds (set_of n xs) g ≡ true → reading s.section g ≡ 1
      among n xs h u =
          let (j, k, q) = any_some _ _ (sym (holds_set_of n xs g c) ∙ u) in
          ap (reading s.section) (sym (eqb-true _ g q)) ∙ h j k

  -- it is set
  pub set_granted : (refusal (sound L and in_range s) L s 4 r 0).number ≡ 0
  unfolding row_of row_with set_row when◌then◌else◌ set_refusal conflicting locked route_refusal no_refusal refused route_point route_position route_in
  set_granted =
      granted L s ok ranged 4 r 0 (lt-leb _ r b) refl refl
      (first_none _ _ _ (when_none _ 4 r (ap not (eq-eqb _ 0 (P.idle r b))))
      (first_none _ _ _ (found_none 5 _ _ (λ q c. fails_from _ (λ t. not_both (eq-eqb _ 0 (P.idle q c)) (not-true _ (and_left _ _ t)))))
      (last_none _ (first_none _ _ _ (placed_none _ _ _ _ P.placed) (first_none _ _ _ (all_free s.section _ listed_free)
      (last_none _ (if_both (λ (x : Refusal). x.number ≡ 0) _ (λ t. let exit = eqb-true _ 2 t in exit_none exit (P.line exit)) (λ f. refl))))))))
