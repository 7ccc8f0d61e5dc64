-- What is granted: readings, what heads say, unbar and the events of the way out, from what the reasons to refuse them ask.
use Prim.Native.Nat.{ℕ, ◌*◌, ◌/◌, ◌<◌, ◌≤◌}
use mathlib.Core.Path.{◌≡◌, refl, sym, ap, ◌∙◌}
use mathlib.Core.Logic.{◌≢◌, ◌⊎◌, inl, inr}
use mathlib.Core.Bool.{Bool, true, false, not}
use mathlib.Core.List.{List, [], ◌∷◌}
use borrow.Author.Tests.{eqb-true, eq-eqb, ne_eqb, lt-leb, le-ltb, not-true}
use Rattle.laws.specs.Choice.{when◌then◌else◌}
use Rattle.laws.specs.Tests.{◌and◌}
use Rattle.laws.proofs.Searches.{lowest_past}
use Rattle.laws.proofs.Tests.{and_left, and_right, and_both, not_both, fails_from, any_some}
use Rattle.sets.specs.Sets as sets
use Rattle.sets.proofs.Sets.{holds_set_of}
use Rattle.track.specs.Lists.{between}
use Rattle.track.specs.Sizes.{most_sections}
use Rattle.track.specs.Blocks.{line_sections}
use Rattle.tables.specs.Readings.{reading}
use Rattle.axles.specs.Heads.{speaking}
use Rattle.layout.specs.declared.Layout.{Layout}
use Rattle.layout.specs.Layout.{is_fitted, line_in, signals_in}
use Rattle.layout.specs.Sound.{sound}
use Rattle.reasons.specs.Refusal.{Refusal, refused, no_refusal, refused_if, found, first_of}
use Rattle.reasons.specs.Searches.{unfree}
use Rattle.tables.specs.Locks.{locked, locked_exit_by, locked_exit}
use Rattle.reasons.specs.Reasons.{not_free, exit_locked, no_heads, has_heads}
use Rattle.refusals.specs.Orders.{cancel_refusal, manual_refusal}
use Rattle.refusals.specs.Events.{numbers_refusal}
use Rattle.interlocking.specs.declared.State.{State}
use Rattle.interlocking.specs.State.{in_range, heads_at}
use Rattle.interlocking.specs.Own.{head_section, heads_of}
use Rattle.interlocking.specs.Rows.{section_row, point_row, cancel_row, manual_row, bar_row, second_row, count_row, silent_row, reset_row, still_silent, head_row, lamp_row, row_with, row_of}
use Rattle.interlocking.specs.Step.{row_refusal, step, refusal}
use Rattle.step_facts.proofs.Step.{step_done}
use Rattle.step_facts.specs.Run.{Event}
use Rattle.laws.proofs.Choice.{chosen, passed_over}
use Rattle.step_facts.proofs.Entries.{phase, block}
use Rattle.step_facts.proofs.Within.{end}

-- ---- reasons that there are not

-- where the first reason is not given, and none of those after it, none of the list is
pub first_none : (x y : Refusal) (ys : List Refusal) → x.number ≡ 0 → (first_of (y ∷ ys)).number ≡ 0 → (first_of (x ∷ y ∷ ys)).number ≡ 0
unfolding first_of
first_none x y ys p q = rw (chosen _ _ _ (eq-eqb x.number 0 p)) q

-- so of a list of one reason
pub last_none : (x : Refusal) → x.number ≡ 0 → (first_of (x ∷ [])).number ≡ 0
unfolding first_of
last_none x p = p

-- a test that does not hold refuses nothing
pub when_none : (t : Bool) (number detail : ℕ) → t ≡ false → (refused_if t number detail).number ≡ 0
unfolding refused_if no_refusal refused
when_none t number detail f = rw (passed_over _ _ _ f)

-- nor does a search that finds nothing
pub found_none : (number n : ℕ) (p : ℕ → Bool) → ((k : ℕ) → k < n → p k ≡ false) → (found number n p).number ≡ 0
unfolding found
found_none number n p h = when_none _ number _ (lowest_past n p h)

-- nor do sections that read free
pub all_free : (sections : List ℕ) (set : ℕ) → ((g : ℕ) → g < most_sections → sets.holds set g ≡ true → reading sections g ≡ 1) → (not_free sections set).number ≡ 0
unfolding not_free unfree no_refusal refused
all_free sections set h = rw (passed_over _ _ _ (lowest_past most_sections (unfree sections set) free))
  where
    free : (g : ℕ) → g < most_sections → unfree sections set g ≡ false
    free g b = fails_from _ (λ t. not_both (eq-eqb _ 1 (h g b (and_left _ _ t))) (not-true _ (and_right _ _ t)))

-- ---- the events

module _ (L : Layout) (s : State) (ok : sound L ≡ true) (ranged : in_range s ≡ true) where
  -- an event for an object that there is, of a section that has heads or has none as its kind asks, with a second number that is right, of whose row
  -- nothing is refused besides
  pub granted : (k a b : ℕ) → (row_of L s k a b).missing ≡ false → (row_of L s k a b).misfit.number ≡ 0 → (row_of L s k a b).wrong ≡ false
      → (row_of L s k a b).besides.number ≡ 0 → (refusal (sound L and in_range s) L s k a b).number ≡ 0
  unfolding refusal row_refusal numbers_refusal
  granted k a b there fit second order =
      first_none _ _ _ (first_none _ _ _ (when_none _ 18 0 (ap not (and_both _ _ ok ranged)))
      (first_none _ _ _ (when_none _ 2 a there) (first_none _ _ _ fit (last_none _ (when_none _ 3 0 second))))) (last_none _ order)

  -- cancel a route that is locked and not cancelling
  pub cancel_granted : (r : ℕ) → r < L.routes → phase s r ≢ 0 → phase s r ≢ 3
      → (refusal (sound L and in_range s) L s 5 r 0).number ≡ 0
  unfolding row_of row_with cancel_row when◌then◌else◌ cancel_refusal locked no_refusal refused
  cancel_granted r b locked standing =
      granted 5 r 0 (lt-leb _ r b) refl refl
      (first_none _ _ _ (when_none _ 13 r (ap (λ t. not (not t)) (ne_eqb _ 0 locked))) (last_none _ (when_none _ 14 r (ne_eqb _ 3 standing))))

  -- one second
  pub second_granted : (refusal (sound L and in_range s) L s 10 0 0).number ≡ 0
  unfolding row_of row_with second_row when◌then◌else◌ ◌and◌ no_refusal refused
  second_granted = granted 10 0 0 refl refl refl refl

  -- a section that has no heads reads, whatever the code
  pub reading_granted : (g code : ℕ) → g < L.sections → is_fitted L g ≡ false → (refusal (sound L and in_range s) L s 1 g code).number ≡ 0
  unfolding row_of row_with section_row when◌then◌else◌ no_refusal refused has_heads
  reading_granted g code b f = granted 1 g code (lt-leb _ g b) (when_none _ 34 g f) refl refl

  -- 30: of a section that has heads it is not given
  has_heads_law : (g : ℕ) → is_fitted L g ≡ true → (no_heads L g).number ≡ 0
  unfolding no_heads
  has_heads_law g f = when_none _ 30 g (ap not f)

  -- a head of such a section counts axles, in or out
  pub count_granted : (k a count : ℕ) → (k ≡ 11) ⊎ (k ≡ 12) → a < 2 * L.sections → is_fitted L (a / 2) ≡ true → count ≤ 65535
      → (refusal (sound L and in_range s) L s k a count).number ≡ 0
  unfolding row_of row_with head_row count_row when◌then◌else◌ no_refusal refused
  count_granted k a count (inl q) b f n = rw q (granted 11 a count (lt-leb _ a b) (has_heads_law _ f) (le-ltb _ _ n) refl)
  count_granted k a count (inr q) b f n = rw q (granted 12 a count (lt-leb _ a b) (has_heads_law _ f) (le-ltb _ _ n) refl)

  -- it is silent
  pub silence_granted : (a : ℕ) → a < 2 * L.sections → is_fitted L (a / 2) ≡ true → (refusal (sound L and in_range s) L s 13 a 0).number ≡ 0
  unfolding row_of row_with head_row silent_row when◌then◌else◌ no_refusal refused
  silence_granted a b f = granted 13 a 0 (lt-leb _ a b) (has_heads_law _ f) refl refl

  -- such a section is reset while both its heads speak
  pub reset_granted : (g : ℕ) → g < L.sections → is_fitted L g ≡ true → speaking (heads_at s.axles g) ≡ true → (refusal (sound L and in_range s) L s 14 g 0).number ≡ 0
  unfolding row_of row_with head_row reset_row still_silent heads_of head_section when◌then◌else◌ no_refusal refused
  reset_granted g b f t = granted 14 g 0 (lt-leb _ g b) (has_heads_law _ f) refl (when_none _ 35 g (ap not t))

  -- a point reads, whatever the code
  pub point_granted : (p code : ℕ) → p < L.points → (refusal (sound L and in_range s) L s 2 p code).number ≡ 0
  unfolding row_of row_with point_row when◌then◌else◌ no_refusal refused
  point_granted p code b = granted 2 p code (lt-leb _ p b) refl refl refl

  -- the lamp of a signal reports, whatever the code (L3)
  pub lamp_granted : (x code : ℕ) → x < signals_in L → (refusal (sound L and in_range s) L s 15 x code).number ≡ 0
  unfolding row_of row_with lamp_row when◌then◌else◌ no_refusal refused signals_in
  lamp_granted x code b = granted 15 x code (lt-leb _ x b) refl refl refl

  -- a block that there is is barred
  pub bar_granted : (l i : ℕ) → l < L.lines → i < (line_in L l).blocks → (refusal (sound L and in_range s) L s 8 l i).number ≡ 0
  unfolding row_of row_with bar_row when◌then◌else◌ no_refusal refused
  bar_granted l i b c = granted 8 l i (lt-leb _ l b) refl (lt-leb _ i c) refl

  -- or unbarred
  pub unbar_granted : (l i : ℕ) → l < L.lines → i < (line_in L l).blocks → (refusal (sound L and in_range s) L s 9 l i).number ≡ 0
  unfolding row_of row_with bar_row when◌then◌else◌ no_refusal refused
  unbar_granted l i b c = granted 9 l i (lt-leb _ l b) refl (lt-leb _ i c) refl

  -- a manual release, where no route is locked and the line's blocks read free
  pub release_granted : (l : ℕ) → l < L.lines → ((r : ℕ) → r < L.routes → phase s r ≡ 0)
      → ((i : ℕ) → i < (line_in L l).blocks → reading s.section (block L l i) ≡ 1) → (refusal (sound L and in_range s) L s 7 l 1).number ≡ 0
  unfolding row_of row_with manual_row between when◌then◌else◌ ◌and◌ manual_refusal exit_locked locked_exit locked_exit_by locked line_sections line_in no_refusal refused
  release_granted l b idle free =
      granted 7 l 1 (lt-leb _ l b) refl refl
      (first_none _ _ _ (found_none 17 _ _ (λ r c. fails_from _ (λ t. not_both (eq-eqb _ 0 (idle r c)) (not-true _ (and_left _ _ t)))))
      (last_none _ (all_free s.section _ (λ g c t.
      let (i, h, q) = any_some _ _ (sym (holds_set_of _ _ g c) ∙ t) in
      ap (reading s.section) (sym (eqb-true _ g q)) ∙ free i h))))

-- an event that nothing refuses is done
module _ (L : Layout) (s : State) (e : Event) (pass : (refusal (sound L and in_range s) L s e.kind e.first e.second).number ≡ 0) where
  -- it is answered by 0, and leads to the end of what it does
  pub step_granted : step L s e.kind e.first e.second ≡ record { number = 0; detail = 0; next = end L s e }
  unfolding step
  step_granted = step_done _ L s e.kind e.first e.second pass
