-- Points: what a point reads in the state is what the history tells.
use Prim.Native.Nat.{ℕ, ◌<◌}
use mathlib.Core.Path.{◌≡◌, refl, sym, ap, ◌∙◌}
use mathlib.Core.Logic.{◌≢◌}
use mathlib.Core.Bool.{true}
use mathlib.Core.List.{◌∷◌}
use native.Mathlib.Decide.{ℕ_discrete}
use native.Mathlib.Omega.{arith}
use borrow.Author.Tests.{eqb-true, eq-eqb}
use lib.Dec.{eqb}
use Rattle.laws.specs.Choice.{when◌then◌else◌}
use Rattle.laws.specs.Tests.{◌and◌}
use Rattle.laws.specs.Tables.{read}
use Rattle.laws.proofs.Tests.{and_left, and_right, and_both, fails_from}
use Rattle.track.specs.Sizes.{most_points}
use Rattle.tables.specs.Readings.{recorded, point_reading}
use Rattle.layout.specs.declared.Layout.{Layout}
use Rattle.layout.specs.Sound.{sound}
use Rattle.layout_facts.specs.Plain.{Sound}
use Rattle.interlocking.specs.declared.State.{State}
use Rattle.interlocking.specs.State.{in_range, with_points, with_routes, with_lines, with_bars}
use Rattle.interlocking.specs.Own.{own_point, throw_reading, own_throw, own_bar}
use Rattle.interlocking.specs.Settle.{signals, far_sections, routes_by, routes, arrivals, line_release, settle}
use Rattle.interlocking.specs.Step.{refusal, after}
use Rattle.step_facts.specs.Run.{Event}
use Rattle.safety.specs.History.{Moment, History, Accepted}
use Rattle.safety.specs.Lights.{position}
use Rattle.laws.proofs.Choice.{chosen, passed_over}
use Rattle.step_facts.proofs.Entries.{point_at, put_here, put_elsewhere}
use Rattle.step_facts.proofs.Within.{On, end, Placed, point_read, thrown, barred, unbarred, untouched, is_placed}
use Rattle.step_facts.proofs.Granted.{point_granted}
use Rattle.safety.proofs.Given.{granted}
use Rattle.safety.proofs.Invariant.{Inv}

-- ---- the history

module _ (m : Moment) (h : History) (p : ℕ) where
  -- a reading of the point: what is recorded of its code
  position_read : On 2 m.event p → position p (m ∷ h) ≡ recorded m.event.second
  unfolding position recorded
  position_read u = chosen _ _ _ (and_both _ _ (eq-eqb _ 2 u.0) (eq-eqb _ p u.1))

  -- an accepted throw of it: none, unless it read that position
  position_thrown : Accepted 3 p m → position p (m ∷ h) ≡ when eqb (position p h) m.event.second then m.event.second else 3
  unfolding position
  position_thrown u =
      let k = u.1 in
      passed_over _ _ _ (fails_from _ (λ t. let j = eqb-true m.event.kind 2 (and_left _ _ t) in omega arith))
      ∙ chosen _ _ _ (and_both _ _ (eq-eqb _ 0 u.0) (and_both _ _ (eq-eqb _ 3 k) (eq-eqb _ p u.2)))

  -- any other event leaves it
  position_kept : ¬ On 2 m.event p → ¬ Accepted 3 p m → position p (m ∷ h) ≡ position p h
  unfolding position
  position_kept n d =
      passed_over _ _ _ (fails_from _ (λ t. n (eqb-true _ 2 (and_left _ _ t), eqb-true _ p (and_right _ _ t))))
      ∙ passed_over _ _ _ (fails_from _ (λ t. let u = and_right _ _ t in d (eqb-true _ 0 (and_left _ _ t), eqb-true _ 3 (and_left _ _ u), eqb-true _ p (and_right _ _ u))))

-- ---- an accepted event

-- what point p reads after it: what it is given, what a throw leaves, or what it read
data PointCase (s : State) (e : Event) (p x : ℕ) : Type 0 where
  reads : On 2 e p → x ≡ recorded e.second → PointCase s e p x
  throws : On 3 e p → x ≡ throw_reading s.point p e.second → PointCase s e p x
  leaves : ¬ On 2 e p → ¬ On 3 e p → x ≡ point_at s p → PointCase s e p x

module _ (L : Layout) (S : Sound L) (s : State) (h : History) (I : Inv L s h) (e : Event) (p : ℕ) (b : p < L.points) where
  -- by its kind; nothing that follows the event's own effect touches points
  point_case : PointCase s e p (point_at (end L s e) p)
  unfolding after settle line_release with_lines arrivals routes routes_by with_routes far_sections signals own_point own_throw own_bar with_points with_bars point_reading
  point_case = go (is_placed L s e)
    where
      below : p < most_points
      below = omega (arith, S.ranges.point_count)

      other : (k : ℕ) → e.kind ≢ k → ¬ On k e p
      other k d u = d u.0

      elsewhere : (k : ℕ) → p ≢ e.first → ¬ On k e p
      elsewhere k d u = d (sym u.1)

      go : {t : State} → Placed s e t → PointCase s e p (point_at t p)
      go (point_read q) = at (ℕ_discrete p e.first)
        where
          at : Dec (p ≡ e.first) → PointCase s e p (point_at (own_point s e.first (recorded e.second)) p)
          at (yes f) = reads (q, sym f) (put_here most_points 3 s.point _ _ p below f)
          at (no d) = leaves (elsewhere 2 d) (elsewhere 3 d) (put_elsewhere most_points 3 s.point _ _ p below d)
      go (thrown q) = at (ℕ_discrete p e.first)
        where
          at : Dec (p ≡ e.first) → PointCase s e p (point_at (own_throw s e.first e.second) p)
          at (yes f) = throws (q, sym f) (put_here most_points 3 s.point _ _ p below f ∙ ap (λ a. throw_reading s.point a e.second) (sym f))
          at (no d) = leaves (elsewhere 2 d) (elsewhere 3 d) (put_elsewhere most_points 3 s.point _ _ p below d)
      go (barred q) = leaves (other 2 (omega arith)) (other 3 (omega arith)) refl
      go (unbarred q) = leaves (other 2 (omega arith)) (other 3 (omega arith)) refl
      go (untouched d u) = leaves (other 2 d.0) (other 3 d.1) (ap (λ xs. read most_points 3 xs p) u.0)

  -- it reads what the history tells
  pub point_accepted : point_at (end L s e) p ≡ position p (granted L s e ∷ h)
  unfolding throw_reading
  point_accepted = go point_case
    where
      go : PointCase s e p (point_at (end L s e) p) → point_at (end L s e) p ≡ position p (granted L s e ∷ h)
      go (reads u x) = x ∙ sym (position_read (granted L s e) h p u)
      go (throws u x) =
          x ∙ ap (λ n. when eqb n e.second then e.second else 3) (I.points p b) ∙ sym (position_thrown (granted L s e) h p (refl, u.0, u.1))
      go (leaves n d x) = x ∙ I.points p b ∙ sym (position_kept (granted L s e) h p n (λ u. d (u.1, u.2)))

-- ---- a refused event is no reading of a point that there is, which would be accepted, and no accepted throw

pub point_refused : (L : Layout) → sound L ≡ true → (s : State) (h : History) → Inv L s h → (m : Moment) → m.number ≢ 0
    → (refusal (sound L and in_range s) L s m.event.kind m.event.first m.event.second).number ≢ 0
    → (p : ℕ) → p < L.points → point_at s p ≡ position p (m ∷ h)
point_refused L ok s h I m n d p b =
    I.points p b ∙ sym (position_kept m h p (λ u. d (rw (u.0, u.1) (point_granted L s ok I.ranged p m.event.second b))) (λ u. n u.0))
