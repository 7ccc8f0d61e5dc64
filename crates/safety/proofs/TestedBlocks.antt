-- Tests on a history that hold just where what they test does: completed passages and waits for them (L3), and cleared blocks. Where a test is cheap it
-- stands first.
use Prim.Native.Nat.{ℕ, zero, suc, ◌<◌}
use mathlib.Core.Path.{◌≡◌, refl}
use mathlib.Core.Logic.Iff
use mathlib.Core.Logic.{◌⊎◌, ◌↔◌, inl, inr}
use mathlib.Core.Bool.{Bool, true, false, not}
use mathlib.Core.List.{[], ◌∷◌}
use lib.Dec.{eqb}
use Rattle.laws.specs.Tests.{◌and◌, ◌or◌, every, any_below}
use Rattle.laws.proofs.Tests.{and_right, and_both, or_right, not_both}
use Rattle.track.specs.Codes.{free, entrance_route, release_line, lamp_stop}
use Rattle.track.specs.SignalNumbers.{number_of}
use Rattle.passage.specs.Passage.{arrival, from_arrival}
use Rattle.layout.specs.declared.Layout.{Layout}
use Rattle.layout.specs.Layout.{line_in, route_in}
use Rattle.layout_facts.proofs.Means.{eqb_means, not_means, and_means, or_means, lastly, ◌also◌, ◌&◌, every_means, any_means}
use Rattle.safety.specs.History.{Moment, History, gave_block, block_reads, lamp_told, Releases, Since, LeavesFree}
use Rattle.safety.specs.Cleared.{far_signal, Closes, StopLit, ReleasesEntrance, WaitsFor, CompletedBy, while_lit, with_beyond, later, FreesBeyond, Waits, Completed, Cleared, by_passage, by_hand, Opened}
use Rattle.safety.proofs.Tested.{since_test, since_means, accepted_test, accepted_means, way_test, some_way, way_shown, leaves_test, closes_test, closes_means}
use Rattle.safety.proofs.TestedLocks.{locked_test, locked_means}

-- ---- a stop that isn't shown (L3)

-- the latest report of the far signal's lamp was stop
abbrev stop_lit_test : Layout → ℕ → ℕ → ℕ → History → Bool
stop_lit_test L l i w h = eqb (lamp_told (number_of L.signals L.line (far_signal L l i w)) h) lamp_stop

-- the event released entrance route r of the arrival end
abbrev releases_entrance_test : Layout → ℕ → ℕ → Moment → History → ℕ → Bool
releases_entrance_test L l w m h r = every (
    eqb (route_in L r).kind entrance_route
    ∷ eqb (route_in L r).line l
    ∷ eqb (route_in L r).end (arrival w)
    ∷ locked_test L r h
    ∷ not (locked_test L r (m ∷ h))
    ∷ [])

-- part by part
releases_entrance_means : (L : Layout) (l w : ℕ) (m : Moment) (h : History) (r : ℕ) → r < L.routes
    → releases_entrance_test L l w m h r ≡ true ↔ ReleasesEntrance L l w m h r
releases_entrance_means L l w m h r b =
    Iff.trans
    (every_means (eqb_means _ entrance_route also eqb_means _ l also eqb_means _ (arrival w) also locked_means L r h also lastly (not_means (locked_means L r (m ∷ h))))) (
      λ (k, (o, (e, (c, g)))). record { there = b; is_entrance = k; of_line = o; of_end = e; locked = c; released = g },
      λ R. R.is_entrance & R.of_line & R.of_end & R.locked & R.released,
    )

module _ (L : Layout) (l i w : ℕ) (beyond : Moment → History → Bool) where
  -- the block waits, where `beyond` tests of an event that it freed what lies beyond it; this is asked last
  abbrev waits_for_test : History → Bool
  waits_for_test [] = false
  waits_for_test (m ∷ h) =
      (closes_test L l i w m h and (not (stop_lit_test L l i w h) and not (beyond m h)))
      or ((leaves_test (gave_block L l i) m h and not (accepted_test release_line l m)) and (waits_for_test h and not (beyond m h)))

  -- the event completed its passage
  abbrev completed_by_test : Moment → History → Bool
  completed_by_test m h =
      (closes_test L l i w m h and (stop_lit_test L l i w h or beyond m h)) or (leaves_test (gave_block L l i) m h and (waits_for_test h and beyond m h))

  module _ {Beyond : Moment → History → Type 0} (B : (m : Moment) (h : History) → beyond m h ≡ true ↔ Beyond m h) where
    -- event by event: the closing one, or one that left the block waiting
    waits_for_means : (h : History) → waits_for_test h ≡ true ↔ WaitsFor L l i w Beyond h
    unfolding Since
    waits_for_means [] = (λ t. not_both t refl, λ x. absurd x)
    waits_for_means (m ∷ h) =
        or_means
        (Iff.trans (and_means (closes_means L l i w m h) (and_means (not_means (eqb_means _ lamp_stop)) (not_means (B m h)))) (λ (c, (d, n)). (c, d, n), λ u. (u.0, (u.1, u.2))))
        (Iff.trans (and_means (and_means (eqb_means _ free) (not_means (accepted_means release_line l m))) (and_means (waits_for_means h) (not_means (B m h))))
        (λ ((f, r), (x, n)). ((f, r, n), x), λ (u, x). ((u.0, u.1), (x, u.2))))

    -- the three ways
    completed_by_means : (m : Moment) (h : History) → completed_by_test m h ≡ true ↔ CompletedBy L l i w Beyond m h
    completed_by_means m h =
        Iff.trans
        (or_means (and_means (closes_means L l i w m h) (or_means (eqb_means _ lamp_stop) (B m h)))
        (and_means (eqb_means _ free) (and_means (waits_for_means h) (B m h)))) (to, from)
      where
        to : (Closes L l i w m h × (StopLit L l i w h ⊎ Beyond m h)) ⊎ (LeavesFree (gave_block L l i) m h × (WaitsFor L l i w Beyond h × Beyond m h))
            → CompletedBy L l i w Beyond m h
        to (inl (c, inl s)) = while_lit c s
        to (inl (c, inr b)) = with_beyond c b
        to (inr (f, (x, b))) = later x f b

        from : CompletedBy L l i w Beyond m h
            → (Closes L l i w m h × (StopLit L l i w h ⊎ Beyond m h)) ⊎ (LeavesFree (gave_block L l i) m h × (WaitsFor L l i w Beyond h × Beyond m h))
        from (while_lit c s) = inl (c, inl s)
        from (with_beyond c b) = inl (c, inr b)
        from (later x f b) = inr (f, (x, b))

-- the event freed what lies beyond the block that is counted d from the arrival end
abbrev frees_beyond_test : Layout → ℕ → ℕ → ℕ → Moment → History → Bool
frees_beyond_test L l w zero m h = any_below L.routes (releases_entrance_test L l w m h)
frees_beyond_test L l w (suc d) m h = completed_by_test L l (from_arrival (line_in L l) w d) w (frees_beyond_test L l w d) m h

-- route by route, and from the last block back
frees_beyond_means : (L : Layout) (l w d : ℕ) (m : Moment) (h : History) → frees_beyond_test L l w d m h ≡ true ↔ FreesBeyond L l w d m h
unfolding FreesBeyond
frees_beyond_means L l w zero m h = Iff.trans (any_means (releases_entrance_means L l w m h)) (λ s. (s.0, s.2), λ s. (s.0, s.1.there, s.1))
frees_beyond_means L l w (suc d) m h = completed_by_means L l (from_arrival (line_in L l) w d) w (frees_beyond_test L l w d) (frees_beyond_means L l w d) m h

module _ (L : Layout) (l i : ℕ) where
  -- what lies beyond the block was freed
  abbrev beyond_test : ℕ → Moment → History → Bool
  beyond_test w = frees_beyond_test L l w (from_arrival (line_in L l) w i)

  -- so it was
  beyond_means : (w : ℕ) (m : Moment) (h : History) → beyond_test w m h ≡ true ↔ FreesBeyond L l w (from_arrival (line_in L l) w i) m h
  beyond_means w = frees_beyond_means L l w (from_arrival (line_in L l) w i)

  -- the block waits in some direction
  abbrev pub some_waits_test : History → Bool
  some_waits_test h = way_test L l i (λ w. waits_for_test L l i w (beyond_test w) h) h

  -- the direction of a wait was shown, in the event of the drop before it
  wait_shown : (w : ℕ) (p : ℕ → Bool) → p w ≡ true → (h : History) → Waits L l i w h → way_test L l i p h ≡ true
  unfolding Since
  wait_shown w p t [] x = absurd x
  wait_shown w p t (m ∷ h) (inl c) = or_right _ _ (way_shown L l i w p t h c.0.passage)
  wait_shown w p t (m ∷ h) (inr k) = or_right _ _ (wait_shown w p t h k.1)

  -- so it does just where the test says so
  pub some_waits_means : (h : History) → some_waits_test h ≡ true ↔ (w : ℕ) × Waits L l i w h
  some_waits_means h = (
    λ t. let (w, u) = some_way L l i (λ x. waits_for_test L l i x (beyond_test x) h) h t in (w, (waits_for_means L l i w _ (beyond_means w) h).0 u),
    λ (w, x). wait_shown w (λ y. waits_for_test L l i y (beyond_test y) h) ((waits_for_means L l i w _ (beyond_means w) h).1 x) h x,
  )

  -- the event completed its passage in direction w
  abbrev pub completed_test : ℕ → Moment → History → Bool
  completed_test w = completed_by_test L l i w (beyond_test w)

  -- by what lies beyond it
  pub completed_means : (w : ℕ) (m : Moment) (h : History) → completed_test w m h ≡ true ↔ Completed L l i w m h
  completed_means w = completed_by_means L l i w _ (beyond_means w)

  -- it completed one in some direction
  abbrev pub some_completed_test : Moment → History → Bool
  some_completed_test m h = leaves_test (gave_block L l i) m h and way_test L l i (λ w. completed_test w m h) h

  -- whatever the direction: after it the block reads free, and that direction was shown
  pub some_completed_means : (m : Moment) (h : History) → some_completed_test m h ≡ true ↔ (w : ℕ) × Completed L l i w m h
  some_completed_means m h = (
    λ t. let (w, u) = some_way L l i (λ x. completed_test x m h) h (and_right _ _ t) in (w, (completed_means w m h).0 u),
    λ (w, c). both w c ((completed_means w m h).1 c),
  )
    where
      both : (w : ℕ) → Completed L l i w m h → completed_test w m h ≡ true → some_completed_test m h ≡ true
      both w (while_lit c s) t = and_both _ _ ((eqb_means _ free).1 c.ends.1) (way_shown L l i w (λ x. completed_test x m h) t h c.passage)
      both w (with_beyond c b) t = and_both _ _ ((eqb_means _ free).1 c.ends.1) (way_shown L l i w (λ x. completed_test x m h) t h c.passage)
      both w (later x f b) t = and_both _ _ ((eqb_means _ free).1 f) (wait_shown w (λ y. completed_test y m h) t h x)

-- ---- a block that was cleared

-- it was cleared by a passage
abbrev pub passed_test : Layout → ℕ → ℕ → History → Bool
passed_test L l i h = since_test (some_completed_test L l i) (leaves_test (gave_block L l i)) h

-- it was cleared by hand
abbrev pub by_hand_test : Layout → ℕ → ℕ → History → Bool
by_hand_test L l i h =
    since_test (λ m older. accepted_test release_line l m and leaves_test (gave_block L l i) m older) (leaves_test (gave_block L l i)) h

module _ (L : Layout) (l i : ℕ) where
  -- one direction serves for all events since
  some_passed : (h : History) → Since (λ m older. (w : ℕ) × Completed L l i w m older) (LeavesFree (gave_block L l i)) h
      → (w : ℕ) × Since (Completed L l i w) (LeavesFree (gave_block L l i)) h
  unfolding Since
  some_passed [] x = absurd x
  some_passed (m ∷ h) (inl (w, c)) = (w, inl c)
  some_passed (m ∷ h) (inr (f, x)) = let (w, y) = some_passed h x in (w, inr (f, y))

  -- and the other way round
  passed_some : (w : ℕ) (h : History) → Since (Completed L l i w) (LeavesFree (gave_block L l i)) h
      → Since (λ m older. (w : ℕ) × Completed L l i w m older) (LeavesFree (gave_block L l i)) h
  unfolding Since
  passed_some w [] x = absurd x
  passed_some w (m ∷ h) (inl c) = inl (w, c)
  passed_some w (m ∷ h) (inr (f, x)) = inr (f, passed_some w h x)

  -- so for a passage
  pub passed_means : (h : History) → passed_test L l i h ≡ true ↔ (w : ℕ) × Since (Completed L l i w) (LeavesFree (gave_block L l i)) h
  passed_means h = Iff.trans (since_means (some_completed_means L l i) (λ m h. eqb_means _ free) h) (some_passed h, λ (w, x). passed_some w h x)

  -- and by hand
  pub by_hand_means : (h : History) → by_hand_test L l i h ≡ true ↔ Since (λ m older. Releases l m × LeavesFree (gave_block L l i) m older) (LeavesFree (gave_block L l i)) h
  by_hand_means = since_means (λ m h. and_means (accepted_means release_line l m) (eqb_means _ free)) (λ m h. eqb_means _ free)

  -- one or the other
  pub cleared_means : (h : History) → passed_test L l i h or by_hand_test L l i h ≡ true ↔ Cleared L l i h
  cleared_means h = Iff.trans (or_means (passed_means h) (by_hand_means h)) (to, from)
    where
      to : ((w : ℕ) × Since (Completed L l i w) (LeavesFree (gave_block L l i)) h)
          ⊎ Since (λ m older. Releases l m × LeavesFree (gave_block L l i) m older) (LeavesFree (gave_block L l i)) h → Cleared L l i h
      to (inl (w, p)) = by_passage w p
      to (inr r) = by_hand r

      from : Cleared L l i h
          → ((w : ℕ) × Since (Completed L l i w) (LeavesFree (gave_block L l i)) h)
          ⊎ Since (λ m older. Releases l m × LeavesFree (gave_block L l i) m older) (LeavesFree (gave_block L l i)) h
      from (by_passage w p) = inl (w, p)
      from (by_hand r) = inr r

-- the block is to be open
abbrev pub opened_test : Layout → ℕ → ℕ → History → Bool
opened_test L l i h = eqb (block_reads L l i h) free and (passed_test L l i h or by_hand_test L l i h)

-- it reads free, and was cleared
pub opened_means : (L : Layout) (l i : ℕ) (h : History) → opened_test L l i h ≡ true ↔ Opened L l i h
opened_means L l i h =
    Iff.trans (and_means (eqb_means _ free) (cleared_means L l i h)) (λ (f, c). record { is_free = f; cleared = c }, λ o. (o.is_free, o.cleared))
