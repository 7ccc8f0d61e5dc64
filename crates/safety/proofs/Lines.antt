-- The direction of a line is the one in which the history tells that it is secured (section 5).
use Prim.Native.Nat.{ℕ, ◌<◌, ◌≤◌}
use mathlib.Core.Path.{◌≡◌, refl, sym, ◌∙◌}
use mathlib.Core.Logic.{◌≢◌, ◌⊎◌, ◌↔◌, inl, inr, ⊎_elim}
use mathlib.Core.Bool.{true}
use mathlib.Core.List.{◌∷◌}
use native.Mathlib.Decide.{ℕ_discrete}
use native.Mathlib.Omega.{arith}
use borrow.Author.Tests.{eqb-true, eqb-false, eq-eqb, ne_eqb, not-true}
use lib.Dec.{eqb}
use Rattle.laws.specs.Tests.{◌and◌, ◌or◌}
use Rattle.laws.proofs.Tests.{and_left, and_right, and_both, or_left, or_right, or_cases, not_both, fails_not, every_at, every_one, every_more, all_at, all_from, any_none, any_fails}
use Rattle.track.specs.Sizes.{most_lines}
use Rattle.tables.specs.Blocks.{stage_of, is_open, unbarred}
use Rattle.tables.specs.Locks.{locked, locked_exit_by, locked_exit}
use Rattle.line_block.specs.LineRelease.{passable, was_passed, ends_by, direction_after, directions_after}
use Rattle.line_block.specs.LineRelease as release
use Rattle.layout.specs.declared.Layout.{Layout}
use Rattle.layout.specs.Layout.{line_in, route_in}
use Rattle.layout.specs.Sound.{sound}
use Rattle.layout_facts.specs.Plain.{nearest_block, Sound}
use Rattle.layout_facts.proofs.Uses.{nearest_there}
use Rattle.interlocking.specs.declared.State.{State}
use Rattle.interlocking.specs.State.{in_range, with_routes, with_lines}
use Rattle.interlocking.specs.Own.{own_secure, own_manual}
use Rattle.interlocking.specs.Settle.{signals, far_sections, routes_by, routes, arrivals, line_release, settle}
use Rattle.interlocking.specs.Step.{refusal, after}
use Rattle.step_facts.specs.Run.{Event}
use Rattle.safety.specs.History.{Moment, History, gave_section}
use Rattle.safety.specs.Locked.{Locked}
use Rattle.safety.specs.Secured.{Barred, last_block, LineEnds, StaysSecured, by_order, by_route, Secured, Neutral}
use Rattle.laws.proofs.Choice.{chosen, passed_over}
use Rattle.step_facts.proofs.Entries.{phase, direction, stage, bar_at, ends, read_each, put_here}
use Rattle.step_facts.proofs.Passed.{set_there}
use Rattle.step_facts.proofs.Range.{in_range_means, read_within}
use Rattle.step_facts.proofs.Tells.{tells_no_order}
use Rattle.step_facts.proofs.Within.{On, done, waited, end, Done, reads, sets, cancels, secures, opens, leaves, is_done, released}
use Rattle.step_facts.proofs.Securing.{Departs, Secures, departing, direction_same, departs_way, secures_neutral}
use Rattle.safety.proofs.Given.{granted}
use Rattle.safety.proofs.Invariant.{Inv}
use Rattle.safety.proofs.Blocks.{on}
use Rattle.safety.proofs.Through.{few_stages}
use Rattle.safety.proofs.Freed.{completed_way, opens_completed}
use Rattle.safety.proofs.Held.{opens_told}
use Rattle.safety.proofs.Refused.{quiet_completes}

-- the last block in travel is there
last_there : (L : Layout) → Sound L → (l w : ℕ) → l < L.lines → last_block L l w < (line_in L l).blocks
last_there L S l w b = nearest_there L S l _ b

-- a line is neutral just where the history tells it, since it has one of three codes
pub neutral_told : (L : Layout) (s : State) (h : History) → Inv L s h → (l : ℕ) → l < L.lines → (direction s l ≡ 0 ↔ Neutral L l h)
neutral_told L s h I l b = (λ z. (unsecured z 1 (omega arith), unsecured z 2 (omega arith)), λ n. go n (ℕ_discrete (direction s l) 1) (ℕ_discrete (direction s l) 2))
  where
    unsecured : direction s l ≡ 0 → (w : ℕ) → w ≢ 0 → ¬ Secured L l w h
    unsecured z w d y = d (sym ((I.lines l b w d).1 y) ∙ z)

    few : direction s l ≤ 2
    few = (read_within ((in_range_means s).0 I.ranged).direction 0 l (omega arith)).1

    go : Neutral L l h → Dec (direction s l ≡ 1) → Dec (direction s l ≡ 2) → direction s l ≡ 0
    go n (yes q) y = absurd (n.0 ((I.lines l b 1 (omega arith)).0 q))
    go n (no x) (yes q) = absurd (n.1 ((I.lines l b 2 (omega arith)).0 q))
    go n (no x) (no y) = omega (arith, few)

-- ---- the direction within one event

module _ (L : Layout) (few : L.lines ≤ most_lines) (s : State) (e : Event) (l : ℕ) (b : l < L.lines) where
  -- the line that is released by hand is neutral, as far as the event itself goes
  by_hand_now : On 7 e l → direction (done L s e) l ≡ 0
  unfolding own_manual with_lines
  by_hand_now u = go (is_done L s e)
    where
      go : {t : State} → Done L s e t → direction t l ≡ 0
      go (reads t) = absurd (tells_no_order t (let v = u.0 in omega arith))
      go (sets k) = absurd (let v = u.0 in omega arith)
      go (cancels k) = absurd (let v = u.0 in omega arith)
      go (secures k) = absurd (let v = u.0 in omega arith)
      go (opens k) = put_here most_lines 0 s.direction _ 0 l (omega arith) (sym u.1)
      go (leaves f v) = absurd (f.3 u.0)

  -- the line that is secured has the direction that was ordered
  by_order_law : On 6 e l → direction (done L s e) l ≡ e.second
  unfolding own_secure with_lines
  by_order_law u = go (is_done L s e)
    where
      go : {t : State} → Done L s e t → direction t l ≡ e.second
      go (reads t) = absurd (tells_no_order t (let v = u.0 in omega arith))
      go (sets k) = absurd (let v = u.0 in omega arith)
      go (cancels k) = absurd (let v = u.0 in omega arith)
      go (secures k) = put_here most_lines 0 s.direction _ _ l (omega arith) (sym u.1)
      go (opens k) = absurd (let v = u.0 in omega arith)
      go (leaves f v) = absurd (f.2 u.0)

  -- and then the line release
  direction_end : direction (end L s e) l ≡ direction_after (ends L s (waited L s e)) l (direction (done L s e) l)
  unfolding after settle line_release directions_after with_lines arrivals routes routes_by with_routes far_sections signals direction_after line_in
  direction_end = read_each most_lines 0 L.lines _ (done L s e).direction l (omega arith) b

  -- a line that is not neutral at the end is as the event itself left it
  kept : direction (end L s e) l ≢ 0 → direction (end L s e) l ≡ direction (done L s e) l
  kept d = go (released L few s e l b)
    where
      go : (direction (end L s e) l ≡ direction (done L s e) l)
          ⊎ ((direction (end L s e) l ≡ 0) × (ends L s (waited L s e) l (direction (done L s e) l) ≡ true))
          → direction (end L s e) l ≡ direction (done L s e) l
      go (inl q) = q
      go (inr t) = absurd (d t.0)

-- ---- an accepted event

module _ (L : Layout) (S : Sound L) (s : State) (h : History) (I : Inv L s h) (e : Event)
    (pass : (refusal (sound L and in_range s) L s e.kind e.first e.second).number ≡ 0)
    (locks : (r : ℕ) → r < L.routes → (phase (end L s e) r ≢ 0 ↔ Locked L r (granted L s e ∷ h))) (l : ℕ) (b : l < L.lines)
    (bars : (i : ℕ) → i < (line_in L l).blocks → (bar_at (end L s e) l i ≢ 0 ↔ Barred l i (granted L s e ∷ h))) where
  few : L.lines ≤ most_lines
  few = S.ranges.line_count

  -- the line release comes only where the history tells: the last block in travel was in stage 2 or 3, and is open
  ends_told : ¬ On 7 e l → (w : ℕ) → direction s l ≡ w → ends L s (waited L s e) l w ≡ true → LineEnds L l w (granted L s e) h
  unfolding ends_by was_passed stage_of passable is_open unbarred locked_exit locked_exit_by locked release.last_block nearest_block line_in route_in after settle line_release with_lines
  ends_told n w way t = record {
    held = λ O. let z = (I.blocks l last b c).opens.1 O in omega (arith, was);
    completes = rw way at ((opens_completed L S s h I e pass locks l b n last c was).1 (omega (arith, was), opens last c));
    all_open = λ j k. (opens_told L S s h I e pass l j b k locks).0 (opens j k);
    no_exit = λ r k x q y. not_both (and_both _ _ (fails_not _ (ne_eqb (phase (end L s e) r) 0 ((locks r k).1 y))) (and_both _ _ (eq-eqb _ 2 x) (eq-eqb _ l q)))
        (any_none _ _ (not-true _ (every_at _ t 2)) r k);
    no_bar = λ j k x. (bars j k).1 x (eqb-true _ 0 (and_right _ _ (all_at _ _ (every_at _ t 1) j k)));
  }
    where
      last : ℕ
      last = last_block L l w

      c : last < (line_in L l).blocks
      c = last_there L S l w b

      was : 3 ≤ stage s l last
      was = ⊎_elim (λ x. let q = eqb-true (stage s l last) 3 x in omega arith) (λ x. let q = eqb-true (stage s l last) 4 x in omega arith) (or_cases _ _ (every_at _ t 0))

      opens : (j : ℕ) → j < (line_in L l).blocks → stage (end L s e) l j ≡ 0
      opens j k = eqb-true _ 0 (and_left _ _ (all_at _ _ (every_at _ t 1) j k))

  -- and where the history tells it, it comes
  ends_from : ¬ On 7 e l → (w : ℕ) → LineEnds L l w (granted L s e) h → ends L s (waited L s e) l w ≡ true
  unfolding ends_by was_passed stage_of passable is_open unbarred locked_exit locked_exit_by locked release.last_block nearest_block line_in route_in after settle line_release with_lines
  ends_from n w E =
      every_more _ _ _ (passed (completed_way L S s h I e pass locks l b n (last_block L l w) (last_there L S l w b) w E.completes).0 (ℕ_discrete (stage s l (last_block L l w)) 3))
      (every_more _ _ _ (all_from _ _ (λ j k. and_both _ _ (eq-eqb _ 0 ((opens_told L S s h I e pass l j b k locks).1 (E.all_open j k))) (eq-eqb _ 0 (clear j k (ℕ_discrete (bar_at (end L s e) l j) 0)))))
      (every_one _ (fails_not _ (any_fails _ _ (λ r k t.
      let u = and_right _ _ t in
      E.no_exit r k (eqb-true _ 2 (and_left _ _ u)) (eqb-true _ l (and_right _ _ u)) ((locks r k).0 (eqb-false _ 0 (not-true _ (and_left _ _ t)))))))))
    where
      clear : (j : ℕ) → j < (line_in L l).blocks → Dec (bar_at (end L s e) l j ≡ 0) → bar_at (end L s e) l j ≡ 0
      clear j k (yes z) = z
      clear j k (no d) = absurd (E.no_bar j k ((bars j k).0 d))

      passed : 3 ≤ stage s l (last_block L l w) → Dec (stage s l (last_block L l w) ≡ 3)
          → eqb (stage s l (last_block L l w)) 3 or eqb (stage s l (last_block L l w)) 4 ≡ true
      passed k (yes q) = or_left _ _ (eq-eqb _ 3 q)
      passed k (no q) = or_right _ _ (eq-eqb (stage s l (last_block L l w)) 4 (omega (arith, few_stages s I.ranged l (last_block L l w))))

  -- a line that was neutral has no block in stage 2 or 3, so no line release comes
  not_ending : (w : ℕ) → direction s l ≡ 0 → ends L s (waited L s e) l w ≡ true → ⊥
  unfolding ends_by was_passed stage_of release.last_block nearest_block line_in
  not_ending w z t =
      let B = I.blocks l (last_block L l w) b (last_there L S l w b) in
      ⊎_elim (λ x. (B.passes (eqb-true _ 3 x)).0 z) (λ x. (B.holds (eqb-true _ 4 x)).0 z) (or_cases _ _ (every_at _ t 0))

  -- a line that the event neither secures nor releases by hand
  unmoved : ¬ Secures L s e l → ¬ On 7 e l → direction (done L s e) l ≡ direction s l
  unmoved = direction_same L few s e l b

  -- a line with a direction was secured so: by this event, or before and it stayed
  secured_then : (w : ℕ) → w ≢ 0 → direction (end L s e) l ≡ w → Secured L l w (granted L s e ∷ h)
  unfolding Secured direction_after
  secured_then w d q = go (on 6 e l) (departing L s e l)
    where
      own : direction (done L s e) l ≡ w
      own = sym (kept L few s e l b (omega arith)) ∙ q

      hand : ¬ On 7 e l
      hand u = d (sym own ∙ by_hand_now L few s e l b u)

      go : Dec (On 6 e l) → Dec (Departs L s e l) → Secured L l w (granted L s e ∷ h)
      go (yes u) x = inl (by_order (refl, u.0, u.1) (sym (by_order_law L few s e l b u) ∙ own))
      go (no n) (yes D) = inl (by_route e.first
          (record { sets = (refl, D.is_set, refl); there = set_there L s e pass D.is_set; is_exit = D.is_exit; of_line = D.of_line; way = sym (departs_way L few s e l b D) ∙ own })
          ((neutral_told L s h I l b).0 D.is_neutral))
      go (no n) (no x) =
          let was : direction s l ≡ w = sym (unmoved (⊎_elim n x) hand) ∙ own in
          inr (
            record {
              no_order = λ u. n (u.1, u.2);
              no_release = λ u. hand (u.1, u.2);
              no_end = λ E. d (sym q ∙ direction_end L few s e l b ∙ passed_over _ _ _ (ne_eqb (direction (done L s e) l) 0 (omega (arith, own))) ∙ chosen _ _ _ (rw own (ends_from hand w E)));
            },
            (I.lines l b w d).0 was,
          )

  -- a neutral line that the event gives direction w has it at the end too
  secured_now : (w : ℕ) → direction s l ≡ 0 → direction (done L s e) l ≡ w → direction (end L s e) l ≡ w
  secured_now w z own = ⊎_elim (λ q. q ∙ own) (λ t. absurd (not_ending _ z t.1)) (released L few s e l b)

  -- and one that was secured so has that direction
  secures_then : (w : ℕ) → w ≢ 0 → Secured L l w (granted L s e ∷ h) → direction (end L s e) l ≡ w
  unfolding Secured
  secures_then w d (inl (by_order u v)) =
      let ordered : On 6 e l = (u.1, u.2) in
      secured_now w (secures_neutral L s e pass l (inl ordered)) (by_order_law L few s e l b ordered ∙ v)
  secures_then w d (inl (by_route r x n)) =
      let at : e.first ≡ r = x.sets.2 in
      let D : Departs L s e l = record { is_set = x.sets.1; is_exit = rw at x.is_exit; of_line = rw at x.of_line; is_neutral = (neutral_told L s h I l b).1 n } in
      secured_now w D.is_neutral (departs_way L few s e l b D ∙ rw at x.way)
  secures_then w d (inr u) = go (released L few s e l b)
    where
      was : direction s l ≡ w
      was = (I.lines l b w d).1 u.1

      own : direction (done L s e) l ≡ w
      own = unmoved (⊎_elim (λ v. u.0.no_order (refl, v.0, v.1)) (λ D. d (sym was ∙ D.is_neutral))) (λ v. u.0.no_release (refl, v.0, v.1)) ∙ was

      go : (direction (end L s e) l ≡ direction (done L s e) l)
          ⊎ ((direction (end L s e) l ≡ 0) × (ends L s (waited L s e) l (direction (done L s e) l) ≡ true))
          → direction (end L s e) l ≡ w
      go (inl q) = q ∙ own
      go (inr t) = absurd (u.0.no_end (ends_told (λ v. u.0.no_release (refl, v.0, v.1)) w was (rw own at t.1)))

  -- so the direction is the one told
  pub line_accepted : (w : ℕ) → w ≢ 0 → (direction (end L s e) l ≡ w ↔ Secured L l w (granted L s e ∷ h))
  line_accepted w d = (secured_then w d, secures_then w d)

-- ---- an event that gives nothing and is no accepted order

pub line_refused : (L : Layout) → Sound L → (s : State) (h : History) (m : Moment) → Inv L s h → ((g : ℕ) → gave_section L g m h ≡ 0) → m.number ≢ 0
    → ((r : ℕ) → r < L.routes → Locked L r h → Locked L r (m ∷ h)) → (l : ℕ) → l < L.lines → (w : ℕ) → w ≢ 0 → (direction s l ≡ w ↔ Secured L l w (m ∷ h))
unfolding Secured
line_refused L S s h m I quiet d still l b w z = (λ q. inr (stays, (I.lines l b w z).0 q), back)
  where
    stays : StaysSecured L l w m h
    stays = record {
      no_order = λ u. d u.0;
      no_release = λ u. d u.0;
      no_end = λ E. quiet_completes L h m quiet still l (last_block L l w) w E.completes;
    }

    back : Secured L l w (m ∷ h) → direction s l ≡ w
    back (inl (by_order u v)) = absurd (d u.0)
    back (inl (by_route r x n)) = absurd (d x.sets.0)
    back (inr u) = (I.lines l b w z).1 u.1
