-- The way out is granted event by event, and ends at rest.
use Prim.Native.Nat.{ℕ, zero, suc, ◌+◌, ◌<◌, ◌≤◌}
use mathlib.Core.Path.{◌≡◌, refl, sym, ap, ap₂, ◌∙◌}
use mathlib.Core.Logic.{◌≢◌, ◌⊎◌, inl, inr, ⊎_elim}
use mathlib.Core.Bool.{true, false, not}
use mathlib.Core.List.{List, ◌∷◌}
use native.Mathlib.Decide.{ℕ_discrete}
use native.Mathlib.Nat.{le_refl, add-zero, add-suc, suc-add}
use native.Mathlib.Omega.{arith}
use borrow.Author.Tests.{eqb-false, ne_eqb, not-true}
use lib.ListN.{replicate}
use Rattle.laws.proofs.Choice.{if_both}
use Rattle.laws.proofs.Tests.{and_left, and_right, and_both, not_both}
use Rattle.track.proofs.OnlySection.{only_in}
use Rattle.tables.specs.Readings as readings
use Rattle.tables.specs.Locks.{locked}
use Rattle.layout.specs.declared.Layout.{Layout}
use Rattle.layout.specs.Layout.{line_in}
use Rattle.layout.specs.Sound.{sound}
use Rattle.layout_facts.specs.Plain.{InBlock, Sound}
use Rattle.interlocking.specs.declared.State.{State}
use Rattle.interlocking.specs.declared.Answer.{Answer}
use Rattle.interlocking.specs.Step.{step}
use Rattle.step_facts.specs.Run.{Event, event}
use Rattle.step_facts.proofs.Range.{in_range_means, read_within}
use Rattle.way_out.specs.Freeing.{CountsOf}
use Rattle.way_out.specs.WayOut.{standing, cancels, ninety_seconds, read_free, all_read_free, releases}
use Rattle.step_facts.proofs.Entries.{phase, direction, stage, block, block_there, block_below}
use Rattle.step_facts.proofs.Within.{end}
use Rattle.step_facts.proofs.Tells.{tells_no_order}
use Rattle.step_facts.proofs.Granted.{cancel_granted, second_granted, release_granted, step_granted}
use Rattle.way_out.proofs.Goes.{Whole, step_whole, Goes, stop, first, goes, after_that, ending_so}
use Rattle.way_out.proofs.Freeing.{told_elsewhere, Outlasts, Frees, free_goes}
use Rattle.way_out.proofs.Calm.{second, Calm, idle_on, calm_on, cancelled, second_on, release_sections, neutral_on, open_on}

-- a state in range has counted at most 89 seconds of a route
few_seconds : (s : State) → Whole s → (r : ℕ) → second s r ≤ 89
few_seconds s w r = (read_within ((in_range_means s).0 w.ranged).seconds 0 r (omega arith)).1

-- a route that is not standing (locked and not cancelling) is idle or cancelling
not_standing : (s : State) (r : ℕ) → standing s r ≡ false → Calm s r
unfolding standing locked
not_standing s r f = go (ℕ_discrete (phase s r) 0) (ℕ_discrete (phase s r) 3)
  where
    go : Dec (phase s r ≡ 0) → Dec (phase s r ≡ 3) → Calm s r
    go (yes z) d = inl z
    go (no z) (yes t) = inr t
    go (no z) (no t) = not_both (and_both _ _ (ap not (ne_eqb _ 0 z)) (ap not (ne_eqb _ 3 t))) f

-- one that stands is locked
standing_locked : (s : State) (r : ℕ) → standing s r ≡ true → phase s r ≢ 0
unfolding standing locked
standing_locked s r t = eqb-false _ 0 (not-true _ (and_left _ _ t))

-- and not cancelling
standing_kept : (s : State) (r : ℕ) → standing s r ≡ true → phase s r ≢ 3
unfolding standing
standing_kept s r t = eqb-false _ 3 (not-true _ (and_right _ _ t))

-- ---- what holds on the way

-- the routes from n on are idle or cancelling
abbrev AllCalm : Layout → ℕ → State → Type 0
AllCalm L n s = (r : ℕ) → n ≤ r → r < L.routes → Calm s r

-- all routes are idle
abbrev Idle : Layout → State → Type 0
Idle L s = (r : ℕ) → r < L.routes → phase s r ≡ 0

-- each route is idle, or has counted at least k seconds of its cancelling
abbrev Counted : Layout → ℕ → State → Type 0
Counted L k s = (r : ℕ) → r < L.routes → (phase s r ≡ 0) ⊎ ((phase s r ≡ 3) × (k ≤ second s r))

-- the blocks of the lines from n on read free
abbrev LinesFree : Layout → ℕ → State → Type 0
LinesFree L n s = (l i : ℕ) → n ≤ l → l < L.lines → i < (line_in L l).blocks → readings.reading s.section (block L l i) ≡ 1

-- the blocks of line n from k on read free, and those of the lines after it
abbrev BlocksFree : Layout → ℕ → ℕ → State → Type 0
BlocksFree L n k s =
    (l i : ℕ) → (n < l) ⊎ ((n ≡ l) × (k ≤ i)) → l < L.lines → i < (line_in L l).blocks → readings.reading s.section (block L l i) ≡ 1

-- the lines from n on are neutral, their blocks open
abbrev LinesRest : Layout → ℕ → State → Type 0
LinesRest L n s = (l : ℕ) → n ≤ l → l < L.lines → (direction s l ≡ 0) × ((i : ℕ) → i < (line_in L l).blocks → stage s l i ≡ 0)

module _ (L : Layout) (ok : sound L ≡ true) (S : Sound L) where
  -- cancel what is locked
  pub cancel_all : (n : ℕ) (s : State) → n ≤ L.routes → Whole s → AllCalm L n s → Goes L s (cancels L n s) (AllCalm L 0)
  unfolding cancels
  cancel_all zero s few whole calm = stop L (AllCalm L 0) s whole calm
  cancel_all (suc n) s few whole calm =
      if_both (λ es. Goes L s es (AllCalm L 0)) (standing s n) (cancel (λ t. cancel_all n t)) (λ f. cancel_all n s (omega arith) whole (leave f))
    where
      Rest : State → Type 0
      Rest t = n ≤ L.routes → Whole t → AllCalm L n t → Goes L t (cancels L n t) (AllCalm L 0)

      leave : standing s n ≡ false → AllCalm L n s
      leave f r b c = go (ℕ_discrete n r)
        where
          go : Dec (n ≡ r) → Calm s r
          go (yes q) = rw q at (not_standing s n f)
          go (no d) = calm r (omega arith) c

      then_calm : AllCalm L n (end L s (event 5 n 0))
      then_calm r b c = go (ℕ_discrete n r)
        where
          go : Dec (n ≡ r) → Calm (end L s (event 5 n 0)) r
          go (yes q) = cancelled L S s (event 5 n 0) r c refl q
          go (no d) = calm_on L S s (event 5 n 0) r c (omega arith) (λ k. d) (calm r (omega arith) c)

      cancel : ((t : State) → Rest t) → standing s n ≡ true → Goes L s (event 5 n 0 ∷ cancels L n (step L s 5 n 0).next) (AllCalm L 0)
      cancel rest t =
          let pass = cancel_granted L s ok whole.ranged n few (standing_locked s n t) (standing_kept s n t) in
          let done = step_granted L s (event 5 n 0) pass in
          first L (AllCalm L 0) s (event 5 n 0) _ (ap (λ (r : Answer). r.number) done)
          (rest _ (omega arith) (step_whole L s (event 5 n 0) whole) (rw done then_calm))

  -- n seconds: each route counts them, or goes
  wait : (n k : ℕ) (s : State) → Whole s → Counted L k s → Goes L s (replicate n (event 10 0 0)) (Counted L (k + n))
  wait zero k s whole counted = stop L (Counted L (k + 0)) s whole (rw (add-zero k) counted)
  wait (suc n) k s whole counted =
      goes L (Counted L (k + suc n)) s (event 10 0 0) _ (second_granted L s ok whole.ranged) whole
      (λ t at still. rw (add-suc k n, ← suc-add k n) (wait n (suc k) t still (rw at count)))
    where
      count : Counted L (suc k) (end L s (event 10 0 0))
      count r b = go (counted r b)
        where
          go : (phase s r ≡ 0) ⊎ ((phase s r ≡ 3) × (k ≤ second s r))
              → (phase (end L s (event 10 0 0)) r ≡ 0) ⊎ ((phase (end L s (event 10 0 0)) r ≡ 3) × (suc k ≤ second (end L s (event 10 0 0)) r))
          go (inl z) = inl (idle_on L S s (event 10 0 0) r b (omega arith) (omega arith) z)
          go (inr t) = ⊎_elim inl (λ u. inr (u.0, let c = u.1 in let d = t.1 in omega arith)) (second_on L S s r b t.0)

  -- a route that had counted ninety would be out of range
  counted_idle : (es : List Event) (s : State) → Goes L s es (Counted L 90) → Goes L s es (Idle L)
  counted_idle es s G = ending_so G (λ t still counted r b. ⊎_elim (λ z. z) (λ c. absurd (late t still r c.1)) (counted r b))
    where
      late : (t : State) → Whole t → (r : ℕ) → 90 ≤ second t r → ⊥
      late t still r c = let few = few_seconds t still r in omega arith

  -- ninety seconds: every route has gone
  pub wait_all : (s : State) → Whole s → AllCalm L 0 s → Goes L s ninety_seconds (Idle L)
  unfolding ninety_seconds
  wait_all s whole calm = counted_idle _ s (wait 90 0 s whole (λ r b. ⊎_elim inl (λ t. inr (t, omega arith)) (calm r (omega arith) b)))

  -- two blocks of one section are one
  one_block : (l i k j : ℕ) → l < L.lines → i < (line_in L l).blocks → k < L.lines → j < (line_in L k).blocks → block L l i ≡ block L k j → (l ≡ k) × (i ≡ j)
  unfolding InBlock
  one_block l i k j b c d e q = S.rule1.once l i k j _ b c d e (only_in (line_in L l) i) (rw q (only_in (line_in L k) j))

  -- no reading of a block locks a route, or changes what the blocks after it read
  block_outlasted : (l i : ℕ) → l < L.lines → i < (line_in L l).blocks → Outlasts L (block L l i) (λ t. Idle L t × BlocksFree L l (suc i) t)
  block_outlasted l i b c s e v xs told p = (
    λ r d. idle_on L S s e r d (λ k. tells_no_order told (omega arith)) (λ k. tells_no_order told (omega arith)) (p.0 r d),
    λ k j after d h. told_elsewhere L told (block L k j) (block_below L S k j d h) (λ q. other k j after (one_block k j l i d h b c q)) ∙ p.1 k j after d h,
  )
    where
      other : (k j : ℕ) → (l < k) ⊎ ((l ≡ k) × (suc i ≤ j)) → (k ≡ l) × (j ≡ i) → ⊥
      other k j (inl h) q = omega arith
      other k j (inr h) q = omega arith

  -- the blocks of one line come to read free
  read_blocks : (cs : CountsOf) (l i : ℕ) (s : State) → l < L.lines → i ≤ (line_in L l).blocks → Whole s → Idle L s × BlocksFree L l i s
      → Goes L s (read_free L cs l i) (λ t. Idle L t × BlocksFree L l 0 t)
  unfolding read_free
  read_blocks cs l zero s there few whole p = stop L _ s whole p
  read_blocks cs l (suc i) s there few whole p =
      after_that (free_goes L ok S cs (block L l i) (block_there L S l i there few) _ (block_outlasted l i there few) s whole p)
      (λ t still q. read_blocks cs l i t there (omega arith) still (q.0.0, λ k j after b c. one_more t q k j after (ℕ_discrete i j) b c))
    where
      one_more : (t : State) → Frees (block L l i) (λ t. Idle L t × BlocksFree L l (suc i) t) s t → (k j : ℕ) → (l < k) ⊎ ((l ≡ k) × (i ≤ j)) → Dec (i ≡ j) → k < L.lines
          → j < (line_in L k).blocks → readings.reading t.section (block L k j) ≡ 1
      one_more t q k j (inl h) d b c = q.0.1 k j (inl h) b c
      one_more t q k j (inr h) (yes z) b c = ap (readings.reading t.section) (sym (ap₂ (block L) h.0 z)) ∙ q.1.here
      one_more t q k j (inr h) (no z) b c = let e = h.1 in q.0.1 k j (inr (h.0, omega arith)) b c

  -- those of every line
  pub read_all : (cs : CountsOf) (n : ℕ) (s : State) → n ≤ L.lines → Whole s → Idle L s × LinesFree L n s
      → Goes L s (all_read_free L cs n) (λ t. Idle L t × LinesFree L 0 t)
  unfolding all_read_free
  read_all cs zero s few whole p = stop L _ s whole p
  read_all cs (suc l) s few whole p =
      after_that (read_blocks cs l (line_in L l).blocks s few (le_refl _) whole (p.0, before))
      (λ t still q. read_all cs l t (omega arith) still (q.0, λ k i b. q.1 k i (since k i b (ℕ_discrete l k))))
    where
      before : BlocksFree L l (line_in L l).blocks s
      before k i (inl h) b c = p.1 k i h b c
      before k i (inr h) b c = let most = rw h.0 at h.1 in absurd (omega arith)

      since : (k i : ℕ) → l ≤ k → Dec (l ≡ k) → (l < k) ⊎ ((l ≡ k) × (0 ≤ i))
      since k i b (yes q) = inr (q, omega arith)
      since k i b (no d) = inl (omega arith)

  -- release each line by hand
  pub release_all : (n : ℕ) (s : State) → n ≤ L.lines → Whole s → Idle L s × LinesFree L 0 s × LinesRest L n s
      → Goes L s (releases n) (λ t. Idle L t × LinesFree L 0 t × LinesRest L 0 t)
  unfolding releases
  release_all zero s few whole p = stop L _ s whole p
  release_all (suc l) s few whole p =
      goes L _ s (event 7 l 1) _ (release_granted L s ok whole.ranged l few p.0 (λ i c. p.1 l i (omega arith) few c)) whole
      (λ t at still. release_all l t (omega arith) still (rw at (idle, free, rest)))
    where
      idle : Idle L (end L s (event 7 l 1))
      idle r b = idle_on L S s (event 7 l 1) r b (omega arith) (omega arith) (p.0 r b)

      free : LinesFree L 0 (end L s (event 7 l 1))
      free = rw (release_sections L s l) p.1

      rest : LinesRest L l (end L s (event 7 l 1))
      rest k n b = go (ℕ_discrete k l)
        where
          go : Dec (k ≡ l) → (direction (end L s (event 7 l 1)) k ≡ 0) × ((i : ℕ) → i < (line_in L k).blocks → stage (end L s (event 7 l 1)) k i ≡ 0)
          go (yes q) = (neutral_on L S s l k b (inl q), λ i c. open_on L S s l k b i c (inl q))
          go (no d) =
              let was = p.2 k (omega arith) b in
              (neutral_on L S s l k b (inr was.0), λ i c. open_on L S s l k b i c (inr (was.1 i c)))
