-- Events of one kind that are granted one after the other: any, those that clear the bars of a line, those by which sections read free, those by which
-- points come in position.
use Prim.Native.Nat.{ℕ, zero, suc, ◌+◌, ◌<◌}
use mathlib.Core.Path.{◌≡◌, refl, ap, ◌∙◌}
use mathlib.Core.Logic.{◌⊎◌, inl, inr, ⊎_elim}
use mathlib.Core.Bool.{true}
use native.Mathlib.Decide.{ℕ_discrete}
use native.Mathlib.Omega.{arith}
use Rattle.laws.specs.Tests.{◌and◌}
use Rattle.laws.specs.Tables.{table_from, table, join}
use Rattle.laws.proofs.Choice.{if_both}
use Rattle.tables.specs.Readings.{reading}
use Rattle.tables.specs.Blocks.{place}
use Rattle.layout.specs.declared.Layout.{Layout}
use Rattle.layout.specs.Layout.{line_in}
use Rattle.layout.specs.Sound.{sound}
use Rattle.layout_facts.specs.Plain.{own_section, Sound}
use Rattle.interlocking.specs.declared.State.{State}
use Rattle.interlocking.specs.State.{in_range}
use Rattle.interlocking.specs.Step.{refusal}
use Rattle.step_facts.specs.Run.{Event, event}
use Rattle.way_out.specs.Freeing.{CountsOf}
use Rattle.way_out.specs.WayOut.{AtRest}
use Rattle.way_out.specs.WayToProceed.{unbars, reads_free, counts_after, all_reads_free, throws, reads_placed, placing}
use Rattle.step_facts.proofs.Within.{end}
use Rattle.step_facts.proofs.Granted.{point_granted, unbar_granted}
use Rattle.way_out.proofs.Goes.{Whole, Goes, stop, goes, after_that, ending_so}
use Rattle.way_out.proofs.Freeing.{told_else, Outlasts, Frees, free_goes}
use Rattle.way_out.proofs.OrdersGranted.{AllFree, AllPlaced, AllUnbarred, throw_granted}
use Rattle.way_out.proofs.Resting.{OffBlocks, off_blocks, block_free, point_reads, unbar_clears, Agrees, Prepares, by_unbar, by_throw, by_point, Onward, Lasting, both_last, rest_told, onward, free_lasts}

module _ (L : Layout) (ok : sound L ≡ true) (S : Sound L) where
  -- ---- events of one kind, one after the other

  -- the event f j is granted where P j holds, and P (j + 1) holds after it
  pub turns : (n : ℕ) (f : ℕ → Event) (P : ℕ → State → Type 0)
      → ((j : ℕ) (s : State) → j < n → Whole s → P j s
      → ((refusal (sound L and in_range s) L s (f j).kind (f j).first (f j).second).number ≡ 0) × P (suc j) (end L s (f j)))
      → (s : State) → Whole s → P 0 s → Goes L s (table n f) (P n)
  unfolding table table_from
  turns n f P one s whole p = from n 0 s (omega arith) whole p
    where
      from : (k i : ℕ) (s : State) → i + k ≡ n → Whole s → P i s → Goes L s (table_from i k f) (P n)
      from zero i s q w p = let last : n ≡ i = omega arith in stop L (P n) s w (rw last p)
      from (suc k) i s q w p =
          let h = one i s (omega arith) w p in
          goes L (P n) s (f i) _ h.0 w (λ t at still. from k (suc i) t (omega arith) still (rw at h.1))

  -- ---- sections, one after the other, for route r

  module _ (r : ℕ) (b : r < L.routes) where
    -- at rest a section comes to read free, and the way leads onward: a block reads free and is left alone; the readings of any other take nothing from
    -- what is at rest, and leave points and bars
    free_one : (cs : CountsOf) (g : ℕ) → g < L.sections → (s : State) → Whole s → AtRest L s → Goes L s (reads_free L cs g) (λ t. Onward L r s t × (reading t.section g ≡ 1))
    unfolding reads_free
    free_one cs g there s whole rest =
        if_both (λ es. Goes L s es (λ t. Onward L r s t × (reading t.section g ≡ 1))) _
        (λ t. stop L _ s whole (as_it_is, block_free L g s rest t))
        (λ f. ending_so (free_goes L ok S cs g there Still (still_outlasts (off_blocks L g f)) s whole (rest, refl, refl)) (λ t w q. (further t q, q.1.here)))
      where
        Still : State → Type 0
        Still t = AtRest L t × (t.point ≡ s.point) × (t.bar ≡ s.bar)

        as_it_is : Onward L r s s
        as_it_is = record { rest = rest; free = λ h c was. was; bars = λ l i c d was. was; placed = λ was. was }

        still_outlasts : OffBlocks L g → Outlasts L g Still
        still_outlasts off u e v xs told (at_rest, points, bars) = let same = told_else L told in (rest_told L S u at_rest told off, same.0 ∙ points, same.1 ∙ bars)

        further : (t : State) → Frees g Still s t → Onward L r s t
        further t (still, freed) = record {
          rest = still.0;
          free = λ h c was. freed.still h (omega (arith, S.ranges.section_count)) was;
          bars = λ l i c d was. rw still.2 was;
          placed = λ was. rw still.1 was;
        }

    -- ---- for what lasts on the way

    module _ (Q : State → Type 0) (lasts : Lasting L r Q) (rests : (t : State) → Q t → AtRest L t) where
      -- where each event prepares the route and is granted, and brings about what R says of it, which the others keep, all that R says holds in the end,
      -- besides what lasts
      in_turn : (n : ℕ) (f : ℕ → Event) (R : ℕ → State → Type 0) → ((j : ℕ) → j < n → Prepares L r (f j))
          → ((j : ℕ) (s : State) → j < n → in_range s ≡ true → (refusal (sound L and in_range s) L s (f j).kind (f j).first (f j).second).number ≡ 0)
          → ((i j : ℕ) (s : State) → i < n → j < n → (i ≡ j) ⊎ R i s → R i (end L s (f j)))
          → (s : State) → Whole s → Q s → Goes L s (table n f) (λ t. Q t × ((i : ℕ) → i < n → R i t))
      in_turn n f R prepares grants brings s whole q =
          turns n f (λ j t. Q t × ((i : ℕ) → i < j → R i t))
          (λ j t c w p. (
            grants j t c w.ranged,
            (
              lasts t _ (onward L S t (rests t p.0) r b (f j) (prepares j c)) p.0,
              λ i d. brings i j t (omega arith) c (so_far i j t d p.1 (ℕ_discrete i j)),
            ),
          ))
          s whole (q, λ i c. absurd (omega arith))
        where
          so_far : (i j : ℕ) (t : State) → i < suc j → ((i : ℕ) → i < j → R i t) → Dec (i ≡ j) → (i ≡ j) ⊎ R i t
          so_far i j t c p (yes z) = inl z
          so_far i j t c p (no d) = inr (p i (omega arith))

      -- unbar the blocks of a line
      pub unbar_turn : (l : ℕ) → l < L.lines → (s : State) → Whole s → Q s
          → Goes L s (unbars l (line_in L l).blocks) (λ t. Q t × AllUnbarred l (line_in L l).blocks t)
      unfolding unbars place
      unbar_turn l there =
          in_turn _ _ _ (λ i c. by_unbar l i) (λ i s c ranged. unbar_granted L s ok ranged l i there c)
          (λ i j s c d was. unbar_clears L s l j l i (omega (arith, (S.ranges.lines l there).block_count, S.ranges.line_count)) (⊎_elim (λ z. inl (ap (place l) z)) inr was))

      -- sections come to read free
      pub free_turn : (cs : CountsOf) (n : ℕ) (g : ℕ → ℕ) → ((j : ℕ) → j < n → g j < L.sections) → (s : State) → Whole s → Q s
          → Goes L s (all_reads_free L cs n g) (λ t. Q t × AllFree n g t)
      unfolding all_reads_free join
      free_turn cs zero g there s whole q = stop L _ s whole (q, λ j c. absurd (omega arith))
      free_turn cs (suc n) g there s whole q =
          after_that (free_turn cs n g (λ j c. there j (omega arith)) s whole q)
          (λ t w p. ending_so (free_one (counts_after cs n g) (g n) (there n (omega arith)) t w (rests t p.0))
          (λ u still o. (lasts t u o.0 p.0, λ j c. one_more t u p o j c (ℕ_discrete j n))))
        where
          one_more : (t u : State) → Q t × AllFree n g t → Onward L r t u × (reading u.section (g n) ≡ 1) → (j : ℕ) → j < suc n → Dec (j ≡ n) → reading u.section (g j) ≡ 1
          one_more t u p o j c (yes z) = rw z o.1
          one_more t u p o j c (no d) = o.0.free (g j) (there j c) (p.1 j (omega arith))

    -- at rest, points of which no two are one, and which agree with what the route asks, are put in position
    pub place_turn : (Q : State → Type 0) → Lasting L r Q → ((t : State) → Q t → AtRest L t) → (cs : CountsOf) (n : ℕ) (p w : ℕ → ℕ) → ((j : ℕ) → j < n → p j < L.points)
        → ((j : ℕ) → j < n → (w j ≡ 1) ⊎ (w j ≡ 2)) → ((i j : ℕ) → i < n → j < n → p i ≡ p j → i ≡ j) → ((j : ℕ) → j < n → Agrees L r (p j) (w j))
        → (s : State) → Whole s → Q s → Goes L s (placing L cs n p w) (λ t. Q t × AllPlaced n p w t)
    unfolding placing throws reads_placed
    place_turn Q lasts rests cs n p w there position differ agree s whole q =
        after_that (free_turn Q lasts rests cs n own owns s whole q)
        (λ t still q. after_that (turns n _ (λ j. Free) throw t still q)
        (λ t still q. in_turn Q lasts rests n _ _ (λ j c. by_point (p j) (w j) (agree j c)) (λ j s c ranged. point_granted L s ok ranged (p j) (w j) (there j c))
        (λ i j s c d was. point_reads L s (p j) (w j) (p i) (w i) (omega (arith, there i c, S.ranges.point_count)) (position i c) (λ z. ap w (differ i j c d z))
        (⊎_elim (λ z. inl (ap p z)) inr was)) t still q.0))
      where
        own : ℕ → ℕ
        own j = own_section L (p j)

        owns : (j : ℕ) → j < n → own j < L.sections
        owns j c = S.ranges.points _ (there j c)

        Free : State → Type 0
        Free t = Q t × AllFree n own t

        throw : (j : ℕ) (s : State) → j < n → Whole s → Free s
            → ((refusal (sound L and in_range s) L s 3 (p j) (w j)).number ≡ 0) × Free (end L s (event 3 (p j) (w j)))
        throw j s c whole q = (
          throw_granted L s ok whole.ranged S (p j) (w j) (there j c) (position j c) (rests s q.0) (q.1 j c),
          both_last lasts (free_lasts L r n own owns) s _ (onward L S s (rests s q.0) r b _ (by_throw (p j) (w j) (agree j c))) q,
        )
