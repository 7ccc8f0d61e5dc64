-- An accepted event keeps what the invariant says of a block in stage 2:
-- a passage in the secured direction waits for the free reading that closes it.
use Prim.Native.Nat.{ℕ, ◌<◌, ◌≤◌}
use mathlib.Core.Path.{◌≡◌, refl, sym, ap, ◌∙◌}
use mathlib.Core.Logic.{◌≢◌, ◌⊎◌, inl, inr}
use mathlib.Core.Bool.{true, false}
use mathlib.Core.List.{List, ◌∷◌}
use native.Mathlib.Decide.{ℕ_discrete}
use native.Mathlib.Omega.{arith}
use borrow.Author.Tests.{eqb-true, eq-eqb, not-true}
use lib.ListN.{get_or}
use Rattle.laws.specs.Choice.{when◌then◌else◌}
use Rattle.laws.specs.Tests.{◌and◌}
use Rattle.laws.specs.Tables.{read}
use Rattle.laws.proofs.Tests.{and_left, and_right, and_both, not_both, fails_from, every_at, all_at, any_at, any_some}
use Rattle.track.specs.Blocks.{facing}
use Rattle.track.proofs.OnlySection.{only_in}
use Rattle.tables.specs.Readings.{all_free}
use Rattle.tables.specs.Readings as readings
use Rattle.tables.specs.Blocks.{is_open}
use Rattle.signals.specs.Signals.{enterable_by, enterable, clear, route_proceeds, main_proceeds, block_proceeds}
use Rattle.passage.specs.declared.Beyond.{Beyond}
use Rattle.passage.specs.Passage.{beyond, section_at, signal_at, far_signal}
use Rattle.passage.specs.Passage as passage
use Rattle.line_block.specs.FarSections.{drops}
use Rattle.layout.specs.declared.Layout.{Layout}
use Rattle.layout.specs.Layout.{line_in, route_in}
use Rattle.layout.specs.Sound.{sound}
use Rattle.layout_facts.specs.Plain.{InBlock, inner_section, entrance_signal, path, Sound}
use Rattle.layout_facts.proofs.Uses.{entrance_path}
use Rattle.interlocking.specs.declared.State.{State}
use Rattle.interlocking.specs.State.{in_range, with_routes}
use Rattle.interlocking.specs.Settle.{signals, proceeds_in, routes}
use Rattle.interlocking.specs.Step.{refusal}
use Rattle.step_facts.specs.Run.{Event}
use Rattle.panel.specs.Panel.{image}
use Rattle.panel.specs.Shown.{panel}
use Rattle.safety.specs.History.{History, gave_section, gave_block, section_reads, shown, Since}
use Rattle.safety.specs.Cleared.{far_section, Proceeds, Stops, Passage}
use Rattle.step_facts.specs.FarInState.{far_reading, far_proceeds, far_dropped}
use Rattle.step_facts.proofs.Entries.{phase, direction, stage, block, block_there}
use Rattle.step_facts.proofs.Passed.{two_ways}
use Rattle.step_facts.proofs.Within.{On, done, lit, end, phase_kept, lit_clear, direction_held}
use Rattle.safety.proofs.Given.{granted, one_section}
use Rattle.safety.proofs.Blocks.{by_hand_now, stays_open, shown_stop, opens_with, waits_on, shut, entered}
use Rattle.safety.proofs.Through.{way_kept, FarNow, Case, open_end, open_moves, case_of}
use Rattle.step_facts.proofs.FarCases.{keeps, proves, loses, enterable_same}
use Rattle.safety.proofs.Beyond.{BeyondCase, a_block, a_station, beyond_case, far_there}
use Rattle.safety.proofs.Signals.{one_each_way, far_signal_law, main_lit, main_stopped, into_lit, into_stops}
use Rattle.panel.proofs.Image.{shows_line}
use Rattle.safety.proofs.Told.{reads_kept, reads_given}
use Rattle.safety.proofs.Invariant.{Inv}
use Rattle.safety.proofs.ReadAfter.{reads_done}
use Rattle.safety.proofs.Held.{open_free}

-- ---- the far section

-- of a list of sections that read free the first reads free
first_free : (sections xs : List ℕ) (n : ℕ) → all_free sections n xs ≡ true → 0 < n → readings.reading sections (get_or xs 0 0) ≡ 1
unfolding all_free read when◌then◌else◌
first_free sections xs n h b = eqb-true _ 1 (all_at _ _ h 0 b)

module _ (L : Layout) (S : Sound L) (l i w : ℕ) (b : l < L.lines) (c : i < (line_in L l).blocks) where
  -- rule 1: it is another section than the block
  pub far_other : (x : Beyond) → BeyondCase L l i w x → block L l i ≢ section_at (line_in L l) w x
  unfolding section_at facing InBlock inner_section
  far_other x (a_block j h d up down) q = d (S.rule1.once l i l j _ b c b h (only_in (line_in L l) i) (rw q (only_in (line_in L l) j))).1
  far_other x (a_station e h) q = S.rule1.no_inner l i l e b c b h (rw q at (only_in (line_in L l) i))

  -- while the far signal is at proceed it reads free: the next block is open, and open blocks read free; or, rules 2 and 5, a route in from
  -- the line has the inner section first in its path, and routes at proceed have their path free
  pub far_free : (s : State) → ((j : ℕ) → j < (line_in L l).blocks → stage s l j ≡ 0 → readings.reading s.section (block L l j) ≡ 1)
      → ((r : ℕ) → r < L.routes → phase s r ≡ 1 → clear L.line s.section s.point s.stage s.bar (route_in L r) ≡ true)
      → (x : Beyond) → BeyondCase L l i w x → proceeds_in L s (signal_at (line_in L l) l w x) ≡ true → readings.reading s.section (section_at (line_in L l) w x) ≡ 1
  unfolding proceeds_in signal_at section_at facing inner_section entrance_signal block_proceeds enterable enterable_by is_open main_proceeds route_proceeds clear path route_in
  far_free s opens lights x (a_block j k d up down) p = opens j k (eqb-true _ 0 (every_at _ (and_right _ _ p) 0))
  far_free s opens lights x (a_station e k) p =
      let (r, there, lit) = any_some _ _ p in
      let free = lights r there (eqb-true _ 1 (and_left _ _ lit)) in
      let paths = (S.ranges.routes r there).path_count in
      ap (readings.reading s.section) (sym (entrance_path L S r l e there b k (eqb-true _ _ (and_right _ _ lit))))
      ∙ first_free _ _ _ (every_at _ free 0) (omega arith)

-- ---- the far signal

module _ (L : Layout) (S : Sound L) (s : State) (e : Event) (l i w : ℕ) (b : l < L.lines) where
  -- a far signal at proceed shows proceed
  far_showed : (x : Beyond) → BeyondCase L l i w x → w ≢ 0 → direction s l ≤ 2 → proceeds_in L s (signal_at (line_in L l) l w x) ≡ true
      → Proceeds (panel L (image L s)) (signal_at (line_in L l) l w x)
  unfolding proceeds_in signal_at block_proceeds entrance_signal
  far_showed x (a_block j h d up down) z few p =
      let way = eqb-true (direction s l) w (and_left _ _ p) in
      into_lit L s l j w b h (one_each_way w z (omega arith)) (far_signal_law _ w j up down) p
  far_showed x (a_station k h) z few p = main_lit L s _ ((S.ranges.lines l b).entrances k h) p

  -- one that fell within the event still shows stop at its end: phases never return to 1, and a block that was open before it and is not after its own
  -- reading does not open again
  far_stops : (x : Beyond) → BeyondCase L l i w x → w ≢ 0 → direction s l ≤ 2 → direction (done L s e) l ≡ w → direction (end L s e) l ≡ w
      → ((j : ℕ) → j < (line_in L l).blocks → stage s l j ≡ 0 → stage (done L s e) l j ≢ 4)
      → proceeds_in L s (signal_at (line_in L l) l w x) ≡ true → proceeds_in L (lit L s e) (signal_at (line_in L l) l w x) ≡ false
      → Stops (panel L (image L (end L s e))) (signal_at (line_in L l) l w x)
  unfolding proceeds_in signal_at block_proceeds main_proceeds route_proceeds signals with_routes entrance_signal enterable enterable_by is_open
  far_stops x (a_block j h d up down) z few own now shuts p f =
      let way = eqb-true (direction s l) w (and_left _ _ p) in
      let was = eqb-true (stage s l j) 0 (every_at _ (and_right _ _ p) 0) in
      into_stops L (end L s e) l j w b h (one_each_way w z (omega arith)) (far_signal_law _ w j up down) now
      (fails_from _ (λ t. not_both (and_both _ _ (eq-eqb _ w own) (sym (enterable_same L S s e l j b h (shuts j h was)) ∙ t)) f))
  far_stops x (a_station k h) z few own now shuts p f =
      main_stopped L (end L s e) _ ((S.ranges.lines l b).entrances k h)
      (fails_from _ (λ t.
      let (r, there, lit) = any_some _ _ t in
      let one = eqb-true (phase (end L s e) r) 1 (and_left _ _ lit) in
      let kept = phase_kept L S.ranges.route_count s e r there (omega arith) in
      not_both (any_at _ _ r there (and_both _ _ (eq-eqb _ 1 (sym kept ∙ one)) (and_right _ _ lit))) f))

-- ---- an accepted event

module _ (L : Layout) (S : Sound L) (s : State) (h : History) (I : Inv L s h) (e : Event)
    (pass : (refusal (sound L and in_range s) L s e.kind e.first e.second).number ≡ 0) (l i : ℕ) (b : l < L.lines) (c : i < (line_in L l).blocks) where
  -- what lies beyond the block
  pub there : (w : ℕ) → BeyondCase L l i w (beyond (line_in L l) i w)
  there w = beyond_case L l i w c

  -- what the far section reads within the event is what the history tells of it
  pub far_reads : (w : ℕ) → far_reading L (lit L s e) l i w ≡ section_reads L (far_section L l i w) (granted L s e ∷ h)
  unfolding signals with_routes
  far_reads w = reads_done L S s h I e pass (far_section L l i w) (far_there L S l i w b c)

  -- "to stop" follows from "from proceed" on a sound layout: within the event a far section that reads occupied holds its signal at stop.
  -- The next block would be open and read free; a route in from the line would have the inner section free in its path
  pub stop_follows : (w : ℕ) → far_reading L (lit L s e) l i w ≡ 2 → far_proceeds L (lit L s e) l i w ≡ false
  unfolding passage.far_section far_signal is_open signals with_routes
  stop_follows w taken =
      fails_from _ (λ t.
      let free = far_free L S l i w b c (lit L s e) opens (lit_clear L S.ranges.route_count s e) (beyond (line_in L l) i w) (there w) t in
      omega arith)
    where
      opens : (j : ℕ) → j < (line_in L l).blocks → stage (done L s e) l j ≡ 0 → readings.reading (done L s e).section (block L l j) ≡ 1
      opens j k z =
          reads_done L S s h I e pass _ (block_there L S l j b k) ∙ open_free L S s h I e pass l j b k (open_end L S s h I e pass l b j k z)

  -- a block that is entered in the same direction, in stage 1 or 2, before the event and not moved by it otherwise: its passage waits on
  waits_still : stage s l i ≡ 3 → gave_block L l i (granted L s e) h ≢ 3 → gave_block L l i (granted L s e) h ≢ 1
      → far_reading L (lit L s e) l i (direction s l) ≢ 3 → Passage L l i (direction s l) (granted L s e ∷ h)
  unfolding Since
  waits_still was none free far =
      inr (((none, free), λ q. far (far_reads _ ∙ reads_given _ _ h 3 q (omega arith))), ((I.blocks l i b c).passes was).1)

  -- a block that goes from stage 1 to 2: this event dropped the far signal and left the far section occupied. The far section read free before, so
  -- this event gave it occupied, so it gave the block nothing: the block was entered by an event before
  module _ (w : ℕ) (taken : far_reading L (lit L s e) l i w ≡ 2) (up : far_proceeds L s l i w ≡ true) where
    -- the far section reads occupied then
    now : section_reads L (far_section L l i w) (granted L s e ∷ h) ≡ 2
    now = sym (far_reads w) ∙ taken

    -- before the event each open block read free
    opens : (j : ℕ) → j < (line_in L l).blocks → stage s l j ≡ 0 → readings.reading s.section (block L l j) ≡ 1
    opens j k z = I.reads _ (block_there L S l j b k) ∙ ((I.blocks l j b k).opens.0 z).is_free

    -- so the far section read free, and this event gave it something
    of_far : gave_section L (far_section L l i w) (granted L s e) h ≢ 0
    unfolding passage.far_section far_signal
    of_far q =
        let was = sym (I.reads _ (far_there L S l i w b c)) ∙ far_free L S l i w b c s opens I.lights (beyond (line_in L l) i w) (there w) up in
        let still = reads_kept (gave_section L (far_section L l i w)) (granted L s e) h q in
        omega (arith, now)

    -- so it gave nothing to the block, by rule 1 another section
    of_block_law : gave_block L l i (granted L s e) h ≡ 0
    unfolding passage.far_section
    of_block_law = go (ℕ_discrete (gave_block L l i (granted L s e) h) 0)
      where
        go : Dec (gave_block L l i (granted L s e) h ≡ 0) → gave_block L l i (granted L s e) h ≡ 0
        go (yes q) = q
        go (no q) = absurd (far_other L S l i w b c (beyond (line_in L l) i w) (there w) (one_section L _ _ (granted L s e) h q of_far))

  -- so this is the drop of a passage
  dropped : (2 ≤ stage s l i) × (stage s l i ≤ 3) → direction (done L s e) l ≢ 0 → direction (end L s e) l ≡ direction (done L s e) l
      → far_reading L (lit L s e) l i (direction (done L s e) l) ≡ 2 → far_dropped L s (lit L s e) l i (direction (done L s e) l) ≡ true
      → Passage L l i (direction (done L s e) l) (granted L s e ∷ h)
  unfolding Since drops far_signal shown
  dropped held d same taken fell =
      let w : ℕ = direction (done L s e) l in
      let x : Beyond = beyond (line_in L l) i w in
      let up : far_proceeds L s l i w ≡ true = and_left _ _ fell in
      let down : far_proceeds L (lit L s e) l i w ≡ false = not-true _ (and_right _ _ fell) in
      let ways : direction s l ≤ 2 = two_ways L s e pass l in
      inl (record {
        entered = (I.blocks l i b c).enters.0 held;
        stays = let quiet = of_block_law w taken up in (omega arith, omega arith);
        secured = (shows_line L (end L s e) l b ∙ same, d);
        taken = now w taken up;
        from_proceed = rw I.seen (far_showed L S s e l i w b x (there w) d ways up);
        to_stop = far_stops L S s e l i w b x (there w) d ways refl same (λ j k z. open_moves L S s h I e pass l b j k z) up down;
      })

  -- a line with a held block keeps its direction through the event; then by what the far section did
  pub passing_then : stage (end L s e) l i ≡ 3 → (direction (end L s e) l ≢ 0) × Passage L l i (direction (end L s e) l) (granted L s e ∷ h)
  unfolding drops
  passing_then z = rw unmoved (go (case_of L S s h I e pass l b i c))
    where
      unmoved : direction (end L s e) l ≡ direction (done L s e) l
      unmoved = direction_held L S.ranges.line_count s e l b i c (omega arith)

      -- it was in stage 2 and the far section left it there
      waited : ¬ On 7 e l → gave_block L l i (granted L s e) h ≢ 3 → gave_block L l i (granted L s e) h ≢ 1 → stage s l i ≡ 3
          → (direction (done L s e) l ≢ 0 → far_reading L (lit L s e) l i (direction (done L s e) l) ≢ 3)
          → (direction (done L s e) l ≢ 0) × Passage L l i (direction (done L s e) l) (granted L s e ∷ h)
      waited n none free was far =
          let kept = way_kept L S s h I e pass l b i c (omega arith) n in
          let d : direction (done L s e) l ≢ 0 = λ q. kept.0 (sym kept.1 ∙ q) in
          (d, rw kept.1 (waits_still was none free (rw kept.1 at (far d))))

      by_far : ¬ On 7 e l → (y : ℕ) → ((gave_block L l i (granted L s e) h ≡ 2) × (y ≡ 2) × (stage s l i ≢ 2) × (stage s l i ≢ 3))
          ⊎ ((gave_block L l i (granted L s e) h ≢ 1) × (gave_block L l i (granted L s e) h ≢ 3) × (y ≡ stage s l i))
          → FarNow L S s h I e pass l b i c y (stage (end L s e) l i) → (direction (done L s e) l ≢ 0) × Passage L l i (direction (done L s e) l) (granted L s e ∷ h)
      by_far n y (inl v) (keeps x f g) = absurd (omega (arith, v.1))
      by_far n y (inr v) (keeps x f g) = waited n v.1 v.0 (sym v.2 ∙ sym x ∙ z) (f z)
      by_far n y (inl v) (proves x was d o p) = absurd (omega (arith, v.0, of_block_law _ o (and_left _ _ p)))
      by_far n y (inr v) (proves x was d o p) = (d, dropped (omega (arith, v.2)) d unmoved o p)
      by_far n y v (loses x was far) = absurd (omega arith)

      go : Case L S s h I e pass l b i c → (direction (done L s e) l ≢ 0) × Passage L l i (direction (done L s e) l) (granted L s e ∷ h)
      go (by_hand_now u v x) = absurd (omega arith)
      go (stays_open n v was x) = absurd (omega arith)
      go (shown_stop n v was t x) = absurd (omega arith)
      go (opens_with n w B x) = absurd (omega arith)
      go (waits_on n w B x) = absurd (omega arith)
      go (shut n v x) = absurd (omega arith)
      go (entered n y v few far) = by_far n y v far
