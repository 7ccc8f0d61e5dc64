-- Trains pass: an event that gives the far section occupied lets a passage wait, which waits while the train goes out, until the block is given free.
use Prim.Native.Nat.{ℕ, ◌+◌, ◌*◌, ◌%◌, ◌<◌, ◌≤◌}
use mathlib.Core.Path.{◌≡◌, refl, sym, ap, ◌∙◌}
use mathlib.Core.Logic.{◌≢◌, ◌⊎◌, inl, inr, ⊎_elim}
use mathlib.Core.HLevel.{dec→stable}
use mathlib.Core.Bool.{true}
use mathlib.Core.List.{List, [], ◌∷◌, ◌++◌, append_assoc, append-nil}
use native.Mathlib.Decide.{ℕ_discrete}
use native.Mathlib.Omega.{arith}
use lib.Signed.{mag}
use Rattle.laws.specs.Choice.{when◌then◌else◌}
use Rattle.laws.specs.Tests.{◌and◌}
use Rattle.tables.specs.Readings.{recorded}
use Rattle.axles.specs.Since.{rolled}
use Rattle.axles.specs.HeadLog.{said, last_told, number_told, reading_told}
use Rattle.passage.specs.Passage.{beyond, from_arrival}
use Rattle.passage.specs.Passage as passage
use Rattle.layout.specs.declared.Layout.{Layout}
use Rattle.layout.specs.Layout.{is_fitted, line_in}
use Rattle.layout.specs.Sound.{sound}
use Rattle.layout_facts.specs.Plain.{Sound}
use Rattle.layout_facts.proofs.Sound.{sound_says}
use Rattle.fitted.proofs.InUse.{in_use_sound}
use Rattle.interlocking.specs.declared.State.{State}
use Rattle.interlocking.specs.State.{in_range}
use Rattle.interlocking.specs.Step.{refusal}
use Rattle.panel.specs.Panel.{image}
use Rattle.step_facts.specs.Run.{Event, event, from_cold}
use Rattle.panel.specs.Shown.{Panel, panel}
use Rattle.safety.specs.History.{Moment, History, gave_section, gave_block, section_reads, block_reads, shown, Since, moment, history}
use Rattle.safety.specs.Cleared.{far_section, far_signal, Proceeds, Passage, StopLit, Completed, while_lit, with_beyond, later, FreesBeyond}
use Rattle.safety.specs.Passing.{MayGoOn, next, GivesNext, GoingOut, PassesOn, WaitsOn, TrainsPass, head_log_of, Arrives, Leaves, by_reading, by_count, PassByCounts, PassByReadings}
use Rattle.step_facts.proofs.Entries.{direction, stage, block, block_there}
use Rattle.step_facts.proofs.Within.{On, done, end, direction_held}
use Rattle.step_facts.proofs.Securing.{Departs, direction_same}
use Rattle.safety.proofs.Heads.{counted}
use Rattle.safety.proofs.Given.{granted, order_gives_nothing, gives_recorded, gives_said, one_section, refused_gives_nothing}
use Rattle.safety.proofs.Told.{reads_given, entered_reads, closing, opened_by_passage}
use Rattle.safety.proofs.Blocks.{by_hand_now, stays_open, shown_stop, opens_with, waits_on, shut, entered}
use Rattle.safety.proofs.Through.{Case, case_of}
use Rattle.safety.proofs.OneMore.{box_grants, one_more}
use Rattle.safety.proofs.Freed.{opens_completed}
use Rattle.safety.proofs.PassingBack.{passes_back}
use Rattle.safety.proofs.Invariant.{Inv}
use Rattle.safety.proofs.Beyond.{beyond_case, far_there}
use Rattle.panel.proofs.Image.{shows_line, shows_block}
use Rattle.safety.proofs.Held.{entered_moves}
use Rattle.safety.proofs.Far.{there, far_other, far_free, far_reads}
use Rattle.safety.proofs.Waits.{far_up, far_proves}
use Rattle.safety.proofs.Kept.{run_has, accepted}
use Rattle.safety.proofs.Exact.{exact_run}
use Rattle.safety.proofs.HeadsTold.{reads_by_heads}
use Rattle.safety.proofs.Counts.{head_of, in_reads, out_reads}

-- an event that gives a section something is accepted, and is no order
module _ (L : Layout) (ok : sound L ≡ true) (s : State) (h : History) (I : Inv L s h) (m : Moment) (g : ℕ) (some : gave_section L g m h ≢ 0) where
  giving_granted : (refusal (sound L and in_range s) L s m.event.kind m.event.first m.event.second).number ≡ 0
  giving_granted = dec→stable (ℕ_discrete _ 0) (λ d. some (refused_gives_nothing L ok s I.ranged m h I.heads d g))

  no_order : (k a : ℕ) → 3 ≤ k → k ≤ 9 → ¬ On k m.event a
  no_order k a x y u = let q = u.0 in some (order_gives_nothing L g m h (omega arith, omega arith))

module _ (L : Layout) (ok : sound L ≡ true) (S : Sound L) (s : State) (h : History) (I : Inv L s h) (l i w : ℕ) (b : l < L.lines) (c : i < (line_in L l).blocks) where
  -- ---- the far section is given occupied: the block goes to stage 2

  module _ (held : stage s l i ≡ 2) (way : direction s l ≡ w) (d : w ≢ 0) (up : Proceeds (panel L (image L s)) (far_signal L l i w)) (e : Event)
      (of_far : gave_section L (far_section L l i w) (granted L s e) h ≡ 2) where
    -- it is something
    some : gave_section L (far_section L l i w) (granted L s e) h ≢ 0
    some z = omega (arith, of_far)

    -- so the event is accepted
    pub arrival_granted : (refusal (sound L and in_range s) L s e.kind e.first e.second).number ≡ 0
    arrival_granted = giving_granted L ok s h I (granted L s e) _ some

    -- it gives the block nothing, by rule 1 another section
    of_block_law : gave_block L l i (granted L s e) h ≡ 0
    unfolding passage.far_section
    of_block_law =
        dec→stable (ℕ_discrete _ 0) (λ q. far_other L S l i w b c (beyond (line_in L l) i w) (there L S s h I e arrival_granted l i b c w)
        (one_section L _ _ (granted L s e) h q some))

    -- the event neither secures the line nor releases it
    unmoved : (k : ℕ) → 3 ≤ k → k ≤ 9 → ¬ On k e l
    unmoved k x y = no_order L ok s h I (granted L s e) _ some k l x y

    -- nor sets an exit route of it
    unset : ¬ Departs L s e l
    unset D = no_order L ok s h I (granted L s e) _ some 4 e.first (omega arith) (omega arith) (D.is_set, refl)

    -- so its direction stays
    same : direction (done L s e) l ≡ w
    same = direction_same L S.ranges.line_count s e l b (⊎_elim (unmoved 6 (omega arith) (omega arith)) unset) (unmoved 7 (omega arith) (omega arith)) ∙ way

    -- the block was entered, so its far section alone moves it: that reads occupied, and the far signal was at proceed
    pub proved : stage (end L s e) l i ≡ 3
    unfolding passage.far_signal
    proved =
        far_proves L S s h I e arrival_granted l i b c w d same (stage s l i) (omega (arith, held))
        (entered_moves L S s h I e arrival_granted l i b c ((I.blocks l i b c).enters.0 (omega (arith, held))) (λ q. omega (arith, of_block_law)) (λ q. omega (arith, of_block_law))).1
        (far_reads L S s h I e arrival_granted l i b c w ∙ reads_given (gave_section L (far_section L l i w)) (granted L s e) h 2 of_far (omega arith))
        (far_up L s l i w (beyond (line_in L l) i w) (there L S s h I e arrival_granted l i b c w) up)

    -- in the direction in which the line is secured
    pub still : direction (end L s e) l ≡ w
    still = direction_held L S.ranges.line_count s e l b i c (omega (arith, proved)) ∙ same

    -- so a passage waits for the block's free reading
    pub waits : Passage L l i w (granted L s e ∷ h)
    waits = rw still at (((accepted L ok S s h I e arrival_granted).blocks l i b c).passes proved).1

module _ (L : Layout) (ok : sound L ≡ true) (l i w : ℕ) where
  -- a passage waits while the train goes out
  goes_on : (es more : List Event) → GoingOut L l i w es more → Passage L l i w (history L es) → Passage L l i w (history L (es ++ more))
  unfolding GoingOut Since
  goes_on es [] g p = rw (append-nil es) p
  goes_on es (e ∷ more) g p =
      rw (sym (append_assoc es (e ∷ []) more)) (goes_on (es ++ (e ∷ [])) more g.1 (rw (one_more L es e) (inr (g.0, p))))

  module _ (es : List Event) (T : MayGoOn L es l i w) where
    -- the state then
    S : Sound L
    S = sound_says L ok

    abbrev s : State
    s = from_cold L es

    I : Inv L s (history L es)
    I = run_has L ok es

    proceeds : Proceeds (panel L (image L s)) (far_signal L l i w)
    proceeds = rw I.seen at T.proceeds

    -- the far section, given occupied, lets a passage wait
    arrives : (e : Event) → GivesNext L es e (far_section L l i w) 2 → Passage L l i w (history L (es ++ (e ∷ [])))
    unfolding moment gave_section
    arrives e far =
        rw (one_more L es e, box_grants L s e (arrival_granted L ok S s (history L es) I l i w T.line T.block stands secured T.secured proceeds e far))
        (waits L ok S s (history L es) I l i w T.line T.block stands secured T.secured proceeds e far)
      where
        stands : stage s l i ≡ 2
        stands = sym (shows_block L s l i T.line T.block) ∙ ap (λ (p : Panel). p.block l i) (sym I.seen) ∙ T.entered

        secured : direction s l ≡ w
        secured = sym (shows_line L s l T.line) ∙ ap (λ (p : Panel). p.line l) (sym I.seen) ∙ T.way

    -- the far section reads free, its signal being at proceed
    pub far_reads_free : section_reads L (far_section L l i w) (history L es) ≡ 1
    unfolding passage.far_section passage.far_signal
    far_reads_free =
        let beyond_it = beyond_case L l i w T.block in
        sym (I.reads _ (far_there L S l i w T.line T.block))
        ∙ far_free L S l i w T.line T.block s
        (λ j c z. I.reads _ (block_there L S l j T.line c) ∙ ((I.blocks l j T.line c).opens.0 z).is_free)
        I.lights (beyond (line_in L l) i w) beyond_it (far_up L s l i w (beyond (line_in L l) i w) beyond_it proceeds)

  -- a block that a passage waits for reads occupied
  pub waiting_reads : (es : List Event) → l < L.lines → i < (line_in L l).blocks → Passage L l i w (history L es) → block_reads L l i (history L es) ≡ 2
  waiting_reads es b c p =
      let told = (run_has L ok es).blocks l i b c in
      let z = (told.waits w p).0 in
      entered_reads L l i (history L es) (told.enters.0 (omega arith))

  -- given free, while the far signal's lamp reports stop, it opens
  leaves : (es : List Event) (f : Event) → l < L.lines → i < (line_in L l).blocks → Passage L l i w (history L es) → StopLit L l i w (history L es)
      → GivesNext L es f (block L l i) 1 → (shown L (history L (es ++ (f ∷ [])))).block l i ≡ 0
  leaves es f b c p lit given =
      let told = (run_has L ok es).blocks l i b c in
      let z = (told.waits w p).0 in
      ((exact_run L ok (es ++ (f ∷ []))).blocks l i b c).opens.1
      (rw (one_more L es f)
      (opened_by_passage L l i (next L es f) (history L es) w (while_lit (closing L l i (next L es f) (history L es) w given (told.enters.0 (omega arith)) p) lit)))

  -- what a block shows after an event that gives a section something: its stage then
  shows_after : (es : List Event) (f : Event) (g : ℕ) → l < L.lines → i < (line_in L l).blocks → GivesNext L es f g 1
      → (shown L (history L (es ++ (f ∷ [])))).block l i ≡ stage (end L (from_cold L es) f) l i
  unfolding shown moment gave_section
  shows_after es f g b c given =
      rw (one_more L es f, box_grants L (from_cold L es) f (giving_granted L ok (from_cold L es) (history L es) (run_has L ok es) (next L es f) g (λ z. omega arith)))
      (shows_block L (end L (from_cold L es) f) l i b c)

  -- given free while the lamp does not report stop, it waits in stage 3, or opens because the event frees what lies beyond it: that completed its passage
  leaves_waiting : (es : List Event) (f : Event) → l < L.lines → i < (line_in L l).blocks → Passage L l i w (history L es) → ¬ StopLit L l i w (history L es)
      → GivesNext L es f (block L l i) 1
      → ((shown L (history L (es ++ (f ∷ [])))).block l i ≡ 4)
      ⊎ (((shown L (history L (es ++ (f ∷ [])))).block l i ≡ 0) × FreesBeyond L l w (from_arrival (line_in L l) w i) (next L es f) (history L es))
  unfolding moment gave_section
  leaves_waiting es f b c p dark given = rw (shows_after es f (block L l i) b c given, box_grants L s f pass) (go (case_of L S s (history L es) I f pass l b i c))
    where
      S : Sound L
      S = sound_says L ok

      s : State
      s = from_cold L es

      I : Inv L s (history L es)
      I = run_has L ok es

      pass : (refusal (sound L and in_range s) L s f.kind f.first f.second).number ≡ 0
      pass = giving_granted L ok s (history L es) I (next L es f) (block L l i) (λ z. omega arith)

      three : (stage s l i ≡ 3) × (direction s l ≡ w)
      three = (I.blocks l i b c).waits w p

      free : gave_block L l i (granted L s f) (history L es) ≡ 1
      free = given

      frees : Completed L l i w (granted L s f) (history L es) → FreesBeyond L l w (from_arrival (line_in L l) w i) (granted L s f) (history L es)
      frees (while_lit C t) = absurd (dark t)
      frees (with_beyond C B) = B
      frees (later W k B) = B

      opened : ¬ On 7 f l → stage (end L s f) l i ≡ 0
          → (stage (end L s f) l i ≡ 0) × FreesBeyond L l w (from_arrival (line_in L l) w i) (granted L s f) (history L es)
      opened n x = (
        x,
        frees (rw three.1 at ((opens_completed L S s (history L es) I f pass (λ r k. ((accepted L ok S s (history L es) I f pass).routes r k).locks) l b n i c (omega (arith, three.0))).1
            (omega (arith, three.0), x))),
      )

      go : Case L S s (history L es) I f pass l b i c
          → (stage (end L s f) l i ≡ 4) ⊎ ((stage (end L s f) l i ≡ 0) × FreesBeyond L l w (from_arrival (line_in L l) w i) (granted L s f) (history L es))
      go (by_hand_now u v x) = absurd (omega (arith, free))
      go (stays_open n v was x) = absurd (omega (arith, three.0))
      go (shown_stop n v was t x) = inr (opened n x)
      go (opens_with n wait B x) = inr (opened n x)
      go (waits_on n wait B x) = inl x
      go (shut n (inl v) x) = absurd (omega (arith, free))
      go (shut n (inr (inl v)) x) = absurd (v.2 three.0)
      go (shut n (inr (inr v)) x) = absurd (omega (arith, free, v.0))
      go (entered n y (inl v) few far) = absurd (omega (arith, free, v.0))
      go (entered n y (inr v) few far) = absurd (v.0 free)

-- on any sound layout, after any events
pub passes_on : (L : Layout) → sound L ≡ true → PassesOn L
passes_on L ok es more l i w e f T far out lit near =
    leaves L ok l i w _ f T.line T.block (goes_on L ok l i w _ more out (arrives L ok l i w es T e far)) lit near

-- where the lamp does not report stop it waits, or opens because what lies beyond it is freed
pub passes_waiting : (L : Layout) → sound L ≡ true → WaitsOn L
passes_waiting L ok es more l i w e f T far out dark near =
    leaves_waiting L ok l i w _ f T.line T.block (goes_on L ok l i w _ more out (arrives L ok l i w es T e far)) dark near

-- ---- on any layout in use

pub trains_pass : TrainsPass
trains_pass L u = let ok = in_use_sound u in (passes_on L ok, passes_waiting L ok, passes_back L ok)

-- a count of head j gives its section what the log of its heads then tells
count_gives : (L : Layout) (es : List Event) (g j k c : ℕ) → g < L.sections → is_fitted L g ≡ true → j < 2 → (k ≡ 11) ⊎ (k ≡ 12) → c ≤ 65535
    → GivesNext L es (event k (2 * g + j) c) g (reading_told (said k j c ∷ head_log_of L es g))
unfolding moment
count_gives L es g j k c b f x q few =
    let head : (2 * g + j) % 2 ≡ j = omega arith in
    gives_said L g (next L es (event k (2 * g + j) c)) (history L es) b f (counted q (omega arith) few)
    (λ z. absurd (⊎_elim (λ (u : k ≡ 11). omega arith) (λ (u : k ≡ 12). omega arith) q))
    ∙ ap (λ n. reading_told (said k n c ∷ head_log_of L es g)) head

-- the train's arrival gives the far section occupied: it read free
arrival_gives : (L : Layout) (es : List Event) (g : ℕ) {e : Event} → g < L.sections → section_reads L g (history L es) ≡ 1 → Arrives L es g e → GivesNext L es e g 2
unfolding recorded when◌then◌else◌ moment rolled
arrival_gives L es g b r (by_reading f) = gives_recorded L _ _ _ b f refl refl
arrival_gives L es g b r (by_count f j n x low high) =
    count_gives L es g j 11 (rolled (last_told 11 j (head_log_of L es g) + n)) b f x (inl refl) (omega arith)
    ∙ in_reads (head_log_of L es g) n (head_of j x) (sym (reads_by_heads L g b f (history L es)) ∙ r) low high

-- its leaving gives the block free: it read occupied
leaving_gives : (L : Layout) (es : List Event) (g : ℕ) {e : Event} → g < L.sections → section_reads L g (history L es) ≡ 2 → Leaves L es g e → GivesNext L es e g 1
unfolding recorded when◌then◌else◌ moment rolled
leaving_gives L es g b r (by_reading f) = gives_recorded L _ _ _ b f refl refl
leaving_gives L es g b r (by_count f j x) =
    count_gives L es g j 12 (rolled (last_told 12 j (head_log_of L es g) + mag (number_told (head_log_of L es g)))) b f x (inr refl) (omega arith)
    ∙ out_reads (head_log_of L es g) (head_of j x) (sym (reads_by_heads L g b f (history L es)) ∙ r)

-- by readings and counts
pub pass_by_counts : PassByCounts
pass_by_counts L u es more l i w e f T a out lit d =
    let ok : sound L ≡ true = in_use_sound u in
    let S : Sound L = sound_says L ok in
    let far : GivesNext L es e (far_section L l i w) 2 = arrival_gives L es _ (far_there L S l i w T.line T.block) (far_reads_free L ok l i w es T) a in
    let p = goes_on L ok l i w _ more out (arrives L ok l i w es T e far) in
    leaves L ok l i w _ f T.line T.block p lit
    (leaving_gives L _ _ (block_there L S l i T.line T.block) (waiting_reads L ok l i w _ T.line T.block p) d)

-- by readings alone, where neither section has heads
pub pass_by_readings : PassByReadings
pass_by_readings L u es more l i w T far near out lit = pass_by_counts L u es more l i w _ _ T (by_reading far) out lit (by_reading near)
