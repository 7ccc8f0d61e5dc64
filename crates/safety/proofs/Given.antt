-- What is given: its laws. An event gives one section at most, and one of three values; a refused event and an order give nothing; what is stored, what the
-- release of routes is told and what blocks go by follow it. Nothing else looks at the kind of a reading.
use Prim.Native.Nat.{ℕ, ◌<◌, ◌≤◌}
use mathlib.Core.Path.{◌≡◌, refl, sym, ap, ◌∙◌}
use mathlib.Core.Logic.{◌≢◌, inl, inr}
use mathlib.Core.HLevel.{dec→stable}
use mathlib.Core.Bool.{true, false}
use mathlib.Core.List.{List, ◌∷◌}
use native.Mathlib.Decide.{ℕ_discrete}
use native.Mathlib.Omega.{arith}
use borrow.Author.Tests.{eqb-true, eq-eqb, ne_eqb, ltb-true, lt-ltb}
use lib.Dec.{eqb}
use Rattle.laws.specs.Choice.{when◌then◌else◌}
use Rattle.laws.specs.Tests.{◌and◌}
use Rattle.laws.specs.Tables.{read, put}
use Rattle.laws.proofs.Choice.{if_both, chosen, passed_over}
use Rattle.laws.proofs.Tests.{and_left, and_right, and_both, implied, not_both, fails_from}
use Rattle.track.specs.Sizes.{most_sections}
use Rattle.tables.specs.Readings.{recorded, given}
use Rattle.tables.specs.Readings as readings
use Rattle.axles.specs.declared.Axles.{Axles}
use Rattle.axles.specs.Heads.{speaking, axles_reading}
use Rattle.axles.specs.HeadLog.{both_speak, reading_told}
use Rattle.layout.specs.declared.Layout.{Layout}
use Rattle.layout.specs.Layout.{is_fitted}
use Rattle.layout.specs.Sound.{sound}
use Rattle.interlocking.specs.declared.State.{State}
use Rattle.interlocking.specs.State.{in_range, heads_at, with_sections, with_routes, with_lines, with_axles}
use Rattle.interlocking.specs.Own.{own_section, own_lock, own_cancel, own_secure, own_manual, heads_of}
use Rattle.interlocking.specs.Rows.{Row, nothing, gives_reading, a_second, section_row, point_row, throw_row, set_row, cancel_row, secure_row, manual_row, bar_row, second_row, head_row, count_row, silent_row, reset_row, lamp_row, no_row}
use Rattle.interlocking.specs.Step.{refusal, gives}
use Rattle.interlocking.proofs.Rows.{OfKind, section_row_kind, point_row_kind, throw_row_kind, set_row_kind, cancel_row_kind, secure_row_kind, manual_row_kind, bar_row_kind, unbar_row, second_row_kind, count_row_kind, silent_row_kind, reset_row_kind, lamp_row_kind, no_row_kind, row_kind_of, reset_named, heads_row_kind}
use Rattle.panel.specs.Panel.{image}
use Rattle.step_facts.specs.Run.{Event}
use Rattle.step_facts.proofs.Own.{recorded_in, heads_say_in}
use Rattle.step_facts.proofs.Tells.{Tells, by_code, by_heads, Untold}
use Rattle.safety.specs.Said.{saying, takes_effect}
use Rattle.safety.specs.History.{Moment, History, gave_by_reading, head_log, gave_by_heads, gave_section}
use Rattle.step_facts.proofs.Entries.{put_here, put_elsewhere}
use Rattle.step_facts.proofs.Within.{done, end, Done, reads, sets, cancels, secures, opens, leaves, is_done}
use Rattle.step_facts.proofs.Passed.{reading_there, heads_there, reset_speaking}
use Rattle.step_facts.proofs.Granted.{reading_granted, count_granted, silence_granted, reset_granted}
use Rattle.safety.proofs.Heads.{SaidOf, counted, silenced, resets, said_is, said_kinds, said_one, said_passed, heads_gave, told_in, HeadsHeld, speaks_told, reading_then}

-- the moment of an accepted event
abbrev pub granted : Layout → State → Event → Moment
granted L s e = record { event = e; number = 0; detail = 0; image = image L (end L s e) }

-- ---- of the history alone

-- what event e is, if it gives section g something after h: a reading of it, where it has no heads; where it has heads, one that says something of them, a
-- reset only while both speak (L1)
pub data Gave (L : Layout) (g : ℕ) (e : Event) (h : History) : Type 0 where
  by_reading : g < L.sections → is_fitted L g ≡ false → e.kind ≡ 1 → e.first ≡ g → Gave L g e h
  by_saying : g < L.sections → is_fitted L g ≡ true → SaidOf g e → (e.kind ≡ 14 → both_speak (head_log g h) ≡ true) → Gave L g e h

module _ (L : Layout) (g : ℕ) (m : Moment) (h : History) where
  -- three values: nothing, or free, occupied or none
  pub gave_few : gave_section L g m h ≤ 3
  unfolding gave_section gave_by_reading gave_by_heads
  gave_few =
      if_both Few _
      (λ t. if_both Few _ (λ u. if_both Few _ (λ v. (told_in _).1) (λ v. omega arith))
      (λ u. if_both Few _ (λ v. if_both Few _ (λ w. omega arith) (λ w. if_both Few _ (λ x. omega arith) (λ x. omega arith))) (λ v. omega arith)))
      (λ f. omega arith)
    where
      Few : ℕ → Type 0
      Few n = n ≤ 3

  -- by the tests, one after the other
  is_given : gave_section L g m h ≢ 0 → Gave L g m.event h
  unfolding gave_section gave_by_reading gave_by_heads takes_effect
  is_given =
      if_both Is _
      (λ t. if_both Is _
      (λ u. if_both Is _ (λ v d. by_saying (ltb-true g _ t) u (said_is (and_left _ _ v)) (λ k. implied _ _ (and_right _ _ v) (eq-eqb _ 14 k))) (λ v d. absurd (d refl)))
      (λ u. if_both Is _ (λ v d. by_reading (ltb-true g _ t) u (eqb-true _ 1 (and_left _ _ v)) (eqb-true _ g (and_right _ _ v))) (λ v d. absurd (d refl))))
      (λ f d. absurd (d refl))
    where
      Is : ℕ → Type 0
      Is n = n ≢ 0 → Gave L g m.event h

  -- so where it is no such event it gives nothing
  pub gives_none : ¬ Gave L g m.event h → gave_section L g m h ≡ 0
  gives_none f = dec→stable (ℕ_discrete _ 0) (λ d. f (is_given d))

  -- one of another kind is none
  pub untold_gives_nothing : Untold m.event.kind → gave_section L g m h ≡ 0
  untold_gives_nothing u = gives_none no
    where
      no : ¬ Gave L g m.event h
      no (by_reading b f k q) = u.0 k
      no (by_saying b f x y) = let k = said_kinds x in omega arith

  -- an order gives nothing
  pub order_gives_nothing : (3 ≤ m.event.kind) × (m.event.kind ≤ 9) → gave_section L g m h ≡ 0
  order_gives_nothing k = untold_gives_nothing (omega arith)

  -- a reading gives a section with no heads what is recorded of its code
  pub gives_recorded : g < L.sections → is_fitted L g ≡ false → m.event.kind ≡ 1 → m.event.first ≡ g → gave_section L g m h ≡ recorded m.event.second
  unfolding gave_section gave_by_reading recorded
  gives_recorded b f k q = chosen _ _ 0 (lt-ltb g _ b) ∙ passed_over _ _ _ f ∙ chosen _ _ 0 (and_both _ _ (eq-eqb _ 1 k) (eq-eqb _ g q))

  -- an event that says something of a section's heads gives it what the log of them then reads
  pub gives_said : g < L.sections → is_fitted L g ≡ true → SaidOf g m.event → (m.event.kind ≡ 14 → both_speak (head_log g h) ≡ true)
      → gave_section L g m h ≡ reading_told (saying m.event ∷ head_log g h)
  unfolding gave_section
  gives_said b f x y = chosen _ _ 0 (lt-ltb g _ b) ∙ chosen _ _ _ f ∙ heads_gave (head_log g h) x y

-- one section at most
pub one_section : (L : Layout) (g k : ℕ) (m : Moment) (h : History) → gave_section L g m h ≢ 0 → gave_section L k m h ≢ 0 → g ≡ k
one_section L g k m h p q = go (is_given L g m h p) (is_given L k m h q)
  where
    go : Gave L g m.event h → Gave L k m.event h → g ≡ k
    go (by_reading b f x y) (by_reading c d z w) = sym y ∙ w
    go (by_reading b f x y) (by_saying c d z w) = absurd (let u = said_kinds z in omega arith)
    go (by_saying b f x y) (by_reading c d z w) = absurd (let u = said_kinds x in omega arith)
    go (by_saying b f x y) (by_saying c d z w) = said_one x z

-- so two that are given something are given the same
pub same_given : (L : Layout) (g k : ℕ) (m : Moment) (h : History) → gave_section L g m h ≢ 0 → gave_section L k m h ≢ 0 → gave_section L g m h ≡ gave_section L k m h
same_given L g k m h p q = ap (λ n. gave_section L n m h) (one_section L g k m h p q)

-- ---- a refused event gives nothing: each event that would give something is accepted

module _ (L : Layout) (ok : sound L ≡ true) (s : State) (ranged : in_range s ≡ true) (e : Event)
    (d : (refusal (sound L and in_range s) L s e.kind e.first e.second).number ≢ 0) where
  -- of the heads of a section none is refused but a reset while one of them is silent
  pub refused_said : (g : ℕ) → g < L.sections → is_fitted L g ≡ true → SaidOf g e → (e.kind ≡ 14) × (speaking (heads_at s.axles g) ≡ false)
  refused_said g b f (counted k q n) = absurd (d (count_granted L s ok ranged e.kind e.first e.second k (omega arith) (rw q f) n))
  refused_said g b f (silenced k q n) = absurd (d (rw (k, n) (silence_granted L s ok ranged e.first (omega arith) (rw q f))))
  refused_said g b f (resets k q n) = (k, fails_from _ (λ t. d (rw (k, q, n) (reset_granted L s ok ranged g b f t))))

pub refused_gives_nothing : (L : Layout) → sound L ≡ true → (s : State) → in_range s ≡ true → (m : Moment) (h : History) → HeadsHeld L s.axles h
    → (refusal (sound L and in_range s) L s m.event.kind m.event.first m.event.second).number ≢ 0 → (g : ℕ) → gave_section L g m h ≡ 0
refused_gives_nothing L ok s ranged m h H d g = gives_none L g m h no
  where
    no : ¬ Gave L g m.event h
    no (by_reading b f k q) = d (rw (k, q) (reading_granted L s ok ranged g m.event.second b f))
    no (by_saying b f x y) = let (k, silent) = refused_said L ok s ranged m.event d g b f x in not_both (y k) (sym (speaks_told H b f) ∙ silent)

-- ---- an accepted event

module _ (L : Layout) (s : State) (e : Event) (h : History) (H : HeadsHeld L s.axles h)
    (pass : (refusal (sound L and in_range s) L s e.kind e.first e.second).number ≡ 0) where
  -- what the box takes it to give a section is what it gives
  gives_told : {g v : ℕ} {xs : List Axles} → Tells s e g v xs → gave_section L g (granted L s e) h ≡ v
  gives_told (by_code k) = let (b, f) = reading_there L s e pass k in gives_recorded L e.first (granted L s e) h b f k refl
  gives_told (by_heads {g} k p q) =
      let there : g < L.sections = rw p (heads_there L s e pass k).0 in
      let fitted : is_fitted L g ≡ true = rw p (heads_there L s e pass k).1 in
      let says : SaidOf g e = rw p (said_passed L s e pass k) in
      gives_said L g (granted L s e) h there fitted says
      (λ z. sym (speaks_told H there fitted) ∙ ap (λ n. speaking (heads_at s.axles n)) (p ∙ reset_named _ _ z) ∙ reset_speaking L s e pass z)
      ∙ sym (ap axles_reading q ∙ reading_then H there fitted says)

  -- which is something
  told_some : {g v : ℕ} {xs : List Axles} → Tells s e g v xs → v ≢ 0
  told_some (by_code k) z = omega (arith, recorded_in e.second)
  told_some (by_heads {y = y} k p q) z = omega (arith, heads_say_in y)

  -- and any other section nothing
  gives_other : {k v : ℕ} {xs : List Axles} → Tells s e k v xs → (g : ℕ) → k ≢ g → gave_section L g (granted L s e) h ≡ 0
  gives_other {k} t g d =
      dec→stable (ℕ_discrete _ 0) (λ q. d (one_section L k g (granted L s e) h (λ z. told_some t (sym (gives_told t) ∙ z)) q))

  module _ (g : ℕ) where
    -- the stored reading follows it: what was given, or what the section read
    pub stored_follows : g < most_sections
        → readings.reading (done L s e).section g ≡ when eqb (gave_section L g (granted L s e) h) 0 then readings.reading s.section g else gave_section L g (granted L s e) h
    unfolding own_section own_lock own_cancel own_secure own_manual with_sections with_routes with_lines with_axles readings.reading
    stored_follows b = go (is_done L s e)
      where
        Follows : ℕ → Type 0
        Follows x = x ≡ when eqb (gave_section L g (granted L s e) h) 0 then read most_sections 3 s.section g else gave_section L g (granted L s e) h

        kept : gave_section L g (granted L s e) h ≡ 0 → Follows (read most_sections 3 s.section g)
        kept z = sym (chosen _ _ _ (eq-eqb _ 0 z))

        same : Untold e.kind → Follows (read most_sections 3 s.section g)
        same u = kept (untold_gives_nothing L g (granted L s e) h u)

        at : {k v : ℕ} {xs : List Axles} → Tells s e k v xs → Dec (g ≡ k) → Follows (read most_sections 3 (put most_sections s.section k v) g)
        at {k} {v} t (yes q) =
            let told : gave_section L g (granted L s e) h ≡ v = rw q (gives_told t) in
            put_here most_sections 3 s.section k v g b q ∙ sym told
            ∙ sym (passed_over _ _ _ (ne_eqb (gave_section L g (granted L s e) h) 0 (λ z. told_some t (sym told ∙ z))))
        at {k} {v} t (no d) = put_elsewhere most_sections 3 s.section k v g b d ∙ kept (gives_other t g (λ q. d (sym q)))

        go : {t : State} → Done L s e t → Follows (read most_sections 3 t.section g)
        go (reads {g = k} t) = at t (ℕ_discrete g k)
        go (sets k) = same (omega arith)
        go (cancels k) = same (omega arith)
        go (secures k) = same (omega arith)
        go (opens k) = same (omega arith)
        go (leaves d u) = rw u.0 (same d.4)

    -- what the box takes a reading to give the section follows it
    pub reading_follows : {k v : ℕ} {xs : List Axles} → Tells s e k v xs → given (gives_reading k v) g ≡ gave_section L g (granted L s e) h
    unfolding given gives_reading
    reading_follows {k} {v} t = go (ℕ_discrete k g)
      where
        go : Dec (k ≡ g) → (when eqb k g then v else 0) ≡ gave_section L g (granted L s e) h
        go (yes q) = chosen _ _ _ (eq-eqb _ g q) ∙ rw (sym q) (sym (gives_told t))
        go (no d) = passed_over _ _ _ (ne_eqb _ g d) ∙ sym (gives_other t g d)

    -- and so does what it takes any event to give it
    pub box_follows : g < most_sections → given (gives L s e.kind e.first e.second) g ≡ gave_section L g (granted L s e) h
    unfolding gives given section_row point_row throw_row set_row cancel_row secure_row manual_row bar_row second_row head_row count_row silent_row reset_row lamp_row no_row heads_of nothing a_second
    box_follows b = go (row_kind_of L s e.kind e.first e.second)
      where
        none : Untold e.kind → (x : ℕ) → (when eqb most_sections g then x else 0) ≡ gave_section L g (granted L s e) h
        none u x = passed_over _ _ _ (ne_eqb most_sections g (omega arith)) ∙ sym (untold_gives_nothing L g (granted L s e) h u)

        told : {row : Row} → OfKind L s e.first e.second e.kind row → (11 ≤ e.kind) × (e.kind ≤ 14) → given row.gives g ≡ gave_section L g (granted L s e) h
        told r k = rw (heads_row_kind r k).1 (reading_follows (by_heads k refl refl))

        go : {row : Row} → OfKind L s e.first e.second e.kind row → given row.gives g ≡ gave_section L g (granted L s e) h
        go (section_row_kind q) = reading_follows (by_code q)
        go (point_row_kind q) = none (omega arith) 0
        go (throw_row_kind q) = none (omega arith) 0
        go (set_row_kind q) = none (omega arith) 0
        go (cancel_row_kind q) = none (omega arith) 0
        go (secure_row_kind q) = none (omega arith) 0
        go (manual_row_kind q) = none (omega arith) 0
        go (bar_row_kind q) = none (omega arith) 0
        go (unbar_row q) = none (omega arith) 0
        go (second_row_kind q) = none (omega arith) 0
        go (count_row_kind (inl q)) = told (count_row_kind (inl q)) (omega arith)
        go (count_row_kind (inr q)) = told (count_row_kind (inr q)) (omega arith)
        go (silent_row_kind q) = told (silent_row_kind q) (omega arith)
        go (reset_row_kind q) = told (reset_row_kind q) (omega arith)
        go (lamp_row_kind q) = none (omega arith) 0
        go (no_row_kind u) = none (u.others.no_section, u.no_in, u.no_out, u.no_silent, u.no_reset) 0
