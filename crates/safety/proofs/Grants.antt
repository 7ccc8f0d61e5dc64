-- The box accepts just what the history grants: each row by what it asks, and so in every event of every run.
use Prim.Native.Nat.{ℕ, ◌/◌, ◌<◌}
use mathlib.Core.Path.{◌≡◌, refl, sym, ap, ◌∙◌}
use mathlib.Core.Logic.Iff
use mathlib.Core.Logic.{inl, inr}
use mathlib.Core.Bool.{true}
use mathlib.Core.List.{List}
use native.Mathlib.Omega.{arith}
use borrow.Author.Tests.{ltb-false, le-ltb}
use Rattle.laws.specs.Choice.{when◌then◌else◌}
use Rattle.laws.specs.Tests.{◌and◌}
use Rattle.axles.specs.declared.Axles.{Axles}
use Rattle.axles.specs.Heads.{speaking}
use Rattle.layout_facts.proofs.Means.{eqb_means, and_means}
use Rattle.layout.specs.declared.Layout.{Layout}
use Rattle.layout.specs.Layout.{is_fitted, signals_in}
use Rattle.layout.specs.Sound.{sound}
use Rattle.layout_facts.specs.Plain.{Sound}
use Rattle.layout_facts.proofs.Sound.{sound_says}
use Rattle.fitted.proofs.InUse.{in_use_sound}
use Rattle.reasons.specs.Refusal.{no_refusal, refused}
use Rattle.reasons.specs.Reasons.{no_heads, has_heads}
use Rattle.interlocking.specs.declared.State.{State}
use Rattle.interlocking.specs.State.{in_range, heads_at}
use Rattle.interlocking.specs.Own.{head_section, heads_of}
use Rattle.interlocking.specs.Rows.{Row, section_row, point_row, bar_row, second_row, head_row, count_row, silent_row, reset_row, still_silent, lamp_row, no_row, row_with, row_of}
use Rattle.interlocking.specs.Step.{row_refusal, refusal}
use Rattle.interlocking.proofs.Rows.{OfKind, section_row_kind, point_row_kind, throw_row_kind, set_row_kind, cancel_row_kind, secure_row_kind, manual_row_kind, bar_row_kind, unbar_row, second_row_kind, count_row_kind, silent_row_kind, reset_row_kind, lamp_row_kind, no_row_kind, row_kind_of, reset_named}
use Rattle.step_facts.specs.Run.{Event, box}
use Rattle.step_facts.proofs.Granted.{step_granted}
use Rattle.safety.specs.History.{History, Throughout, moment, history}
use Rattle.safety.specs.Grants.{MayRead, MayCount, MaySilence, MayReset, MayReport, BlockThere, Grants, section, point, throw, set, cancel, secure, release, bar, unbar, second, count, silence, reset, report, AcceptedJust, AcceptsExactly}
use Rattle.safety.proofs.Heads.{speaks_told}
use Rattle.safety.proofs.Invariant.{Inv}
use Rattle.safety.proofs.EveryEvent.{in_every_event}
use Rattle.step_facts.proofs.Step.{not_refused}
use Rattle.safety.proofs.Unrefused.{Lifts, there_means, right_means, fails_means, unless_means}
use Rattle.safety.proofs.Orders.{fit_means, row_means, throw_means, cancel_means, release_means}
use Rattle.safety.proofs.SetOrders.{secure_means, set_means}

module _ (L : Layout) (ok : sound L ≡ true) (S : Sound L) (s : State) (h : History) (I : Inv L s h) where
  -- ---- the rows that ask nothing of the history

  -- a reading of a section: it is there and has no heads
  section_means : (a b : ℕ) → Lifts (row_refusal (sound L and in_range s) a (section_row L s a b)) (MayRead L a)
  unfolding section_row has_heads no_refusal refused
  section_means a b =
      Iff.trans (fit_means L ok S s h I a _ (there_means _ a) (fails_means a (omega arith)) Iff.rfl (λ p f. Iff.rfl))
      (λ (p, f, w, o). record { there = p; no_heads = f }, λ m. (m.there, m.no_heads, refl, refl))

  -- of a point
  point_means : (a b : ℕ) → Lifts (row_refusal (sound L and in_range s) a (point_row L s a b)) (a < L.points)
  unfolding point_row no_refusal refused
  point_means a b = Iff.trans (row_means L ok S s h I a _ (there_means _ a) refl Iff.rfl (λ p. Iff.rfl)) (λ (p, w, o). p, λ p. (p, refl, refl))

  -- of a lamp (L3)
  lamp_means : (a b : ℕ) → Lifts (row_refusal (sound L and in_range s) a (lamp_row L s a b)) (MayReport L a)
  unfolding lamp_row no_refusal refused signals_in
  lamp_means a b = Iff.trans (row_means L ok S s h I a _ (there_means _ a) refl Iff.rfl (λ p. Iff.rfl)) (λ (p, w, o). p, λ p. (p, refl, refl))

  -- bar, v is 1, and unbar, 0: line and block are there
  bar_means : (v a b : ℕ) → Lifts (row_refusal (sound L and in_range s) a (bar_row v L s a b)) (BlockThere L a b)
  unfolding bar_row no_refusal refused
  bar_means v a b =
      Iff.trans (row_means L ok S s h I a _ (there_means _ a) refl (there_means _ b) (λ p. Iff.rfl))
      (λ (p, w, o). record { line = p; block = w }, λ m. (m.line, m.block, refl))

  -- a second: both numbers are 0
  second_means : (a b : ℕ) → Lifts (row_refusal (sound L and in_range s) a (second_row s a b)) ((a ≡ 0) × (b ≡ 0))
  unfolding second_row no_refusal refused
  second_means a b =
      Iff.trans (row_means L ok S s h I a _ Iff.rfl refl (right_means (and_means (eqb_means a 0) (eqb_means b 0))) (λ p. Iff.rfl))
      (λ (p, w, o). w, λ w. (refl, w, refl))

  -- ---- heads (L1)

  -- 30 is not given where the section has heads
  fitted_means : (g : ℕ) → Lifts (no_heads L g) (is_fitted L g ≡ true)
  unfolding no_heads
  fitted_means g = unless_means g (omega arith) Iff.rfl

  module _ (y : Axles) (a b : ℕ) where
    -- a head's count: the head is there, its section has heads, and the count has 16 bits
    count_means : Lifts (row_refusal (sound L and in_range s) a (count_row L s y a b)) (MayCount L a b)
    unfolding count_row head_row no_refusal refused
    count_means =
        Iff.trans (fit_means L ok S s h I a _ (there_means _ a) (fitted_means (a / 2)) (ltb-false 65535 b, le-ltb 65535 b) (λ p f. Iff.rfl))
        (λ (p, f, w, o). record { there = p; heads = f; sixteen_bits = w }, λ m. (m.there, m.heads, m.sixteen_bits, refl))

    -- a silence
    silence_means : Lifts (row_refusal (sound L and in_range s) a (silent_row L s y a b)) (MaySilence L a b)
    unfolding silent_row head_row no_refusal refused
    silence_means =
        Iff.trans (fit_means L ok S s h I a _ (there_means _ a) (fitted_means (a / 2)) (right_means (eqb_means b 0)) (λ p f. Iff.rfl))
        (λ (p, f, w, o). record { there = p; heads = f; unused = w }, λ m. (m.there, m.heads, m.unused, refl))

    -- a reset: 35 is not given where the log says that both heads speak
    reset_means : (x : Axles) → x ≡ heads_at s.axles a → Lifts (row_refusal (sound L and in_range s) a (reset_row L s x y a b)) (MayReset L a b h)
    unfolding reset_row still_silent head_row
    reset_means x q =
        Iff.trans (fit_means L ok S s h I a _ (there_means _ a) (fitted_means a) (right_means (eqb_means b 0))
        (λ p f. let r = ap speaking q ∙ speaks_told I.heads p f in unless_means {n = 35} a (omega arith) (λ t. sym r ∙ t, λ t. r ∙ t)))
        (λ (p, f, w, o). record { there = p; heads = f; unused = w; speak = o }, λ m. (m.there, m.heads, m.unused, m.speak))

  -- a kind that there is not: 1 is given
  no_row_granted : (a : ℕ) → (row_refusal (sound L and in_range s) a (no_row s)).number ≡ 0 → ⊥
  unfolding no_row refused
  no_row_granted a z = let (p, w, o) = (row_means L ok S s h I a (no_row s) {C = 1 ≡ 0} Iff.rfl refl Iff.rfl (λ p. Iff.rfl)).0 z in omega arith

  -- ---- every row

  module _ (e : Event) where
    -- what is not refused is granted, by the row that its kind has
    grants : (refusal (sound L and in_range s) L s e.kind e.first e.second).number ≡ 0 → Grants L e h
    unfolding refusal heads_of
    grants = go (row_kind_of L s e.kind e.first e.second)
      where
        go : {row : Row} → OfKind L s e.first e.second e.kind row → (row_refusal (sound L and in_range s) e.first row).number ≡ 0 → Grants L e h
        go (section_row_kind k) z = section k ((section_means _ _).0 z)
        go (point_row_kind k) z = point k ((point_means _ _).0 z)
        go (throw_row_kind k) z = throw k ((throw_means L ok S s h I _ _).0 z)
        go (set_row_kind k) z = set k ((set_means L ok S s h I _ _).0 z)
        go (cancel_row_kind k) z = cancel k ((cancel_means L ok S s h I _ _).0 z)
        go (secure_row_kind k) z = secure k ((secure_means L ok S s h I _ _).0 z)
        go (manual_row_kind k) z = release k ((release_means L ok S s h I _ _).0 z)
        go (bar_row_kind k) z = bar k ((bar_means 1 _ _).0 z)
        go (unbar_row k) z = unbar k ((bar_means 0 _ _).0 z)
        go (second_row_kind k) z = second k ((second_means _ _).0 z)
        go (count_row_kind k) z = count k ((count_means _ _ _).0 z)
        go (silent_row_kind k) z = silence k ((silence_means _ _ _).0 z)
        go (reset_row_kind k) z = reset k ((reset_means _ _ _ _ (ap (heads_at s.axles) (reset_named _ _ k))).0 z)
        go (lamp_row_kind k) z = report k ((lamp_means _ _).0 z)
        go (no_row_kind u) z = absurd (no_row_granted _ z)

    -- what is granted is not refused
    not_refuses : Grants L e h → (refusal (sound L and in_range s) L s e.kind e.first e.second).number ≡ 0
    unfolding refusal row_of row_with heads_of head_section when◌then◌else◌
    not_refuses (section k m) = rw k ((section_means _ _).1 m)
    not_refuses (point k m) = rw k ((point_means _ _).1 m)
    not_refuses (report k m) = rw k ((lamp_means _ _).1 m)
    not_refuses (throw k m) = rw k ((throw_means L ok S s h I _ _).1 m)
    not_refuses (set k m) = rw k ((set_means L ok S s h I _ _).1 m)
    not_refuses (cancel k m) = rw k ((cancel_means L ok S s h I _ _).1 m)
    not_refuses (secure k m) = rw k ((secure_means L ok S s h I _ _).1 m)
    not_refuses (release k m) = rw k ((release_means L ok S s h I _ _).1 m)
    not_refuses (bar k m) = rw k ((bar_means 1 _ _).1 m)
    not_refuses (unbar k m) = rw k ((bar_means 0 _ _).1 m)
    not_refuses (second k m) = rw k ((second_means _ _).1 m)
    not_refuses (count (inl k) m) = rw k ((count_means _ _ _).1 m)
    not_refuses (count (inr k) m) = rw k ((count_means _ _ _).1 m)
    not_refuses (silence k m) = rw k ((silence_means _ _ _).1 m)
    not_refuses (reset k m) = rw k ((reset_means _ _ _ _ refl).1 m)

    -- so its answer is 0 just where it is granted
    accepts : AcceptedJust L (moment L e (box L s e)) h
    unfolding moment box
    accepts = (λ z. grants (not_refused L s e.kind e.first e.second z), λ g. rw (step_granted L s e (not_refuses g)))

-- ---- in every event of every run

-- on any sound layout
pub accepts_run : (L : Layout) → sound L ≡ true → (es : List Event) → Throughout (AcceptedJust L) (history L es)
accepts_run L ok es = in_every_event L ok _ (accepts L ok (sound_says L ok)) es

-- on any layout file that loads with 0
pub accepts_exactly : AcceptsExactly
accepts_exactly L u es = accepts_run L (in_use_sound u) es
