-- Heads (L1): what an event says of them, by its kind; what is held of them in the state is what the log of them tells.
use Prim.Native.Nat.{ℕ, ◌/◌, ◌%◌, ◌<◌, ◌≤◌}
use mathlib.Core.Path.{◌≡◌, sym, ap, ◌∙◌}
use mathlib.Core.Logic.{◌≢◌, ◌⊎◌, inl, inr, ⊎_elim}
use mathlib.Core.Bool.{Bool, true, false}
use mathlib.Core.List.{List, [], ◌∷◌}
use native.Mathlib.Decide.{ℕ_discrete}
use native.Mathlib.Omega.{arith}
use borrow.Author.Tests.{eqb-true, eq-eqb, ne_eqb, leb-true, le-leb}
use lib.ListN.{length, get_or-replicate, length-replicate}
use Rattle.laws.specs.Choice.{when◌then◌else◌}
use Rattle.laws.specs.Tests.{◌and◌, ◌or◌}
use Rattle.laws.proofs.Choice.{if_both, chosen, passed_over}
use Rattle.laws.proofs.Tests.{and_left, and_right, and_both, or_cases, implies_from}
use Rattle.track.specs.Sizes.{most_sections}
use Rattle.axles.specs.declared.Axles.{Axles}
use Rattle.axles.specs.Heads.{cold_heads, speaking, axles_after, axles_reading, heads_after_log}
use Rattle.axles.specs.HeadLog.{HeadLog, said, both_speak, reading_told}
use Rattle.axles.proofs.HeadLog.{log_reads, log_speaks}
use Rattle.axles.proofs.GivesNone.{refused_leaves}
use Rattle.layout.specs.declared.Layout.{Layout}
use Rattle.layout.specs.Layout.{is_fitted}
use Rattle.layout.specs.Sound.{sound}
use Rattle.interlocking.specs.declared.State.{State}
use Rattle.interlocking.specs.State.{cold, in_range, heads_at}
use Rattle.interlocking.specs.Own.{head_section, heads_by}
use Rattle.interlocking.specs.Step.{refusal}
use Rattle.interlocking.proofs.Rows.{head_named, reset_named}
use Rattle.step_facts.specs.Run.{Event}
use Rattle.step_facts.proofs.Own.{heads_say_in}
use Rattle.step_facts.proofs.Passed.{count_few, no_count}
use Rattle.safety.specs.Said.{named, of_heads, said_of, saying, takes_effect}
use Rattle.safety.specs.History.{Moment, History, head_log, gave_by_heads}

-- ---- what an event says

-- it is of the heads of section g: a count of axles in or out, a silence, a reset
pub data SaidOf (g : ℕ) (e : Event) : Type 0 where
  counted : (e.kind ≡ 11) ⊎ (e.kind ≡ 12) → e.first / 2 ≡ g → e.second ≤ 65535 → SaidOf g e
  silenced : e.kind ≡ 13 → e.first / 2 ≡ g → e.second ≡ 0 → SaidOf g e
  resets : e.kind ≡ 14 → e.first ≡ g → e.second ≡ 0 → SaidOf g e

module _ {g : ℕ} {e : Event} where
  -- by the tests, one after the other
  pub said_is : said_of g e ≡ true → SaidOf g e
  unfolding said_of of_heads named
  said_is t = go (and_left _ _ t)
    where
      by : {k : ℕ} → named e ≡ k → k ≡ g
      by p = sym p ∙ eqb-true (named e) g (and_right (of_heads e) _ t)

      head : e.kind ≢ 14 → e.first / 2 ≡ g
      head d = by (passed_over _ _ _ (ne_eqb e.kind 14 d))

      of_count : (e.kind ≡ 11) ⊎ (e.kind ≡ 12) → e.second ≤ 65535 → SaidOf g e
      of_count (inl k) b = counted (inl k) (head (omega arith)) b
      of_count (inr k) b = counted (inr k) (head (omega arith)) b

      go : of_heads e ≡ true → SaidOf g e
      go =
          if_both (λ (r : Bool). r ≡ true → SaidOf g e) _
          (λ c u. of_count (⊎_elim (λ x. inl (eqb-true _ 11 x)) (λ x. inr (eqb-true _ 12 x)) (or_cases _ _ c)) (leb-true _ _ u))
          (λ f u. let none = eqb-true _ 0 (and_right _ _ u) in
          ⊎_elim (λ x. let k = eqb-true e.kind 13 x in silenced k (head (omega arith)) none)
          (λ x. resets (eqb-true _ 14 x) (by (chosen _ _ _ x)) none) (or_cases _ _ (and_left _ _ u)))

  -- and back
  pub is_said : SaidOf g e → said_of g e ≡ true
  unfolding said_of of_heads named when◌then◌else◌ ◌and◌ ◌or◌
  is_said (counted (inl k) q b) = rw k (and_both _ _ (le-leb _ _ b) (eq-eqb _ g q))
  is_said (counted (inr k) q b) = rw k (and_both _ _ (le-leb _ _ b) (eq-eqb _ g q))
  is_said (silenced k q b) = rw k (and_both _ _ (eq-eqb _ 0 b) (eq-eqb _ g q))
  is_said (resets k q b) = rw k (and_both _ _ (eq-eqb _ 0 b) (eq-eqb _ g q))

  -- it is of kinds 11 to 14
  pub said_kinds : SaidOf g e → (11 ≤ e.kind) × (e.kind ≤ 14)
  said_kinds (counted (inl k) q b) = omega arith
  said_kinds (counted (inr k) q b) = omega arith
  said_kinds (silenced k q b) = omega arith
  said_kinds (resets k q b) = omega arith

  -- its second number has 16 bits
  said_few : SaidOf g e → e.second ≤ 65535
  said_few (counted k q b) = b
  said_few (silenced k q b) = omega arith
  said_few (resets k q b) = omega arith

-- it is of one section's heads
pub said_one : {g k : ℕ} {e : Event} → SaidOf g e → SaidOf k e → g ≡ k
unfolding said_of
said_one {g} {k} {e} x y =
    sym (eqb-true (named e) g (and_right (of_heads e) _ (is_said x))) ∙ eqb-true (named e) k (and_right (of_heads e) _ (is_said y))

-- one that was accepted is such an event of its section: by its kind
pub said_passed : (L : Layout) (s : State) (e : Event) → (refusal (sound L and in_range s) L s e.kind e.first e.second).number ≡ 0
    → (11 ≤ e.kind) × (e.kind ≤ 14) → SaidOf (head_section e.kind e.first) e
said_passed L s e pass h = go (ℕ_discrete e.kind 11) (ℕ_discrete e.kind 12) (ℕ_discrete e.kind 13)
  where
    head : e.kind ≢ 14 → e.first / 2 ≡ head_section e.kind e.first
    head d = sym (head_named _ _ d)

    go : Dec (e.kind ≡ 11) → Dec (e.kind ≡ 12) → Dec (e.kind ≡ 13) → SaidOf (head_section e.kind e.first) e
    go (yes k) y z = counted (inl k) (head (omega arith)) (count_few L s e pass (inl k))
    go (no x) (yes k) z = counted (inr k) (head (omega arith)) (count_few L s e pass (inr k))
    go (no x) (no y) (yes k) = silenced k (head (omega arith)) (no_count L s e pass (inl k))
    go (no x) (no y) (no z) = let k : e.kind ≡ 14 = omega arith in resets k (sym (reset_named _ _ k)) (no_count L s e pass (inr k))

-- an event that says something gives what the log then reads, a reset where both heads speak
pub heads_gave : {g : ℕ} {e : Event} (es : HeadLog) → SaidOf g e → (e.kind ≡ 14 → both_speak es ≡ true) → gave_by_heads g e es ≡ reading_told (saying e ∷ es)
unfolding gave_by_heads takes_effect
heads_gave {e = e} es x f = chosen _ _ _ (and_both _ _ (is_said x) (implies_from _ _ (λ t. f (eqb-true e.kind 14 t))))

-- ---- the log

module _ (g : ℕ) (m : Moment) (h : History) where
  -- what is said is the newest of it
  pub log_said : SaidOf g m.event → head_log g (m ∷ h) ≡ saying m.event ∷ head_log g h
  unfolding head_log
  log_said x = chosen _ _ _ (is_said x)

  -- where nothing is said it stays
  pub log_unsaid : said_of g m.event ≡ false → head_log g (m ∷ h) ≡ head_log g h
  unfolding head_log
  log_unsaid f = passed_over _ _ _ f

-- what a log reads is free, occupied or none
pub told_in : (es : HeadLog) → (1 ≤ reading_told es) × (reading_told es ≤ 3)
told_in es = let q = log_reads es in omega (arith, heads_say_in (heads_after_log es))

-- a reset while a head is silent counts for nothing
pub reset_lost : (e : Event) (es : HeadLog) → e.kind ≡ 14 → both_speak es ≡ false → heads_after_log (saying e ∷ es) ≡ heads_after_log es
unfolding heads_after_log
reset_lost e es k f = refused_leaves (heads_after_log es) (saying e) k (log_speaks es ∙ f)

-- ---- what is held of heads

-- each section of the tables has heads, and those of a fitted section that there is are as the log of them tells
pub record HeadsHeld (L : Layout) (xs : List Axles) (h : History) : Type 0 where
  pub room : length xs ≡ most_sections
  pub told : (g : ℕ) → g < L.sections → is_fitted L g ≡ true → heads_at xs g ≡ heads_after_log (head_log g h)

-- at the cold start nothing was said
pub cold_heads_law : (L : Layout) → L.sections ≤ most_sections → HeadsHeld L cold.axles []
unfolding cold heads_at head_log heads_after_log
cold_heads_law L few = record { room = length-replicate most_sections cold_heads; told = λ g b f. get_or-replicate most_sections g cold_heads cold_heads (omega arith) }

module _ {L : Layout} {xs : List Axles} {h : History} (H : HeadsHeld L xs h) {g : ℕ} (there : g < L.sections) (fitted : is_fitted L g ≡ true) where
  -- both heads speak where the log says so
  pub speaks_told : speaking (heads_at xs g) ≡ both_speak (head_log g h)
  speaks_told = ap speaking (H.told g there fitted) ∙ log_speaks (head_log g h)

  -- what becomes of them by an event that says something of them is what the log then tells: its count has 16 bits
  pub heads_then : {e : Event} → SaidOf g e → heads_by (heads_at xs g) e.kind e.first e.second ≡ heads_after_log (saying e ∷ head_log g h)
  unfolding heads_by heads_after_log
  heads_then {e} x =
      let n : e.second % 65536 ≡ e.second = omega (arith, said_few x) in
      ap (λ k. axles_after (heads_at xs g) (said e.kind (e.first % 2) k)) n ∙ ap (λ y. axles_after y (saying e)) (H.told g there fitted)

  -- and they say what it reads
  pub reading_then : {e : Event} → SaidOf g e
      → axles_reading (heads_by (heads_at xs g) e.kind e.first e.second) ≡ reading_told (saying e ∷ head_log g h)
  reading_then {e} x = ap axles_reading (heads_then x) ∙ log_reads (saying e ∷ head_log g h)
