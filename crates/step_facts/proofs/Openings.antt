-- Openings within one event (L3), told by the stages of the blocks of a line before it, after their own readings, after these passed back, after far sections
-- and at its end: a block that waits opens just where what lies beyond it opens.
use Prim.Native.Nat.{ℕ, zero, suc, ◌-◌, ◌<◌, ◌≤◌}
use mathlib.Core.Path.{◌≡◌, refl, sym, ◌∙◌}
use mathlib.Core.Logic.{◌≢◌, ◌⊎◌, ◌↔◌, inl, inr}
use mathlib.Core.Bool.{Bool, true, false}
use mathlib.Core.List.{List}
use native.Mathlib.Decide.{ℕ_discrete}
use native.Mathlib.Omega.{arith}
use borrow.Author.Tests.{eqb-true, eq-eqb}
use lib.Dec.{eqb}
use Rattle.laws.specs.Tests.{◌and◌, ◌or◌}
use Rattle.laws.specs.Choice.{when◌then◌else◌}
use Rattle.laws.proofs.Tests.{and_left, and_right, and_both, or_left, or_right, or_cases, not_both}
use Rattle.track.specs.declared.Line.{Line}
use Rattle.tables.specs.Blocks.{stage_of}
use Rattle.passage.specs.Passage.{from_arrival}
use Rattle.passage.proofs.Laws.{counted_below, counted_twice}
use Rattle.line_block.proofs.PassingBackLaws.{opens_none, goes_still, waited_shut, not_waiting, waited_open}
use Rattle.line_block.specs.PassingBack.{goes_open, no_opening, no_arrival, opens_beyond, waited_stage}

-- ---- all blocks of a line, through one event

-- the stages of line l, which is b and secured in direction w: before the event, after own readings, after these passed back, after far sections, at the end
pub record Through (b : Line) (l w : ℕ) (arrived : ℕ → ℕ → Bool) (before own back far last : List ℕ) : Type 0 where
  -- a block that is open or waits after its own reading was held before, and if open in stage 2, unless it was open
  pub opens : (i : ℕ) → i < b.blocks → stage_of own l i ≡ 0 → stage_of before l i ≢ 0 → stage_of before l i ≡ 3
  pub waits : (i : ℕ) → i < b.blocks → stage_of own l i ≡ 4 → stage_of before l i ≢ 0
  -- passing back, far sections, routes
  pub passes : (i : ℕ) → i < b.blocks → stage_of back l i ≡ waited_stage b own (goes_open before own) no_arrival l i w (stage_of own l i)
  pub keeps : (i : ℕ) → i < b.blocks → (v : ℕ) → (v ≡ 0) ⊎ (v ≡ 4) → (stage_of far l i ≡ v ↔ stage_of back l i ≡ v)
  pub ends : (i : ℕ) → i < b.blocks → stage_of last l i ≡ waited_stage b far no_opening arrived l i w (stage_of far l i)

-- what lies beyond the block that is counted d from the arrival end opens in the event, as the end tells it: an entrance route is released, or the next
-- block was held before and is open at the end
unfoldable pub Opens : Line → ℕ → ℕ → (ℕ → ℕ → Bool) → List ℕ → List ℕ → ℕ → Type 0
Opens b l w arrived before last zero = arrived l w ≡ true
Opens b l w arrived before last (suc d) = (stage_of before l (from_arrival b w d) ≢ 0) × (stage_of last l (from_arrival b w d) ≡ 0)

-- one block, whatever the direction
module _ {b : Line} {l w : ℕ} {arrived : ℕ → ℕ → Bool} {before own back far last : List ℕ} (T : Through b l w arrived before own back far last) (i : ℕ) (c : i < b.blocks) where
  -- open after passing back: it stays so
  open_on : stage_of back l i ≡ 0 → stage_of last l i ≡ 0
  open_on q = let f = (T.keeps i c 0 (inl refl)).1 q in T.ends i c ∙ not_waiting _ _ _ _ l i w (omega arith) ∙ f

  -- open after its own reading: it stays so
  pub open_stays : stage_of own l i ≡ 0 → stage_of last l i ≡ 0
  open_stays q = open_on (T.passes i c ∙ not_waiting _ _ _ _ l i w (omega arith) ∙ q)

  -- it waits after far sections: so it did after its own reading
  waited_before : stage_of far l i ≡ 4 → stage_of own l i ≡ 4
  waited_before q = go (ℕ_discrete (stage_of own l i) 4)
    where
      back_4 : stage_of back l i ≡ 4
      back_4 = (T.keeps i c 4 (inr refl)).0 q

      go : Dec (stage_of own l i ≡ 4) → stage_of own l i ≡ 4
      go (yes p) = p
      go (no p) = sym (not_waiting _ _ _ _ l i w p) ∙ sym (T.passes i c) ∙ back_4

  -- a block that neither is open nor waits after its own reading is at the end as far sections leave it
  pub moves_on : stage_of own l i ≢ 0 → stage_of own l i ≢ 4 → (stage_of back l i ≡ stage_of own l i) × (stage_of last l i ≡ stage_of far l i)
  moves_on o f = (
    T.passes i c ∙ not_waiting _ _ _ _ l i w f,
    T.ends i c ∙ not_waiting _ _ _ _ l i w (λ q. f (waited_before q)),
  )

-- in a secured line
module _ {b : Line} {l w : ℕ} {arrived : ℕ → ℕ → Bool} {before own back far last : List ℕ} (T : Through b l w arrived before own back far last) (z : w ≢ 0) where
  -- as passing back finds it, and as it is found after routes
  abbrev early : ℕ → Bool
  early d = opens_beyond b own (goes_open before own) no_arrival l w d

  abbrev late : ℕ → Bool
  late d = opens_beyond b far no_opening arrived l w d

  -- one block
  module _ (i : ℕ) (c : i < b.blocks) where
    -- it waits after its own reading, and what lies beyond it is found to open: it opens
    early_opens : stage_of own l i ≡ 4 → early (from_arrival b w i) ≡ true → stage_of last l i ≡ 0
    early_opens q t = open_on T i c (T.passes i c ∙ waited_open b own _ no_arrival l i w q c z t)

    -- it still waits after far sections, and an entrance route is found to open it
    late_opens : stage_of far l i ≡ 4 → late (from_arrival b w i) ≡ true → stage_of last l i ≡ 0
    late_opens q t = T.ends i c ∙ waited_open b far no_opening arrived l i w q c z t

    -- it waits after its own reading, and nothing is found early: it waits after far sections
    waits_on : stage_of own l i ≡ 4 → early (from_arrival b w i) ≡ false → stage_of far l i ≡ 4
    waits_on q f = (T.keeps i c 4 (inr refl)).1 (T.passes i c ∙ waited_shut b own _ no_arrival l i w _ f ∙ q)

    -- it waits, and is open at the end: one of the two found it
    found : stage_of own l i ≡ 4 → stage_of last l i ≡ 0 → (early (from_arrival b w i) ≡ true) ⊎ (late (from_arrival b w i) ≡ true)
    found q p = go (early (from_arrival b w i)) (late (from_arrival b w i)) refl refl
      where
        go : (u v : Bool) → early (from_arrival b w i) ≡ u → late (from_arrival b w i) ≡ v → (early (from_arrival b w i) ≡ true) ⊎ (late (from_arrival b w i) ≡ true)
        go true v e f = inl e
        go false true e f = inr f
        go false false e f =
            let four : stage_of last l i ≡ 4 = T.ends i c ∙ waited_shut b far no_opening arrived l i w _ f ∙ waits_on q e in
            absurd (omega arith)

    -- and where one of the two finds it, it is
    finding : stage_of own l i ≡ 4 → (early (from_arrival b w i) ≡ true) ⊎ (late (from_arrival b w i) ≡ true) → stage_of last l i ≡ 0
    finding q (inl t) = early_opens q t
    finding q (inr t) = go (early (from_arrival b w i)) refl
      where
        go : (u : Bool) → early (from_arrival b w i) ≡ u → stage_of last l i ≡ 0
        go true e = early_opens q e
        go false e = late_opens (waits_on q e) t

  -- the next block opens in the event just where it is found early, or late
  opens_found : (d : ℕ) → d ≤ b.blocks → Opens b l w arrived before last d ↔ ((early d ≡ true) ⊎ (late d ≡ true))
  unfolding opens_beyond no_arrival no_opening goes_open Opens
  opens_found zero h = (λ t. inr t, λ t. arrives t)
    where
      arrives : (false ≡ true) ⊎ (arrived l w ≡ true) → arrived l w ≡ true
      arrives (inl t) = absurd (not_both t refl)
      arrives (inr t) = t
  opens_found (suc d) h = (there, λ t. back_from t)
    where
      j : ℕ
      j = from_arrival b w d

      c : j < b.blocks
      c = counted_below b w d (omega arith)

      -- counted again it is d
      again : from_arrival b w j ≡ d
      again = counted_twice b w d (omega arith)

      -- its own reading opened it
      by_own : (stage_of before l j ≢ 0) → stage_of own l j ≡ 0 → early (suc d) ≡ true
      by_own u q = or_left _ _ (and_both _ _ (eq-eqb _ 3 (T.opens j c q u)) (eq-eqb _ 0 q))

      -- it waited, and was found
      by_waiting : stage_of own l j ≡ 4 → (early (from_arrival b w j) ≡ true) ⊎ (late (from_arrival b w j) ≡ true) → (early (suc d) ≡ true) ⊎ (late (suc d) ≡ true)
      by_waiting q (inl t) = inl (or_right _ _ (and_both _ _ (eq-eqb _ 4 q) (rw again at t)))
      by_waiting q (inr t) = go (early (from_arrival b w j)) refl
        where
          go : (u : Bool) → early (from_arrival b w j) ≡ u → (early (suc d) ≡ true) ⊎ (late (suc d) ≡ true)
          go true e = inl (or_right _ _ (and_both _ _ (eq-eqb _ 4 q) (rw again at e)))
          go false e = inr (or_right _ _ (and_both _ _ (eq-eqb _ 4 (waits_on j c q e)) (rw again at t)))

      there : Opens b l w arrived before last (suc d) → (early (suc d) ≡ true) ⊎ (late (suc d) ≡ true)
      there (u, p) = go (ℕ_discrete (stage_of own l j) 0) (ℕ_discrete (stage_of own l j) 4)
        where
          go : Dec (stage_of own l j ≡ 0) → Dec (stage_of own l j ≡ 4) → (early (suc d) ≡ true) ⊎ (late (suc d) ≡ true)
          go (yes q) k = inl (by_own u q)
          go (no q) (yes k) = by_waiting k (found j c k p)
          go (no q) (no k) =
              let m = moves_on T j c q k in
              let f : stage_of back l j ≡ 0 = (T.keeps j c 0 (inl refl)).0 (sym m.1 ∙ p) in
              absurd (q (sym m.0 ∙ f))

      back_from : (early (suc d) ≡ true) ⊎ (late (suc d) ≡ true) → Opens b l w arrived before last (suc d)
      back_from (inl t) = go (or_cases _ _ t)
        where
          go : (goes_open before own l j ≡ true) ⊎ (eqb (stage_of own l j) 4 and early d ≡ true) → Opens b l w arrived before last (suc d)
          go (inl x) = let three = eqb-true (stage_of before l j) 3 (and_left _ _ x) in (omega arith, open_stays T j c (eqb-true _ 0 (and_right _ _ x)))
          go (inr x) =
              let four = eqb-true (stage_of own l j) 4 (and_left _ _ x) in
              (T.waits j c four, early_opens j c four (rw again (and_right _ _ x)))
      back_from (inr t) = go (or_cases _ _ t)
        where
          go : (false ≡ true) ⊎ (eqb (stage_of far l j) 4 and late d ≡ true) → Opens b l w arrived before last (suc d)
          go (inl x) = absurd (not_both x refl)
          go (inr x) =
              let four = eqb-true (stage_of far l j) 4 (and_left _ _ x) in
              (T.waits j c (waited_before T j c four), late_opens j c four (rw again (and_right _ _ x)))

  -- so a block that waits after its own reading is open at the end just where what lies beyond it opens, and else waits on
  pub waiting_opens : (i : ℕ) → i < b.blocks → stage_of own l i ≡ 4 → (stage_of last l i ≡ 0 ↔ Opens b l w arrived before last (from_arrival b w i))
  waiting_opens i c q =
      let f = opens_found (from_arrival b w i) (let n = counted_below b w i c in omega arith) in
      (λ p. f.1 (found i c q p), λ o. finding i c q (f.0 o))

  pub waiting_stays : (i : ℕ) → i < b.blocks → stage_of own l i ≡ 4 → stage_of last l i ≢ 0 → stage_of last l i ≡ 4
  waiting_stays i c q d = go (early (from_arrival b w i)) (late (from_arrival b w i)) refl refl
    where
      go : (u v : Bool) → early (from_arrival b w i) ≡ u → late (from_arrival b w i) ≡ v → stage_of last l i ≡ 4
      go true v e f = absurd (d (early_opens i c q e))
      go false true e f = absurd (d (late_opens i c (waits_on i c q e) f))
      go false false e f = T.ends i c ∙ waited_shut b far no_opening arrived l i w _ f ∙ waits_on i c q e

-- ---- where nothing opens

-- an event that gives no block anything leaves them all
pub passes_still : (b : Line) (stages : List ℕ) (l i w : ℕ) → stage_of stages l i ≡ waited_stage b stages (goes_open stages stages) no_arrival l i w (stage_of stages l i)
unfolding no_arrival
passes_still b stages l i w = sym (waited_shut b stages _ no_arrival l i w _ (opens_none b stages _ no_arrival l w _ (λ j. goes_still stages l j) refl))
