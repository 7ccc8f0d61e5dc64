-- What becomes of a block in an accepted event: by its own reading, by what lies beyond it (L3), and by its far section.
use Prim.Native.Nat.{ℕ, ◌<◌, ◌≤◌}
use mathlib.Core.Path.{◌≡◌, refl, sym, ◌∙◌}
use mathlib.Core.Logic.{◌≢◌, inl, inr}
use mathlib.Core.Bool.{Bool, true}
use mathlib.Core.List.{List}
use native.Mathlib.Decide.{ℕ_discrete}
use native.Mathlib.Omega.{arith}
use Rattle.laws.specs.Tests.{◌and◌}
use Rattle.tables.specs.Blocks.{stage_of, place}
use Rattle.passage.specs.Passage.{from_arrival}
use Rattle.lamps.specs.Lamps.{far_stop_lit}
use Rattle.line_block.proofs.PassingBackLaws.{not_waiting}
use Rattle.line_block.specs.PassingBack.{goes_open, no_arrival, arrives, waited_stage}
use Rattle.layout.specs.declared.Layout.{Layout}
use Rattle.layout.specs.Layout.{line_in}
use Rattle.layout.specs.Sound.{sound}
use Rattle.layout_facts.specs.Plain.{Sound}
use Rattle.interlocking.specs.declared.State.{State}
use Rattle.interlocking.specs.State.{in_range}
use Rattle.interlocking.specs.Step.{refusal}
use Rattle.step_facts.specs.Run.{Event}
use Rattle.step_facts.proofs.Range.{in_range_means, read_within}
use Rattle.step_facts.proofs.Entries.{direction, stage, block}
use Rattle.step_facts.proofs.Within.{On, done, lit, moved, end}
use Rattle.step_facts.proofs.Securing.{direction_same, secures_neutral}
use Rattle.step_facts.proofs.FarCases.{FarCase, keeps, proves, loses, far_of, far_keeps, end_of}
use Rattle.step_facts.proofs.Openings.{Through, Opens, open_stays, moves_on, waiting_opens, waiting_stays}
use Rattle.safety.specs.History.{History, gave_block}
use Rattle.safety.proofs.Given.{granted, gave_few, order_gives_nothing}
use Rattle.safety.proofs.GivenBlock.{OwnStages, own_by_hand, own_follows}
use Rattle.safety.proofs.Blocks.{Waiting, OwnCase, unread, free_open, free_shown, free_dark, free_waits, shuts, takes, taken, of_given, on, BlockCase, by_hand_now, stays_open, shown_stop, opens_with, waits_on, shut, entered}
use Rattle.safety.proofs.Invariant.{Inv}

-- there are five codes
pub few_stages : (s : State) → in_range s ≡ true → (l i : ℕ) → stage s l i ≤ 4
few_stages s ok l i = (read_within ((in_range_means s).0 ok).stage 1 (place l i) (omega arith)).1

-- entrance routes of the arrival end of line l that the event released, for direction w
abbrev pub arrived : Layout → State → Event → ℕ → ℕ → Bool
arrived L s e = arrives L.routes L.route s.phase (moved L s e).phase

-- what lies beyond the block that is counted d from the arrival end opens in the event
abbrev pub OpensBeyond : Layout → State → Event → ℕ → ℕ → ℕ → Type 0
OpensBeyond L s e l w d = Opens (line_in L l) l w (arrived L s e) s.stage (end L s e).stage d

-- the stages of a line through the event
abbrev Stages : Layout → State → Event → ℕ → List ℕ → Type 0
Stages L s e l own = Through (line_in L l) l (direction (done L s e) l) (arrived L s e) s.stage own (done L s e).stage (moved L s e).stage (end L s e).stage

module _ (L : Layout) (S : Sound L) (s : State) (h : History) (I : Inv L s h) (e : Event)
    (pass : (refusal (sound L and in_range s) L s e.kind e.first e.second).number ≡ 0) (l : ℕ) (b : l < L.lines) where
  -- a line with a block in stage 2 or 3 is secured, so it is not one that the event secures, and it keeps its direction unless it is released by hand
  pub way_kept : (i : ℕ) → i < (line_in L l).blocks → 3 ≤ stage s l i → ¬ On 7 e l → (direction s l ≢ 0) × (direction (done L s e) l ≡ direction s l)
  way_kept i c held n = (
    secured,
    direction_same L S.ranges.line_count s e l b (λ u. secured (secures_neutral L s e pass l u)) n,
  )
    where
      secured : direction s l ≢ 0
      secured = go (ℕ_discrete (stage s l i) 3)
        where
          go : Dec (stage s l i ≡ 3) → direction s l ≢ 0
          go (yes q) = ((I.blocks l i b c).passes q).0
          go (no q) = ((I.blocks l i b c).holds (let few = few_stages s I.ranged l i in omega arith)).0

  module _ (n : ¬ On 7 e l) (own : List ℕ) (O : OwnStages L s e h l own) where
    -- its own reading, block by block
    own_case : (i : ℕ) → i < (line_in L l).blocks
        → OwnCase (gave_block L l i (granted L s e) h) (far_stop_lit L.signals L.line s.lamp l i (direction s l)) (stage s l i) (stage_of own l i)
    own_case i c = rw (O.given i c) (of_given _ _ _ (gave_few L (block L l i) (granted L s e) h))

    -- a block that waits after its own reading was in stage 2 or 3
    was_passed : (i : ℕ) → i < (line_in L l).blocks → stage_of own l i ≡ 4 → 3 ≤ stage s l i
    was_passed i c q = go (own_case i c)
      where
        go : OwnCase (gave_block L l i (granted L s e) h) (far_stop_lit L.signals L.line s.lamp l i (direction s l)) (stage s l i) (stage_of own l i) → 3 ≤ stage s l i
        go (unread v x) = omega arith
        go (free_open v w x) = absurd (omega arith)
        go (free_shown v w t x) = absurd (omega arith)
        go (free_dark v w t x) = omega arith
        go (free_waits v w x) = omega arith
        go (shuts v x) = absurd (omega arith)
        go (takes v w x) = absurd (omega arith)
        go (taken v w x) = omega arith

    -- the stages of its line
    through : Stages L s e l own
    unfolding stage_of
    through = record {
      opens = opens;
      waits = λ i c q z. let w = was_passed i c q in omega arith;
      passes = passes;
      keeps = λ i c v d. far_keeps L S s e l i b c v d;
      ends = λ i c. end_of L S s e l i b c;
    }
      where
        opens : (i : ℕ) → i < (line_in L l).blocks → stage_of own l i ≡ 0 → stage s l i ≢ 0 → stage s l i ≡ 3
        opens i c q d = go (own_case i c)
          where
            go : OwnCase (gave_block L l i (granted L s e) h) (far_stop_lit L.signals L.line s.lamp l i (direction s l)) (stage s l i) (stage_of own l i) → stage s l i ≡ 3
            go (unread v x) = absurd (d (sym x ∙ q))
            go (free_open v w x) = absurd (d w)
            go (free_shown v w t x) = w
            go (free_dark v w t x) = w
            go (free_waits v w x) = absurd (omega arith)
            go (shuts v x) = absurd (omega arith)
            go (takes v w x) = absurd (omega arith)
            go (taken v w x) = absurd (omega arith)

        passes : (i : ℕ) → i < (line_in L l).blocks
            → stage (done L s e) l i ≡ waited_stage (line_in L l) own (goes_open s.stage own) no_arrival l i (direction (done L s e) l) (stage_of own l i)
        passes i c = go (ℕ_discrete (stage_of own l i) 4)
          where
            go : Dec (stage_of own l i ≡ 4)
                → stage (done L s e) l i ≡ waited_stage (line_in L l) own (goes_open s.stage own) no_arrival l i (direction (done L s e) l) (stage_of own l i)
            go (yes q) = rw (way_kept i c (was_passed i c q) n).1 (O.passed i c)
            go (no q) = O.passed i c ∙ not_waiting _ _ _ _ l i _ q ∙ sym (not_waiting _ _ _ _ l i _ q)

  module _ (i : ℕ) (c : i < (line_in L l).blocks) where
    -- whether its far lamp reports stop; what far sections make of stage 1 or 2; what lies beyond it
    abbrev pub lit_now : Bool
    lit_now = far_stop_lit L.signals L.line s.lamp l i (direction s l)

    abbrev pub FarNow : ℕ → ℕ → Type 0
    FarNow y x = FarCase L s (lit L s e) l i (direction (done L s e) l) y x

    abbrev pub BeyondNow : Type 0
    BeyondNow = OpensBeyond L s e l (direction (done L s e) l) (from_arrival (line_in L l) (direction (done L s e) l) i)

    abbrev pub Case : Type 0
    Case = BlockCase (On 7 e l) lit_now BeyondNow FarNow (gave_block L l i (granted L s e) h) (stage s l i) (stage (end L s e) l i)

    -- a block that the event leaves open is open at its end
    pub open_end : stage (done L s e) l i ≡ 0 → stage (end L s e) l i ≡ 0
    open_end q = let m = (far_keeps L S s e l i b c 0 (inl refl)).1 q in end_of L S s e l i b c ∙ not_waiting _ _ _ _ l i _ (omega arith) ∙ m

    -- one that far sections cannot move stays
    far_stands : {y x : ℕ} → y ≡ 1 → FarNow y x → x ≡ 1
    far_stands q (keeps x f g) = x ∙ q
    far_stands q (proves x was d o p) = absurd (omega arith)
    far_stands q (loses x was far) = absurd (omega arith)

    -- far sections leave a block that was entered in stage 1 or 2
    pub far_leaves : {y x : ℕ} → (2 ≤ y) × (y ≤ 3) → FarNow y x → (2 ≤ x) × (x ≤ 3)
    far_leaves k (keeps x f g) = omega arith
    far_leaves k (proves x was d o p) = omega arith
    far_leaves k (loses x was far) = omega arith

    -- a line that is not released by hand
    module _ (n : ¬ On 7 e l) (own : List ℕ) (O : OwnStages L s e h l own) where
      -- one that waits after its own reading opens with what lies beyond it, or waits on
      waiting : stage_of own l i ≡ 4 → Waiting lit_now (gave_block L l i (granted L s e) h) (stage s l i) → Case
      unfolding stage_of
      waiting q w =
          let T = through n own O in
          let kept = way_kept i c (was_passed n own O i c q) n in
          let z : direction (done L s e) l ≢ 0 = λ x. kept.0 (sym kept.1 ∙ x) in
          go T z (ℕ_discrete (stage (end L s e) l i) 0)
        where
          go : Stages L s e l own → direction (done L s e) l ≢ 0 → Dec (stage (end L s e) l i ≡ 0) → Case
          go T z (yes x) = opens_with n w ((waiting_opens T z i c q).0 x) x
          go T z (no x) = waits_on n w (λ o. x ((waiting_opens T z i c q).1 o)) (waiting_stays T z i c q x)

      -- one that is open after its own reading is open at the end
      opening : stage_of own l i ≡ 0 → stage (end L s e) l i ≡ 0
      unfolding stage_of
      opening q = open_stays (through n own O) i c q

      -- any other is moved by its far section alone
      moving : (y : ℕ) → stage_of own l i ≡ y → y ≢ 0 → y ≢ 4 → FarNow y (stage (end L s e) l i)
      unfolding stage_of
      moving y q o f = let m = moves_on (through n own O) i c (omega arith) (omega arith) in rw (← q, ← m.0, m.1) (far_of L S s e l i b c)

      -- by its own reading
      by_own : Case
      by_own = go (own_case n own O i c)
        where
          still : (v : gave_block L l i (granted L s e) h ≡ 0) → stage_of own l i ≡ stage s l i → Dec (stage s l i ≡ 0) → Dec (stage s l i ≡ 1) → Dec (stage s l i ≡ 4) → Case
          still v x (yes o) p q = stays_open n (omega arith) o (opening (x ∙ o))
          still v x (no o) (yes p) q = shut n (inr (inr (v, p))) (far_stands (p) (moving (stage s l i) x o (omega arith)))
          still v x (no o) (no p) (yes q) = waiting (x ∙ q) (inr (omega arith, q))
          still v x (no o) (no p) (no q) =
              entered n (stage s l i) (inr (omega arith, omega arith, refl)) (let few = few_stages s I.ranged l i in omega arith) (moving (stage s l i) x o q)

          go : OwnCase (gave_block L l i (granted L s e) h) lit_now (stage s l i) (stage_of own l i) → Case
          go (unread v x) = still v x (ℕ_discrete (stage s l i) 0) (ℕ_discrete (stage s l i) 1) (ℕ_discrete (stage s l i) 4)
          go (free_open v w x) = stays_open n (omega arith) w (opening x)
          go (free_shown v w t x) = shown_stop n v w t (opening x)
          go (free_dark v w t x) = waiting x (inl (v, w, t))
          go (free_waits v w x) = waiting x (inr (omega arith, w))
          go (shuts (inl v) x) = shut n (inl v) (far_stands refl (moving 1 x (omega arith) (omega arith)))
          go (shuts (inr v) x) = shut n (inr (inl v)) (far_stands refl (moving 1 x (omega arith) (omega arith)))
          go (takes v w x) = entered n 2 (inl (v, refl, w.0, w.1)) (omega arith) (moving 2 x (omega arith) (omega arith))
          go (taken v w x) = entered n (stage s l i) (inr (omega arith, omega arith, refl)) w (moving (stage s l i) x (omega arith) (omega arith))

      -- a block that was open does not wait after its own reading, nor after that passed back
      open_shuts : stage s l i ≡ 0 → stage (done L s e) l i ≢ 4
      unfolding stage_of
      open_shuts was q = go (ℕ_discrete (stage_of own l i) 4)
        where
          go : Dec (stage_of own l i ≡ 4) → ⊥
          go (yes x) = let w = was_passed n own O i c x in omega arith
          go (no x) = x (sym (not_waiting _ _ _ _ l i _ x) ∙ sym (O.passed i c) ∙ q)

    -- a block that was open does not wait after what the event does itself
    pub open_moves : stage s l i ≡ 0 → stage (done L s e) l i ≢ 4
    open_moves was = go (on 7 e l)
      where
        go : Dec (On 7 e l) → stage (done L s e) l i ≢ 4
        go (yes u) = λ q. let x = own_by_hand L S s e h I.heads pass l i b c u in omega arith
        go (no n) = let O = own_follows L S s e h I.heads pass l b n in open_shuts n O.0 O.1 was

    -- either way
    pub case_of : Case
    case_of = go (on 7 e l)
      where
        go : Dec (On 7 e l) → Case
        go (yes u) =
            by_hand_now u (order_gives_nothing L _ (granted L s e) h (let k = u.0 in (omega arith, omega arith)))
            (open_end (own_by_hand L S s e h I.heads pass l i b c u))
        go (no n) = let O = own_follows L S s e h I.heads pass l b n in by_own n O.0 O.1
