-- What holds of one step from any state: it keeps the codes in range, a refusal changes nothing, and 18 comes just where it should.
use Prim.Native.Nat.{ℕ}
use mathlib.Core.Path.{◌≡◌, refl, sym, ap, ◌∙◌}
use mathlib.Core.Bool.{Bool, true, false}
use mathlib.Core.Logic.{◌↔◌}
use native.Mathlib.Omega.{arith}
use native.Mathlib.Decide.{ℕ_discrete}
use borrow.Author.Tests.{eq-eqb, ne_eqb, le-leb}
use lib.Dec.{eqb}
use Rattle.laws.specs.Choice.{when◌then◌else◌}
use Rattle.laws.specs.Tests.{◌and◌}
use Rattle.laws.proofs.Tests.{and_left, and_right, and_both, fails_from}
use Rattle.layout_facts.proofs.Lists.{between_means}
use Rattle.layout_facts.proofs.Sound.{sound_says}
use Rattle.track.specs.Sizes.{most_sections, most_lines, most_train_routes}
use Rattle.layout.specs.declared.Layout.{Layout}
use Rattle.layout.specs.Sound.{sound}
use Rattle.interlocking.specs.declared.State.{State}
use Rattle.interlocking.specs.declared.Answer.{Answer}
use Rattle.interlocking.specs.State.{in_range}
use Rattle.interlocking.specs.Step.{row_refusal, answered_by, step_where, step, asked_in_run, step_in_run, refusal, own, gives, after}
use Rattle.interlocking.specs.Rows.{row_of}
use Rattle.interlocking.proofs.Rows.{row_kind_of}
use Rattle.step_facts.specs.Numbers.{OfEvents}
use Rattle.step_facts.specs.Range.{InRange}
use Rattle.step_facts.proofs.Range.{in_range_means}
use Rattle.step_facts.proofs.Own.{own_range}
use Rattle.step_facts.proofs.Settle.{settle_range}
use Rattle.step_facts.proofs.Refusals.{not_18, second_right, sound_number, unsound_refused}

-- ---- done or refused

-- the two ways in which an event ends where soundness was asked
pub data Ending (is_sound : Bool) (L : Layout) (s : State) (k a b : ℕ) : Answer → Type 0 where
  done : (refusal is_sound L s k a b).number ≡ 0 → Ending is_sound L s k a b (record { number = 0; detail = 0; next = after L s k a b })
  refused_by : ((refusal is_sound L s k a b).number ≡ 0 → ⊥)
      → Ending is_sound L s k a b (record { number = (refusal is_sound L s k a b).number; detail = (refusal is_sound L s k a b).detail; next = s })

-- nothing is refused: the event is done, and what follows
pub step_done : (is_sound : Bool) (L : Layout) (s : State) (k a b : ℕ) → (refusal is_sound L s k a b).number ≡ 0
    → step_where is_sound L s k a b ≡ record { number = 0; detail = 0; next = after L s k a b }
unfolding step_where answered_by refusal own gives after when◌then◌else◌
step_done is_sound L s k a b p = let z : eqb (row_refusal is_sound a (row_of L s k a b)).number 0 ≡ true = eq-eqb _ 0 p in rw z

-- something is: the answer is the refusal, with the state as it was
pub step_refused : (is_sound : Bool) (L : Layout) (s : State) (k a b : ℕ) → ((refusal is_sound L s k a b).number ≡ 0 → ⊥)
    → step_where is_sound L s k a b ≡ record { number = (refusal is_sound L s k a b).number; detail = (refusal is_sound L s k a b).detail; next = s }
unfolding step_where answered_by refusal when◌then◌else◌
step_refused is_sound L s k a b p = let z : eqb (row_refusal is_sound a (row_of L s k a b)).number 0 ≡ false = ne_eqb _ 0 p in rw z

-- it ends in one of them
pub ending : (is_sound : Bool) (L : Layout) (s : State) (k a b : ℕ) → Ending is_sound L s k a b (step_where is_sound L s k a b)
ending is_sound L s k a b = go (ℕ_discrete (refusal is_sound L s k a b).number 0)
  where
    go : Dec ((refusal is_sound L s k a b).number ≡ 0) → Ending is_sound L s k a b (step_where is_sound L s k a b)
    go (yes p) = rw (step_done is_sound L s k a b p) (done p)
    go (no p) = rw (step_refused is_sound L s k a b p) (refused_by p)

-- what each ending says of the answer r
module _ {is_sound : Bool} {L : Layout} {s : State} {k a b : ℕ} where
  -- only a done event moves the state
  ended_kept : {r : Answer} → Ending is_sound L s k a b r → (r.number ≡ 0 → ⊥) → r.next ≡ s
  ended_kept (done e) p = absurd (p refl)
  ended_kept (refused_by e) p = refl

  -- a done event's detail is 0, and no refusal's number is
  ended_detail : {r : Answer} → Ending is_sound L s k a b r → r.number ≡ 0 → r.detail ≡ 0
  ended_detail (done e) p = refl
  ended_detail (refused_by e) p = absurd (e p)

  -- an event that is answered by 0 was done
  ended_granted : {r : Answer} → Ending is_sound L s k a b r → r.number ≡ 0 → (refusal is_sound L s k a b).number ≡ 0
  ended_granted (done e) p = e
  ended_granted (refused_by e) p = p

  -- the number is 0 or the refusal's
  ended_number : {r : Answer} → Ending is_sound L s k a b r → OfEvents (refusal is_sound L s k a b).number → OfEvents r.number
  ended_number (done e) h = rw e at h
  ended_number (refused_by e) h = h

  -- the own effect of an accepted event and what follows from it keep the state in range
  ended_range : {r : Answer} → Ending is_sound L s k a b r → InRange s → InRange r.next
  unfolding after own
  ended_range (done e) R = settle_range L s _ (own_range L R k a b (row_kind_of L s k a b) (second_right is_sound L s k a b e))
  ended_range (refused_by e) R = R

-- a refusal leaves the state as it was
pub refusal_keeps : (L : Layout) (s : State) (k a b : ℕ) → ((step L s k a b).number ≡ 0 → ⊥) → (step L s k a b).next ≡ s
unfolding step
refusal_keeps L s k a b = ended_kept (ending _ L s k a b)

-- an event that is answered by 0 is refused by nothing
pub not_refused : (L : Layout) (s : State) (k a b : ℕ) → (step L s k a b).number ≡ 0 → (refusal (sound L and in_range s) L s k a b).number ≡ 0
unfolding step
not_refused L s k a b = ended_granted (ending _ L s k a b)

-- a done event has detail 0
pub done_detail : (L : Layout) (s : State) (k a b : ℕ) → (step L s k a b).number ≡ 0 → (step L s k a b).detail ≡ 0
unfolding step
done_detail L s k a b = ended_detail (ending _ L s k a b)

-- ---- the state stays in range

-- from a state in range every event leads to a state in range, on any layout
pub step_in_range : (L : Layout) (s : State) (k a b : ℕ) → in_range s ≡ true → in_range (step L s k a b).next ≡ true
unfolding step
step_in_range L s k a b e = (in_range_means _).1 (ended_range (ending _ L s k a b) ((in_range_means s).0 e))

module _ (L : Layout) (s : State) (k a b : ℕ) where
  -- ---- 18

  -- a layout that breaks section 2, or a state with a code outside its range, gets 18 with detail 0, whatever the event
  pub unsound_18 : sound L and in_range s ≡ false → step L s k a b ≡ record { number = 18; detail = 0; next = s }
  unfolding step
  unsound_18 e =
      let p = unsound_refused L s k a b in
      rw (e, step_refused false L s k a b (λ z. let y : 18 ≡ 0 = sym p.0 ∙ z in omega arith), p.0, p.1)

  -- a sound layout and a state in range never do: the answer is one of 0 to 17, 30, 34 and 35
  pub sound_numbers : sound L ≡ true → in_range s ≡ true → OfEvents (step L s k a b).number
  unfolding step
  sound_numbers h e = rw (and_both _ _ h e) (ended_number (ending true L s k a b) (sound_number L s k a b))

  -- so 18 comes just where the layout or the state is not sound
  pub eighteen_means : (step L s k a b).number ≡ 18 ↔ sound L and in_range s ≡ false
  eighteen_means = (
    λ p. fails_from _ (λ t. not_18 (sound_numbers (and_left _ _ t) (and_right _ _ t)) p),
    λ e. ap (λ (r : Answer). r.number) (unsound_18 e),
  )

  -- ---- the step of a run

  -- a sound layout has no more lines and routes than the tables hold, 1 to 64 sections and no fitted section that it lacks, so both steps go on from
  -- soundness found
  pub run_step_same : sound L ≡ true → in_range s ≡ true → step_in_run L s k a b ≡ step L s k a b
  unfolding step step_in_run asked_in_run
  run_step_same h e =
      let R = (sound_says L h).ranges in
      ap (λ t. step_where t L s k a b)
      (and_both _ _ (le-leb _ most_lines R.line_count)
      (and_both _ _ (le-leb _ most_train_routes R.route_count)
      (and_both _ _ ((between_means 1 most_sections _).1 R.section_count) (eq-eqb _ 0 R.none_lacking))) ∙ sym (and_both _ _ h e))
