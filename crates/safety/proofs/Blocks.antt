-- Within one event: what its own reading and its far section do to a block.
use Prim.Native.Nat.{ℕ, ◌≤◌}
use mathlib.Core.Path.{◌≡◌, refl}
use mathlib.Core.Logic.{◌≢◌, ◌⊎◌, inl, inr, ⊎_elim}
use mathlib.Core.Bool.{Bool, true, false}
use native.Mathlib.Decide.{ℕ_discrete}
use native.Mathlib.Omega.{arith}
use borrow.Author.Tests.{eqb-true, eqb-false, eq-eqb}
use lib.Dec.{eqb}
use Rattle.laws.specs.Tests.{◌and◌}
use Rattle.laws.proofs.Choice.{if_both}
use Rattle.laws.proofs.Tests.{or_left, or_right, or_cases, not_both}
use Rattle.passage.specs.Passage.{free_stage, own_stage}
use Rattle.step_facts.specs.Run.{Event}
use Rattle.step_facts.proofs.Entries.{stage, block}
use Rattle.step_facts.proofs.Within.{On}

-- a block that is to wait in stage 3: given free in stage 2 while its far lamp does not show stop, or there already and given nothing or free
abbrev pub Waiting : Bool → ℕ → ℕ → Type 0
Waiting lit v was = ((v ≡ 1) × (was ≡ 3) × (lit ≡ false)) ⊎ ((v ≤ 1) × (was ≡ 4))

-- ---- its own reading

-- the stage x after what an event gives a block, v, its far lamp showing stop or not, where its stage was `was`
pub data OwnCase (v : ℕ) (lit : Bool) (was x : ℕ) : Type 0 where
  unread : v ≡ 0 → x ≡ was → OwnCase v lit was x
  free_open : v ≡ 1 → was ≡ 0 → x ≡ 0 → OwnCase v lit was x
  free_shown : v ≡ 1 → was ≡ 3 → lit ≡ true → x ≡ 0 → OwnCase v lit was x
  free_dark : v ≡ 1 → was ≡ 3 → lit ≡ false → x ≡ 4 → OwnCase v lit was x
  free_waits : v ≡ 1 → was ≡ 4 → x ≡ 4 → OwnCase v lit was x
  shuts : (v ≡ 3) ⊎ ((v ≡ 1) × (was ≢ 0) × (was ≢ 3) × (was ≢ 4)) → x ≡ 1 → OwnCase v lit was x
  takes : v ≡ 2 → (was ≢ 2) × (was ≢ 3) → x ≡ 2 → OwnCase v lit was x
  taken : v ≡ 2 → (2 ≤ was) × (was ≤ 3) → x ≡ was → OwnCase v lit was x

-- given free
of_free : (v : ℕ) (lit : Bool) (was : ℕ) → v ≡ 1 → OwnCase v lit was (free_stage lit was)
unfolding free_stage
of_free v lit was q =
    if_both C (eqb was 0) (λ t. free_open q (eqb-true was 0 t) refl)
    (λ o. if_both C (eqb was 3) (λ t. if_both C lit (λ u. free_shown q (eqb-true was 3 t) u refl) (λ u. free_dark q (eqb-true was 3 t) u refl))
    (λ f. if_both C (eqb was 4) (λ t. free_waits q (eqb-true was 4 t) refl)
    (λ g. shuts (inr (q, eqb-false was 0 o, eqb-false was 3 f, eqb-false was 4 g)) refl)))
  where
    C : ℕ → Type 0
    C = OwnCase v lit was

-- by what it is given
pub of_given : (v : ℕ) (lit : Bool) (was : ℕ) → v ≤ 3 → OwnCase v lit was (own_stage v lit was)
unfolding own_stage
of_given v lit was few =
    if_both C (eqb v 2)
    (λ t. if_both C _
    (λ o. ⊎_elim (λ z. let y = eqb-true was 2 z in taken (eqb-true v 2 t) (omega arith) refl) (λ z. let y = eqb-true was 3 z in taken (eqb-true v 2 t) (omega arith) refl) (or_cases _ _ o))
    (λ o. takes (eqb-true v 2 t) (λ z. not_both (or_left _ _ (eq-eqb was 2 z)) o, λ z. not_both (or_right _ _ (eq-eqb was 3 z)) o) refl))
    (λ f. if_both C (eqb v 3) (λ t. shuts (inl (eqb-true v 3 t)) refl)
    (λ g. if_both C (eqb v 1) (λ t. of_free v lit was (eqb-true v 1 t))
    (λ t. unread (omega (arith, eqb-false v 2 f, eqb-false v 3 g, eqb-false v 1 t)) refl)))
  where
    C : ℕ → Type 0
    C = OwnCase v lit was

-- an event of a kind for an object, or not
pub on : (k : ℕ) (e : Event) (a : ℕ) → Dec (On k e a)
on k e a = go (ℕ_discrete e.kind k) (ℕ_discrete e.first a)
  where
    go : Dec (e.kind ≡ k) → Dec (e.first ≡ a) → Dec (On k e a)
    go (yes p) (yes q) = yes (p, q)
    go (yes p) (no q) = no (λ u. q u.1)
    go (no p) q = no (λ u. p u.0)

-- ---- through one event

-- what becomes of a block in an event that gives it v, its stage `was` before and x at the end: `hand` says that the event releases the block's line by hand,
-- `lit` that its far lamp reports stop, Beyond that what lies beyond it opens (L3), and Far what far sections make of stage 1 or 2
pub data BlockCase (hand : Type 0) (lit : Bool) (Beyond : Type 0) (Far : ℕ → ℕ → Type 0) (v was x : ℕ) : Type 0 where
  -- opened by hand
  by_hand_now : hand → v ≡ 0 → x ≡ 0 → BlockCase hand lit Beyond Far v was x
  -- it was open, and nothing took it
  stays_open : ¬ hand → v ≤ 1 → was ≡ 0 → x ≡ 0 → BlockCase hand lit Beyond Far v was x
  -- given free in stage 2, the far lamp showing stop
  shown_stop : ¬ hand → v ≡ 1 → was ≡ 3 → lit ≡ true → x ≡ 0 → BlockCase hand lit Beyond Far v was x
  -- it comes to stage 3, or was there: what lies beyond opens, and so does it
  opens_with : ¬ hand → Waiting lit v was → Beyond → x ≡ 0 → BlockCase hand lit Beyond Far v was x
  -- or it waits
  waits_on : ¬ hand → Waiting lit v was → ¬ Beyond → x ≡ 4 → BlockCase hand lit Beyond Far v was x
  -- held in stage 0
  shut : ¬ hand → (v ≡ 3) ⊎ ((v ≡ 1) × (was ≢ 0) × (was ≢ 3) × (was ≢ 4)) ⊎ ((v ≡ 0) × (was ≡ 1)) → x ≡ 1 → BlockCase hand lit Beyond Far v was x
  -- entered by this event, or before: y is its stage before far sections
  entered : ¬ hand → (y : ℕ) → ((v ≡ 2) × (y ≡ 2) × (was ≢ 2) × (was ≢ 3)) ⊎ ((v ≢ 1) × (v ≢ 3) × (y ≡ was)) → (2 ≤ y) × (y ≤ 3) → Far y x
      → BlockCase hand lit Beyond Far v was x
