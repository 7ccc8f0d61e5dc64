-- What holds where nothing is refused.
use Prim.Native.Nat.{ℕ, zero, suc, ◌<◌}
use mathlib.Core.Path.{◌≡◌, refl, ap, ◌∙◌}
use mathlib.Core.Bool.{Bool, true, false}
use mathlib.Core.List.{List, [], ◌∷◌}
use native.Mathlib.Decide.{ℕ_discrete}
use native.Mathlib.Omega.{arith}
use borrow.Author.Tests.{not-false}
use lib.ListN.{get_or}
use Rattle.laws.specs.Choice.{when◌then◌else◌}
use Rattle.laws.proofs.Choice.{if_eq, if_ne}
use Rattle.reasons.specs.Refusal.{Refusal, refused, no_refusal, refused_if, first_of}
use Rattle.refusals.specs.Events.{numbers_refusal}

-- ---- a list of reasons of which none is given

-- the first is not given, and none of those after it
first_then : (x y : Refusal) (xs : List Refusal) → Dec (x.number ≡ 0) → (first_of (x ∷ y ∷ xs)).number ≡ 0
    → (x.number ≡ 0) × ((first_of (y ∷ xs)).number ≡ 0)
unfolding first_of
first_then x y xs (yes h) e = (h, ap (λ (r : Refusal). r.number) (if_eq x.number 0 (first_of (y ∷ xs)) x _ h refl) ∙ e)
first_then x y xs (no h) e = absurd (h (ap (λ (r : Refusal). r.number) (if_ne x.number 0 (first_of (y ∷ xs)) x _ h refl) ∙ e))

-- the k-th is not given
pub granted_at : (xs : List Refusal) → (first_of xs).number ≡ 0 → (k : ℕ) → (get_or xs k no_refusal).number ≡ 0
unfolding first_of no_refusal refused
granted_at [] e k = refl
granted_at (x ∷ []) e zero = e
granted_at (x ∷ []) e (suc k) = refl
granted_at (x ∷ y ∷ xs) e zero = (first_then x y xs (ℕ_discrete x.number 0) e).0
granted_at (x ∷ y ∷ xs) e (suc k) = granted_at (y ∷ xs) (first_then x y xs (ℕ_discrete x.number 0) e).1 k

-- a reason that goes by a test is not given: the test fails
pub when_granted : (t : Bool) (n d : ℕ) → 0 < n → (refused_if t n d).number ≡ 0 → t ≡ false
unfolding refused_if refused when◌then◌else◌
when_granted true n d h e = absurd (let z : n ≡ 0 = e in omega arith)
when_granted false n d h e = refl

-- ---- an event's numbers

module _ (is_sound missing : Bool) (a : ℕ) (misfit : Refusal) (wrong : Bool) (e : (numbers_refusal is_sound missing a misfit wrong).number ≡ 0) where
  -- layout and state are sound
  pub granted_sound : is_sound ≡ true
  unfolding numbers_refusal
  granted_sound = not-false is_sound (when_granted _ 18 0 (omega arith) (granted_at _ e 0))

  -- there is such an object
  pub granted_there : missing ≡ false
  unfolding numbers_refusal
  granted_there = when_granted _ 2 a (omega arith) (granted_at _ e 1)

  -- its section has heads where the event is of heads, and none where it is not
  pub granted_fit : misfit.number ≡ 0
  unfolding numbers_refusal
  granted_fit = granted_at _ e 2

  -- the second number is not wrong
  pub granted_second : wrong ≡ false
  unfolding numbers_refusal
  granted_second = when_granted _ 3 0 (omega arith) (granted_at _ e 3)
