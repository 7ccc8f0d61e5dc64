-- What there must be for a reason not to be given (section 3), both ways: of one test, of a search, of a set of sections, of a list of reasons.
use Prim.Native.Nat.{ℕ, ◌<◌}
use mathlib.Core.Path.{◌≡◌, refl, sym, ap, subst, ◌∙◌}
use mathlib.Core.Logic.Iff
use mathlib.Core.Logic.{◌↔◌, ⊎_elim}
use mathlib.Core.Bool.{Bool, true, false, not}
use mathlib.Core.List.{List, [], ◌∷◌}
use borrow.Author.Tests.{eqb-true, eq-eqb, leb-false, lt-leb, not-true, not-false}
use lib.Dec.{eqb, leb}
use lib.ListN.{get_or}
use Rattle.laws.specs.Choice.{when◌then◌else◌}
use Rattle.laws.specs.Tests.{◌and◌, any_below}
use Rattle.laws.proofs.Searches.{lowest_none}
use Rattle.laws.proofs.Tests.{and_left, and_right, and_both, or_cases, or_left, or_right, not_both, fails_from, any_at, any_some}
use Rattle.sets.specs.Sets.{merged_set, set_of, joined, holds}
use Rattle.sets.proofs.Sets.{holds_none, holds_union, holds_joined, holds_set_of}
use Rattle.track.specs.Sizes.{most_sections}
use Rattle.tables.specs.Readings.{reading}
use Rattle.reasons.specs.Refusal.{Refusal, no_refusal, refused, refused_if, found, first_of}
use Rattle.reasons.specs.Reasons.{not_free}
use Rattle.refusals.proofs.Granted.{granted_at, when_granted}
use Rattle.step_facts.proofs.Passed as passed
use Rattle.step_facts.proofs.Granted as granted

-- a reason is not given just where P
abbrev pub Lifts : Refusal → Type 0 → Type 0
Lifts x P = x.number ≡ 0 ↔ P

-- what holds at each number below n just where something else does there
pub each_means : {n : ℕ} {P Q : ℕ → Type 0} → ((j : ℕ) → j < n → P j ↔ Q j) → ((j : ℕ) → j < n → P j) ↔ ((j : ℕ) → j < n → Q j)
each_means m = (λ f j b. (m j b).0 (f j b), λ f j b. (m j b).1 (f j b))

-- there is such an object: its number is below the count
pub there_means : (n a : ℕ) → leb n a ≡ false ↔ a < n
there_means n a = (leb-false n a, lt-leb n a)

-- the opposite of a test fails just where the test holds
pub right_means : {t : Bool} {P : Type 0} → (t ≡ true ↔ P) → not t ≡ false ↔ P
right_means m = (λ f. m.0 (not-false _ f), λ p. ap not (m.1 p))

-- ---- a list of reasons

infixr 20 ◌before◌
-- reasons one after the other, and what there must be for none of them to be given
pub data Reasons : List Refusal → Type 0 → Type 1 where
  last : {x : Refusal} {P : Type 0} → Lifts x P → Reasons (x ∷ []) P
  ◌before◌ : {x y : Refusal} {ys : List Refusal} {P Q : Type 0} → Lifts x P → Reasons (y ∷ ys) Q → Reasons (x ∷ y ∷ ys) (P × Q)

-- the first is not given, and none of those after it
first_means : (x y : Refusal) (ys : List Refusal) → Lifts (first_of (x ∷ y ∷ ys)) ((x.number ≡ 0) × ((first_of (y ∷ ys)).number ≡ 0))
unfolding first_of when◌then◌else◌
first_means x y ys = (
  λ z. let none = granted_at (x ∷ y ∷ ys) z 0 in (none, rw (eq-eqb x.number 0 none) at z),
  λ z. granted.first_none x y ys z.0 z.1,
)

-- so of all of them
pub reasons_mean : {xs : List Refusal} {P : Type 0} → Reasons xs P → Lifts (first_of xs) P
unfolding first_of
reasons_mean (last p) = p
reasons_mean (◌before◌ {x} {y} {ys} p q) = Iff.trans (first_means x y ys) (Iff.and p (reasons_mean q))

-- ---- one reason

-- by a test: it fails
pub fails_means : {n : ℕ} (d : ℕ) {t : Bool} → 0 < n → Lifts (refused_if t n d) (t ≡ false)
fails_means {n} d {t} some = (when_granted t n d some, granted.when_none t n d)

module _ {n : ℕ} (d : ℕ) {t : Bool} {P : Type 0} (some : 0 < n) (m : t ≡ true ↔ P) where
  -- so where the test means P
  pub if_means : Lifts (refused_if t n d) (¬ P)
  if_means = Iff.trans (fails_means d some) (λ f p. not_both (m.1 p) f, λ f. fails_from t (λ e. f (m.0 e)))

  -- and by a test that does not hold
  pub unless_means : Lifts (refused_if (not t) n d) P
  unless_means = Iff.trans (fails_means d some) (right_means m)

-- by a search
pub found_means : {n k : ℕ} {p : ℕ → Bool} {P : ℕ → Type 0} → 0 < n → ((j : ℕ) → j < k → p j ≡ true ↔ P j) → Lifts (found n k p) ((j : ℕ) → j < k → ¬ P j)
unfolding found
found_means {n} {k} {p} some m = (
  λ z j b x. not_both ((m j b).1 x) (lowest_none k p (when_granted _ n _ some z) j b),
  λ f. granted.found_none n k p (λ j b. fails_from (p j) (λ t. f j b ((m j b).0 t))),
)

-- by a search for the name of one of m things that fails a test: each passes it
pub named_means : {n k m : ℕ} (name : ℕ → ℕ) (test : ℕ → ℕ → Bool) → 0 < n → ((j : ℕ) → j < m → name j < k)
    → Lifts (found n k (λ g. any_below m (λ j. eqb (name j) g and not (test g j)))) ((j : ℕ) → j < m → test (name j) j ≡ true)
named_means {n} {k} {m} name test some below =
    Iff.trans (found_means {P = λ g. (j : ℕ) × (j < m) × (eqb (name j) g and not (test g j) ≡ true)} some (λ g b. (any_some m _, λ (j, c, t). any_at m _ j c t))) (
      λ f j c. not-false _ (fails_from _ (λ t. f (name j) (below j c) (j, c, and_both _ _ (eq-eqb (name j) _ refl) t))),
      λ f g b (j, c, t). let q = eqb-true (name j) g (and_left _ _ t) in not_both (subst (λ x. test x j ≡ true) q (f j c)) (not-true _ (and_right _ _ t)),
    )

-- a reason that is asked only where k is n
pub where_means : {k n : ℕ} (x : Refusal) {P : Type 0} → (k ≡ n → Lifts x P) → Lifts (when eqb k n then x else no_refusal) (k ≡ n → P)
unfolding when◌then◌else◌ no_refusal refused
where_means {k} {n} x {P} m = go (eqb k n) (eqb-true k n) (eq-eqb k n)
  where
    go : (t : Bool) → (t ≡ true → k ≡ n) → (k ≡ n → t ≡ true) → Lifts (when t then x else no_refusal) (k ≡ n → P)
    go true says from = (λ z q. (m q).0 z, λ f. (m (says refl)).1 (f (says refl)))
    go false says from = (λ z q. not_both (from q) refl, λ f. refl)

-- ---- sections

-- F of each section of a set
abbrev pub AllIn : ℕ → (ℕ → Type 0) → Type 0
AllIn set F = (g : ℕ) → g < most_sections → holds set g ≡ true → F g

-- 7, 8: each section asked for reads free
pub free_means : (sections : List ℕ) (set : ℕ) → Lifts (not_free sections set) (AllIn set (λ g. reading sections g ≡ 1))
free_means sections set = (passed.all_free sections set, granted.all_free sections set)

module _ {F : ℕ → Type 0} where
  -- of two sets put together: of each of both
  pub union_means : (a b : ℕ) → AllIn (merged_set a b) F ↔ AllIn a F × AllIn b F
  union_means a b = (
    λ f. (λ g c t. f g c (holds_union a b g ∙ or_left _ _ t), λ g c t. f g c (holds_union a b g ∙ or_right _ _ t)),
    λ (f, k) g c t. ⊎_elim (f g c) (k g c) (or_cases _ _ (sym (holds_union a b g) ∙ t)),
  )

  -- of the set of a list: of each that is listed
  pub list_means : (n : ℕ) (xs : List ℕ) → ((j : ℕ) → j < n → get_or xs j 0 < most_sections) → AllIn (set_of n xs) F ↔ ((j : ℕ) → j < n → F (get_or xs j 0))
  list_means n xs below = (
    λ f j c. f _ (below j c) (holds_set_of n xs _ (below j c) ∙ any_at n _ j c (eq-eqb (get_or xs j 0) _ refl)),
    λ f g b t. let (j, c, q) = any_some n _ (sym (holds_set_of n xs g b) ∙ t) in subst F (eqb-true (get_or xs j 0) g q) (f j c),
  )

  -- of one section alone
  pub one_means : (x : ℕ) → x < most_sections → AllIn (joined 0 x) F ↔ F x
  one_means x below = (
    λ f. f x below (holds_joined 0 x x below ∙ or_right _ _ (eq-eqb x x refl)),
    λ f g b t. ⊎_elim (λ z. not_both z (holds_none g)) (λ q. subst F (eqb-true x g q) f) (or_cases _ _ (sym (holds_joined 0 x g b) ∙ t)),
  )
