-- The three steps of a route's release, told from the history: one more event takes them on as section 6 does.
use Prim.Native.Nat.{ℕ, ◌≤◌}
use mathlib.Core.Path.{◌≡◌, refl}
use mathlib.Core.Logic.{◌≢◌, ◌⊎◌, ◌↔◌, inl, inr}
use mathlib.Core.Bool.{true}
use mathlib.Core.List.{[], ◌∷◌}
use native.Mathlib.Omega.{arith}
use borrow.Author.Tests.{eqb-true, eqb-false, eq-eqb}
use lib.Dec.{eqb}
use Rattle.laws.specs.Choice.{when◌then◌else◌}
use Rattle.laws.specs.Tests.{◌and◌, ◌or◌}
use Rattle.laws.proofs.Choice.{if_both}
use Rattle.laws.proofs.Tests.{and_left, and_right, and_both, or_left, or_right, or_cases, not_both}
use Rattle.release.specs.declared.WatchedPair.{WatchedPair}
use Rattle.release.specs.Release.{steps_after}
use Rattle.layout.specs.declared.Layout.{Layout}
use Rattle.safety.specs.History.{Moment, History, Given, gave_section, reads, Since}
use Rattle.safety.specs.Locked.{Sets, gave_first, gave_second, Unbroken, StepOne, StepTwo, StepThree}
use Rattle.safety.proofs.Given.{gave_few, order_gives_nothing, same_given}
use Rattle.safety.proofs.Told.{reads_given, reads_on, not_given, not_none_law}

-- ---- what is given to the watched pair

-- it is given what one section is given
record OneSection (L : Layout) (gave : Given) : Type 0 where
  section : ℕ
  same : gave ≡ gave_section L section

-- so is each of the pair today, by the kind of the route
first_one : (L : Layout) (r : ℕ) → OneSection L (gave_first L r)
unfolding gave_first
first_one L r = if_both (OneSection L) _ (λ t. record { section = _; same = refl }) (λ f. record { section = _; same = refl })

second_one : (L : Layout) (r : ℕ) → OneSection L (gave_second L r)
unfolding gave_second
second_one L r = if_both (OneSection L) _ (λ t. record { section = _; same = refl }) (λ f. record { section = _; same = refl })

module _ (L : Layout) (r : ℕ) (m : Moment) (h : History) where
  -- where no section is given anything, neither is the pair
  pub pair_quiet : ((g : ℕ) → gave_section L g m h ≡ 0) → (gave_first L r m h ≡ 0) × (gave_second L r m h ≡ 0)
  pair_quiet q = (rw (first_one L r).same (q _), rw (second_one L r).same (q _))

  -- an order to set the route gives it nothing
  set_quiet : Sets r m → (gave_first L r m h ≡ 0) × (gave_second L r m h ≡ 0)
  set_quiet u = let k = u.1 in pair_quiet (λ g. order_gives_nothing L g m h (omega arith, omega arith))

  -- three values
  first_few : gave_first L r m h ≤ 3
  first_few = rw (first_one L r).same (gave_few L _ m h)

  -- where both are given something, they are given the same
  pair_same : gave_first L r m h ≢ 0 → gave_second L r m h ≢ 0 → gave_first L r m h ≡ gave_second L r m h
  pair_same = rw ((first_one L r).same, (second_one L r).same) (same_given L _ _ m h)

-- the pair in an event, as the history tells it
abbrev pub pair_told : Layout → ℕ → Moment → History → WatchedPair
pair_told L r m h = record {
  first = record { given = gave_first L r m h; reads = reads (gave_first L r) (m ∷ h) };
  second = record { given = gave_second L r m h; reads = reads (gave_second L r) (m ∷ h) };
}

-- ---- the steps, of the history alone

module _ (L : Layout) (r : ℕ) where
  -- after the first step the first reads occupied, and the second does not read none
  pub one_reads : (h : History) → StepOne L r h → (reads (gave_first L r) h ≡ 2) × (reads (gave_second L r) h ≢ 3)
  unfolding Since
  one_reads [] x = absurd x
  one_reads (m ∷ h) (inl p) = (reads_given (gave_first L r) m h 2 p.0 (omega arith), p.1)
  one_reads (m ∷ h) (inr p) =
      let was = one_reads h p.1 in
      let f = p.0.not_free in
      let n = p.0.not_none.0 in
      let few = first_few L r m h in
      (reads_on (gave_first L r) m h 2 (λ d. omega arith) (omega arith) was.0, not_none_law (gave_second L r) m h p.0.not_none.1 was.1)

  -- after the second step the first still counts
  two_one : (h : History) → StepTwo L r h → StepOne L r h
  unfolding Since
  two_one [] x = absurd x
  two_one (m ∷ h) (inl p) = inr (
    record {
      not_set = λ u. let g = p.1 in let none = (set_quiet L r m h u).1 in omega arith;
      not_free = not_given (gave_first L r) m h 1 (omega arith) (let o = p.2 in omega arith);
      not_none = (not_given (gave_first L r) m h 3 (omega arith) (let o = p.2 in omega arith), let g = p.1 in omega arith);
    },
    p.0,
  )
  two_one (m ∷ h) (inr p) = inr (p.0, two_one h p.1)

-- ---- the steps that the box holds are those that the history tells

pub record Steps (L : Layout) (r st : ℕ) (h : History) : Type 0 where
  pub three : st ≡ 3 ↔ StepThree L r h
  pub two : st ≢ 3 → (st ≡ 2 ↔ StepTwo L r h)
  pub one : st ≢ 3 → (1 ≤ st ↔ StepOne L r h)
  pub few : st ≤ 3

-- a route that was just set has done none
pub steps_set : (L : Layout) (r : ℕ) (m : Moment) (h : History) → Sets r m → Steps L r 0 (m ∷ h)
unfolding Since
steps_set L r m h set = record {
  three = (λ z. absurd (omega arith), λ x. absurd (no_three x));
  two = λ d. (λ z. absurd (omega arith), λ x. absurd (no_one (two_one L r (m ∷ h) x)));
  one = λ d. (λ z. absurd (omega arith), λ x. absurd (no_one x));
  few = omega arith;
}
  where
    none : gave_first L r m h ≡ 0
    none = (set_quiet L r m h set).0

    no_one : StepOne L r (m ∷ h) → ⊥
    no_one (inl p) = let g = p.0 in omega (arith, none)
    no_one (inr p) = p.0.not_set set

    no_three : StepThree L r (m ∷ h) → ⊥
    no_three (inl p) = let g = p.1 in omega (arith, none)
    no_three (inr p) = p.0 set

-- and the box takes none, since the pair is given nothing
pub none_taken : (L : Layout) (r : ℕ) (m : Moment) (h : History) → Sets r m → steps_after (pair_told L r m h) 0 ≡ 0
unfolding steps_after when◌then◌else◌ ◌and◌
none_taken L r m h set =
    rw (set_quiet L r m h set).0
    (if_both (λ n. n ≡ 0) (eqb (reads (gave_first L r) (m ∷ h)) 3 or eqb (reads (gave_second L r) (m ∷ h)) 3) (λ t. refl) (λ f. refl))

-- one more event, that does not set the route
module _ (L : Layout) (r st : ℕ) (m : Moment) (h : History) (T : Steps L r st h) (n : ¬ Sets r m) where
  -- what the event gives the first, and the second
  abbrev first : ℕ
  first = gave_first L r m h

  abbrev second : ℕ
  second = gave_second L r m h

  -- what they read after it
  abbrev first_reads : ℕ
  first_reads = reads (gave_first L r) (m ∷ h)

  abbrev second_reads : ℕ
  second_reads = reads (gave_second L r) (m ∷ h)

  -- short of the third step
  short : (x : ℕ) → x ≤ 2 → ¬ StepThree L r (m ∷ h) → (x ≡ 2 ↔ StepTwo L r (m ∷ h)) → (1 ≤ x ↔ StepOne L r (m ∷ h)) → Steps L r x (m ∷ h)
  short x d t two one = record {
    three = (λ z. absurd (omega arith), λ y. absurd (t y));
    two = λ z. two;
    one = λ z. one;
    few = omega arith;
  }

  -- the third step was not done, unless it is done now
  not_three : st ≢ 3 → (st ≡ 2 → first ≢ 1) → ¬ StepThree L r (m ∷ h)
  unfolding Since
  not_three d f (inl p) = f ((T.two d).1 p.0) p.1
  not_three d f (inr p) = d (T.three.1 p.1)

  -- where the first step does not count, neither does the second
  none_done : ¬ StepThree L r (m ∷ h) → ¬ StepOne L r (m ∷ h) → Steps L r 0 (m ∷ h)
  none_done t f =
      short 0 (omega arith) t (λ z. absurd (omega arith), λ x. absurd (f (two_one L r (m ∷ h) x))) (λ z. absurd (omega arith), λ x. absurd (f x))

  -- where neither reads none, and the first is not given free, the steps are unbroken
  unbroken : first_reads ≢ 3 → second_reads ≢ 3 → first ≢ 1 → Unbroken L r m h
  unbroken p q f = record {
    not_set = n;
    not_free = f;
    not_none = (not_given (gave_first L r) m h 3 (omega arith) p, not_given (gave_second L r) m h 3 (omega arith) q);
  }

  -- the second step is not done where it was not, and the second is not given occupied while the first reads so
  not_two : st ≢ 3 → st ≢ 2 → (1 ≤ st → second ≡ 2 → first_reads ≢ 2) → ¬ StepTwo L r (m ∷ h)
  unfolding Since
  not_two d e f (inl p) = f ((T.one d).1 p.0) p.1 p.2
  not_two d e f (inr p) = e ((T.two d).1 p.1)

  -- as section 6 takes the steps, test by test
  pub steps_on : Steps L r (steps_after (pair_told L r m h) st) (m ∷ h)
  unfolding steps_after Since
  steps_on =
      if_both P (eqb st 3)
      (λ t. let s3 = eqb-true st 3 t in record {
        three = (λ z. inr (n, T.three.0 s3), λ x. refl);
        two = λ d. absurd (d refl);
        one = λ d. absurd (d refl);
        few = omega arith;
      })
      (λ f3. let d3 = eqb-false st 3 f3 in if_both P _ (λ t. broken d3 (or_cases _ _ t))
      (λ f. let reads1 : first_reads ≢ 3 = λ z. not_both (or_left _ _ (eq-eqb _ 3 z)) f in
      let reads2 : second_reads ≢ 3 = λ z. not_both (or_right _ _ (eq-eqb _ 3 z)) f in
      if_both P (eqb st 2)
      (λ t. let s2 = eqb-true st 2 t in if_both P _ (λ u. third d3 s2 (eqb-true _ 1 u)) (λ u. second_stays d3 s2 reads1 reads2 (eqb-false _ 1 u)))
      (λ f2. let d2 = eqb-false st 2 f2 in if_both P _
      (λ u. let free : first_reads ≡ 1 = eqb-true _ 1 (and_right _ _ u) in
      none_done (not_three d3 (λ z. absurd (d2 z))) (λ x. let o = (one_reads L r (m ∷ h) x).0 in omega arith))
      (λ u. if_both P (eqb st 1)
      (λ t. if_both P _ (λ v. second_done d3 (eqb-true st 1 t) (eqb-true _ 2 (and_left _ _ v)) (eqb-true _ 2 (and_right _ _ v)))
      (λ v. first_stays d3 (eqb-true st 1 t) reads1 reads2 (λ z. not_both (and_both _ _ t (eq-eqb _ 1 z)) u)
      (λ g o. not_both (and_both _ _ (eq-eqb _ 2 g) (eq-eqb _ 2 o)) v)))
      (λ f1. let d1 = eqb-false st 1 f1 in if_both P _ (λ v. first_done d3 d2 d1 reads2 (eqb-true _ 2 v))
      (λ v. none_done (not_three d3 (λ z. absurd (d2 z))) (no_first d3 d2 d1 (eqb-false _ 2 v))))))))
    where
      P : ℕ → Type 0
      P x = Steps L r x (m ∷ h)

      broken : st ≢ 3 → (eqb first_reads 3 ≡ true) ⊎ (eqb second_reads 3 ≡ true) → Steps L r 0 (m ∷ h)
      broken d (inl t) =
          let z : first_reads ≡ 3 = eqb-true _ 3 t in
          none_done (not_three d (λ e g. let y = reads_given (gave_first L r) m h 1 g (omega arith) in omega arith))
          (λ x. let o = (one_reads L r (m ∷ h) x).0 in omega arith)
      broken d (inr t) =
          let z : second_reads ≡ 3 = eqb-true _ 3 t in
          none_done (not_three d (λ e g. not_none_law (gave_second L r) m h (λ q. let y = pair_same L r m h (omega arith) (omega arith) in omega arith)
          (one_reads L r h (two_one L r h ((T.two d).0 e))).1 z)) (λ x. (one_reads L r (m ∷ h) x).1 z)

      third : st ≢ 3 → st ≡ 2 → first ≡ 1 → Steps L r 3 (m ∷ h)
      third d e g = record {
        three = (λ z. inl ((T.two d).0 e, g), λ x. refl);
        two = λ y. absurd (y refl);
        one = λ y. absurd (y refl);
        few = omega arith;
      }

      second_stays : st ≢ 3 → st ≡ 2 → first_reads ≢ 3 → second_reads ≢ 3 → first ≢ 1 → Steps L r 2 (m ∷ h)
      second_stays d e p q f =
          let U = unbroken p q f in
          short 2 (omega arith) (not_three d (λ z. f)) (λ z. inr (U, (T.two d).0 e), λ x. refl) (λ z. inr (U, (T.one d).0 (omega arith)), λ x. omega arith)

      second_done : st ≢ 3 → st ≡ 1 → second ≡ 2 → first_reads ≡ 2 → Steps L r 2 (m ∷ h)
      second_done d e g o =
          let two : StepTwo L r (m ∷ h) = inl ((T.one d).0 (omega arith), g, o) in
          short 2 (omega arith) (not_three d (λ z. absurd (omega arith))) (λ z. two, λ x. refl) (λ z. two_one L r (m ∷ h) two, λ x. omega arith)

      first_stays : st ≢ 3 → st ≡ 1 → first_reads ≢ 3 → second_reads ≢ 3 → first_reads ≢ 1 → (second ≡ 2 → first_reads ≡ 2 → ⊥) → Steps L r 1 (m ∷ h)
      first_stays d e p q f never =
          let U = unbroken p q (not_given (gave_first L r) m h 1 (omega arith) f) in
          short 1 (omega arith) (not_three d (λ z. absurd (omega arith)))
          (λ z. absurd (omega arith), λ x. absurd (not_two d (omega arith) (λ u g o. never g o) x)) (λ z. inr (U, (T.one d).0 (omega arith)), λ x. omega arith)

      first_done : st ≢ 3 → st ≢ 2 → st ≢ 1 → second_reads ≢ 3 → first ≡ 2 → Steps L r 1 (m ∷ h)
      first_done d e f q g =
          short 1 (omega arith) (not_three d (λ z. absurd (e z)))
          (λ z. absurd (omega arith), λ x. absurd (not_two d e (λ u. absurd (let k = T.few in omega arith)) x)) (λ z. inl (g, q), λ x. omega arith)

      no_first : st ≢ 3 → st ≢ 2 → st ≢ 1 → first ≢ 2 → ¬ StepOne L r (m ∷ h)
      no_first d e f g (inl p) = g p.0
      no_first d e f g (inr p) = let k = T.few in let o = (T.one d).1 p.1 in omega arith

-- an event that gives neither anything leaves the steps as they are
pub steps_quiet : (L : Layout) (r st : ℕ) (m : Moment) (h : History) → Steps L r st h → ¬ Sets r m → (gave_first L r m h ≡ 0) × (gave_second L r m h ≡ 0)
    → Steps L r st (m ∷ h)
unfolding Since
steps_quiet L r st m h T n (none1, none2) = record {
  three = (λ z. inr (n, T.three.0 z), three);
  two = λ d. (λ z. inr (still, (T.two d).0 z), two d);
  one = λ d. (λ z. inr (still, (T.one d).0 z), one d);
  few = T.few;
}
  where
    still : Unbroken L r m h
    still = record { not_set = n; not_free = omega arith; not_none = (omega arith, omega arith) }

    three : StepThree L r (m ∷ h) → st ≡ 3
    three (inl p) = absurd (let g = p.1 in omega arith)
    three (inr p) = T.three.1 p.1

    two : st ≢ 3 → StepTwo L r (m ∷ h) → st ≡ 2
    two d (inl p) = absurd (let g = p.1 in omega arith)
    two d (inr p) = (T.two d).1 p.1

    one : st ≢ 3 → StepOne L r (m ∷ h) → 1 ≤ st
    one d (inl p) = absurd (let g = p.0 in omega arith)
    one d (inr p) = (T.one d).1 p.1
