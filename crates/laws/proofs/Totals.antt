-- Totals over 0 .. n - 1, and how many numbers pass a test: tests of which no two hold at once are counted one by one.
use Prim.Native.Nat.{ℕ, zero, suc, ◌+◌, ◌-◌, ◌*◌, ◌<◌, ◌≤◌}
use mathlib.Core.Path.{◌≡◌, refl, sym, ap, ap₂, ◌∙◌}
use mathlib.Core.Bool.{Bool, true, false, false≢true}
use mathlib.Core.List.{List, [], ◌∷◌, ◌++◌}
use native.Mathlib.Nat.{suc-mul}
use native.Mathlib.Decide.{dec_lt, ℕ_discrete}
use native.Mathlib.Omega.{arith}
use borrow.Author.Tests.{eq-eqb, ne_eqb, lt-ltb, le-ltb}
use lib.Dec.{eqb, ltb}
use lib.ListN.{length}
use Rattle.laws.specs.Choice.{when◌then◌else◌}
use Rattle.laws.specs.Tests.{◌and◌, ◌or◌, any_below}
use Rattle.laws.specs.Tables.{join}
use Rattle.laws.specs.Totals.{total, bit, count}
use Rattle.laws.proofs.Tests.{any_some}

-- ---- totals

-- what is the same one by one is the same in all
pub total_same : (n : ℕ) (f g : ℕ → ℕ) → ((i : ℕ) → i < n → f i ≡ g i) → total n f ≡ total n g
unfolding total
total_same zero f g h = refl
total_same (suc n) f g h = ap₂ (λ x y. x + y) (total_same n f g (λ i l. h i (omega arith))) (h n (omega arith))

-- what is at most as much one by one is so in all
pub total_below : (n : ℕ) (f g : ℕ → ℕ) → ((i : ℕ) → i < n → f i ≤ g i) → total n f ≤ total n g
unfolding total
total_below zero f g h = omega arith
total_below (suc n) f g h = omega (arith, total_below n f g (λ i l. h i (omega arith)), h n (omega arith))

-- more of them are no less
pub total_more : (n k : ℕ) (f : ℕ → ℕ) → n ≤ k → total n f ≤ total k f
unfolding total
total_more n zero f l = let z : n ≡ 0 = omega arith in rw z (omega arith)
total_more n (suc k) f l = one (total_more n k f) (dec_lt k n)
  where
    one : (n ≤ k → total n f ≤ total k f) → Dec (k < n) → total n f ≤ total (suc k) f
    one less (yes m) = let z : n ≡ suc k = omega arith in rw z (omega arith)
    one less (no m) = omega (arith, less (omega arith))

-- n of the same
pub total_each : (n m : ℕ) → total n (λ i. m) ≡ n * m
unfolding total
total_each zero m = omega arith
total_each (suc n) m = omega (arith, total_each n m, suc-mul n m)

-- the total of sums
pub total_sum : (n : ℕ) (f g : ℕ → ℕ) → total n (λ i. f i + g i) ≡ total n f + total n g
unfolding total
total_sum zero f g = refl
total_sum (suc n) f g = omega (arith, total_sum n f g)

-- what adds up over lists one after the other
pub record Adds {A : Type 0} (of : List A → ℕ) : Type 0 where
  pub none : of [] ≡ 0
  pub sum : (xs ys : List A) → of (xs ++ ys) ≡ of xs + of ys

module _ {A : Type 0} (of : List A → ℕ) (a : Adds of) where
  -- it is a total over a join
  pub total_join : (n : ℕ) (f : ℕ → List A) → of (join n f) ≡ total n (λ i. of (f i))
  unfolding total join
  total_join zero f = a.none
  total_join (suc n) f = a.sum (join n f) (f n) ∙ omega (arith, total_join n f)

  -- two such that agree one by one agree in all
  pub joins_agree : (by : List A → ℕ) → Adds by → (n : ℕ) (f : ℕ → List A) → ((i : ℕ) → i < n → of (f i) ≡ by (f i)) → of (join n f) ≡ by (join n f)
  unfolding join
  joins_agree by b zero f e = a.none ∙ sym b.none
  joins_agree by b (suc n) f e = omega (arith, a.sum (join n f) (f n), b.sum (join n f) (f n), joins_agree by b n f (λ i l. e i (omega arith)), e n (omega arith))

-- ---- how many pass a test

-- 1 stands just where a test holds
pub bit_one : (t : Bool) → eqb (bit t) 1 ≡ t
unfolding bit when◌then◌else◌
bit_one true = refl
bit_one false = refl

-- and 0 just where it fails
pub bit_none : (t : Bool) → eqb (bit t) 0 ≡ true → t ≡ false
unfolding bit when◌then◌else◌
bit_none true q = absurd (false≢true q)
bit_none false q = refl

-- both of two tests count for no more than the first
pub bit_both : (a b : Bool) → bit (a and b) ≤ bit a
unfolding bit when◌then◌else◌ ◌and◌
bit_both true true = omega arith
bit_both true false = omega arith
bit_both false b = omega arith

-- where the second follows from the first they count as the first does
pub bit_all : (a b : Bool) → (a ≡ true → b ≡ true) → bit (a and b) ≡ bit a
unfolding ◌and◌
bit_all true b f = ap bit (f refl)
bit_all false b f = refl

-- a list of one entry where a test holds, else of none
pub bit_list : {A : Type 0} (t : Bool) (x : A) → length (when t then x ∷ [] else []) ≡ bit t
unfolding bit when◌then◌else◌
bit_list true x = refl
bit_list false x = refl

-- a test counts for at most 1
pub bit_most : (t : Bool) → bit t ≤ 1
unfolding bit when◌then◌else◌
bit_most true = omega arith
bit_most false = omega arith

-- no more pass than there are
pub count_most : (n : ℕ) (p : ℕ → Bool) → count n p ≤ n
unfolding count
count_most n p = omega (arith, total_below n (λ g. bit (p g)) (λ g. 1) (λ g l. bit_most (p g)), total_each n 1)

-- none passes
pub count_none : (n : ℕ) (p : ℕ → Bool) → ((g : ℕ) → g < n → p g ≡ false) → count n p ≡ 0
unfolding count bit when◌then◌else◌
count_none n p h = total_same n (λ g. bit (p g)) (λ g. 0) (λ g l. rw (h g l)) ∙ omega (arith, total_each n 0)

-- one number is x
pub count_one : (n x : ℕ) → x < n → count n (eqb x) ≡ 1
unfolding count total bit when◌then◌else◌
count_one zero x l = absurd (omega arith)
count_one (suc n) x l = one (count_one n x) (ℕ_discrete x n)
  where
    one : (x < n → count n (eqb x) ≡ 1) → Dec (x ≡ n) → count (suc n) (eqb x) ≡ 1
    one less (yes e) = rw (eq-eqb x n e) (omega (arith, count_none n (eqb x) (λ g m. ne_eqb x g (λ z. let d : x ≡ g = z in omega arith))))
    one less (no d) = rw (ne_eqb x n d) (omega (arith, less (omega arith)))

-- those above r
pub count_above : (n r : ℕ) → count n (ltb r) ≡ n - suc r
unfolding count total bit when◌then◌else◌
count_above zero r = omega arith
count_above (suc n) r = one (count_above n r) (dec_lt r n)
  where
    one : count n (ltb r) ≡ n - suc r → Dec (r < n) → count (suc n) (ltb r) ≡ suc n - suc r
    one less (yes l) = rw (lt-ltb r n l) (omega arith)
    one less (no l) = rw (le-ltb r n (omega arith)) (omega arith)

-- one of two tests that do not both hold
bit_or : (a b : Bool) → (a ≡ true → b ≡ true → ⊥) → bit (a or b) ≡ bit a + bit b
unfolding bit when◌then◌else◌ ◌or◌
bit_or true true apart = absurd (apart refl refl)
bit_or true false apart = refl
bit_or false b apart = omega arith

-- those that pass one of two such tests
pub count_or : (n : ℕ) (p q : ℕ → Bool) → ((g : ℕ) → p g ≡ true → q g ≡ true → ⊥) → count n (λ g. p g or q g) ≡ count n p + count n q
unfolding count
count_or n p q apart = total_same n _ _ (λ g l. bit_or (p g) (q g) (apart g)) ∙ total_sum n (λ g. bit (p g)) (λ g. bit (q g))

-- those that pass one of k tests of which no two hold at once
pub count_any : (n k : ℕ) (p : ℕ → ℕ → Bool) → ((i j g : ℕ) → i < k → j < k → p i g ≡ true → p j g ≡ true → i ≡ j)
    → count n (λ g. any_below k (λ i. p i g)) ≡ total k (λ i. count n (p i))
unfolding total any_below ◌or◌
count_any n zero p apart = count_none n (λ g. false) (λ g l. refl)
count_any n (suc k) p apart =
    count_or n (λ g. any_below k (λ i. p i g)) (p k)
    (λ g t u. let f = any_some k (λ i. p i g) t in let z = apart f.0 k g (omega arith) (omega arith) f.2 u in omega arith)
    ∙ omega (arith, count_any n k p (λ i j g l m. apart i j g (omega arith) (omega arith)))
