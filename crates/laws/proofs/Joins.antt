-- Runs of entries joined one after another: how long they are, when two are the same, and where they can be cut.
use Prim.Native.Nat.{ℕ, zero, suc, ◌+◌, ◌*◌, ◌<◌, ◌≤◌}
use mathlib.Core.Path.{◌≡◌, refl, sym, ap, ap₂, ◌∙◌}
use mathlib.Core.List.{List, [], ◌++◌, append-nil, append_assoc}
use native.Mathlib.Nat.{add-zero, add-suc, mul-zero, mul-suc}
use native.Mathlib.Numerals.{add-one}
use native.Mathlib.Omega.{arith}
use lib.ListN.{length, length-append}
use Rattle.laws.specs.Tables.{join}

module _ {A : Type 0} where
  -- n + 1 runs are n and the one after them
  pub join_more : (n : ℕ) (f : ℕ → List A) → join (n + 1) f ≡ join n f ++ f n
  unfolding join
  join_more n f = rw (add-one, join)

  -- n runs of m entries each
  pub length_join : (f : ℕ → List A) (m : ℕ) → ((i : ℕ) → length (f i) ≡ m) → (n : ℕ) → length (join n f) ≡ m * n
  unfolding join
  length_join f m e zero = omega arith
  length_join f m e (suc n) = length-append (join n f) (f n) ∙ omega (arith, length_join f m e n, e n)

  -- runs that are the same one by one are the same joined
  pub join_same : (n : ℕ) (f g : ℕ → List A) → ((k : ℕ) → k < n → f k ≡ g k) → join n f ≡ join n g
  unfolding join
  join_same zero f g h = refl
  join_same (suc n) f g h = ap₂ (λ xs ys. xs ++ ys) (join_same n f g (λ k l. h k (omega arith))) (h n (omega arith))

  -- runs with nothing in them add nothing
  pub join_rest : (f : ℕ → List A) (n k : ℕ) → ((i : ℕ) → n ≤ i → i < n + k → f i ≡ []) → join (n + k) f ≡ join n f
  unfolding join
  join_rest f n zero h = ap (λ m. join m f) (add-zero n)
  join_rest f n (suc k) h =
      ap (λ m. join m f) (add-suc n k) ∙ ap₂ (λ xs ys. xs ++ ys) (join_rest f n k (λ i a b. h i a (omega arith))) (h (n + k) (omega arith) (omega arith))
      ∙ append-nil (join n f)

  -- a runs, and b more after them
  pub join_two : (f : ℕ → List A) (a b : ℕ) → join (a + b) f ≡ join a f ++ join b (λ j. f (a + j))
  unfolding join
  join_two f a zero = ap (λ m. join m f) (add-zero a) ∙ sym (append-nil (join a f))
  join_two f a (suc b) =
      ap (λ m. join m f) (add-suc a b) ∙ ap (λ xs. xs ++ f (a + b)) (join_two f a b) ∙ append_assoc (join a f) (join b (λ j. f (a + j))) (f (a + b))

  -- n rows of w runs each, one after another
  pub join_rows : (f : ℕ → List A) (w n : ℕ) → join (w * n) f ≡ join n (λ i. join w (λ j. f (w * i + j)))
  unfolding join
  join_rows f w zero = ap (λ m. join m f) (mul-zero w)
  join_rows f w (suc n) =
      ap (λ m. join m f) (mul-suc w n) ∙ join_two f (w * n) w ∙ ap (λ xs. xs ++ join w (λ j. f (w * n + j))) (join_rows f w n)
