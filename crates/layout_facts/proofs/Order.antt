-- Numbers one before the other, and numbers that are one of two or three.
use Prim.Native.Nat.{ℕ, zero, suc, ◌<◌, ◌≤◌}
use mathlib.Core.Path.{◌≡◌, sym, subst}
use mathlib.Core.Logic.{◌↔◌, ◌≢◌, ◌⊎◌, inl, inr, ⊎_elim}
use native.Mathlib.Omega.{arith}
use native.Mathlib.Decide.{ℕ_discrete, dec_lt}

-- what holds of a number and each one before it, and then the other way round, holds of any two that differ
pub either_order : {n : ℕ} {P : ℕ → ℕ → Type 0} → ((i j : ℕ) → i < n → j < n → P i j → P j i) → ((i : ℕ) → i < n → (j : ℕ) → j < i → P i j)
    → (i j : ℕ) → i < n → j < n → i ≢ j → P i j
either_order {n} {P} turn h i j hi hj d = go (dec_lt j i)
  where
    go : Dec (j < i) → P i j
    go (yes l) = h i hi j l
    go (no l) = turn j i hj hi (h j hj i (omega arith))

-- two numbers that agree are one, where none agrees with one before it
pub same_number : {n : ℕ} {P : ℕ → ℕ → Type 0} → ((i j : ℕ) → P i j → P j i) → ((i : ℕ) → i < n → (j : ℕ) → j < i → ¬ P i j)
    → (i j : ℕ) → i < n → j < n → P i j → i ≡ j
same_number turn h i j hi hj p = go (ℕ_discrete i j)
  where
    go : Dec (i ≡ j) → i ≡ j
    go (yes e) = e
    go (no d) = absurd (either_order (λ i j hi hj f p. f (turn j i p)) h i j hi hj d p)

-- what one place of a line has no other place has: where no two places of a line have it, nor one of a line before, two places that have it are one
pub once_over : {n : ℕ} {Of : ℕ → ℕ → Type 0} (Has : ℕ → ℕ → ℕ → Type 0)
    → ((l : ℕ) → l < n → (i j g : ℕ) → Of l i → Of l j → Has l i g → Has l j g → i ≡ j)
    → ((l : ℕ) → l < n → (k : ℕ) → k < l → (i j g : ℕ) → Of l i → Of k j → Has l i g → Has k j g → ⊥)
    → (l i k j g : ℕ) → l < n → Of l i → k < n → Of k j → Has l i g → Has k j g → (l ≡ k) × (i ≡ j)
once_over {n} {Of} Has own apart l i k j g hl vi hk vj p q =
    (same, own l hl i j g vi (subst (λ m. Of m j) (sym same) vj) p (subst (λ m. Has m j g) (sym same) q))
  where
    Agree : ℕ → ℕ → Type 0
    Agree l k = (i : ℕ) × (j : ℕ) × Of l i × Of k j × Has l i g × Has k j g

    same : l ≡ k
    same =
        same_number {P = Agree} (λ l k s. (s.1, s.0, s.3, s.2, s.5, s.4)) (λ l hl k b s. apart l hl k b s.0 s.1 g s.2 s.3 s.4 s.5) l k hl hk
        (i, j, vi, vj, p, q)

-- what holds of 0 and of 1 holds of each up to 1
pub to_one : (P : ℕ → Type 0) → P 0 → P 1 → (e : ℕ) → e ≤ 1 → P e
to_one P a b zero h = a
to_one P a b (suc zero) h = b
to_one P a b (suc (suc e)) h = absurd (omega arith)

-- a number that is c unless it is b is one of the two
pub one_of : (x b c : ℕ) → (x ≢ b → x ≡ c) → x ≡ b ⊎ x ≡ c
one_of x b c rest = go (ℕ_discrete x b)
  where
    go : Dec (x ≡ b) → x ≡ b ⊎ x ≡ c
    go (yes e) = inl e
    go (no d) = inr (rest d)

-- of a number that is a, b or c: what holds unless it is a holds where it is b or c
pub unless : {A : Type 0} (x a b c : ℕ) → (x ≢ a → x ≢ b → x ≡ c) × (a ≢ b) × (a ≢ c) → x ≡ a ⊎ A ↔ (x ≡ b ⊎ x ≡ c → A)
unless {A} x a b c apart = (λ s o. ⊎_elim (λ e. absurd (⊎_elim (λ f. omega arith) (λ f. omega arith) o)) (λ h. h) s, λ f. go f (ℕ_discrete x a))
  where
    go : (x ≡ b ⊎ x ≡ c → A) → Dec (x ≡ a) → x ≡ a ⊎ A
    go f (yes e) = inl e
    go f (no d) = inr (f (one_of x b c (apart.0 d)))
