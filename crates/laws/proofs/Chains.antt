-- What `any` and `all` answer over the numbers 0 .. n - 1, where the closure answers as a test p does and no call changes it.
use Prim.Native.Nat.{ℕ, zero, suc, ◌+◌, ◌<◌}
use mathlib.Core.Path.{◌≡◌, refl, sym, ap, subst, ◌∙◌}
use mathlib.Core.Bool.{Bool, true, false}
use mathlib.Core.List.{List, [], ◌∷◌, map, map-id}
use native.Mathlib.Nat.{zero-add}
use native.Mathlib.Omega.{arith}
use lib.ListN.{length, get_or}
use denote.Param.Members.{Mut}
use Rattle.std.specs.Bool.{MatchBool}
use Rattle.std.specs.Fn.{Called}
use Rattle.std.specs.Iterator.{ChecksAll, ChecksAny, FoldsItems, FoldTurn}
use Rattle.std.specs.List.{range_with_len, AllWithin, HoldsAt, FoldsTo, fold}
use Rattle.std.specs.declared.ops.Range.{Range}
use Rattle.std.proofs.iter.Yields.{nat_range_steps}
use Rattle.std.proofs.lemmas.Iterator.{items_from_drains, YieldsList-from_range, cases_from_any, cases_from_all}
use Rattle.std.proofs.lemmas.List.FromFn.{length-range_with_len, get_or-range_with_len}
use Rattle.laws.specs.Tables.{iter}
use Rattle.laws.specs.Tests.{all_below, any_below}
use Rattle.laws.proofs.Tests.{any_at, any_fails, all_at, all_from, fails_from, not_both}

-- the number k of those from 0 on is k
counted : (n k : ℕ) → k < n → get_or (range_with_len 0 n) k 0 ≡ k
counted n k l = get_or-range_with_len 0 n k 0 l ∙ omega arith

module _ (n : ℕ) (p : ℕ → Bool) where
  -- what is found among the numbers is found below n
  below : (k : ℕ) → k < length (range_with_len 0 n) → k < n
  below k l = let e = length-range_with_len 0 n in omega arith

  within : (k : ℕ) → k < n → k < length (range_with_len 0 n)
  within k l = let e = length-range_with_len 0 n in omega arith

  -- it holds at one of them, or fails at each
  any_of : (r : Bool) → MatchBool r ((k : ℕ) × (k < length (range_with_len 0 n)) × HoldsAt (λ x. p x ≡ true) (range_with_len 0 n) k)
      (AllWithin (λ x. p x ≡ false) (range_with_len 0 n) 0 (length (range_with_len 0 n))) → r ≡ any_below n p
  any_of true h = let l = below h.0 h.1 in sym (any_at n p h.0 l (ap p (sym (counted n h.0 l)) ∙ h.2 0))
  any_of false h = sym (any_fails n p (λ k l t. not_both t (ap p (sym (counted n k l)) ∙ h k 0 (omega arith) (within k l))))

  -- it holds at each, or fails at one
  all_of : (r : Bool) → MatchBool r (AllWithin (λ x. p x ≡ true) (range_with_len 0 n) 0 (length (range_with_len 0 n)))
      ((k : ℕ) × (k < length (range_with_len 0 n)) × HoldsAt (λ x. p x ≡ false) (range_with_len 0 n) k) → r ≡ all_below n p
  all_of true h = sym (all_from n p (λ k l. ap p (sym (counted n k l)) ∙ h k 0 (omega arith) (within k l)))
  all_of false h =
      let l = below h.0 h.1 in
      sym (fails_from (all_below n p) (λ t. not_both (all_at n p t h.0 l) (ap p (sym (counted n h.0 l)) ∙ h.2 0)))

-- a closure that answers as p does, and that no call changes
module _ {F : Type 0} {g : Mut F (ℕ × Unit {0}) Bool} {f : F} {n : ℕ} {p : ℕ → Bool} {r : Bool} {u : Range ℕ} where
  -- `any` of 0 .. n - 1
  pub any_asked : ChecksAny nat_range_steps g (record { start = 0; end = n }) f r u
      → ((x : ℕ) (b : Bool) (q : F) → Called g f (x, tt) b q → (q ≡ f) × (b ≡ p x)) → r ≡ any_below n p
  any_asked ran h =
      any_of n p r (cases_from_any u f r (λ x. p x ≡ true) (λ x. p x ≡ false) ran (YieldsList-from_range 0 n n refl (omega arith))
      (λ x q k. sym (h x true q k).1) (λ x q k. ((h x false q k).0, sym (h x false q k).1)))

  -- `all` of them
  pub all_asked : ChecksAll nat_range_steps g (record { start = 0; end = n }) f r u
      → ((x : ℕ) (b : Bool) (q : F) → Called g f (x, tt) b q → (q ≡ f) × (b ≡ p x)) → r ≡ all_below n p
  all_asked ran h =
      all_of n p r (cases_from_all u f r (λ x. p x ≡ true) (λ x. p x ≡ false) ran (YieldsList-from_range 0 n n refl (omega arith))
      (λ x q k. ((h x true q k).0, sym (h x true q k).1)) (λ x q k. sym (h x false q k).1))

-- ---- turns

-- a fold over the numbers from a on, of one more: the last number's turn comes last
fold_last : {A : Type 0} (h : ℕ → A → A) (n a : ℕ) (b : A) → fold (λ c x. h x c) b (range_with_len a (suc n)) ≡ h (a + n) (fold (λ c x. h x c) b (range_with_len a n))
fold_last h zero a b = ap (λ k. h k b) (omega arith)
fold_last h (suc n) a b = fold_last h n (a + 1) (h a b) ∙ ap (λ k. h k (fold (λ c x. h x c) b (range_with_len a (suc n)))) (omega arith)

-- so over 0 .. n - 1 it is n turns
fold_iter : {A : Type 0} (h : ℕ → A → A) (n : ℕ) (b : A) → fold (λ c x. h x c) b (range_with_len 0 n) ≡ iter h n b
unfolding iter
fold_iter h zero b = refl
fold_iter h (suc n) b = fold_last h n 0 b ∙ ap (λ k. h k (fold (λ c x. h x c) b (range_with_len 0 n))) (zero-add n) ∙ ap (h n) (fold_iter h n b)

module _ {A F : Type 0} {g : Mut F (A × (ℕ × Unit {0})) A} {f : F} {h : ℕ → A → A} where
  -- what the turns made of the items is their fold
  folds_to : (xs : List ℕ) (a r : A) (q : F) → ((c : A) (x : ℕ) (d : A) (q : F) → Called g f (c, (x, tt)) d q → (q ≡ f) × (d ≡ h x c))
      → FoldsTo {P = F × A} (FoldTurn g) (f, a) xs (q, r) → r ≡ fold (λ c x. h x c) a xs
  folds_to [] a r q t e = sym (ap (λ (w : F × A). w.1) e)
  folds_to (x ∷ xs) a r q t (j, e, l) =
      let k = t a x j.1 j.0 e in
      folds_to xs j.1 r q t (subst (λ (w : F). FoldsTo {P = F × A} (FoldTurn g) (w, j.1) xs (q, r)) k.0 l) ∙ ap (λ c. fold (λ c x. h x c) c xs) k.1

  -- `fold` over 0 .. n - 1
  pub turns_taken : {n : ℕ} {a r : A} → FoldsItems nat_range_steps g (record { start = 0; end = n }) f a r
      → ((c : A) (x : ℕ) (d : A) (q : F) → Called g f (c, (x, tt)) d q → (q ≡ f) × (d ≡ h x c)) → r ≡ iter h n a
  turns_taken {n} {a} {r} (xs, q, (u, (m, y, z)), t) k =
      let e : map (λ x. x) xs ≡ range_with_len 0 n = items_from_drains {steps = nat_range_steps} xs (m, y, λ w. (u, z)) (YieldsList-from_range 0 n n refl (omega arith)) in
      folds_to xs a r q k t ∙ ap (fold (λ c x. h x c) a) (sym (map-id xs) ∙ e) ∙ fold_iter h n a
