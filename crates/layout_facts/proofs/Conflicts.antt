-- The test of the table of conflicts means that no route conflicts with itself, and that two routes conflict both ways or not at all.
use Prim.Native.Nat.{ℕ, ◌<◌, ◌≤◌}
use mathlib.Core.Path.{◌≡◌, refl, sym, ◌∙◌}
use mathlib.Core.Bool.{true}
use mathlib.Core.List.{List}
use mathlib.Core.Logic.Iff
use mathlib.Core.Logic.{◌↔◌, ◌≢◌}
use native.Mathlib.Omega.{arith}
use native.Mathlib.Decide.{ℕ_discrete}
use borrow.Author.Tests.{eqb-true, eq-eqb}
use Rattle.layout.specs.declared.Layout.{Layout}
use Rattle.layout.specs.Layout.{entry_of, conflict}
use Rattle.layout.specs.Sound.{pair_mirrors, row_mirrors, mirrored}
use Rattle.layout_facts.specs.Plain.{Conflicts}
use Rattle.layout_facts.proofs.Means.{eqb_means, leb_means, ◌&◌, and_means, all_means}
use Rattle.layout_facts.proofs.Order.{either_order}

-- the table says 0 or 1 of the routes r and q, and the same of q and r
abbrev Mirrored : List ℕ → ℕ → ℕ → Type 0
Mirrored m r q = (entry_of m r q ≤ 1) × (entry_of m r q ≡ entry_of m q r)

-- the table of n routes, as it is tested: each with itself, and with those before it
abbrev Rows : List ℕ → ℕ → Type 0
Rows m n = (r : ℕ) → r < n → (entry_of m r r ≡ 0) × ((q : ℕ) → q < r → Mirrored m r q)

-- the test of the table, row by row
rows_means : (L : Layout) → mirrored L ≡ true ↔ Rows L.conflict L.routes
unfolding mirrored row_mirrors pair_mirrors
rows_means L = all_means (λ r h. and_means (eqb_means _ _) (all_means (λ q l. and_means (leb_means _ _) (eqb_means _ _))))

-- what holds of each with those before it holds of any two
any_two : (m : List ℕ) (n : ℕ) → Rows m n → (r q : ℕ) → r < n → q < n → Mirrored m r q
any_two m n h r q hr hq = go (ℕ_discrete r q)
  where
    go : Dec (r ≡ q) → Mirrored m r q
    go (yes e) = let z = (h r hr).0 in rw (← e) (omega arith, refl)
    go (no d) = either_order (λ i j hi hj s. omega arith) (λ i hi. (h i hi).1) r q hr hq d

-- two entries of 0 or 1 are equal where each is 1 if the other is
pub same_entry : (a b : ℕ) → a ≤ 1 → b ≤ 1 → (a ≡ 1 → b ≡ 1) → (b ≡ 1 → a ≡ 1) → a ≡ b
same_entry a b p q f g = go (ℕ_discrete a 1)
  where
    go : Dec (a ≡ 1) → a ≡ b
    go (yes e) = e ∙ sym (f e)
    go (no d) = let n : b ≢ 1 = λ e. d (g e) in omega arith

-- no route conflicts with itself, and two conflict both ways or not at all
pub mirrored_means : (L : Layout) → mirrored L ≡ true ↔ Conflicts L
unfolding conflict
mirrored_means L =
    Iff.trans (rows_means L) (
      λ h. record {
        entries = λ r q hr hq. (any_two _ _ h r q hr hq).0;
        not_itself = λ r hr c. let z = (h r hr).0 in let e = eqb-true (entry_of L.conflict r r) 1 c in omega arith;
        both_ways = λ r q hr hq c. rw (← (any_two _ _ h r q hr hq).1) c;
      },
      λ s r hr.
          let own = s.entries r r hr hr in
          let unlisted : entry_of L.conflict r r ≢ 1 = λ e. s.not_itself r hr (eq-eqb _ _ e) in
          let listed : (p q : ℕ) → p < L.routes → q < L.routes → entry_of L.conflict p q ≡ 1 → entry_of L.conflict q p ≡ 1 =
          λ p q hp hq e. eqb-true _ _ (s.both_ways p q hp hq (eq-eqb _ _ e)) in
          omega arith & λ q l.
          let hq : q < L.routes = omega arith in
          s.entries r q hr hq & same_entry _ _ (s.entries r q hr hq) (s.entries q r hq hr) (listed r q hr hq) (listed q r hq hr),
    )
