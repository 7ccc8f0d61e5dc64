-- What a reading says of the distants (L2): with no fault all is in range.
use Prim.Native.Nat.{ℕ, ◌+◌, ◌<◌, ◌≤◌}
use mathlib.Core.Path.{◌≡◌, refl}
use mathlib.Core.Bool.{Bool, true, false}
use mathlib.Core.List.{List}
use native.Mathlib.Nat.{not-suc-le-zero}
use native.Mathlib.Omega.{arith}
use borrow.Author.Tests.{lt-ltb, le-leb}
use lib.ListN.{get_or, length-replicate}
use Rattle.laws.specs.Choice.{when◌then◌else◌}
use Rattle.laws.proofs.Choice.{if_both}
use Rattle.laws.proofs.Tests.{and_both}
use Rattle.laws.proofs.Loops.{iter_keeps, iter_same}
use Rattle.laws.proofs.Stores.{turns_each}
use Rattle.fields.specs.declared.Cursor.{Cursor}
use Rattle.fields.specs.Fields.{code, reference, none_or_reference}
use Rattle.fields.proofs.Ranges.{Known, code_known, code_most, code_in, reference_known, reference_in}
use Rattle.track.specs.Sizes.{most_distants}
use Rattle.track.specs.Ranges.{distant_fits}
use Rattle.file_objects.specs.declared.distants.Distants.{Distants}
use Rattle.file_objects.specs.Distants.{lists_none, most_distants_of, no_distants, without_distants, carrier_read, announced_read, distant_turn, distants_from, distants}

-- no version has more than there may be
pub version_most : (version : ℕ) → most_distants_of version ≤ most_distants
unfolding most_distants_of
version_most version = if_both (λ n. n ≤ most_distants) (lists_none version) (λ t. omega arith) (λ t. omega arith)

-- the count and the distants are in range
pub record DistantsIn (version signals : ℕ) (t : Distants) : Type 0 where
  pub most : t.count ≤ most_distants_of version
  pub each : (k : ℕ) → k < t.count → distant_fits signals (get_or t.carrier k 0) (get_or t.announced k 0) ≡ true

module _ (s : List ℕ) (signals : ℕ) where
  -- with no fault carrier and announced signal are in range
  distant_in : (c : Cursor) → (announced_read s signals c).fault ≡ 0
      → (c.fault ≡ 0) × ((carrier_read s signals c).value < signals + 1) × ((announced_read s signals c).value < signals)
  unfolding none_or_reference
  distant_in c e =
      let announced = reference_in s (reference s c (signals + 1)) signals e in
      let carrier = reference_in s c (signals + 1) announced.0 in
      (carrier.0, carrier.1, announced.1)

  module _ (c : Cursor) where
    -- the fault of a list of them is known where the fault before is
    from_known : Known c → Known (distants_from s signals c).cur
    unfolding distants_from distant_turn none_or_reference
    from_known p =
        iter_keeps (λ i (t : Distants). Known t.cur) (distant_turn s signals) _ _ p
        (λ i t l q. reference_known s (reference s t.cur (signals + 1)) signals (reference_known s t.cur (signals + 1) q))

    -- its count is the number read last
    pub from_count : (distants_from s signals c).count ≡ c.value
    unfolding distants_from distant_turn
    from_count = iter_same (λ (t : Distants). t.count) (distant_turn s signals) _ _ (λ i t. refl)

    -- with no fault it is in range
    from_in : c.value ≤ most_distants → (distants_from s signals c).cur.fault ≡ 0
        → (c.fault ≡ 0) × ((k : ℕ) → k < c.value → distant_fits signals (get_or (distants_from s signals c).carrier k 0) (get_or (distants_from s signals c).announced k 0) ≡ true)
    unfolding distants_from distant_turn no_distants distant_fits
    from_in m e =
        let p = turns_each (λ (t : Distants). t.carrier) (λ t. (carrier_read s signals t.cur).value) 0 (distant_turn s signals) (λ i t. refl) _ _
        (λ v. v < signals + 1) (λ (t : Distants). t.cur.fault ≡ 0) most_distants (length-replicate {A = ℕ} most_distants 0) m
        (λ i t w. let q = distant_in t.cur w in (q.0, q.1)) e in
        let a = turns_each (λ (t : Distants). t.announced) (λ t. (announced_read s signals t.cur).value) 0 (distant_turn s signals) (λ i t. refl) _ _
        (λ v. v < signals) (λ (t : Distants). t.cur.fault ≡ 0) most_distants (length-replicate {A = ℕ} most_distants 0) m
        (λ i t w. let q = distant_in t.cur w in (q.0, q.2)) e in
        (p.0, λ k l. and_both _ _ (le-leb _ signals (let few = p.1 k l in omega arith)) (lt-ltb _ signals (a.1 k l)))

module _ (s : List ℕ) (version signals : ℕ) (c : Cursor) where
  -- their fault is known where the fault before is
  pub distants_known : Known c → Known (distants s version signals c).cur
  unfolding distants without_distants
  distants_known p =
      if_both (λ (t : Distants). Known t.cur) (lists_none version) (λ t. p) (λ t. from_known s signals _ (code_known s c 0 most_distants p))

  -- there are no more than the version has
  pub distants_few : (distants s version signals c).count ≤ most_distants_of version
  unfolding distants most_distants_of without_distants when◌then◌else◌
  distants_few = few (lists_none version)
    where
      few : (b : Bool) → (when b then without_distants c else distants_from s signals (code s c 0 most_distants)).count ≤ (when b then 0 else most_distants)
      few true = omega arith
      few false = rw (from_count s signals (code s c 0 most_distants)) (code_most s c 0 most_distants refl)

  -- with no fault they are in range
  pub distants_in : (distants s version signals c).cur.fault ≡ 0 → (c.fault ≡ 0) × DistantsIn version signals (distants s version signals c)
  unfolding distants without_distants
  distants_in e =
      let r = each e in
      (r.0, record { most = distants_few; each = r.1 })
    where
      each : (distants s version signals c).cur.fault ≡ 0
          → (c.fault ≡ 0) × ((k : ℕ) → k < (distants s version signals c).count
          → distant_fits signals (get_or (distants s version signals c).carrier k 0) (get_or (distants s version signals c).announced k 0) ≡ true)
      each =
          if_both (λ (t : Distants). t.cur.fault ≡ 0
          → (c.fault ≡ 0) × ((k : ℕ) → k < t.count → distant_fits signals (get_or t.carrier k 0) (get_or t.announced k 0) ≡ true)) (lists_none version)
          (λ t e. (e, λ k l. absurd (not-suc-le-zero l)))
          (λ t e.
          let r = from_in s signals (code s c 0 most_distants) (code_most s c 0 most_distants refl) e in
          ((code_in s c 0 most_distants r.0).0, λ k l. r.1 k (rw (from_count s signals (code s c 0 most_distants)) at l)))
