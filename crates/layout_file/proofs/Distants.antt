-- The distants of a file, both ways (L2).
use Prim.Native.Nat.{ℕ, ◌+◌, ◌≤◌}
use mathlib.Core.Path.{◌≡◌, refl, sym, subst}
use mathlib.Core.List.{List, [], ◌∷◌}
use native.Mathlib.Omega.{arith}
use borrow.Author.Tests.{ltb-true}
use lib.ListN.{get_or, replicate, length-replicate}
use Rattle.laws.specs.Choice.{when◌then◌else◌}
use Rattle.laws.proofs.Choice.{Is, which, holds, fails}
use Rattle.numbers.specs.Number.{largest}
use Rattle.numbers.specs.Form.{Bytes}
use Rattle.track.specs.Sizes.{most_distants}
use Rattle.fields.specs.declared.Cursor.{Cursor}
use Rattle.fields.specs.Fields.{code, none_or_reference}
use Rattle.fields.proofs.Ranges.{code_most}
use Rattle.file_objects.specs.declared.distants.Distants.{Distants}
use Rattle.file_objects.specs.Distants.{lists_none, no_distants, without_distants, carrier_read, announced_read, distant_turn, distants_from, distants}
use Rattle.file_objects.proofs.DistantRanges.{from_count}
use Rattle.layout.specs.declared.Layout.{Layout}
use Rattle.layout.specs.Layout.{signals_in, carrier_of, announced_by}
use Rattle.layout_facts.specs.Plain.{Ranges}
use Rattle.layout_facts.proofs.Ranges.{carrier_few}
use Rattle.layout_file.specs.Written.{listing, distant_numbers}
use Rattle.layout_file.specs.Bare.{Bare}
use Rattle.layout_file.proofs.Stands.{Stand, stand_none, stand_here, stand_then, stand_first, stand_rest}
use Rattle.layout_file.proofs.Fields.{reference_stands, Clear, reference_gives}
use Rattle.layout_file.proofs.Turns.{both_read, copied_start, copied_all}
use Rattle.layout_file.proofs.Listings.{listing_stands, both_give}
use Rattle.layout_file.proofs.Signals.{signals_most}

-- ---- what was read stands there

module _ (s : List ℕ) (b : Bytes s) (signals : ℕ) (c : Cursor) where
  -- a list of distants
  from_stands : (distants_from s signals (code s c 0 most_distants)).cur.fault ≡ 0
      → (c.fault ≡ 0) × Stand s c.at (listing (distants_from s signals (code s c 0 most_distants)).count
      (λ d. get_or (distants_from s signals (code s c 0 most_distants)).carrier d 0 ∷ get_or (distants_from s signals (code s c 0 most_distants)).announced d 0 ∷ []))
      (distants_from s signals (code s c 0 most_distants)).cur.at
  unfolding distants_from distant_turn no_distants none_or_reference
  from_stands e =
      listing_stands s c 0 most_distants b _ _ _ (from_count s signals (code s c 0 most_distants))
      (both_read s (λ (t : Distants). t.cur) (λ t. t.carrier) (λ t. t.announced) (λ t. (carrier_read s signals t.cur).value) (λ t. (announced_read s signals t.cur).value)
      (distant_turn s signals) (λ i t. (refl, refl)) most_distants _ _ (length-replicate {A = ℕ} most_distants 0, length-replicate {A = ℕ} most_distants 0)
      (code_most s c 0 most_distants refl)
      (λ i t w.
      let announced = reference_stands s b (carrier_read s signals t.cur) signals w in
      let carrier = reference_stands s b t.cur (signals + 1) announced.0 in
      (carrier.0, stand_then s carrier.1 announced.1)) e)

  -- in version 1 nothing is read, from version 2 on a list
  pub distants_stand : (version : ℕ) → (distants s version signals c).cur.fault ≡ 0
      → (c.fault ≡ 0) × Stand s c.at (distant_numbers version (distants s version signals c).count (distants s version signals c).carrier
      (distants s version signals c).announced) (distants s version signals c).cur.at
  unfolding distants without_distants distant_numbers when◌then◌else◌
  distants_stand version = by (which (lists_none version))
    where
      by : Is (lists_none version) → (distants s version signals c).cur.fault ≡ 0
          → (c.fault ≡ 0) × Stand s c.at (distant_numbers version (distants s version signals c).count (distants s version signals c).carrier
          (distants s version signals c).announced) (distants s version signals c).cur.at
      by (holds t) = rw t (λ e. (e, stand_none s c.at))
      by (fails t) = rw t from_stands

-- ---- what stands there is read

-- the distants of a layout, as they were read up to a place
pub record DistantsGiven (L : Layout) (next : ℕ) (t : Distants) : Type 0 where
  pub clear : Clear t.cur next
  pub count : t.count ≡ L.distants
  pub carrier : t.carrier ≡ L.carrier
  pub announced : t.announced ≡ L.announced

module _ (s : List ℕ) (L : Layout) (ranges : Ranges L) (bare : Bare L) (c : Cursor) (at next : ℕ) (k : Clear c at) where
  -- a list of distants: each has a carrier and a signal that there are
  from_give : Stand s at (listing L.distants (λ d. get_or L.carrier d 0 ∷ get_or L.announced d 0 ∷ [])) next
      → DistantsGiven L next (distants_from s (signals_in L) (code s c 0 most_distants))
  unfolding distants_from distant_turn no_distants none_or_reference carrier_of announced_by
  from_give p =
      let few : signals_in L + 1 ≤ largest = omega (arith, signals_most L ranges) in
      let r =
      both_give s c 0 most_distants (λ (t : Distants). t.cur) (λ t. t.count) (λ t. t.carrier) (λ t. t.announced) (λ t. (carrier_read s (signals_in L) t.cur).value)
      (λ t. (announced_read s (signals_in L) t.cur).value) (distant_turn s (signals_in L)) (λ i t. (refl, refl)) (λ i t. refl) most_distants
      (λ v. record { cur = code s c 0 most_distants; count = v; carrier = replicate most_distants 0; announced = replicate most_distants 0 }) (λ v. (refl, refl, refl, refl))
      L.carrier L.announced at L.distants next k (omega arith) ranges.distant_count (omega arith) ranges.distant_count
      (bare.tables.carrier, bare.tables.announced) bare.past.distants
      (λ i a b t j d q.
      let first = stand_first s a b (get_or L.carrier i 0 ∷ []) (get_or L.announced i 0 ∷ []) q in
      let rest = stand_rest s a b (get_or L.carrier i 0 ∷ []) (get_or L.announced i 0 ∷ []) q in
      let carrier = reference_gives s t.cur (signals_in L + 1) a (get_or L.carrier i 0) _ d first (omega (arith, carrier_few L i (ranges.distants i j))) few in
      let announced = reference_gives s (carrier_read s (signals_in L) t.cur) (signals_in L) _ (get_or L.announced i 0) b carrier.clear rest (ranges.distants i j).announced (omega arith) in
      (announced.clear, carrier.value, announced.value)) p in
      record { clear = r.0; count = r.1; carrier = r.2; announced = r.3 }

  -- in version 1 there are none, from version 2 on a list
  pub distants_give : Stand s at (distant_numbers L.version L.distants L.carrier L.announced) next
      → DistantsGiven L next (distants s L.version (signals_in L) c)
  unfolding distants without_distants distant_numbers no_distants when◌then◌else◌ carrier_of announced_by
  distants_give = by (which (lists_none L.version))
    where
      by : Is (lists_none L.version) → Stand s at (distant_numbers L.version L.distants L.carrier L.announced) next
          → DistantsGiven L next (distants s L.version (signals_in L) c)
      by (holds t) =
          rw t (λ p.
          let none : L.distants ≡ 0 = ranges.no_distants (ltb-true _ _ t) in
          record {
            clear = subst (Clear c) (sym (stand_here s at next p)) k;
            count = sym none;
            carrier = copied_all most_distants 0 L.carrier 0 _ bare.tables.carrier (λ d l. (bare.past.distants d (omega arith)).0) (copied_start most_distants 0 L.carrier);
            announced = copied_all most_distants 0 L.announced 0 _ bare.tables.announced (λ d l. (bare.past.distants d (omega arith)).1)
                (copied_start most_distants 0 L.announced);
          })
      by (fails t) = rw t from_give
