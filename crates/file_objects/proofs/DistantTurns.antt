-- The distants, a turn at a time, and by the version of the file.
use Prim.Native.Nat.{ℕ, ◌+◌, ◌<◌, ◌≤◌}
use mathlib.Core.Path.{◌≡◌, refl, sym, ap, subst, ◌∙◌}
use mathlib.Core.List.{List}
use native.Mathlib.Numerals.{add-one}
use native.Mathlib.Omega.{arith}
use lib.ListN.{set}
use Rattle.std.specs.Prelude.{Ok}
use Rattle.laws.specs.Tables.{iter}
use Rattle.laws.proofs.Choice.{if_both, if_lt, if_ge}
use Rattle.laws.proofs.Loops.{iter_same}
use Rattle.numbers.specs.declared.Fault.{Fault}
use Rattle.fields.specs.declared.Cursor.{Cursor}
use Rattle.fields.specs.Fields.{code, reference, none_or_reference}
use Rattle.fields.specs.Reading.{Stands, Met, NumberRead}
use Rattle.fields.proofs.Laws.{code_met, reference_met, none_or_reference_met, after_turns}
use Rattle.fields.proofs.Ranges.{code_most}
use Rattle.track.specs.Sizes.{most_distants}
use Rattle.file_objects.specs.declared.distants.Distants.{Distants}
use Rattle.file_objects.specs.Distants.{lists_none, without_distants, distants_from, distant_turn, distants, no_distants}
use Rattle.file_objects.specs.Reading.{DistantsRead}

-- ---- the distants, of a version that lists them

module _ (s : List ℕ) (signals : ℕ) (c : Cursor) where
  -- what i turns read
  abbrev pub distants_to : ℕ → Distants
  distants_to i = iter (distant_turn s signals) i (record { cur = code s c 0 most_distants; count = (code s c 0 most_distants).value; carrier = no_distants; announced = no_distants })

  -- i of them are read, the last before a place
  pub record DistantsDone (count : ℕ) (carrier : List ℕ) (announced : List ℕ) (at i : ℕ) : Type 0 where
    pub counted : count ≡ (code s c 0 most_distants).value
    pub stands : Stands (distants_to i).cur at
    pub is_carrier : carrier ≡ (distants_to i).carrier
    pub is_announced : announced ≡ (distants_to i).announced

  -- the count is read
  pub distants_begin : {count at : ℕ} → NumberRead (Ok count) at (code s c 0 most_distants) → DistantsDone count no_distants no_distants at 0
  unfolding iter
  distants_begin h = record { counted = h.1; stands = h.0; is_carrier = refl; is_announced = refl }

  -- there are no more of them than that
  pub distants_few : {count at i : ℕ} {carrier : List ℕ} {announced : List ℕ} → DistantsDone count carrier announced at i → count ≤ most_distants
  distants_few d = omega (arith, code_most s c 0 most_distants refl, d.counted)

  -- each turn keeps a fault
  distants_kept : (f : Fault) (i : ℕ) (t : Distants) → Met t.cur f → Met (distant_turn s signals i t).cur f
  unfolding distant_turn
  distants_kept f i t h = reference_met s (none_or_reference s t.cur signals) f (none_or_reference_met s t.cur f h signals) signals

  -- a fault met after i turns
  distants_stop : (f : Fault) (i : ℕ) → i ≤ (code s c 0 most_distants).value → Met (distants_to i).cur f → Met (distants_from s signals (code s c 0 most_distants)).cur f
  unfolding distants_from
  distants_stop f i l h = after_turns (λ (t : Distants). Met t.cur f) (distant_turn s signals) _ (distants_kept f) i (code s c 0 most_distants).value l h

  -- a fault in place of the count
  pub distants_none : {f : Fault} → Met (code s c 0 most_distants) f → Met (distants_from s signals (code s c 0 most_distants)).cur f
  unfolding iter
  distants_none h = distants_stop _ 0 (omega arith) h

  -- a fault before
  pub distants_met : {f : Fault} → Met c f → Met (distants_from s signals (code s c 0 most_distants)).cur f
  distants_met h = distants_none (code_met s c _ h 0 most_distants)

  -- the cursor behind the carrier that is read after i turns
  abbrev pub carrier_read : ℕ → Cursor
  carrier_read i = none_or_reference s (distants_to i).cur signals

  -- one more
  pub distants_next : {count at n between signal next : ℕ} {carrier announced : List ℕ} (i : ℕ) → DistantsDone count carrier announced at i
      → NumberRead (Ok n) between (carrier_read i) → NumberRead (Ok signal) next (reference s (carrier_read i) signals)
      → DistantsDone count (set carrier i n) (set announced i signal) next (i + 1)
  unfolding iter distant_turn
  distants_next i d h w =
      rw add-one (record { counted = d.counted; stands = w.0; is_carrier = rw (d.is_carrier, h.1); is_announced = rw (d.is_announced, w.1) })

  module _ {count at : ℕ} {f : Fault} {carrier announced : List ℕ} (i : ℕ) (d : DistantsDone count carrier announced at i) (l : i < count) where
    -- a fault in place of a signal announced
    pub distants_half : Met (reference s (carrier_read i) signals) f → Met (distants_from s signals (code s c 0 most_distants)).cur f
    unfolding iter distant_turn
    distants_half h = distants_stop f (i + 1) (omega (arith, d.counted)) (rw add-one h)

    -- a fault in place of a carrier
    pub distants_cut : Met (carrier_read i) f → Met (distants_from s signals (code s c 0 most_distants)).cur f
    distants_cut h = distants_half (reference_met s (carrier_read i) f h signals)

  -- no turn changes the count
  distants_count : (i : ℕ) → (distants_to i).count ≡ (code s c 0 most_distants).value
  unfolding distant_turn
  distants_count i = iter_same (λ (t : Distants). t.count) (distant_turn s signals) i _ (λ k t. refl)

  -- all are read
  pub distants_end : {count at : ℕ} {carrier : List ℕ} {announced : List ℕ} (i : ℕ) → DistantsDone count carrier announced at i → i ≤ count → count ≤ i
      → DistantsRead (Ok (record { count = count; carrier = carrier; announced = announced })) at (distants_from s signals (code s c 0 most_distants))
  unfolding distants_from
  distants_end {count} {at} i d l h =
      let e : i ≡ (code s c 0 most_distants).value = omega (arith, d.counted) in (
        subst (λ j. Stands (distants_to j).cur at) e d.stands,
        (d.counted ∙ sym (distants_count (code s c 0 most_distants).value), d.is_carrier ∙ ap (λ j. (distants_to j).carrier) e, d.is_announced ∙ ap (λ j. (distants_to j).announced) e),
      )

-- ---- by the version
module _ (s : List ℕ) (version signals : ℕ) (c : Cursor) where
  -- a version that has none
  pub listing_none : version < 2 → {at : ℕ} → Stands c at
      → DistantsRead (Ok (record { count = 0; carrier = no_distants; announced = no_distants })) at (distants s version signals c)
  unfolding distants without_distants
  listing_none v {at} h =
      subst (DistantsRead (Ok (record { count = 0; carrier = no_distants; announced = no_distants })) at) (if_lt _ _ _ _ _ v refl) (h, (refl, refl, refl))

  -- a version that lists them
  pub listing : 2 ≤ version → distants_from s signals (code s c 0 most_distants) ≡ distants s version signals c
  unfolding distants
  listing v = if_ge _ _ _ _ _ v refl

  -- a fault before
  pub listing_met : {f : Fault} → Met c f → Met (distants s version signals c).cur f
  unfolding distants without_distants
  listing_met {f} h = if_both (λ (t : Distants). Met t.cur f) (lists_none version) (λ e. h) (λ e. distants_met s signals c h)
