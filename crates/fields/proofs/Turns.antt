-- The lists, a turn at a time: what the first turns gave, and a fault met in a turn, which the turns after it keep.
use Prim.Native.Nat.{ℕ, ◌+◌, ◌<◌, ◌≤◌}
use mathlib.Core.Path.{◌≡◌, refl, sym, ap, subst, ◌∙◌}
use mathlib.Core.List.{List}
use native.Mathlib.Numerals.{add-one}
use native.Mathlib.Omega.{arith}
use lib.ListN.{set, replicate}
use Rattle.std.specs.Prelude.{Ok}
use Rattle.laws.specs.Tables.{iter}
use Rattle.track.specs.Sizes.{most_listed}
use Rattle.numbers.specs.declared.Fault.{Fault}
use Rattle.fields.specs.declared.Cursor.{Cursor}
use Rattle.fields.specs.declared.Items.{Items}
use Rattle.fields.specs.declared.Points.{Points}
use Rattle.fields.specs.Fields.{failed, code, reference}
use Rattle.fields.specs.Lists.{item_turn, items, point_turn, points}
use Rattle.fields.specs.Reading.{Stands, Met, NumberRead, ItemsRead, PointsRead}
use Rattle.fields.proofs.Laws.{code_stays, code_met, reference_met, after_turns}
use Rattle.fields.proofs.Ranges.{items_count, points_count}

-- ---- after a fault that was met before, a list has nothing

module _ (s : List ℕ) (c : Cursor) (h : c.fault ≡ 0 → ⊥) where
  pub items_stay : (low high objects : ℕ) → record { cur = failed c.at c.fault; count = 0; item = replicate most_listed 0 } ≡ items s c low high objects
  unfolding items failed iter
  items_stay low high objects = rw (← code_stays s c h low high)

  pub points_stay : (objects : ℕ)
      → record { cur = failed c.at c.fault; count = 0; point = replicate most_listed 0; position = replicate most_listed 0 } ≡ points s c objects
  unfolding points failed iter
  points_stay objects = rw (← code_stays s c h 0 most_listed)

-- ---- a list of objects

module _ (s : List ℕ) (c : Cursor) (low high objects : ℕ) where
  -- what i turns read
  abbrev pub items_to : ℕ → Items
  items_to i =
      iter (item_turn s objects) i
      (record { cur = code s c low high; count = (code s c low high).value; item = replicate most_listed 0 })

  -- i numbers are read, the last of them before a place
  pub record ItemsDone (count : ℕ) (item : List ℕ) (at i : ℕ) : Type 0 where
    pub counted : count ≡ (code s c low high).value
    pub stands : Stands (items_to i).cur at
    pub list : item ≡ (items_to i).item

  -- the count is read
  pub items_begin : {count at : ℕ} → NumberRead (Ok count) at (code s c low high) → ItemsDone count (replicate most_listed 0) at 0
  unfolding iter
  items_begin h = record { counted = h.1; stands = h.0; list = refl }

  -- a number more
  pub items_next : {count at n next : ℕ} {item : List ℕ} (i : ℕ) → ItemsDone count item at i → NumberRead (Ok n) next (reference s (items_to i).cur objects)
      → ItemsDone count (set item i n) next (i + 1)
  unfolding iter item_turn
  items_next i d h = rw add-one (record { counted = d.counted; stands = h.0; list = rw (d.list, h.1) })

  -- each turn keeps a fault
  item_met : (f : Fault) (i : ℕ) (t : Items) → Met t.cur f → Met (item_turn s objects i t).cur f
  unfolding item_turn
  item_met f i t h = reference_met s t.cur f h objects

  -- a fault met after i turns
  items_stop : (f : Fault) (i : ℕ) → i ≤ (code s c low high).value → Met (items_to i).cur f → Met (items s c low high objects).cur f
  unfolding items
  items_stop f i l h = after_turns (λ (t : Items). Met t.cur f) (item_turn s objects) _ (item_met f) i (code s c low high).value l h

  -- a fault in place of the count
  pub items_none : {f : Fault} → Met (code s c low high) f → Met (items s c low high objects).cur f
  unfolding iter
  items_none h = items_stop _ 0 (omega arith) h

  -- a fault before
  pub items_met : {f : Fault} → Met c f → Met (items s c low high objects).cur f
  items_met h = items_none (code_met s c _ h low high)

  -- a fault in place of the number i
  pub items_cut : {count at : ℕ} {f : Fault} {item : List ℕ} (i : ℕ) → ItemsDone count item at i → i < count
      → Met (reference s (items_to i).cur objects) f → Met (items s c low high objects).cur f
  unfolding iter item_turn
  items_cut i d l h = items_stop _ (i + 1) (omega (arith, d.counted)) (rw add-one h)

  -- all numbers are read
  pub items_end : {count at : ℕ} {item : List ℕ} (i : ℕ) → ItemsDone count item at i → i ≤ count → count ≤ i
      → ItemsRead (Ok (record { count = count; item = item })) at (items s c low high objects)
  unfolding items
  items_end {count} {at} i d l h =
      let e : i ≡ (code s c low high).value = omega (arith, d.counted) in
      (subst (λ j. Stands (items_to j).cur at) e d.stands, (d.counted ∙ sym (items_count s c low high objects), d.list ∙ ap (λ j. (items_to j).item) e))

-- ---- points with positions

module _ (s : List ℕ) (c : Cursor) (objects : ℕ) where
  -- what i turns read
  abbrev pub points_to : ℕ → Points
  points_to i =
      iter (point_turn s objects) i
      (record {
        cur = code s c 0 most_listed;
        count = (code s c 0 most_listed).value;
        point = replicate most_listed 0;
        position = replicate most_listed 0;
      })

  -- i points are read, the last of them before a place
  pub record PointsDone (count : ℕ) (point position : List ℕ) (at i : ℕ) : Type 0 where
    pub counted : count ≡ (code s c 0 most_listed).value
    pub stands : Stands (points_to i).cur at
    pub points : point ≡ (points_to i).point
    pub positions : position ≡ (points_to i).position

  -- the count is read
  pub points_begin : {count at : ℕ} → NumberRead (Ok count) at (code s c 0 most_listed)
      → PointsDone count (replicate most_listed 0) (replicate most_listed 0) at 0
  unfolding iter
  points_begin h = record { counted = h.1; stands = h.0; points = refl; positions = refl }

  -- the cursor behind the point that is read after i turns
  abbrev pub point_read : ℕ → Cursor
  point_read i = reference s (points_to i).cur objects

  -- a point more
  pub points_next : {count at n between way next : ℕ} {point position : List ℕ} (i : ℕ) → PointsDone count point position at i
      → NumberRead (Ok n) between (point_read i) → NumberRead (Ok way) next (code s (point_read i) 1 2)
      → PointsDone count (set point i n) (set position i way) next (i + 1)
  unfolding iter point_turn
  points_next i d h w =
      rw add-one (record { counted = d.counted; stands = w.0; points = rw (d.points, h.1); positions = rw (d.positions, w.1) })

  -- each turn keeps a fault
  point_met : (f : Fault) (i : ℕ) (t : Points) → Met t.cur f → Met (point_turn s objects i t).cur f
  unfolding point_turn
  point_met f i t h = code_met s (reference s t.cur objects) f (reference_met s t.cur f h objects) 1 2

  -- a fault met after i turns
  points_stop : (f : Fault) (i : ℕ) → i ≤ (code s c 0 most_listed).value → Met (points_to i).cur f → Met (points s c objects).cur f
  unfolding points
  points_stop f i l h = after_turns (λ (t : Points). Met t.cur f) (point_turn s objects) _ (point_met f) i (code s c 0 most_listed).value l h

  -- a fault in place of the count
  pub points_none : {f : Fault} → Met (code s c 0 most_listed) f → Met (points s c objects).cur f
  unfolding iter
  points_none h = points_stop _ 0 (omega arith) h

  -- a fault before
  pub points_met : {f : Fault} → Met c f → Met (points s c objects).cur f
  points_met h = points_none (code_met s c _ h 0 most_listed)

  module _ {count at : ℕ} {f : Fault} {point position : List ℕ} (i : ℕ) (d : PointsDone count point position at i) (l : i < count) where
    -- a fault in place of the position i
    pub points_half : Met (code s (point_read i) 1 2) f → Met (points s c objects).cur f
    unfolding iter point_turn
    points_half h = points_stop f (i + 1) (omega (arith, d.counted)) (rw add-one h)

    -- a fault in place of the point i
    pub points_cut : Met (point_read i) f → Met (points s c objects).cur f
    points_cut h = points_half (code_met s (point_read i) f h 1 2)

  -- all points are read
  pub points_end : {count at : ℕ} {point position : List ℕ} (i : ℕ) → PointsDone count point position at i → i ≤ count → count ≤ i
      → PointsRead (Ok (record { count = count; point = point; position = position })) at (points s c objects)
  unfolding points
  points_end {count} {at} i d l h =
      let e : i ≡ (code s c 0 most_listed).value = omega (arith, d.counted) in (
        subst (λ j. Stands (points_to j).cur at) e d.stands,
        (d.counted ∙ sym (points_count s c objects), d.points ∙ ap (λ j. (points_to j).point) e, d.positions ∙ ap (λ j. (points_to j).position) e),
      )
