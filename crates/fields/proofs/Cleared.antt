-- Past the count of a list that was read there is 0.
use Prim.Native.Nat.{ℕ, ◌≤◌}
use mathlib.Core.Path.{◌≡◌, refl}
use mathlib.Core.List.{List}
use lib.ListN.{get_or}
use Rattle.laws.proofs.Arrays.{nothing_at}
use Rattle.laws.proofs.Stores.{turns_past}
use Rattle.track.specs.Sizes.{most_listed}
use Rattle.fields.specs.declared.Cursor.{Cursor}
use Rattle.fields.specs.declared.Items.{Items}
use Rattle.fields.specs.declared.Points.{Points}
use Rattle.fields.specs.Fields.{code, reference}
use Rattle.fields.specs.Lists.{item_turn, items, point_turn, points}
use Rattle.fields.proofs.Ranges.{items_count, points_count}

module _ (s : List ℕ) (c : Cursor) (low high objects : ℕ) where
  -- a list of numbers
  pub items_past : (k : ℕ) → (items s c low high objects).count ≤ k → get_or (items s c low high objects).item k 0 ≡ 0
  unfolding items item_turn
  items_past k h =
      turns_past (λ (t : Items). t.item) (λ t. (reference s t.cur objects).value) 0 (item_turn s objects) (λ i t. refl) _ _
      (nothing_at most_listed 0) k (rw (items_count s c low high objects) at h)

module _ (s : List ℕ) (c : Cursor) (objects : ℕ) where
  -- points with positions
  pub points_past : (k : ℕ) → (points s c objects).count ≤ k → (get_or (points s c objects).point k 0 ≡ 0) × (get_or (points s c objects).position k 0 ≡ 0)
  unfolding points point_turn
  points_past k h =
      let l = rw (points_count s c objects) at h in (
        turns_past (λ (t : Points). t.point) (λ t. (reference s t.cur objects).value) 0 (point_turn s objects) (λ i t. refl) _ _ (nothing_at most_listed 0) k l,
        turns_past (λ (t : Points). t.position) (λ t. (code s (reference s t.cur objects) 1 2).value) 0 (point_turn s objects) (λ i t. refl) _ _ (nothing_at most_listed 0) k l,
      )
