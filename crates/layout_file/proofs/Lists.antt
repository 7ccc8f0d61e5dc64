-- The lists of a line or a route, both ways: numbers of objects, and points with positions.
use Prim.Native.Nat.{ℕ, ◌<◌, ◌≤◌}
use mathlib.Core.Path.{◌≡◌, refl}
use mathlib.Core.List.{List, [], ◌∷◌}
use mathlib.Core.Logic.{◌⊎◌, ⊎_elim}
use native.Mathlib.Omega.{arith}
use lib.ListN.{length, get_or, replicate, length-replicate}
use Rattle.numbers.specs.Form.{Bytes}
use Rattle.track.specs.Codes.{left, right}
use Rattle.track.specs.Sizes.{most_sections, most_listed}
use Rattle.fields.specs.declared.Cursor.{Cursor}
use Rattle.fields.specs.declared.Items.{Items}
use Rattle.fields.specs.declared.Points.{Points}
use Rattle.fields.specs.Fields.{code, reference}
use Rattle.fields.specs.Lists.{item_turn, items, point_turn, points}
use Rattle.fields.proofs.Ranges.{code_most, items_count, points_count}
use Rattle.layout_file.specs.Written.{item_numbers, point_numbers}
use Rattle.layout_file.proofs.Stands.{Stand, stand_then, stand_first, stand_rest}
use Rattle.layout_file.proofs.Fields.{code_stands, reference_stands, Clear, code_gives, reference_gives}
use Rattle.layout_file.proofs.Listings.{listing_stands, entries_give, both_give}
use Rattle.layout_file.proofs.Turns.{entries_read, both_read}

-- ---- what was read stands there

module _ (s : List ℕ) (b : Bytes s) (c : Cursor) where
  -- a list of numbers of objects
  pub items_stand : (low high objects : ℕ) → high ≤ most_listed → (items s c low high objects).cur.fault ≡ 0
      → (c.fault ≡ 0) × Stand s c.at (item_numbers (items s c low high objects).count (items s c low high objects).item) (items s c low high objects).cur.at
  unfolding item_numbers items item_turn
  items_stand low high objects few e =
      let m = code_most s c low high refl in
      listing_stands s c low high b _ _ _ (items_count s c low high objects)
      (entries_read s (λ (t : Items). t.cur) (λ t. t.item) (λ t. (reference s t.cur objects).value) 0 (λ v. v ∷ []) (item_turn s objects) (λ i t. refl) most_listed
      _ _ (length-replicate {A = ℕ} most_listed 0) (omega arith) (λ i t. reference_stands s b t.cur objects) e)

  -- points with positions
  pub points_stand : (objects : ℕ) → (points s c objects).cur.fault ≡ 0
      → (c.fault ≡ 0) × Stand s c.at (point_numbers (points s c objects).count (points s c objects).point (points s c objects).position) (points s c objects).cur.at
  unfolding point_numbers points point_turn
  points_stand objects e =
      listing_stands s c 0 most_listed b _ _ _ (points_count s c objects)
      (both_read s (λ (t : Points). t.cur) (λ t. t.point) (λ t. t.position) (λ t. (reference s t.cur objects).value)
      (λ t. (code s (reference s t.cur objects) 1 2).value) (point_turn s objects) (λ i t. (refl, refl)) most_listed _ _
      (length-replicate {A = ℕ} most_listed 0, length-replicate {A = ℕ} most_listed 0) (code_most s c 0 most_listed refl)
      (λ i t w.
      let p = code_stands s b (reference s t.cur objects) 1 2 w in
      let o = reference_stands s b t.cur objects p.0 in
      (o.0, stand_then s o.1 p.1)) e)

-- ---- what stands there is read

module _ (s : List ℕ) (c : Cursor) (objects at next n : ℕ) (k : Clear c at) (few : objects ≤ most_sections) where
  -- a list of numbers of objects
  pub items_give : (low high : ℕ) (xs : List ℕ) → low ≤ n → n ≤ high → high ≤ most_listed → ((i : ℕ) → i < n → get_or xs i 0 < objects)
      → length xs ≡ most_listed → ((i : ℕ) → n ≤ i → get_or xs i 0 ≡ 0) → Stand s at (item_numbers n xs) next
      → Clear (items s c low high objects).cur next × ((items s c low high objects).count ≡ n) × ((items s c low high objects).item ≡ xs)
  unfolding item_numbers items item_turn
  items_give low high xs l h m there long past p =
      entries_give s c low high (λ (t : Items). t.cur) (λ t. t.count) (λ t. t.item) (λ t. (reference s t.cur objects).value) 0 (λ v. v ∷ []) (item_turn s objects)
      (λ i t. refl) (λ i t. refl) most_listed (λ v. record { cur = code s c low high; count = v; item = replicate most_listed 0 }) (λ v. (refl, refl, refl))
      xs at n next k l h (omega arith) (omega arith) long past
      (λ i a b t j d q. let g = reference_gives s t.cur objects a (get_or xs i 0) b d q (there i j) (omega arith) in (g.clear, g.value)) p

  -- points with positions
  pub points_give : (xs ys : List ℕ) → n ≤ most_listed → ((i : ℕ) → i < n → get_or xs i 0 < objects) → ((i : ℕ) → i < n → get_or ys i 0 ≡ left ⊎ get_or ys i 0 ≡ right)
      → (length xs ≡ most_listed) × (length ys ≡ most_listed) → ((i : ℕ) → n ≤ i → (get_or xs i 0 ≡ 0) × (get_or ys i 0 ≡ 0)) → Stand s at (point_numbers n xs ys) next
      → Clear (points s c objects).cur next × ((points s c objects).count ≡ n) × ((points s c objects).point ≡ xs) × ((points s c objects).position ≡ ys)
  unfolding point_numbers points point_turn
  points_give xs ys m there placed long past p =
      both_give s c 0 most_listed (λ (t : Points). t.cur) (λ t. t.count) (λ t. t.point) (λ t. t.position) (λ t. (reference s t.cur objects).value)
      (λ t. (code s (reference s t.cur objects) 1 2).value) (point_turn s objects) (λ i t. (refl, refl)) (λ i t. refl) most_listed
      (λ v. record { cur = code s c 0 most_listed; count = v; point = replicate most_listed 0; position = replicate most_listed 0 }) (λ v. (refl, refl, refl, refl))
      xs ys at n next k (omega arith) m (omega arith) m long past
      (λ i a b t j d q.
      let first = stand_first s a b (get_or xs i 0 ∷ []) (get_or ys i 0 ∷ []) q in
      let rest = stand_rest s a b (get_or xs i 0 ∷ []) (get_or ys i 0 ∷ []) q in
      let g = reference_gives s t.cur objects a (get_or xs i 0) _ d first (there i j) (omega arith) in
      let low : 1 ≤ get_or ys i 0 = ⊎_elim (λ z. omega arith) (λ z. omega arith) (placed i j) in
      let high : get_or ys i 0 ≤ 2 = ⊎_elim (λ z. omega arith) (λ z. omega arith) (placed i j) in
      let w = code_gives s (reference s t.cur objects) 1 2 _ (get_or ys i 0) b g.clear rest low high (omega arith) in
      (w.clear, g.value, w.value)) p
