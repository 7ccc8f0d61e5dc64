-- What a reading says of the numbers read: with no fault each lies in its range.
use Prim.Native.Nat.{ℕ, ◌+◌, ◌<◌, ◌≤◌}
use mathlib.Core.Path.{◌≡◌, refl}
use mathlib.Core.List.{List}
use mathlib.Core.Logic.{◌⊎◌, inl, inr, ⊎_elim}
use native.Mathlib.Omega.{arith}
use borrow.Author.Tests.{ltb-true, ltb-false, eqb-true, eqb-false}
use lib.Dec.{ltb, eqb}
use lib.ListN.{get_or, length-replicate}
use Rattle.laws.proofs.Choice.{if_both}
use Rattle.laws.proofs.Loops.{iter_keeps, iter_same}
use Rattle.laws.proofs.Stores.{turns_each}
use Rattle.numbers.specs.Number.{Number}
use Rattle.numbers.specs.Number.{Value, Fault}
use Rattle.numbers.specs.Number.{number_at}
use Rattle.numbers.proofs.Readings.{fault_number}
use Rattle.track.specs.Sizes.{most_listed}
use Rattle.fields.specs.declared.Cursor.{Cursor}
use Rattle.fields.specs.declared.Items.{Items}
use Rattle.fields.specs.declared.Points.{Points}
use Rattle.fields.specs.Fields.{failed, judge, field, code, reference}
use Rattle.fields.specs.Lists.{item_turn, items, point_turn, points}

-- ---- whatever was met, the number is below any m above 0 that is at least the limit

-- of what was judged: in range it is below the limit, and with a fault it is 0
judge_below : (n : Number) (at low limit fault m : ℕ) → limit ≤ m → 0 < m → (judge n at low limit fault).value < m
unfolding judge failed
judge_below (Value v next) at low limit fault m l h =
    if_both (λ (c : Cursor). c.value < m) (ltb v low) (λ e. h)
    (λ e. if_both (λ (c : Cursor). c.value < m) (ltb v limit) (λ f. omega (arith, ltb-true v limit f)) (λ f. h))
judge_below (Fault number place) at low limit fault m l h = h

-- of the next number: what was judged, or the 0 of a fault that stays
field_below : (s : List ℕ) (c : Cursor) (low limit fault m : ℕ) → limit ≤ m → 0 < m → (field s c low limit fault).value < m
unfolding field failed
field_below s c low limit fault m l h =
    if_both (λ (c : Cursor). c.value < m) (eqb c.fault 0) (λ e. judge_below (number_at s c.at) c.at low limit fault m l h) (λ e. h)

-- a code is at most its highest
pub code_most : (s : List ℕ) (c : Cursor) (low high : ℕ) {d : Cursor} → d ≡ code s c low high → d.value ≤ high
unfolding code
code_most s c low high e = rw e (omega (arith, field_below s c low (high + 1) 23 (high + 1) (omega arith) (omega arith)))

-- a reference, even with a fault, is below any m above 0 that is at least the number of objects
pub reference_below : (s : List ℕ) (c : Cursor) (objects m : ℕ) {d : Cursor} → d ≡ reference s c objects → objects ≤ m → 0 < m → d.value < m
unfolding reference
reference_below s c objects m e l h = rw e (field_below s c 0 objects 24 m l h)

-- ---- one number: with no fault it lies in its range, and there was no fault before

-- a fault that a number can bring
abbrev pub Bad : ℕ → Type 0
Bad fault = (21 ≤ fault) × (fault ≤ 24)

-- no fault, or one that a number can bring
abbrev pub Known : Cursor → Type 0
Known c = (c.fault ≡ 0) ⊎ Bad c.fault

-- a number from low to just below limit, or a fault
abbrev Judged : ℕ → ℕ → Cursor → Type 0
Judged low limit c = ((c.fault ≡ 0) × (low ≤ c.value) × (c.value < limit)) ⊎ Bad c.fault

-- a fault of the number form is one that a number can bring
pub form_bad : (s : List ℕ) (at number place : ℕ) → Fault number place ≡ number_at s at → Bad number
form_bad s at number place e =
    ⊎_elim (λ (f : number ≡ 22). (omega arith, omega arith)) (λ f. let g : number ≡ 21 = f.0 in (omega arith, omega arith)) (fault_number s at e refl)

-- what is judged is a number in its range, or a fault that a number can bring
judge_says : (s : List ℕ) (at low limit fault : ℕ) → Bad fault → (n : Number) → n ≡ number_at s at → Judged low limit (judge n at low limit fault)
unfolding judge failed
judge_says s at low limit fault bad (Value v next) e =
    if_both (Judged low limit) (ltb v low) (λ t. inr bad)
    (λ t. if_both (Judged low limit) (ltb v limit) (λ u. inl (refl, ltb-false v low t, ltb-true v limit u)) (λ u. inr bad))
judge_says s at low limit fault bad (Fault number place) e = inr (form_bad s at number place e)

module _ (s : List ℕ) (c : Cursor) (low limit fault : ℕ) (bad : Bad fault) where
  -- where the fault before is known, so is that of the next number
  field_known : Known c → Known (field s c low limit fault)
  unfolding field failed
  field_known k =
      if_both Known (eqb c.fault 0)
      (λ t. ⊎_elim (λ g. inl g.0) inr (judge_says s c.at low limit fault bad (number_at s c.at) refl)) (λ t. k)

  -- with no fault there was none before, and the number lies in its range
  field_in : (field s c low limit fault).fault ≡ 0
      → (c.fault ≡ 0) × (low ≤ (field s c low limit fault).value) × ((field s c low limit fault).value < limit)
  unfolding field failed
  field_in =
      if_both (λ (d : Cursor). d.fault ≡ 0 → (c.fault ≡ 0) × (low ≤ d.value) × (d.value < limit)) (eqb c.fault 0)
      (λ t e. ⊎_elim (λ g. (eqb-true c.fault 0 t, g.1, g.2)) (λ b. absurd (omega arith)) (judge_says s c.at low limit fault bad (number_at s c.at) refl))
      (λ t e. absurd (eqb-false c.fault 0 t e))

module _ (s : List ℕ) (c : Cursor) (low high : ℕ) where
  -- a code's fault is known where the fault before is
  pub code_known : Known c → Known (code s c low high)
  unfolding code
  code_known = field_known s c low (high + 1) 23 (omega arith, omega arith)

  -- with no fault there was none before, and a code is at least its lowest; code-most says that it is at most its highest
  pub code_in : (code s c low high).fault ≡ 0 → (c.fault ≡ 0) × (low ≤ (code s c low high).value)
  unfolding code
  code_in e = let r = field_in s c low (high + 1) 23 (omega arith, omega arith) e in (r.0, r.1)

module _ (s : List ℕ) (c : Cursor) (objects : ℕ) where
  -- a reference's fault is known where the fault before is
  pub reference_known : Known c → Known (reference s c objects)
  unfolding reference
  reference_known = field_known s c 0 objects 24 (omega arith, omega arith)

  -- with no fault a reference is to an object that there is
  pub reference_in : (reference s c objects).fault ≡ 0 → (c.fault ≡ 0) × ((reference s c objects).value < objects)
  unfolding reference
  reference_in e = let r = field_in s c 0 objects 24 (omega arith, omega arith) e in (r.0, r.2)

-- ---- a list of numbers

-- its count and its numbers are in range
pub record ItemsIn (low high objects : ℕ) (t : Items) : Type 0 where
  pub least : low ≤ t.count
  pub most : t.count ≤ high
  pub each : (k : ℕ) → k < t.count → get_or t.item k 0 < objects

module _ (s : List ℕ) (c : Cursor) (low high objects : ℕ) where
  -- its fault is known where the fault before is
  pub items_known : Known c → Known (items s c low high objects).cur
  unfolding items item_turn
  items_known p =
      iter_keeps (λ i (t : Items). Known t.cur) (item_turn s objects) _ _ (code_known s c low high p) (λ i t l q. reference_known s t.cur objects q)

  -- its count is the number read first
  pub items_count : (items s c low high objects).count ≡ (code s c low high).value
  unfolding items item_turn
  items_count = iter_same (λ (t : Items). t.count) (item_turn s objects) _ _ (λ i t. refl)

  -- with no fault it is in range
  pub items_in : high ≤ most_listed → (items s c low high objects).cur.fault ≡ 0 → (c.fault ≡ 0) × ItemsIn low high objects (items s c low high objects)
  unfolding items item_turn
  items_in few e =
      let n = items_count in
      let m = code_most s c low high refl in
      let r = turns_each (λ (t : Items). t.item) (λ t. (reference s t.cur objects).value) 0 (item_turn s objects) (λ i t. refl) _ _
      (λ v. v < objects) (λ (t : Items). t.cur.fault ≡ 0) most_listed (length-replicate {A = ℕ} most_listed 0) (omega arith) (λ i t. reference_in s t.cur objects) e in
      let d = code_in s c low high r.0 in
      (d.0, record { least = omega arith; most = omega arith; each = λ k l. r.1 k (omega arith) })

-- ---- points with positions

-- the count, the points and the positions are in range
pub record PointsIn (objects : ℕ) (t : Points) : Type 0 where
  pub most : t.count ≤ most_listed
  pub points : (k : ℕ) → k < t.count → get_or t.point k 0 < objects
  pub positions : (k : ℕ) → k < t.count → (1 ≤ get_or t.position k 0) × (get_or t.position k 0 ≤ 2)

module _ (s : List ℕ) (c : Cursor) (objects : ℕ) where
  -- the position after a point
  abbrev way : Points → Cursor
  way t = code s (reference s t.cur objects) 1 2

  -- their fault is known where the fault before is
  pub points_known : Known c → Known (points s c objects).cur
  unfolding points point_turn
  points_known p =
      iter_keeps (λ i (t : Points). Known t.cur) (point_turn s objects) _ _ (code_known s c 0 most_listed p)
      (λ i t l q. code_known s (reference s t.cur objects) 1 2 (reference_known s t.cur objects q))

  -- their count is the number read first
  pub points_count : (points s c objects).count ≡ (code s c 0 most_listed).value
  unfolding points point_turn
  points_count = iter_same (λ (t : Points). t.count) (point_turn s objects) _ _ (λ i t. refl)

  -- with no fault a point and its position are in range
  point_in : (t : Points) → (way t).fault ≡ 0 → (t.cur.fault ≡ 0) × ((reference s t.cur objects).value < objects) × (1 ≤ (way t).value) × ((way t).value ≤ 2)
  point_in t e =
      let w = code_in s (reference s t.cur objects) 1 2 e in
      let p = reference_in s t.cur objects w.0 in
      (p.0, p.1, w.1, code_most s (reference s t.cur objects) 1 2 refl)

  -- with no fault they are in range
  pub points_in : (points s c objects).cur.fault ≡ 0 → (c.fault ≡ 0) × PointsIn objects (points s c objects)
  unfolding points point_turn
  points_in e =
      let n = points_count in
      let m = code_most s c 0 most_listed refl in
      let p = turns_each (λ (t : Points). t.point) (λ t. (reference s t.cur objects).value) 0 (point_turn s objects) (λ i t. refl) _ _
      (λ v. v < objects) (λ (t : Points). t.cur.fault ≡ 0) most_listed (length-replicate {A = ℕ} most_listed 0) m
      (λ i t w. let q = point_in t w in (q.0, q.1)) e in
      let w = turns_each (λ (t : Points). t.position) (λ t. (way t).value) 0 (point_turn s objects) (λ i t. refl) _ _
      (λ v. (1 ≤ v) × (v ≤ 2)) (λ (t : Points). t.cur.fault ≡ 0) most_listed (length-replicate {A = ℕ} most_listed 0) m
      (λ i t w. let q = point_in t w in (q.0, (q.2, q.3))) e in
      ((code_in s c 0 most_listed p.0).0, record { most = omega arith; points = λ k l. p.1 k (omega arith); positions = λ k l. w.1 k (omega arith) })
