-- No second result meets the contract of a public function. Each `Post` is the contract itself, as the function is proved to meet it.
use mathlib.Core.Path.{ap, ◌∙◌}
use Prim.Native.Nat.{ℕ}
use mathlib.Core.Path.{◌≡◌}
use mathlib.Core.List.{List}
use Rattle.laws.proofs.Only.{Determines, only}
use Rattle.fields.specs.declared.place.Items.{Items}
use Rattle.fields.specs.declared.place.Points.{Points}
use Rattle.fields.proofs.Laws.{begun, one_reading}
use Rattle.fields.proofs.read_code.Reads as read_code
use Rattle.fields.proofs.read_reference.Reads as read_reference
use Rattle.fields.proofs.read_none_or_reference.Reads as read_none_or_reference
use Rattle.fields.proofs.read_items.Reads as read_items
use Rattle.fields.proofs.read_points.Reads as read_points
use Rattle.fields.proofs.place.next_code.Reads as next_code
use Rattle.fields.proofs.place.next_reference.Reads as next_reference
use Rattle.fields.proofs.place.next_none_or_reference.Reads as next_none_or_reference
use Rattle.fields.proofs.place.next_items.Reads as next_items
use Rattle.fields.proofs.place.next_points.Reads as next_points

-- ---- with a cursor

-- a version, count or code
pub read_code_determined : Determines read_code.Post
read_code_determined κs a r q s = only

-- a reference
pub read_reference_determined : Determines read_reference.Post
read_reference_determined κs a r q s = only

-- none, or a reference
pub read_none_or_reference_determined : Determines read_none_or_reference.Post
read_none_or_reference_determined κs a r q s = only

-- a list of references
pub read_items_determined : Determines read_items.Post
read_items_determined κs a r q s = only

-- points with positions
pub read_points_determined : Determines read_points.Post
read_points_determined κs a r q s = only

-- ---- from a place

-- at every call, two outcomes that meet the contract have the same result and leave the same place
abbrev pub DeterminesPlace : {K : Type 0} {A R S : K → Type 0} → ((κs : K) → S κs → ℕ) → ((κs : K) → A κs → R κs → S κs → Type 0) → Type 0
DeterminesPlace {K} {A} {R} {S} place Post =
    (κs : K) (a : A κs) (r q : R κs) (s t : S κs) → Post κs a r s → Post κs a q t → (r ≡ q) × (place κs s ≡ place κs t)

-- a version, count or code
pub next_code_determined : DeterminesPlace (λ κs s. s.1.0.now) next_code.Post
next_code_determined κs a r q s t p o = one_reading _ _ (λ a b. only) r q (p _ (begun _)) (o _ (begun _))

-- a reference
pub next_reference_determined : DeterminesPlace (λ κs s. s.1.0.now) next_reference.Post
next_reference_determined κs a r q s t p o = one_reading _ _ (λ a b. only) r q (p _ (begun _)) (o _ (begun _))

-- none, or a reference
pub next_none_or_reference_determined : DeterminesPlace (λ κs s. s.1.0.now) next_none_or_reference.Post
next_none_or_reference_determined κs a r q s t p o = one_reading _ _ (λ a b. only) r q (p _ (begun _)) (o _ (begun _))

-- two lists that agree in each part are one
pub same_items : {a b : Items} → a.count ≡ b.count → a.item ≡ b.item → a ≡ b
same_items {a} {b} n l = ap (λ (k : ℕ). record { count = k; item = a.item }) n ∙ ap (λ (x : List ℕ). record { count = b.count; item = x }) l

pub same_points : {a b : Points} → a.count ≡ b.count → a.point ≡ b.point → a.position ≡ b.position → a ≡ b
same_points {a} {b} n l m =
    ap (λ (k : ℕ). record { count = k; point = a.point; position = a.position }) n
    ∙ ap (λ (x : List ℕ). record { count = b.count; point = x; position = a.position }) l
    ∙ ap (λ (x : List ℕ). record { count = b.count; point = b.point; position = x }) m

-- a list of references
pub next_items_determined : DeterminesPlace (λ κs s. s.1.0.now) next_items.Post
next_items_determined κs a r q s t p o =
    one_reading _ _ (λ (a b : Items) x y. same_items (only x.0 y.0) (only x.1 y.1)) r q (p _ (begun _)) (o _ (begun _))

-- points with positions
pub next_points_determined : DeterminesPlace (λ κs s. s.1.0.now) next_points.Post
next_points_determined κs a r q s t p o =
    one_reading _ _ (λ (a b : Points) x y. same_points (only x.0 y.0) (only x.1 y.1) (only x.2 y.2)) r q (p _ (begun _)) (o _ (begun _))
