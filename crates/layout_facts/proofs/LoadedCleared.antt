-- In a layout that was loaded there is nothing past a count, and no section is told as fitted.
use Prim.Native.Nat.{ℕ, ◌≤◌}
use mathlib.Core.Path.{◌≡◌, refl}
use mathlib.Core.List.{List}
use native.Mathlib.Omega.{arith}
use lib.Dec.{eqb}
use lib.ListN.{length}
use Rattle.laws.proofs.Choice.{if_both}
use Rattle.file_objects.proofs.Cleared.{sections_past, lines_past, lines_cleared, distants_past, routes_past, routes_cleared}
use Rattle.pairs.proofs.Ranges.{Said, neither, both, pairs_in}
use Rattle.layout.specs.declared.Layout.{Layout}
use Rattle.layout.specs.Records.{Loaded}
use Rattle.layout.specs.Layout.{no_layout, none_fitted, line_in, carrier_of, announced_by, route_in, entry_of}
use Rattle.layout.specs.Rules.{broken}
use Rattle.layout.specs.Load.{heading, whole, refused, finished, load}
use Rattle.layout.proofs.Laws.{whole_few}
use Rattle.layout_facts.specs.Loaded.{NoneTold, ZeroPast}
use Rattle.layout_facts.proofs.Loaded.{loaded_whole}

-- a route that there is not is listed with none
none_listed : (m : List ℕ) (n r q : ℕ) → Said m n r q → n ≤ r → (entry_of m r q ≡ 0) × (entry_of m q r ≡ 0)
unfolding entry_of
none_listed m n r q (neither e f) h = (e, f)
none_listed m n r q (both e f d a b) h = absurd (omega arith)

-- what is read of a file with no fault
whole_cleared : (s : List ℕ) → (whole s).cur.fault ≡ 0 → ZeroPast (whole s).layout
unfolding whole heading line_in carrier_of announced_by route_in
whole_cleared s e = record {
  sections = sections_past s _ _;
  lines = lines_past s _ _;
  blocks = λ l. (lines_cleared s _ _ l).blocks;
  line_points = λ l. (lines_cleared s _ _ l).points;
  distants = distants_past s _ _ _;
  routes = routes_past s _ _;
  path = λ r. (routes_cleared s _ _ r).path;
  overlap = λ r. (routes_cleared s _ _ r).overlap;
  route_points = λ r. (routes_cleared s _ _ r).points;
  conflicts = λ r q x y. none_listed _ _ r q ((pairs_in s _ _ (whole_few s refl).0 e).1 r q x y);
}

-- in a layout that loads with 0 there is nothing past a count
pub loaded_cleared : (s : List ℕ) → (load s).number ≡ 0 → ZeroPast (load s).layout
loaded_cleared s e = let p = loaded_whole s e in rw p.2 (whole_cleared s p.0)

-- in the layout that loading answers, whatever the file, no section is told as fitted
pub loaded_none_told : (s : List ℕ) → NoneTold (load s).layout
unfolding load finished refused whole no_layout
loaded_none_told s =
    if_both P (eqb (whole s).cur.fault 0) (λ t. if_both P (eqb (whole s).cur.at (length s)) (λ u. if_both P (eqb (broken (whole s).layout) 0) (λ v. none refl refl) (λ v. none refl refl)) (λ u. none refl refl))
    (λ t. none refl refl)
  where
    P : Loaded → Type 0
    P a = NoneTold a.layout

    none : {L : Layout} → L.fitted ≡ none_fitted → L.lacking ≡ 0 → NoneTold L
    none e f = record { fitted = e; none_lacking = f }
