-- A layout that loads with 0 is sound, a refused one is not, and what numbers are answered.
use Prim.Native.Nat.{ℕ, suc, ◌+◌, ◌<◌, ◌≤◌}
use mathlib.Core.Path.{◌≡◌, refl}
use mathlib.Core.Bool.{Bool, true, false}
use mathlib.Core.List.{List, [], ◌∷◌}
use mathlib.Core.Logic.{inl, inr}
use native.Mathlib.Omega.{arith}
use borrow.Author.Tests.{lt-ltb, le-leb, eq-eqb, eqb-true, eqb-false}
use lib.Dec.{eqb, leb}
use lib.ListN.{length, get_or}
use Rattle.laws.specs.Tests.{◌and◌, every}
use Rattle.laws.proofs.Choice.{if_both}
use Rattle.laws.proofs.Arrays.{nothing_at}
use Rattle.laws.proofs.Tests.{and_both, every_one, every_more, all_from}
use Rattle.track.specs.Sizes.{most_sections, most_points, most_signals, most_lines, most_train_routes, last_version}
use Rattle.track.specs.Lists.{between}
use Rattle.track.specs.Ranges.{line_fits}
use Rattle.fields.proofs.Ranges.{Known, code_known, code_most, code_in}
use Rattle.file_objects.proofs.Ranges.{between_from, sections_known, sections_in, lines_known, lines_in, routes_known, routes_in}
use Rattle.file_objects.proofs.DistantRanges.{distants_known, distants_in}
use Rattle.pairs.proofs.Ranges.{Said, neither, both, pairs_known, pairs_in}
use Rattle.layout.specs.Records.{Loaded}
use Rattle.layout.specs.Records.{Whole}
use Rattle.layout.specs.Layout.{none_fitted, no_layout, counts, line_in, signals_in, carrier_of, announced_by, route_in, entry_of}
use Rattle.layout.specs.Rules.{first_failed, broken}
use Rattle.layout.specs.Sound.{sections_fit, fits, pair_mirrors, row_mirrors, mirrored, sound}
use Rattle.layout.specs.Load.{start, heading, counts_of, whole, refused, finished, load}
use Rattle.layout.proofs.Laws.{whole_few}
use Rattle.layout_facts.specs.Loaded.{Answered}

-- ---- the whole file

-- it has no fault, or one of 21 to 24
whole_known : (s : List ℕ) → Known (whole s).cur
unfolding whole heading
whole_known s =
    pairs_known s _ _ (routes_known s _ _ (distants_known s _ _ _ (lines_known s _ _
    (code_known s _ 0 most_signals (sections_known s _ _ (code_known s _ 1 most_sections (code_known s start 1 last_version (inl refl))))))))

-- where no section is told as fitted, the table of heads says 0 of each
none_fit : (g : ℕ) → leb (get_or none_fitted g 0) 1 ≡ true
unfolding none_fitted
none_fit g = rw (nothing_at {A = ℕ} most_sections 0 g)

-- with no fault it is in range
whole_fits : (s : List ℕ) → (whole s).cur.fault ≡ 0 → fits (whole s).layout ≡ true
unfolding whole heading counts_of fits counts sections_fit line_in signals_in carrier_of announced_by route_in line_fits
whole_fits s e =
    let r = routes_in s _ _ (pairs_in s _ _ (whole_few s refl).0 e).0 in
    let d = distants_in s _ _ _ r.0 in
    let l = lines_in s _ _ d.0 in
    let signals = code_in s _ 0 most_signals l.0 in
    let p = sections_in s _ _ signals.0 in
    let sections = code_in s _ 1 most_sections p.0 in
    let version = code_in s start 1 last_version sections.0 in
    every_more _ _ _ (between_from 1 last_version _ version.1 (code_most s start 1 last_version refl)) (every_more _ _ _ (between_from 1 most_sections _ sections.1 (code_most s _ 1 most_sections refl)) (every_more _ _ _ (le-leb _ most_points p.1.most)
    (every_more _ _ _ (all_from _ _ (λ k h. lt-ltb _ _ (p.1.each k h))) (every_more _ _ _ (le-leb _ most_signals (code_most s _ 0 most_signals refl))
    (every_more _ _ _ (le-leb _ most_lines l.1.most) (every_more _ _ _ (all_from _ _ l.1.each)
    (every_more _ _ _ (le-leb _ _ d.1.most) (every_more _ _ _ (all_from _ _ d.1.each)
    (every_more _ _ _ (le-leb _ most_train_routes r.1.most) (every_more _ _ _ (all_from _ _ r.1.each)
    (every_more _ _ _ (all_from _ _ (λ g h. none_fit g)) (every_one _ refl))))))))))))

-- no route is listed with itself
own_none : (m : List ℕ) (n r : ℕ) → Said m n r r → entry_of m r r ≡ 0
unfolding entry_of
own_none m n r (neither e f) = e
own_none m n r (both e f d a b) = absurd (d refl)

-- two routes are listed both ways or not at all
pair_mirrors_law : (m : List ℕ) (n r q : ℕ) → Said m n r q → pair_mirrors m r q ≡ true
unfolding pair_mirrors entry_of ◌and◌
pair_mirrors_law m n r q (neither e f) = rw (e, f)
pair_mirrors_law m n r q (both e f d a b) = rw (e, f)

-- with no fault its conflicts go both ways
whole_mirrored : (s : List ℕ) → (whole s).cur.fault ≡ 0 → mirrored (whole s).layout ≡ true
unfolding whole mirrored row_mirrors
whole_mirrored s e =
    let few = (whole_few s refl).0 in
    let said = (pairs_in s _ _ few e).1 in
    all_from _ _ (λ r h. and_both _ _ (eq-eqb _ 0 (own_none _ _ r (said r r (omega arith) (omega arith))))
    (all_from r _ (λ q l. pair_mirrors_law _ _ r q (said r q (omega arith) (omega arith)))))

-- ---- the answer

-- the four ways in which loading ends
data Ending (w : Whole) : Loaded → Type 0 where
  no_fault : w.cur.fault ≡ 0 → broken w.layout ≡ 0 → Ending w (record { number = 0; detail = 0; layout = w.layout })
  rule_broken : (broken w.layout ≡ 0 → ⊥) → Ending w (refused 25 (broken w.layout))
  bytes_left : Ending w (refused 26 w.cur.at)
  fault_met : (w.cur.fault ≡ 0 → ⊥) → Ending w (refused w.cur.fault w.cur.at)

-- loading ends in one of them
ending : (w : Whole) (n : ℕ) → Ending w (finished w n)
unfolding finished
ending w n =
    if_both (Ending w) (eqb w.cur.fault 0)
    (λ t. if_both (Ending w) (eqb w.cur.at n)
    (λ u. if_both (Ending w) (eqb (broken w.layout) 0) (λ v. no_fault (eqb-true _ 0 t) (eqb-true _ 0 v)) (λ v. rule_broken (eqb-false _ 0 v))) (λ u. bytes_left))
    (λ t. fault_met (eqb-false _ 0 t))

-- the answer 0 has the layout of a file with no fault, and it breaks no rule
ended_well : (w : Whole) (a : Loaded) → Ending w a → a.number ≡ 0 → (w.cur.fault ≡ 0) × (broken w.layout ≡ 0) × (a.layout ≡ w.layout)
unfolding refused
ended_well w a (no_fault e f) z = (e, f, refl)
ended_well w a (rule_broken f) z = absurd (omega arith)
ended_well w a bytes_left z = absurd (omega arith)
ended_well w a (fault_met f) z = absurd (f z)

-- a load that answers 0 gives the layout of a file with no fault, and it breaks no rule
pub loaded_whole : (s : List ℕ) → (load s).number ≡ 0 → ((whole s).cur.fault ≡ 0) × (broken (whole s).layout ≡ 0) × ((load s).layout ≡ (whole s).layout)
unfolding load
loaded_whole s e = ended_well (whole s) (load s) (ending (whole s) (length s)) e

-- a layout that loads with 0 is sound
pub loaded_sound : (s : List ℕ) → (load s).number ≡ 0 → sound (load s).layout ≡ true
unfolding sound
loaded_sound s e =
    let p = loaded_whole s e in
    rw p.2 (every_more _ _ _ (whole_fits s p.0) (every_more _ _ _ (whole_mirrored s p.0) (every_one _ (eq-eqb _ 0 p.1))))

-- any other answer has the layout with no objects
ended_empty : (w : Whole) (a : Loaded) → Ending w a → (a.number ≡ 0 → ⊥) → a.layout ≡ no_layout
unfolding refused
ended_empty w a (no_fault e f) z = absurd (z refl)
ended_empty w a (rule_broken f) z = refl
ended_empty w a bytes_left z = refl
ended_empty w a (fault_met f) z = refl

-- a refused load gives the layout with no objects
pub refused_empty : (s : List ℕ) → ((load s).number ≡ 0 → ⊥) → (load s).layout ≡ no_layout
unfolding load
refused_empty s z = ended_empty (whole s) (load s) (ending (whole s) (length s)) z

-- it is not sound: there is no version 0
pub refused_unsound : (s : List ℕ) → ((load s).number ≡ 0 → ⊥) → sound (load s).layout ≡ false
unfolding sound fits every between ◌and◌ no_layout
refused_unsound s z = rw (refused_empty s z)

-- ---- the numbers answered

-- the number of a failed test is one of those that the tests have
failed_number : (k : ℕ) (bs : List Bool) → (first_failed k bs ≡ 0 → ⊥) → (k ≤ first_failed k bs) × (first_failed k bs < k + length bs)
unfolding first_failed
failed_number k [] = λ f. absurd (f refl)
failed_number k (b ∷ bs) =
    if_both (λ m. (m ≡ 0 → ⊥) → (k ≤ m) × (m < k + length (b ∷ bs))) b
    (λ t f. let r = failed_number (suc k) bs f in (omega arith, omega arith)) (λ t f. (omega arith, omega arith))

-- what each ending answers
answered : (w : Whole) (a : Loaded) → Known w.cur → Ending w a → Answered a
unfolding refused broken
answered w a k (no_fault e f) = record { numbers = inl refl; well = λ z. refl; rule = λ z. absurd (omega arith) }
answered w a k (rule_broken f) = record {
  numbers = inr (omega arith, omega arith);
  well = λ z. absurd (omega arith);
  rule = λ z. let r = failed_number 1 _ f in (r.0, omega arith);
}
answered w a k bytes_left = record { numbers = inr (omega arith, omega arith); well = λ z. absurd (omega arith); rule = λ z. absurd (omega arith) }
answered w a (inl e) (fault_met f) = absurd (f e)
answered w a (inr b) (fault_met f) = record { numbers = inr (b.0, omega arith); well = λ z. absurd (f z); rule = λ z. absurd (omega arith) }

-- the answer is 0 with detail 0, one of 21 to 24 or 26, or 25 with a rule's number
pub load_numbers : (s : List ℕ) → Answered (load s)
unfolding load
load_numbers s = answered (whole s) (load s) (whole_known s) (ending (whole s) (length s))
