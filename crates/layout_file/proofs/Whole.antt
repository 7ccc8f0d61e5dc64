-- A file that loads is the file of its layout.
use Prim.Native.Nat.{ℕ}
use mathlib.Core.Path.{◌≡◌, refl, ap, subst, ◌∙◌}
use mathlib.Core.List.{List, ◌++◌, flatten, append-nil}
use native.Mathlib.Omega.{arith}
use borrow.Author.Tests.{eqb-true, eqb-false}
use lib.Dec.{eqb}
use lib.ListN.{length, drop}
use lib.Seq.{drop-length}
use Rattle.laws.proofs.Choice.{if_both}
use Rattle.numbers.specs.Form.{Bytes}
use Rattle.track.specs.Sizes.{most_sections, most_signals, most_pairs, last_version}
use Rattle.layout.specs.declared.Layout.{Layout}
use Rattle.layout.specs.Records.{Loaded}
use Rattle.layout.specs.Layout.{line_in, route_in, conflict}
use Rattle.layout.specs.Load.{start, heading, whole, refused, finished, load}
use Rattle.layout.proofs.Laws.{whole_few}
use Rattle.layout_facts.specs.Loaded.{ZeroPast}
use Rattle.layout_facts.proofs.Loaded.{loaded_whole}
use Rattle.layout_facts.proofs.LoadedCleared.{loaded_cleared}
use Rattle.layout_file.specs.Written.{pairs_of, parts, written, forms, file_of}
use Rattle.layout_file.proofs.Stands.{Stand, stand_none, stand_then}
use Rattle.layout_file.proofs.Fields.{code_stands}
use Rattle.layout_file.proofs.Lines.{sections_stand, lines_stand}
use Rattle.layout_file.proofs.Distants.{distants_stand}
use Rattle.layout_file.proofs.Routes.{routes_stand}
use Rattle.layout_file.proofs.PairPlaces.{pairs_below, pairs_by_place}
use Rattle.layout_file.proofs.Pairs.{pairs_stand}

-- ---- a file that loads

-- the numbers of what was read stand in the file, one part after another
whole_stands : (s : List ℕ) → Bytes s → (whole s).cur.fault ≡ 0 → pairs_of (whole s).layout ≡ pairs_below (whole s).layout.conflict most_pairs
    → Stand s 0 (written (whole s).layout) (whole s).cur.at
unfolding whole heading written parts flatten line_in route_in
whole_stands s b e f =
    let q = pairs_stand s b _ _ (whole_few s refl).0 e in
    let r = routes_stand s b _ _ q.0 in
    let d = distants_stand s b _ _ _ r.0 in
    let l = lines_stand s b _ _ d.0 in
    let signals = code_stands s b _ 0 most_signals l.0 in
    let p = sections_stand s b _ _ signals.0 in
    let n = code_stands s b _ 1 most_sections p.0 in
    let v = code_stands s b start 1 last_version n.0 in
    let objects = stand_then s l.1 (stand_then s d.1 (stand_then s r.1 (stand_then s q.1 (stand_none s _)))) in
    rw f (stand_then s (stand_then s v.1 n.1) (stand_then s p.1 (stand_then s signals.1 objects)))

-- a load that answers 0 has read to the file's end
loaded_end : (s : List ℕ) → (load s).number ≡ 0 → (whole s).cur.at ≡ length s
unfolding load finished refused
loaded_end s =
    if_both (λ (a : Loaded). a.number ≡ 0 → (whole s).cur.at ≡ length s) (eqb (whole s).cur.fault 0)
    (λ f. if_both (λ (a : Loaded). a.number ≡ 0 → (whole s).cur.at ≡ length s) (eqb (whole s).cur.at (length s))
    (λ t e. eqb-true _ _ t) (λ t e. absurd (let z : 26 ≡ 0 = e in omega arith)))
    (λ f e. absurd (eqb-false _ _ f e))

-- section 2: a file that loads with 0 is the file of the layout that was loaded
pub file_is_layout : (s : List ℕ) → Bytes s → (load s).number ≡ 0 → s ≡ file_of (load s).layout
unfolding file_of
file_is_layout s b e =
    let w = loaded_whole s e in
    let L : Layout = (whole s).layout in
    let past = subst (λ M. ZeroPast M) w.2 (loaded_cleared s e) in
    let p = whole_stands s b w.0 (pairs_by_place L (whole_few s refl).0 past.conflicts) in
    rw w.2 (p.text ∙ ap (λ t. forms (written L) ++ t) (ap (λ n. drop n s) (loaded_end s e) ∙ drop-length s) ∙ append-nil (forms (written L)))
