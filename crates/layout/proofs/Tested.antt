-- The walks of the code test just what the rules say.
use Prim.Native.Nat.{ℕ, ◌+◌, ◌<◌, ◌≤◌}
use mathlib.Core.Path.{◌≡◌, refl, sym, ap, ap₂, ◌∙◌}
use mathlib.Core.Bool.{Bool, true, false, not, ◌&&◌}
use mathlib.Core.List.{List, [], ◌∷◌}
use native.Mathlib.Omega.{arith}
use borrow.Author.Tests.{eq-eqb, ne_eqb, lt-leb, le-leb}
use lib.Dec.{eqb, leb}
use lib.ListN.{length, get_or}
use Rattle.laws.specs.Tests.{implies, every, all_below}
use Rattle.laws.proofs.Tests.{and_right, implies_from, not_both, fails_from, every_fails, all_same}
use Rattle.laws.proofs.Loops.{SoFar, held_on, all_stops, all_done}
use Rattle.laws.proofs.Tables.{table_at}
use Rattle.laws.proofs.Arrays.{read_in}
use Rattle.track.specs.declared.Line.{Line}
use Rattle.track.specs.declared.Route.{Route}
use Rattle.track.specs.Sizes.{most_sections, most_points, most_signals, most_lines, most_train_routes, last_version}
use Rattle.track.specs.Objects.{route, no_route}
use Rattle.track.specs.Lists.{between}
use Rattle.track.specs.Ranges.{line_fits, distant_fits, route_fits}
use Rattle.file_objects.specs.Distants.{most_distants_of}
use Rattle.rules.specs.declared.Reach.{Reach}
use Rattle.rules.specs.Rules.{share, is_block, in_path}
use Rattle.rules.specs.Sets.{block_set, off_blocks, reach_of, clashing}
use Rattle.rules.proofs.Sets.{off_blocks_is, clashing_is}
use Rattle.layout.specs.declared.Layout.{Layout}
use Rattle.layout.specs.Layout.{counts, line_in, signals_in, carrier_of, announced_by, route_in, conflict, entry_of}
use Rattle.layout.specs.Rules.{rule1, rule2, rule3, rule4, rule5, rule6, rule7, first_failed, broken}
use Rattle.layout.specs.Sound.{sections_fit, fits}
use Rattle.layout.specs.Walks.{no_reach, reaches, pair_keeps, row_keeps}
use Rattle.std.specs.Prelude.{None, Some}
use Rattle.layout.specs.Reading.{RuleGiven}

-- ---- an entry of an array of routes, as the code reads it

-- what rule 6 asks of a route
pub reach_at : (rs : List Route) (i : ℕ) (d : Route) {v : Reach} → length rs ≡ most_train_routes → i < most_train_routes → v ≡ reach_of (get_or rs i d) → v ≡ reach_of (route rs i)
unfolding route
reach_at rs i d q b e = e ∙ ap reach_of (read_in rs i most_train_routes d no_route q b)

-- whether two routes keep rule 6, by the table of what it asks
pub row_at : (m : List ℕ) (t : List Reach) (r q : ℕ) (d : Reach) {v : Bool} → length t ≡ most_train_routes → r < most_train_routes → q < r
    → v ≡ pair_keeps m r q (get_or t r d) (get_or t q d) → v ≡ row_keeps m t r q
unfolding row_keeps
row_at m t r q d n h l e = e ∙ ap₂ (pair_keeps m r q) (read_in t r most_train_routes d no_reach n h) (read_in t q most_train_routes d no_reach n (omega arith))

-- ---- rule 1 for one route: by the set of all blocks, no section of its path is one

pub path_off : (n : ℕ) (ls : List Line) (a : Route) (blocks : ℕ) {v : Bool} → blocks ≡ block_set n ls → v ≡ off_blocks blocks a
    → v ≡ not (share (is_block n ls) (in_path a))
path_off n ls a blocks p e = e ∙ ap (λ set. off_blocks set a) p ∙ off_blocks_is n ls a

-- ---- rule 6 for two routes: what is listed keeps it, and what is not must not clash

-- a test implies one that fails just where it fails itself
not_implies : (t : Bool) → not t ≡ implies t false
unfolding implies
not_implies true = refl
not_implies false = refl

module _ (m : List ℕ) (r q : ℕ) (a b : Reach) {e : ℕ} (p : e ≡ entry_of m r q) where
  -- listed: they keep it
  pub pair_listed : e ≡ 1 → true ≡ pair_keeps m r q a b
  unfolding pair_keeps
  pair_listed h = sym (implies_from (clashing a b) _ (λ t. eq-eqb _ 1 (sym p ∙ h)))

  -- not listed: they keep it where they do not clash
  pub pair_unlisted : {v : Bool} → (e ≡ 1 → ⊥) → v ≡ clashing a b → not v ≡ pair_keeps m r q a b
  unfolding pair_keeps
  pair_unlisted h k = rw (k, ne_eqb _ 1 (λ z. h (p ∙ z))) (not_implies (clashing a b))

-- ---- rule 6 for all routes before r, and for r with those before q

module _ (m : List ℕ) (t : List Reach) (n r q : ℕ) (h : SoFar n (λ k. all_below k (row_keeps m t k)) r) (l : r < n) (j : SoFar r (row_keeps m t r) q) where
  -- r does not keep it with q: not all do
  pub rows_stop : {v : Bool} → q < r → v ≡ row_keeps m t r q → not v ≡ true → false ≡ all_below n (λ k. all_below k (row_keeps m t k))
  rows_stop s e f = all_stops n _ r h l (all_stops r _ q j s e f) refl

  -- r keeps it with each before it: one route more
  pub rows_on : r ≤ q → SoFar n (λ k. all_below k (row_keeps m t k)) (r + 1)
  rows_on s = held_on n _ r h l (all_done r _ q j s) refl

-- ---- rule 6, by the walk that tests it

module _ (L : Layout) where
  -- rule 6: each route with each before it, by the table of what it asks of each
  rule6_is : L.routes ≤ most_train_routes → all_below L.routes (λ r. all_below r (row_keeps L.conflict (reaches L.route) r)) ≡ rule6 L
  unfolding rule6 row_keeps pair_keeps reaches route_in conflict
  rule6_is few =
      all_same _ _ _ (λ r h. all_same _ _ _ (λ q l.
      ap (λ t. implies t (eqb (entry_of L.conflict r q) 1))
      (ap₂ clashing (table_at most_train_routes _ no_reach r (omega arith)) (table_at most_train_routes _ no_reach q (omega arith)) ∙ clashing_is (route_in L r) (route_in L q))))

  -- ---- the first broken rule

  -- what the seven tests find
  abbrev pub tests : List Bool
  tests = rule1 L ∷ rule2 L ∷ rule3 L ∷ rule4 L ∷ rule5 L ∷ all_below L.routes (λ r. all_below r (row_keeps L.conflict (reaches L.route) r)) ∷ rule7 L ∷ []

  -- the first test that fails is that of the first broken rule
  tests_broken : L.routes ≤ most_train_routes → first_failed 1 tests ≡ broken L
  unfolding broken
  tests_broken few = rw (rule6_is few) refl

  -- it is the test k
  pub test_fails : L.routes ≤ most_train_routes → {k : ℕ} → k ≡ first_failed 1 tests → (k ≡ 0 → ⊥) → RuleGiven (Some k) (broken L)
  test_fails few e h = (e ∙ tests_broken few, h)

  -- none fails
  pub tests_pass : L.routes ≤ most_train_routes → first_failed 1 tests ≡ 0 → RuleGiven None (broken L)
  tests_pass few e = sym (tests_broken few) ∙ e

-- ---- the ranges, by the tests of them

module _ (L : Layout) where
  -- too many sections: not in range
  pub sections_many : most_sections < L.sections → false ≡ fits L
  unfolding fits between
  sections_many h = every_fails _ 1 (fails_from _ (λ t. not_both (and_right _ _ t) (lt-leb _ most_sections h)))

  -- more distants than its version has: not in range
  pub distants_many : (most : ℕ) → most ≡ most_distants_of L.version → most < L.distants → false ≡ fits L
  unfolding fits
  distants_many most e h = every_fails _ 7 (lt-leb L.distants (most_distants_of L.version) (omega arith))

  -- the walks over lines, distants and routes, with the other tests, are the whole test
  pub fits_made : (v a b d e f g : Bool) (most : ℕ) → a ≡ between 1 most_sections L.sections → b ≡ sections_fit L.points L.sections L.pointsection
      → d ≡ all_below L.lines (λ i. line_fits (counts L) (line_in L i)) → g ≡ all_below L.distants (λ d. distant_fits (signals_in L) (carrier_of L d) (announced_by L d))
      → e ≡ all_below L.routes (λ r. route_fits (counts L) (route_in L r)) → f ≡ all_below L.sections (λ g. leb (get_or L.fitted g 0) 1)
      → v ≡ between 1 last_version L.version → most ≡ most_distants_of L.version → L.distants ≤ most → L.routes ≤ most_train_routes
      → v && (a && (leb L.points most_points && (b && (leb L.signals most_signals && (leb L.lines most_lines && (d && (g && (e && (f && eqb L.lacking 0))))))))) ≡ fits L
  unfolding fits every
  fits_made v a b d e f g most p q x w y z u m h k = rw (p, q, x, w, y, z, u, le-leb _ _ (rw m at h), le-leb _ _ k)
