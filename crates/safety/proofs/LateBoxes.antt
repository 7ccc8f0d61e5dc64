-- Exactness refuses the boxes that never do what they should, or do it late, or too soon, by computation over the bytes of their layouts.
use Prim.Native.Nat.{ℕ, ◌+◌}
use mathlib.Core.Path.{◌≡◌, refl}
use mathlib.Core.Logic.Iff
use mathlib.Core.Logic.{◌↔◌, inl, inr, ⊎_elim}
use mathlib.Core.Bool.{Bool, true, false, not}
use mathlib.Core.List.{[], ◌∷◌}
use borrow.Author.Tests.{eqb-true, eqb-false, not-true}
use lib.Dec.{eqb, ltb, leb}
use Rattle.laws.specs.Tests.{◌and◌, ◌or◌, implies, every, any_below}
use Rattle.laws.proofs.Tests.{and_left, and_right, or_cases, not_both, any_some}
use Rattle.track.specs.Codes.{a_to_b, b_to_a, open_block, stage1, stage2, stage3}
use Rattle.track.specs.Signal.{main, into}
use Rattle.signals.specs.Aspects.{stop}
use Rattle.layout.specs.declared.Layout.{Layout}
use Rattle.layout.specs.Layout.{line_in}
use Rattle.layout_facts.proofs.Means.{eqb_means, ltb_means, leb_means, not_means, and_means, implies_means, lastly, ◌also◌, ◌&◌, every_means}
use Rattle.panel.specs.Shown.{shows_idle, shows_locked, shows_cancelling}
use Rattle.safety.specs.History.{History, gave_block, section_reads, shown}
use Rattle.safety.specs.Lights.{position, Lit}
use Rattle.safety.specs.Exact.{BlockExact, LineExact, RouteExact, MainSignalExact, BlockSignalExact, Exact}
use Rattle.safety.specs.WrongRuns.{told, Each}
use Rattle.safety.specs.LateBoxes.{Part, a_section, a_point, a_block, a_line, a_route, a_main, a_block_signal, Inexact, late}
use Rattle.safety.proofs.Computed.{run_computed}
use Rattle.safety.proofs.Tested.{entered_test, entered_means, some_passage_test, some_passage_means}
use Rattle.safety.proofs.TestedLocks.{cancelled_test, cancelled_means, locked_test, locked_means}
use Rattle.safety.proofs.TestedBlocks.{some_waits_test, some_waits_means, opened_test, opened_means}
use Rattle.safety.proofs.TestedLines.{secured_test, secured_means}
use Rattle.safety.proofs.TestedLights.{may_enter_test, may_enter_means, some_at_proceed_test, some_at_proceed_means}
use Rattle.safety.proofs.WrongRuns.{passes, each_passes}

-- what is not exact is refused by exactness
pub not_exact : (p : Part) (L : Layout) (h : History) → Inexact p L h → Exact L h → ⊥
not_exact a_section L h (g, b, n) E = n (E.sections g b)
not_exact a_point L h (p, b, n) E = n (E.points p b)
not_exact a_block L h (l, i, b, c, n) E = n (E.blocks l i b c)
not_exact a_line L h (l, b, n) E = n (E.lines l b)
not_exact a_route L h (r, b, n) E = n (E.routes r b)
not_exact a_main L h (x, b, n) E = n (E.mains x b)
not_exact a_block_signal L h (l, i, w, b, c, d, n) E = n (E.block_signals l i w b c d)

-- ---- two tests that say different things

-- one holds and the other fails
unfoldable pub differ : Bool → Bool → Bool
differ true b = not b
differ false b = b

-- so what they mean is not the same
unlike : {a b : Bool} {P Q : Type 0} → (a ≡ true ↔ P) → (b ≡ true ↔ Q) → differ a b ≡ true → (P ↔ Q) → ⊥
unfolding differ
unlike {a} {b} p q t e = go a b t (λ u. q.1 (e.0 (p.0 u))) (λ u. p.1 (e.1 (q.0 u)))
  where
    go : (a b : Bool) → differ a b ≡ true → (a ≡ true → b ≡ true) → (b ≡ true → a ≡ true) → ⊥
    go true true t f g = not_both t refl
    go true false t f g = not_both (f refl) refl
    go false true t f g = not_both (g refl) refl
    go false false t f g = not_both t refl

-- ---- what shows against what is told

module _ (L : Layout) (h : History) where
  -- a block: open, entered, passed, or waiting in stage 3 (L3)
  abbrev block_test : ℕ → ℕ → Bool
  block_test l i =
      differ (eqb ((shown L h).block l i) open_block) (opened_test L l i h)
      or (differ (leb stage1 ((shown L h).block l i) and leb ((shown L h).block l i) stage2) (entered_test (gave_block L l i) h)
      or (differ (eqb ((shown L h).block l i) stage2) (some_passage_test L l i h) or differ (eqb ((shown L h).block l i) stage3) (some_waits_test L l i h)))

  -- whichever of the four is unlike refutes it
  block_inexact : (l i : ℕ) → block_test l i ≡ true → ¬ BlockExact L h l i
  block_inexact l i t B =
      ⊎_elim (λ u. unlike (eqb_means _ open_block) (opened_means L l i h) u B.opens)
      (λ v. ⊎_elim (λ u. unlike (and_means (leb_means stage1 _) (leb_means _ stage2)) (entered_means (gave_block L l i) h) u B.enters)
      (λ z. ⊎_elim (λ u. unlike (eqb_means _ stage2) (some_passage_means L l i h) u B.passes)
      (λ u. unlike (eqb_means _ stage3) (some_waits_means L l i h) u B.waits) (or_cases _ _ z)) (or_cases _ _ v)) (or_cases _ _ t)

  -- a line: secured in direction w
  line_inexact : (l w : ℕ) → not (eqb w 0) and differ (eqb ((shown L h).line l) w) (secured_test L l w h) ≡ true → ¬ LineExact L h l
  line_inexact l w t E = unlike (eqb_means _ w) (secured_means L l w h) (and_right _ _ t) (E.secured w (eqb-false w 0 (not-true _ (and_left _ _ t))))

  -- a route: idle, locked, cancelling
  abbrev route_test : ℕ → Bool
  route_test r =
      differ (eqb ((shown L h).route r) shows_idle) (not (locked_test L r h))
      or (differ (eqb ((shown L h).route r) shows_locked) (locked_test L r h and not (cancelled_test L r h))
      or differ (eqb ((shown L h).route r) shows_cancelling) (locked_test L r h and cancelled_test L r h))

  -- likewise
  route_inexact : (r : ℕ) → route_test r ≡ true → ¬ RouteExact L h r
  route_inexact r t E =
      ⊎_elim (λ u. unlike (eqb_means _ shows_idle) (not_means (locked_means L r h)) u E.idles)
      (λ v. ⊎_elim (λ u. unlike (eqb_means _ shows_locked) (and_means (locked_means L r h) (not_means (cancelled_means L r h))) u E.locks)
      (λ u. unlike (eqb_means _ shows_cancelling) (and_means (locked_means L r h) (cancelled_means L r h)) u E.cancels) (or_cases _ _ v)) (or_cases _ _ t)

  -- a main signal: at proceed
  main_inexact : (x : ℕ) → differ (ltb stop ((shown L h).signal (main x))) (some_at_proceed_test L x h) ≡ true → ¬ MainSignalExact L h x
  main_inexact x t E = unlike (ltb_means stop _) (some_at_proceed_means L x h) t E.proceeds

  -- a block signal: lit, and the block may be entered, but it does not show 22
  abbrev lit_test : ℕ → ℕ → ℕ → Bool
  lit_test l i w = every (implies (eqb w a_to_b) (ltb 0 i) ∷ implies (eqb w b_to_a) (ltb (i + 1) (line_in L l).blocks) ∷ secured_test L l w h ∷ [])

  -- part by part
  lit_means : (l i w : ℕ) → lit_test l i w ≡ true ↔ Lit L l i w h
  lit_means l i w =
      Iff.trans
      (every_means (implies_means (eqb_means w a_to_b) (ltb_means 0 i) also implies_means (eqb_means w b_to_a) (ltb_means _ _) also lastly (secured_means L l w h)))
      (λ (u, (d, s)). record { secured = s; upward = u; downward = d }, λ t. t.upward & t.downward & t.secured)

  -- one of the two directions, not 22, and both
  abbrev block_signal_test : ℕ → ℕ → ℕ → Bool
  block_signal_test l i w = (eqb w a_to_b or eqb w b_to_a) and (not (eqb ((shown L h).signal (into l i w)) 22) and (may_enter_test L l i h and lit_test l i w))

  -- where both hold, 22 is asked
  block_signal_inexact : (l i w : ℕ) → block_signal_test l i w ≡ true → ¬ BlockSignalExact L h l i w
  block_signal_inexact l i w t E =
      let u = and_right _ _ (and_right _ _ t) in
      eqb-false _ 22 (not-true _ (and_left _ _ (and_right _ _ t)))
      (E.proceeds ((lit_means l i w).0 (and_right _ _ u)) ((may_enter_means L l i h).0 (and_left _ _ u)))

  -- some object of a part
  abbrev pub inexact_test : Part → Bool
  inexact_test a_section = any_below L.sections (λ g. not (eqb ((shown L h).section g) (section_reads L g h)))
  inexact_test a_point = any_below L.points (λ p. not (eqb ((shown L h).point p) (position p h)))
  inexact_test a_block = any_below L.lines (λ l. any_below (line_in L l).blocks (block_test l))
  inexact_test a_line = any_below L.lines (λ l. any_below 3 (λ w. not (eqb w 0) and differ (eqb ((shown L h).line l) w) (secured_test L l w h)))
  inexact_test a_route = any_below L.routes route_test
  inexact_test a_main = any_below L.signals (λ x. differ (ltb stop ((shown L h).signal (main x))) (some_at_proceed_test L x h))
  inexact_test a_block_signal = any_below L.lines (λ l. any_below (line_in L l).blocks (λ i. any_below 3 (block_signal_test l i)))

  -- the one that is found does not show what is told
  pub is_inexact : (p : Part) → inexact_test p ≡ true → Inexact p L h
  is_inexact a_section t = let (g, b, u) = any_some _ _ t in (g, b, eqb-false _ _ (not-true _ u))
  is_inexact a_point t = let (p, b, u) = any_some _ _ t in (p, b, eqb-false _ _ (not-true _ u))
  is_inexact a_block t = let (l, b, u) = any_some _ _ t in let (i, c, v) = any_some _ _ u in (l, i, b, c, block_inexact l i v)
  is_inexact a_line t = let (l, b, u) = any_some _ _ t in let (w, c, v) = any_some _ _ u in (l, b, line_inexact l w v)
  is_inexact a_route t = let (r, b, u) = any_some _ _ t in (r, b, route_inexact r u)
  is_inexact a_main t = let (x, b, u) = any_some _ _ t in (x, b, main_inexact x u)
  is_inexact a_block_signal t =
      let (l, b, u) = any_some _ _ t in
      let (i, c, v) = any_some _ _ u in
      let (w, d, y) = any_some _ _ v in
      (l, i, w, b, c, ⊎_elim (λ z. inl (eqb-true w a_to_b z)) (λ z. inr (eqb-true w b_to_a z)) (or_cases _ _ (and_left _ _ y)), block_signal_inexact l i w y)

-- ---- the runs

-- the runs of a part pass its test
abbrev Tested : Part → Type 0
Tested p = passes (λ r. inexact_test r.layout (told r) p) (late p) ≡ true

-- computed, part by part
sections_tested : Tested a_section
unfolding run_computed differ
sections_tested = refl

points_tested : Tested a_point
unfolding run_computed differ
points_tested = refl

blocks_tested : Tested a_block
unfolding run_computed differ
blocks_tested = refl

lines_tested : Tested a_line
unfolding run_computed differ
lines_tested = refl

routes_tested : Tested a_route
unfolding run_computed differ
routes_tested = refl

mains_tested : Tested a_main
unfolding run_computed differ
mains_tested = refl

block_signals_tested : Tested a_block_signal
unfolding run_computed differ
block_signals_tested = refl

-- all of them
tested : (p : Part) → Tested p
tested a_section = sections_tested
tested a_point = points_tested
tested a_block = blocks_tested
tested a_line = lines_tested
tested a_route = routes_tested
tested a_main = mains_tested
tested a_block_signal = block_signals_tested

-- after every run of the list something does not show what the history tells
pub late_boxes_refused : (p : Part) → Each (λ r. Inexact p r.layout (told r)) (late p)
late_boxes_refused p = each_passes _ (λ r. is_inexact r.layout (told r) p) (late p) (tested p)
