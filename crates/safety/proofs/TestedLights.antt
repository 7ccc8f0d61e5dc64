-- Tests on a history that hold just where what they test does: what keeps a signal at proceed, and signals at proceed into a block.
use Prim.Native.Nat.{ℕ, ◌<◌}
use mathlib.Core.Path.{◌≡◌}
use mathlib.Core.Logic.Iff
use mathlib.Core.Logic.{◌↔◌}
use mathlib.Core.Bool.{Bool, true, not}
use mathlib.Core.List.{[], ◌∷◌}
use lib.Dec.{eqb, ltb}
use Rattle.laws.specs.Tests.{◌and◌, implies, every, all_below, any_below}
use Rattle.track.specs.Codes.{free, exit_route, leaving, set_route}
use Rattle.track.specs.Signal.{Signal, main, into}
use Rattle.signals.specs.Aspects.{stop}
use Rattle.layout.specs.declared.Layout.{Layout}
use Rattle.layout.specs.Layout.{line_in, route_in}
use Rattle.layout_facts.specs.Plain.{path, overlap, route_point, route_position, line_point, line_position, nearest_block}
use Rattle.layout_facts.proofs.Means.{eqb_means, ltb_means, not_means, and_means, implies_means, lastly, ◌also◌, ◌&◌, every_means, all_means, any_means}
use Rattle.safety.specs.History.{History, section_reads, shown}
use Rattle.safety.specs.Lights.{position, MayEnter, Clear, NotFallen, AtProceed}
use Rattle.safety.specs.Demand3.{LeadsOut, Leads, Enters}
use Rattle.safety.proofs.Tested.{since_test, since_means, accepted_test, accepted_means}
use Rattle.safety.proofs.TestedLocks.{cancelled_test, cancelled_means, locked_test, locked_means}
use Rattle.safety.proofs.TestedBlocks.{opened_test, opened_means}
use Rattle.safety.proofs.TestedLines.{barred_test, barred_means}

-- ---- a signal at proceed

-- block i of line l may be entered
abbrev pub may_enter_test : Layout → ℕ → ℕ → History → Bool
may_enter_test L l i h = every (
    opened_test L l i h
    ∷ not (barred_test l i h)
    ∷ all_below (line_in L l).points (λ k. eqb (position (line_point L l k) h) (line_position L l k))
    ∷ [])

-- part by part, point by point
pub may_enter_means : (L : Layout) (l i : ℕ) (h : History) → may_enter_test L l i h ≡ true ↔ MayEnter L l i h
may_enter_means L l i h =
    Iff.trans (every_means (opened_means L l i h also not_means (barred_means l i h) also lastly (all_means (λ k b. eqb_means _ _))))
    (λ (o, (u, p)). record { is_open = o; unbarred = u; placed = p }, λ e. e.is_open & e.unbarred & e.placed)

module _ (L : Layout) (r : ℕ) where
  -- it has all that keeps it there
  abbrev clear_test : History → Bool
  clear_test h = every (
      all_below (route_in L r).paths (λ j. eqb (section_reads L (path L r j) h) free)
      ∷ all_below (route_in L r).overlaps (λ j. eqb (section_reads L (overlap L r j) h) free)
      ∷ all_below (route_in L r).points (λ k. eqb (position (route_point L r k) h) (route_position L r k))
      ∷ implies (eqb (route_in L r).kind exit_route) (may_enter_test L (route_in L r).line (nearest_block L (route_in L r).line (route_in L r).end) h)
      ∷ [])

  -- part by part, section by section and point by point
  clear_means : (h : History) → clear_test h ≡ true ↔ Clear L r h
  clear_means h =
      Iff.trans
      (every_means (all_means (λ j b. eqb_means _ free) also all_means (λ j b. eqb_means _ free) also all_means (λ k b. eqb_means _ _)
      also lastly (implies_means (eqb_means _ exit_route) (may_enter_means L _ _ h))))
      (λ (p, (o, (w, e))). record { path_free = p; overlap_free = o; placed = w; may_enter = e }, λ c. c.path_free & c.overlap_free & c.placed & c.may_enter)

  -- it did not fall
  not_fallen_means : (h : History) → since_test (λ m older. accepted_test set_route r m and clear_test (m ∷ older)) (λ m older. clear_test (m ∷ older)) h ≡ true ↔ NotFallen L r h
  not_fallen_means = since_means (λ m h. and_means (accepted_means set_route r m) (clear_means (m ∷ h))) (λ m h. clear_means (m ∷ h))

  -- it is at proceed
  abbrev pub at_proceed_test : History → Bool
  at_proceed_test h = every (
      not (cancelled_test L r h)
      ∷ locked_test L r h
      ∷ since_test (λ m older. accepted_test set_route r m and clear_test (m ∷ older)) (λ m older. clear_test (m ∷ older)) h
      ∷ [])

  -- part by part
  at_proceed_means : (h : History) → at_proceed_test h ≡ true ↔ AtProceed L r h
  at_proceed_means h =
      Iff.trans (every_means (not_means (cancelled_means L r h) also locked_means L r h also lastly (not_fallen_means h)))
      (λ (s, (l, n)). record { locked = l; standing = s; not_fallen = n }, λ a. a.standing & a.locked & a.not_fallen)

-- some route that starts at signal x is at proceed
abbrev pub some_at_proceed_test : Layout → ℕ → History → Bool
some_at_proceed_test L x h = any_below L.routes (λ r. eqb (route_in L r).entry x and at_proceed_test L r h)

-- route by route
pub some_at_proceed_means : (L : Layout) (x : ℕ) (h : History)
    → some_at_proceed_test L x h ≡ true ↔ (r : ℕ) × (r < L.routes) × ((route_in L r).entry ≡ x) × AtProceed L r h
some_at_proceed_means L x h =
    Iff.trans (any_means (λ r b. and_means (eqb_means _ x) (at_proceed_means L r h)))
    (λ (r, b, (e, a)). (r, b, e, a), λ s. (s.0, s.1, (s.2, s.3)))

-- ---- a signal at proceed into a block

-- route r leads from main signal x into it
abbrev leads_out_test : Layout → History → ℕ → ℕ → ℕ → ℕ → ℕ → Bool
leads_out_test L h x l i w r = every (
    eqb (route_in L r).kind exit_route
    ∷ eqb (route_in L r).entry x
    ∷ eqb (route_in L r).line l
    ∷ eqb (nearest_block L (route_in L r).line (route_in L r).end) i
    ∷ eqb (leaving (route_in L r).end) w
    ∷ locked_test L r h
    ∷ [])

-- part by part
leads_out_means : (L : Layout) (h : History) (x l i w r : ℕ) → r < L.routes → leads_out_test L h x l i w r ≡ true ↔ LeadsOut L h x l i w r
leads_out_means L h x l i w r b =
    Iff.trans (every_means (eqb_means _ exit_route also eqb_means _ x also eqb_means _ l also eqb_means _ i also eqb_means _ w also lastly (locked_means L r h))) (
      λ (k, (s, (o, (e, (y, c))))). record { there = b; is_exit = k; starts = s; locked = c; of_line = o; enters = e; way = y },
      λ d. d.is_exit & d.starts & d.of_line & d.enters & d.way & d.locked,
    )

-- a main signal by a route; the block signal by itself
abbrev leads_test : Layout → History → Signal → ℕ → ℕ → ℕ → Bool
leads_test L h (main x) l i w = any_below L.routes (leads_out_test L h x l i w)
leads_test L h (into k j v) l i w = every (eqb k l ∷ eqb j i ∷ eqb v w ∷ [])

-- route by route; number by number
leads_means : (L : Layout) (h : History) (x : Signal) (l i w : ℕ) → leads_test L h x l i w ≡ true ↔ Leads L h x l i w
leads_means L h (main x) l i w = Iff.trans (any_means (leads_out_means L h x l i w)) (λ s. (s.0, s.2), λ s. (s.0, s.1.there, s.1))
leads_means L h (into k j v) l i w =
    Iff.trans (every_means (eqb_means k l also eqb_means j i also lastly (eqb_means v w))) (λ (a, (b, c)). (a, b, c), λ u. u.0 & u.1 & u.2)

-- signal x shows proceed into block i of line l in direction w
abbrev pub enters_test : Layout → History → Signal → ℕ → ℕ → ℕ → Bool
enters_test L h x l i w = every (ltb stop ((shown L h).signal x) ∷ ltb l L.lines ∷ ltb i (line_in L l).blocks ∷ leads_test L h x l i w ∷ [])

-- part by part
pub enters_means : (L : Layout) (h : History) (x : Signal) (l i w : ℕ) → enters_test L h x l i w ≡ true ↔ Enters L h x l i w
enters_means L h x l i w =
    Iff.trans (every_means (ltb_means stop _ also ltb_means l _ also ltb_means i _ also lastly (leads_means L h x l i w)))
    (λ (p, (b, (c, d))). record { of_line = b; of_block = c; leads = d; proceeds = p }, λ e. e.proceeds & e.of_line & e.of_block & e.leads)
