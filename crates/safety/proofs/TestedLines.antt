-- Tests on a history that hold just where what they test does: barred blocks and secured lines. Where a test is cheap it stands first.
use Prim.Native.Nat.{ℕ}
use mathlib.Core.Path.{◌≡◌, refl, sym, subst}
use mathlib.Core.Logic.Iff
use mathlib.Core.Logic.{◌⊎◌, ◌↔◌, inl, inr}
use mathlib.Core.Bool.{Bool, true, false, not}
use mathlib.Core.List.{[], ◌∷◌}
use lib.Dec.{eqb, ltb}
use Rattle.laws.specs.Tests.{◌and◌, ◌or◌, implies, every, all_below}
use Rattle.laws.proofs.Tests.{not_both}
use Rattle.track.specs.Codes.{exit_route, a_to_b, b_to_a, leaving, set_route, secure_line, release_line, bar_block, unbar_block}
use Rattle.layout.specs.declared.Layout.{Layout}
use Rattle.layout.specs.Layout.{line_in, route_in}
use Rattle.layout_facts.proofs.Means.{eqb_means, ltb_means, not_means, and_means, or_means, implies_means, lastly, ◌also◌, ◌&◌, every_means, all_means}
use Rattle.safety.specs.History.{Moment, History, Accepted}
use Rattle.safety.specs.Secured.{Barred, last_block, LineEnds, StaysSecured, SetsOut, SecuredBy, by_order, by_route, Secured}
use Rattle.safety.proofs.Tested.{since_test, since_means, accepted_test, accepted_means, came_test, came_means}
use Rattle.safety.proofs.TestedLocks.{locked_test, locked_means}
use Rattle.safety.proofs.TestedBlocks.{completed_test, completed_means, opened_test, opened_means}

-- block i of line l is barred
abbrev pub barred_test : ℕ → ℕ → History → Bool
barred_test l i h = since_test (λ m older. came_test bar_block l i m) (λ m older. not (came_test unbar_block l i m)) h

-- by the law of `Since`
pub barred_means : (l i : ℕ) (h : History) → barred_test l i h ≡ true ↔ Barred l i h
barred_means l i = since_means (λ m h. came_means bar_block l i m) (λ m h. not_means (came_means unbar_block l i m))

module _ (L : Layout) (l w : ℕ) where
  -- the event releases the line
  abbrev line_ends_test : Moment → History → Bool
  line_ends_test m h = every (
      completed_test L l (last_block L l w) w m h
      ∷ not (opened_test L l (last_block L l w) h)
      ∷ all_below (line_in L l).blocks (λ i. opened_test L l i (m ∷ h))
      ∷ all_below L.routes (λ r. implies (eqb (route_in L r).kind exit_route) (implies (eqb (route_in L r).line l) (not (locked_test L r (m ∷ h)))))
      ∷ all_below (line_in L l).blocks (λ i. not (barred_test l i (m ∷ h)))
      ∷ [])

  -- part by part, over blocks and routes
  line_ends_means : (m : Moment) (h : History) → line_ends_test m h ≡ true ↔ LineEnds L l w m h
  line_ends_means m h =
      Iff.trans
      (every_means (completed_means L l (last_block L l w) w m h also not_means (opened_means L l (last_block L l w) h) also all_means (λ i b. opened_means L l i (m ∷ h))
      also all_means (λ r b. implies_means (eqb_means _ exit_route) (implies_means (eqb_means _ l) (not_means (locked_means L r (m ∷ h)))))
      also lastly (all_means (λ i b. not_means (barred_means l i (m ∷ h))))))
      (λ (c, (n, (o, (e, b)))). record { held = n; completes = c; all_open = o; no_exit = e; no_bar = b }, λ E. E.completes & E.held & E.all_open & E.no_exit & E.no_bar)

  -- the line stays secured
  abbrev stays_secured_test : Moment → History → Bool
  stays_secured_test m h = every (not (accepted_test secure_line l m) ∷ not (accepted_test release_line l m) ∷ not (line_ends_test m h) ∷ [])

  -- no order, no release, no line release
  stays_secured_means : (m : Moment) (h : History) → stays_secured_test m h ≡ true ↔ StaysSecured L l w m h
  stays_secured_means m h =
      Iff.trans
      (every_means (not_means (accepted_means secure_line l m) also not_means (accepted_means release_line l m) also lastly (not_means (line_ends_means m h))))
      (λ (o, (r, g)). record { no_order = o; no_release = r; no_end = g }, λ s. s.no_order & s.no_release & s.no_end)

-- ---- one order for departure (L5)

module _ (L : Layout) (l w : ℕ) where
  -- the event sets an exit route of the line that leaves in direction w: the route that it names
  abbrev sets_out_test : Moment → Bool
  sets_out_test m =
      let r : ℕ = m.event.first in
      every (accepted_test set_route r m ∷ ltb r L.routes ∷ eqb (route_in L r).kind exit_route ∷ eqb (route_in L r).line l ∷ eqb (leaving (route_in L r).end) w ∷ [])

  -- part by part
  sets_out_means : (m : Moment) → sets_out_test m ≡ true ↔ (r : ℕ) × SetsOut L l w m r
  sets_out_means m =
      Iff.trans (every_means (accepted_means set_route _ m also ltb_means _ _ also eqb_means _ exit_route also eqb_means _ l also lastly (eqb_means _ w))) (
        λ (s, (t, (k, (o, y)))). (_, record { sets = s; there = t; is_exit = k; of_line = o; way = y }),
        λ (r, x). let y = subst (λ k. SetsOut L l w m k) (sym x.sets.2) x in y.sets & y.there & y.is_exit & y.of_line & y.way,
      )

  -- the event secures the line, which before it was secured as `was` says
  abbrev secured_by_test : (ℕ → Bool) → Moment → Bool
  secured_by_test was m = (accepted_test secure_line l m and eqb m.event.second w) or (sets_out_test m and (not (was a_to_b) and not (was b_to_a)))

  -- by an order, or by a route
  secured_by_means : {Was : ℕ → Type 0} {was : ℕ → Bool} → ((v : ℕ) → was v ≡ true ↔ Was v) → (m : Moment) → secured_by_test was m ≡ true ↔ SecuredBy L l w Was m
  secured_by_means {Was} told m =
      Iff.trans (or_means (and_means (accepted_means secure_line l m) (eqb_means _ w)) (and_means (sets_out_means m) (and_means (not_means (told a_to_b)) (not_means (told b_to_a)))))
      (to, from)
    where
      to : (Accepted secure_line l m × (m.event.second ≡ w)) ⊎ (((r : ℕ) × SetsOut L l w m r) × (¬ Was a_to_b × ¬ Was b_to_a)) → SecuredBy L l w Was m
      to (inl (a, b)) = by_order a b
      to (inr ((r, x), n)) = by_route r x n

      from : SecuredBy L l w Was m → (Accepted secure_line l m × (m.event.second ≡ w)) ⊎ (((r : ℕ) × SetsOut L l w m r) × (¬ Was a_to_b × ¬ Was b_to_a))
      from (by_order a b) = inl (a, b)
      from (by_route r x n) = inr ((r, x), n)

-- it is secured
abbrev pub secured_test : Layout → ℕ → ℕ → History → Bool
secured_test L l w [] = false
secured_test L l w (m ∷ h) = secured_by_test L l w (λ v. secured_test L l v h) m or (stays_secured_test L l w m h and secured_test L l w h)

-- event by event
pub secured_means : (L : Layout) (l w : ℕ) (h : History) → secured_test L l w h ≡ true ↔ Secured L l w h
unfolding Secured
secured_means L l w [] = (λ t. not_both t refl, λ x. absurd x)
secured_means L l w (m ∷ h) =
    or_means (secured_by_means L l w (λ v. secured_means L l v h) m) (and_means (stays_secured_means L l w m h) (secured_means L l w h))
