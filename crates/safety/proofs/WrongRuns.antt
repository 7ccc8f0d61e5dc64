-- The wrong boxes break demand 3, or differ from the box, by computation over the bytes of their layouts.
use Prim.Native.Nat.{ℕ}
use mathlib.Core.Path.{◌≡◌, refl, sym, ap, ◌∙◌}
use mathlib.Core.Logic.{◌≢◌, ⊎_elim}
use mathlib.Core.Bool.{Bool, true, false, not}
use mathlib.Core.List.{List, [], ◌∷◌}
use borrow.Author.Tests.{eqb-true, eqb-false, eq-eqb, ltb-true, not-true}
use lib.Dec.{eqb, ltb}
use Rattle.laws.specs.Tests.{◌and◌, ◌or◌, every, any_below}
use Rattle.laws.proofs.Tests.{and_left, and_right, and_both, or_cases, not_both, fails_from, fails_not, any_some}
use Rattle.track.specs.Codes.{free, exit_route, neutral, leaving}
use Rattle.track.specs.Signal.{Signal, main, into}
use Rattle.track.proofs.OnlySection.{only_in}
use Rattle.signals.specs.Aspects.{stop}
use Rattle.layout.specs.declared.Layout.{Layout}
use Rattle.layout.specs.Layout.{line_in, route_in, conflict}
use Rattle.layout_facts.specs.Plain.{InBlock}
use Rattle.panel.specs.Panel.{image}
use Rattle.interlocking.specs.declared.State.{State}
use Rattle.interlocking.specs.declared.Answer.{Answer}
use Rattle.step_facts.specs.Run.{Event}
use Rattle.safety.specs.Cases.{same}
use Rattle.safety.specs.History.{History, block_reads, shown, moment, goes_on}
use Rattle.safety.specs.Demand3.{Enters, Safe}
use Rattle.safety.specs.Broken.{Clause, apart, exits, directions, backed, secured, shows_secured, alone, is_free, cleared, Unguarded, Broken}
use Rattle.safety.specs.WrongRuns.{Run, goes_on_by, told, Each, unsafe, showing, of_the_box, Differs, unlike}
use Rattle.step_facts.proofs.Entries.{block}
use Rattle.safety.proofs.Computed.{run_computed}
use Rattle.safety.proofs.Cases.{same_itself}
use Rattle.safety.proofs.TestedLocks.{locked_test, locked_means}
use Rattle.safety.proofs.TestedBlocks.{passed_test, by_hand_test, cleared_means}
use Rattle.safety.proofs.TestedLines.{secured_test, secured_means}
use Rattle.safety.proofs.TestedLights.{some_at_proceed_test, some_at_proceed_means, enters_test, enters_means}

-- with the box's own panel the history is the one of `goes_on`
pub own_panel : (L : Layout) (f : State → Event → Answer) (s : State) (h : History) (es : List Event) → goes_on_by image L f s h es ≡ goes_on L f s h es
unfolding goes_on moment
own_panel L f s h [] = refl
own_panel L f s h (e ∷ es) = own_panel L f (f s e).next _ es

-- what is broken is refused by demand 3
pub not_safe : (c : Clause) (L : Layout) (h : History) → Broken c L h → Safe L h → ⊥
not_safe apart L h b S = S.apart _ _ b.one_there b.other_there b.conflicts b.one_locked b.other_locked
not_safe exits L h b S = b.unmet (S.exits _ b.there b.is_exit b.locked)
not_safe directions L h b S = b.unmet (S.directions _ _ b.there b.some b.shows)
not_safe backed L h b S = let (r, there, starts, up) = S.backed _ b.proceeds in b.unmet r there starts up
not_safe secured L h b S = b.unmet (S.guarded _ _ _ _ b.enters).secured
not_safe shows_secured L h b S = b.unmet (S.guarded _ _ _ _ b.enters).shows_secured
not_safe alone L h b S = b.unmet (S.guarded _ _ _ _ b.enters).alone
not_safe is_free L h b S = b.unmet (S.guarded _ _ _ _ b.enters).is_free
not_safe cleared L h b S = b.unmet (S.guarded _ _ _ _ b.enters).cleared

-- ---- signals searched for

-- one of the layout's signals, main or into the block, for one of its blocks and one of the two directions, passes a test
abbrev pub some_signal : Layout → (Signal → ℕ → ℕ → ℕ → Bool) → Bool
some_signal L p =
    any_below L.lines (λ l. any_below (line_in L l).blocks (λ i. any_below 3 (λ w. any_below L.signals (λ x. p (main x) l i w) or p (into l i w) l i w)))

-- a signal that passes, and where it leads
pub record Found (p : Signal → ℕ → ℕ → ℕ → Bool) : Type 0 where
  pub at : Signal
  pub line : ℕ
  pub number : ℕ
  pub way : ℕ
  pub passes : p at line number way ≡ true

-- it is found
pub find : (L : Layout) (p : Signal → ℕ → ℕ → ℕ → Bool) → some_signal L p ≡ true → Found p
find L p t =
    let (l, b, u) = any_some _ _ t in
    let (i, c, v) = any_some _ _ u in
    let (w, d, y) = any_some _ _ v in
    ⊎_elim (λ z. let (x, e, q) = any_some _ _ z in record { at = main x; line = l; number = i; way = w; passes = q })
    (λ z. record { at = into l i w; line = l; number = i; way = w; passes = z }) (or_cases _ _ y)

-- two signals are one
unfoldable pub same_signal : Signal → Signal → Bool
same_signal (main x) (main y) = eqb x y
same_signal (main x) (into l i w) = false
same_signal (into l i w) (main y) = false
same_signal (into l i w) (into k j v) = every (eqb l k ∷ eqb i j ∷ eqb w v ∷ [])

-- a signal is itself
same_signal_law : (x : Signal) → same_signal x x ≡ true
unfolding same_signal every ◌and◌
same_signal_law (main x) = eq-eqb x x refl
same_signal_law (into l i w) = and_both _ _ (eq-eqb l l refl) (and_both _ _ (eq-eqb i i refl) (eq-eqb w w refl))

-- ---- a clause that is broken

-- two conflicting routes are locked
abbrev together_test : Layout → History → Bool
together_test L h =
    any_below L.routes (λ r. locked_test L r h and any_below L.routes (λ q. conflict L r q and locked_test L q h))

-- an exit route is locked, and its line not secured its way
abbrev adrift_test : Layout → History → Bool
adrift_test L h =
    any_below L.routes (λ r. eqb (route_in L r).kind exit_route
    and (locked_test L r h and not (secured_test L (route_in L r).line (leaving (route_in L r).end) h)))

-- a line shows one of the two directions, and is not secured so
abbrev untrue_test : Layout → History → Bool
untrue_test L h =
    any_below L.lines (λ l. not (eqb ((shown L h).line l) neutral) and not (secured_test L l ((shown L h).line l) h))

-- a main signal shows proceed for no route
abbrev unbacked_test : Layout → History → Bool
unbacked_test L h = any_below L.signals (λ x. ltb stop ((shown L h).signal (main x)) and not (some_at_proceed_test L x h))

-- signal x shows proceed into a block, and this test of it fails
abbrev unmet_at : (Signal → ℕ → ℕ → ℕ → Bool) → Layout → History → Signal → ℕ → ℕ → ℕ → Bool
unmet_at met L h x l i w = enters_test L h x l i w and not (met x l i w)

-- some signal does
abbrev unguarded_test : (Signal → ℕ → ℕ → ℕ → Bool) → Layout → History → Bool
unguarded_test met L h = some_signal L (unmet_at met L h)

-- signal y, another than x, shows proceed into a block that has the section of block i of line l
abbrev other_at : Layout → History → Signal → ℕ → ℕ → Signal → ℕ → ℕ → ℕ → Bool
other_at L h x l i y k j v = enters_test L h y k j v and (eqb (block L k j) (block L l i) and not (same_signal y x))

-- some signal does so
abbrev other_test : Layout → History → Signal → ℕ → ℕ → Bool
other_test L h x l i = some_signal L (other_at L h x l i)

-- the clause is broken
abbrev pub broken_test : Clause → Layout → History → Bool
broken_test apart L h = together_test L h
broken_test exits L h = adrift_test L h
broken_test directions L h = untrue_test L h
broken_test backed L h = unbacked_test L h
broken_test secured L h = unguarded_test (λ x l i w. secured_test L l w h) L h
broken_test shows_secured L h = unguarded_test (λ x l i w. eqb ((shown L h).line l) w) L h
broken_test alone L h = unguarded_test (λ x l i w. not (other_test L h x l i)) L h
broken_test is_free L h = unguarded_test (λ x l i w. eqb (block_reads L l i h) free) L h
broken_test cleared L h = unguarded_test (λ x l i w. passed_test L l i h or by_hand_test L l i h) L h

module _ (L : Layout) (h : History) where
  -- where the clause has a test that holds wherever it does
  is_unguarded : {Met : Signal → ℕ → ℕ → ℕ → Type 0} (met : Signal → ℕ → ℕ → ℕ → Bool) → ((x : Signal) (l i w : ℕ) → Met x l i w → met x l i w ≡ true)
      → unguarded_test met L h ≡ true → Unguarded Met L h
  is_unguarded met law t =
      let f = find L (unmet_at met L h) t in
      record {
        at = f.at;
        line = f.line;
        number = f.number;
        way = f.way;
        enters = (enters_means L h _ _ _ _).0 (and_left _ _ f.passes);
        unmet = λ m. not_both (law _ _ _ _ m) (not-true _ (and_right _ _ f.passes));
      }

  -- where no other signal shows proceed into the block, none is found
  none_other : (x : Signal) (l i w : ℕ) → ((y : Signal) (k j v g : ℕ) → Enters L h y k j v → InBlock L k j g → InBlock L l i g → y ≡ x)
      → not (other_test L h x l i) ≡ true
  unfolding InBlock
  none_other x l i w only = fails_not _ (fails_from _ (λ t.
      let f = find L (other_at L h x l i) t in
      let one : block L f.line f.number ≡ block L l i = eqb-true _ _ (and_left _ _ (and_right _ _ f.passes)) in
      let is_x = only f.at _ _ _ (block L f.line f.number) ((enters_means L h _ _ _ _).0 (and_left _ _ f.passes))
      (only_in (line_in L f.line) f.number) (rw one (only_in (line_in L l) i)) in
      not_both (ap (same_signal f.at) (sym is_x) ∙ same_signal_law f.at) (not-true _ (and_right _ _ (and_right _ _ f.passes)))))

  -- so the test says that it is broken
  pub is_broken : (c : Clause) → broken_test c L h ≡ true → Broken c L h
  is_broken apart t =
      let (r, b, u) = any_some _ _ t in
      let (q, c, v) = any_some _ _ (and_right _ _ u) in
      record {
        one = r;
        other = q;
        one_there = b;
        other_there = c;
        conflicts = and_left _ _ v;
        one_locked = (locked_means L r h).0 (and_left _ _ u);
        other_locked = (locked_means L q h).0 (and_right _ _ v);
      }
  is_broken exits t =
      let (r, b, u) = any_some _ _ t in
      let v = and_right _ _ u in
      record {
        route = r;
        there = b;
        is_exit = eqb-true _ exit_route (and_left _ _ u);
        locked = (locked_means L r h).0 (and_left _ _ v);
        unmet = λ x. not_both ((secured_means L _ _ h).1 x) (not-true _ (and_right _ _ v));
      }
  is_broken directions t =
      let (l, b, u) = any_some _ _ t in
      record {
        line = l;
        way = (shown L h).line l;
        there = b;
        some = eqb-false _ neutral (not-true _ (and_left _ _ u));
        shows = refl;
        unmet = λ x. not_both ((secured_means L l _ h).1 x) (not-true _ (and_right _ _ u));
      }
  is_broken backed t =
      let (x, b, u) = any_some _ _ t in
      record {
        at = x;
        proceeds = ltb-true stop _ (and_left _ _ u);
        unmet = λ r there starts up. not_both ((some_at_proceed_means L x h).1 (r, there, starts, up)) (not-true _ (and_right _ _ u));
      }
  is_broken secured t = is_unguarded _ (λ x l i w s. (secured_means L l w h).1 s) t
  is_broken shows_secured t = is_unguarded _ (λ x l i w s. eq-eqb _ w s) t
  is_broken alone t = is_unguarded _ none_other t
  is_broken is_free t = is_unguarded _ (λ x l i w s. eq-eqb _ free s) t
  is_broken cleared t = is_unguarded _ (λ x l i w s. (cleared_means L l i h).1 s) t

-- ---- the runs

-- a test that each run of a list passes
abbrev pub passes : (Run → Bool) → List Run → Bool
passes test [] = true
passes test (r ∷ rs) = test r and passes test rs

-- says of each what it says of one
pub each_passes : {P : Run → Type 0} (test : Run → Bool) → ((r : Run) → test r ≡ true → P r) → (rs : List Run) → passes test rs ≡ true → Each P rs
each_passes test law [] t = tt
each_passes test law (r ∷ rs) t = (law r (and_left _ _ t), each_passes test law rs (and_right _ _ t))

-- the runs of a clause pass its test
abbrev Tested : Clause → Type 0
Tested c = passes (λ r. broken_test c r.layout (told r)) (unsafe c) ≡ true

-- computed, clause by clause
apart_tested : Tested apart
unfolding run_computed same_signal
apart_tested = refl

exits_tested : Tested exits
unfolding run_computed same_signal
exits_tested = refl

directions_tested : Tested directions
unfolding run_computed same_signal
directions_tested = refl

backed_tested : Tested backed
unfolding run_computed same_signal
backed_tested = refl

secured_tested : Tested secured
unfolding run_computed same_signal
secured_tested = refl

shows_secured_tested : Tested shows_secured
unfolding run_computed same_signal
shows_secured_tested = refl

alone_tested : Tested alone
unfolding run_computed same_signal
alone_tested = refl

is_free_tested : Tested is_free
unfolding run_computed same_signal
is_free_tested = refl

cleared_tested : Tested cleared
unfolding run_computed same_signal
cleared_tested = refl

-- all of them
tested : (c : Clause) → Tested c
tested apart = apart_tested
tested exits = exits_tested
tested directions = directions_tested
tested backed = backed_tested
tested secured = secured_tested
tested shows_secured = shows_secured_tested
tested alone = alone_tested
tested is_free = is_free_tested
tested cleared = cleared_tested

-- every run of the list breaks the clause that it is listed under
pub wrong_boxes_break : (c : Clause) → Each (λ r. Broken c r.layout (told r)) (unsafe c)
wrong_boxes_break c = each_passes _ (λ r. is_broken r.layout (told r) c) (unsafe c) (tested c)

-- ---- boxes that are wrong in another way

-- two lists that the test tells apart
differ : (xs ys : List ℕ) → not (same xs ys) ≡ true → xs ≢ ys
differ xs ys t q = not_both (ap (same xs) (sym q) ∙ same_itself xs) (not-true _ t)

-- computed
unlike_tested : passes (λ r. not (same (showing r) (of_the_box r))) unlike ≡ true
unfolding run_computed
unlike_tested = refl

-- the panel after each run is not the box's
pub wrong_boxes_differ : Each Differs unlike
wrong_boxes_differ = each_passes _ (λ r. differ (showing r) (of_the_box r)) unlike unlike_tested
