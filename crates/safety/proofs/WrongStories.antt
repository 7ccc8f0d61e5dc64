-- The wrong boxes of the stories do what must not happen, by computation over the bytes of their layouts.
use Prim.Native.Nat.{ℕ}
use mathlib.Core.Path.{◌≡◌, refl}
use mathlib.Core.Logic.{◌↔◌, inl, inr, ⊎_elim}
use mathlib.Core.Bool.{Bool, true, false, not}
use mathlib.Core.List.{[], ◌∷◌}
use native.Mathlib.Omega.{arith}
use borrow.Author.Tests.{eqb-true, eqb-false, eq-eqb, ltb-true, not-true}
use lib.Dec.{eqb, ltb}
use Rattle.laws.specs.Tests.{◌and◌, ◌or◌, implies, every, all_below, any_below}
use Rattle.laws.proofs.Tests.{and_left, and_right, or_cases, not_both, implies_from, every_one, every_more, every_at, all_from, any_some}
use Rattle.track.specs.Codes.{free, release_line, open_block, throw_point}
use Rattle.track.specs.Signal.{Signal, main}
use Rattle.track.specs.Blocks.{in_block}
use Rattle.signals.specs.Aspects.{stop}
use Rattle.layout.specs.declared.Layout.{Layout}
use Rattle.layout.specs.Layout.{line_in, route_in}
use Rattle.layout_facts.specs.Plain.{InBlock, own_section, path, overlap, route_point, line_point}
use Rattle.layout_facts.proofs.Means.{eqb_means, not_means, and_means, or_means}
use Rattle.safety.specs.History.{Moment, History, nothing, gave_section, section_reads, block_reads, shown}
use Rattle.safety.specs.Stories.{BladesFree, ThrowsFree, Lists, Falls, OpenedSince, OpensCleared, NoStory}
use Rattle.safety.specs.WrongRuns.{told, Each}
use Rattle.safety.specs.WrongStories.{Story, blades, falls, opens, BrokenLast, bent}
use Rattle.safety.proofs.Computed.{run_computed}
use Rattle.safety.proofs.Tested.{since_test, since_means, accepted_test, accepted_means}
use Rattle.safety.proofs.TestedLocks.{locked_test, locked_means}
use Rattle.safety.proofs.TestedBlocks.{some_completed_test, some_completed_means}
use Rattle.safety.proofs.TestedLines.{secured_test, secured_means}
use Rattle.safety.proofs.TestedLights.{enters_test, enters_means}
use Rattle.safety.proofs.WrongRuns.{passes, each_passes, some_signal, find}

-- what the last event broke is refused by the stories
pub not_kept : (t : Story) (L : Layout) (m : Moment) (h : History) → BrokenLast t L (m ∷ h) → NoStory L m h → ⊥
not_kept blades L m h b K = b K.throws
not_kept falls L m h b K = b K.falls
not_kept opens L m h b K = b K.opens

module _ (L : Layout) (m : Moment) (h : History) where
  -- ---- blades

  -- the blades of point p may be moved
  abbrev free_test : ℕ → Bool
  free_test p = every (
      eqb (section_reads L (own_section L p) h) free
      ∷ all_below L.routes (λ r. all_below (route_in L r).points (λ i. implies (eqb (route_point L r i) p) (not (locked_test L r h))))
      ∷ all_below L.lines (λ l. all_below (line_in L l).points (λ i. implies (eqb (line_point L l i) p) (not (secured_test L l 1 h or secured_test L l 2 h))))
      ∷ [])

  -- wherever they may, the test holds
  free_tested : (p : ℕ) → BladesFree L p h → free_test p ≡ true
  free_tested p B =
      every_more _ _ _ (eq-eqb _ free B.is_free)
      (every_more _ _ _ (all_from _ _ (λ r b. all_from _ _ (λ i c. implies_from _ _ (λ t. (not_means (locked_means L r h)).1 (B.no_route r i b c (eqb-true _ p t))))))
      (every_one _ (all_from _ _ (λ l b. all_from _ _ (λ i c. implies_from _ _ (λ t. (not_means (or_means (secured_means L l 1 h) (secured_means L l 2 h))).1
      (⊎_elim (B.no_line l i 1 b c (eqb-true _ p t) (omega arith)) (B.no_line l i 2 b c (eqb-true _ p t) (omega arith)))))))))

  -- a throw was accepted, and they may not
  abbrev blades_test : Bool
  blades_test = accepted_test throw_point m.event.first m and not (free_test m.event.first)

  -- so the throw was not one that is allowed
  bends : blades_test ≡ true → ¬ ThrowsFree L m h
  bends t T = not_both (free_tested _ (T _ ((accepted_means throw_point m.event.first m).0 (and_left _ _ t)))) (not-true _ (and_right _ _ t))

  -- ---- a section that is not free

  -- route r lists section g in its path or overlap
  abbrev lists_test : ℕ → ℕ → Bool
  lists_test r g = any_below (route_in L r).paths (λ j. eqb (path L r j) g) or any_below (route_in L r).overlaps (λ j. eqb (overlap L r j) g)

  -- the place is found
  lists_tested : (r g : ℕ) → lists_test r g ≡ true → Lists L r g
  lists_tested r g t =
      ⊎_elim (λ u. let (j, b, e) = any_some _ _ u in inl (j, b, eqb-true _ g e)) (λ u. let (j, b, e) = any_some _ _ u in inr (j, b, eqb-true _ g e)) (or_cases _ _ t)

  -- the signal of a locked route that lists it shows proceed
  abbrev route_stands : ℕ → ℕ → Bool
  route_stands g r = every (ltb stop ((shown L (m ∷ h)).signal (main (route_in L r).entry)) ∷ lists_test r g ∷ locked_test L r (m ∷ h) ∷ [])

  -- a signal shows proceed into a block that has it
  abbrev block_stands : ℕ → Signal → ℕ → ℕ → ℕ → Bool
  block_stands g x l i w = enters_test L (m ∷ h) x l i w and in_block (line_in L l) i g

  -- the event gave a section something that is not free, and one of the two
  abbrev falls_test : Bool
  falls_test =
      not (eqb (gave_section L m.event.first m h) nothing) and (not (eqb (gave_section L m.event.first m h) free)
      and (any_below L.routes (route_stands m.event.first) or some_signal L (block_stands m.event.first)))

  -- that signal should have fallen
  stands : falls_test ≡ true → ¬ Falls L m h
  unfolding InBlock
  stands t F =
      let u = and_right _ _ t in
      let A = F m.event.first (eqb-false _ _ (not-true _ (and_left _ _ t))) (eqb-false _ _ (not-true _ (and_left _ _ u))) in
      ⊎_elim
      (λ v. let (r, b, y) = any_some _ _ v in
      A.routes r b (lists_tested r _ (every_at _ y 1)) ((locked_means L r (m ∷ h)).0 (every_at _ y 2)) (ltb-true stop _ (every_at _ y 0)))
      (λ v. let f = find L (block_stands m.event.first) v in
      A.blocks f.at f.line f.number f.way (and_right _ _ f.passes) ((enters_means L (m ∷ h) _ _ _ _).0 (and_left _ _ f.passes)))
      (or_cases _ _ (and_right _ _ u))

  -- ---- a dead input

  -- block i of line l was opened by a passage or by hand, and has read free since
  abbrev since_free_test : ℕ → ℕ → Bool
  since_free_test l i =
      since_test (λ n older. some_completed_test L l i n older or (accepted_test release_line l n and eqb (block_reads L l i (n ∷ older)) free)) (λ n older. eqb (block_reads L l i (n ∷ older)) free) (m ∷ h)

  -- by the law of `Since`
  since_free_means : (l i : ℕ) → since_free_test l i ≡ true ↔ OpenedSince L l i (m ∷ h)
  since_free_means l i =
      since_means (λ n older. or_means (some_completed_means L l i n older) (and_means (accepted_means release_line l n) (eqb_means _ free))) (λ n older. eqb_means _ free) (m ∷ h)

  -- it shows open, and was not
  abbrev opens_test : Bool
  opens_test =
      any_below L.lines (λ l. any_below (line_in L l).blocks (λ i. eqb ((shown L (m ∷ h)).block l i) open_block and not (since_free_test l i)))

  -- so it is open for no reason that is told
  opens_untold : opens_test ≡ true → ¬ OpensCleared L m h
  opens_untold t O =
      let (l, b, u) = any_some _ _ t in
      let (i, c, v) = any_some _ _ u in
      not_both ((since_free_means l i).1 (O l i b c (eqb-true _ open_block (and_left _ _ v)))) (not-true _ (and_right _ _ v))

-- ---- the runs

-- the last event of a history
abbrev last_test : Story → Layout → History → Bool
last_test t L [] = false
last_test blades L (m ∷ h) = blades_test L m h
last_test falls L (m ∷ h) = falls_test L m h
last_test opens L (m ∷ h) = opens_test L m h

-- story by story
is_broken : (t : Story) (L : Layout) (h : History) → last_test t L h ≡ true → BrokenLast t L h
is_broken t L [] u = not_both u refl
is_broken blades L (m ∷ h) u = bends L m h u
is_broken falls L (m ∷ h) u = stands L m h u
is_broken opens L (m ∷ h) u = opens_untold L m h u

-- the runs of a story pass its test
abbrev Tested : Story → Type 0
Tested t = passes (λ r. last_test t r.layout (told r)) (bent t) ≡ true

-- computed, story by story
blades_tested : Tested blades
unfolding run_computed
blades_tested = refl

falls_tested : Tested falls
unfolding run_computed
falls_tested = refl

opens_tested : Tested opens
unfolding run_computed
opens_tested = refl

-- all of them
tested : (t : Story) → Tested t
tested blades = blades_tested
tested falls = falls_tested
tested opens = opens_tested

-- the last event of every run does what must not happen
pub stories_bent : (t : Story) → Each (λ r. BrokenLast t r.layout (told r)) (bent t)
stories_bent t = each_passes _ (λ r. is_broken t r.layout (told r)) (bent t) (tested t)
