-- What signals show is what a step goes by.
use Prim.Native.Nat.{ℕ}
use mathlib.Core.Path.{◌≡◌, refl, sym, ◌∙◌}
use mathlib.Core.Bool.{Bool, true, false}
use mathlib.Core.List.{List}
use borrow.Author.Tests.{eq-eqb}
use lib.Dec.{ltb}
use Rattle.laws.specs.Choice.{when◌then◌else◌}
use Rattle.laws.specs.Tests.{◌and◌, any_below}
use Rattle.laws.proofs.Choice.{if_true, if_false, if_both}
use Rattle.laws.proofs.Tests.{and_both}
use Rattle.laws.proofs.Searches.{lowest_some}
use Rattle.track.specs.declared.Line.{Line}
use Rattle.track.specs.declared.Route.{Route}
use Rattle.track.specs.Objects.{line, route}
use Rattle.track.specs.Signal.{has_signal}
use Rattle.tables.specs.Locks.{direction}
use Rattle.signals.specs.Aspects.{dark, stop, proceed}
use Rattle.signals.specs.Signals.{enterable, route_proceeds, main_proceeds, block_proceeds}
use Rattle.signals.specs.MainSignals.{proceed_shown, shown_by, shown_for, main_shows}
use Rattle.signals.specs.BlockSignals.{light_shown, block_shows}

-- ---- main signals

-- a route at proceed shows more than 20 (21 or 22)
proceed_shows : (a : Route) → ltb stop (proceed_shown a) ≡ true
unfolding proceed_shown
proceed_shows a = if_both (λ b. ltb stop b ≡ true) _ (λ t. refl) (λ f. refl)

module _ (n : ℕ) (rs : List Route) (phases : List ℕ) (x : ℕ) where
  -- route r starts at it and is at proceed
  abbrev starts : ℕ → Bool
  starts r = route_proceeds phases r (route rs r) x

  -- a main signal shows more than 20 (21 or 22) just where a route that starts at it is at proceed
  pub main_shows_law : ltb stop (main_shows n rs phases x) ≡ main_proceeds n rs phases x
  unfolding main_shows shown_by shown_for main_proceeds
  main_shows_law = if_both (λ b. ltb stop b ≡ any_below n starts) _ (λ t. proceed_shows _ ∙ sym t ∙ lowest_some n starts) (λ f. sym f ∙ lowest_some n starts)

  -- else it shows 20
  pub main_stops : main_proceeds n rs phases x ≡ false → main_shows n rs phases x ≡ stop
  unfolding main_shows shown_by shown_for main_proceeds
  main_stops f = sym (if_false _ _ stop stop (lowest_some n starts ∙ f) refl)

-- ---- block signals

-- a block signal, lit where a and b hold, shows more than 20 just where it is lit and the block may be entered (c)
lit_free : (a b c : Bool) → ltb stop (light_shown (a and b) c) ≡ b and (a and c)
unfolding light_shown ◌and◌ when◌then◌else◌
lit_free true true true = refl
lit_free true true false = refl
lit_free true false c = refl
lit_free false true c = refl
lit_free false false c = refl

module _ (ls : List Line) (directions points stages bars : List ℕ) (l i w : ℕ) where
  -- a block signal shows more than 20 (22) just where there is one and it is at proceed
  pub block_shows_law : ltb stop (block_shows ls directions points stages bars l i w)
      ≡ has_signal (line ls l).blocks i w and block_proceeds ls directions points stages bars l i w
  unfolding block_shows block_proceeds
  block_shows_law = lit_free _ _ _

  -- one that is lit shows 20 where no train may be let into its block
  pub block_stops : direction directions l ≡ w → has_signal (line ls l).blocks i w ≡ true → enterable ls points stages bars l i ≡ false
      → block_shows ls directions points stages bars l i w ≡ stop
  unfolding block_shows light_shown
  block_stops d u f = sym (if_true _ _ dark stop (and_both _ _ (eq-eqb _ w d) u) (if_false _ proceed stop stop f refl))
