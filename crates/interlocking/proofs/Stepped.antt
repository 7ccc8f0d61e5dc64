-- What 18 asks, and the step from its answer.
use Prim.Native.Nat.{ℕ, ◌≤◌}
use mathlib.Core.Path.{◌≡◌, sym, ap, ◌∙◌}
use mathlib.Core.Bool.{Bool, true, ◌&&◌}
use borrow.Author.Tests.{leb-true}
use lib.Dec.{leb}
use Rattle.laws.specs.Tests.{◌and◌}
use Rattle.laws.proofs.Tests.{and_left, and_right, every_at}
use Rattle.track.specs.Sizes.{most_sections, most_lines, most_train_routes}
use Rattle.track.specs.Lists.{between}
use Rattle.layout.specs.declared.Layout.{Layout}
use Rattle.layout.specs.Sound.{fits, sound}
use Rattle.interlocking.specs.declared.State.{State}
use Rattle.interlocking.specs.declared.Answer.{Answer}
use Rattle.interlocking.specs.State.{in_range}
use Rattle.interlocking.specs.Step.{step_where}

-- a sound layout has no more lines, routes and sections than the tables hold
pub sound_holds : (L : Layout) (s : State) (x : Bool) → x ≡ (sound L and in_range s) → x ≡ true
    → (L.lines ≤ most_lines) × (L.routes ≤ most_train_routes) × (L.sections ≤ most_sections)
unfolding sound fits between
sound_holds L s x e h =
    let within : fits L ≡ true = every_at _ (and_left _ _ (sym e ∙ h)) 0 in
    (leb-true L.lines most_lines (every_at _ within 5), leb-true L.routes most_train_routes (every_at _ within 9), leb-true L.sections most_sections (and_right _ _ (every_at _ within 1)))

-- so has one whose counts were looked at
pub counts_hold : (n m : ℕ) (x : Bool) → leb n most_lines && (leb m most_train_routes && x) ≡ true → (n ≤ most_lines) × (m ≤ most_train_routes)
unfolding ◌and◌
counts_hold n m x h = (
  leb-true n most_lines (and_left (leb n most_lines) (leb m most_train_routes && x) h),
  leb-true m most_train_routes (and_left (leb m most_train_routes) x (and_right (leb n most_lines) (leb m most_train_routes && x) h)),
)

-- the step, from the answer x to what 18 asks
pub step_asked : (L : Layout) (s : State) (k a b : ℕ) (x : Bool) (r : Answer) → x ≡ (sound L and in_range s) → r ≡ step_where x L s k a b
    → r ≡ step_where (sound L and in_range s) L s k a b
step_asked L s k a b x r p e = e ∙ ap (λ (v : Bool). step_where v L s k a b) p
