-- The four boxes of section 10 are unlike the box where it says, by computation over the bytes of branch T; so none of them is the box.
use Prim.Native.Nat.{ℕ, ◌+◌}
use mathlib.Core.Path.{◌≡◌, refl, sym, ap, ◌∙◌}
use mathlib.Core.Logic.{◌≢◌}
use mathlib.Core.Bool.{true, false≢true}
use mathlib.Core.List.{List, [], ◌∷◌}
use Rattle.laws.specs.Choice.{when◌then◌else◌}
use Rattle.laws.specs.Tests.{every}
use Rattle.laws.proofs.Tests.{every_at}
use Rattle.layout_facts.specs.BranchT.{layout_t}
use Rattle.interlocking.specs.declared.Answer.{Answer}
use Rattle.interlocking.specs.State.{cold}
use Rattle.step_facts.specs.Run.{box, answers}
use Rattle.safety.specs.Cases.{p1, same}
use Rattle.safety.specs.WrongBoxes10.{refuses_orders, answers_zero, never_moves, first_only, granted, said, panel_after, unlike_at, p1to4, rejected}
use Rattle.safety.proofs.Computed.{run_computed}
use Rattle.safety.proofs.Cases.{same_itself}

-- computed
pub section_10_rejects : every rejected ≡ true
unfolding run_computed
section_10_rejects = refl

-- a list of answers is nowhere unlike itself
alike : (look : Answer → List ℕ) (n : ℕ) (xs : List Answer) → unlike_at look n xs xs ≡ []
unfolding when◌then◌else◌
alike look n [] = refl
alike look n (a ∷ rest) = rw (same_itself (look a)) (alike look (n + 1) rest)

-- two that are unlike somewhere are not one
not_one : (look : Answer → List ℕ) (xs ys : List Answer) (n : ℕ) (ns : List ℕ) → same (unlike_at look 1 xs ys) (n ∷ ns) ≡ true → xs ≢ ys
not_one look xs ys n ns t q = false≢true (sym (ap (λ (m : List ℕ). same m (n ∷ ns)) (ap (λ (zs : List Answer). unlike_at look 1 zs ys) q ∙ alike look 1 ys)) ∙ t)

-- so none of the four is the box
pub none_is_the_box :
    (refuses_orders layout_t ≢ box layout_t) × (answers_zero layout_t ≢ box layout_t) × (never_moves layout_t ≢ box layout_t)
    × (first_only layout_t ≢ answers (box layout_t))
none_is_the_box = (
  λ q. not_one granted _ _ 8 _ (every_at _ section_10_rejects 0) (ap (λ f. answers f cold p1) q),
  λ q. not_one said _ _ 1 _ (every_at _ section_10_rejects 1) (ap (λ f. answers f cold p1) q),
  λ q. not_one panel_after _ _ 2 _ (every_at _ section_10_rejects 2) (ap (λ f. answers f cold p1to4) q),
  λ q. not_one panel_after _ _ 2 _ (every_at _ section_10_rejects 3) (ap (λ f. f cold p1to4) q),
)
