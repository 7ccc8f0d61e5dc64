-- The cases of section 8 hold, by computation over the bytes of branch T; P7 then whatever the buffer holds.
use Prim.Native.Nat.{ℕ}
use mathlib.Core.Path.{◌≡◌, refl, sym, ap, ap₂, ◌∙◌}
use mathlib.Core.Bool.{true, false≢true}
use mathlib.Core.List.{List, [], ◌∷◌, ◌++◌}
use native.Mathlib.Omega.{arith}
use borrow.Author.Tests.{eqb-true, eq-eqb}
use lib.ListN.{length, drop_of_length-le}
use lib.Seq.{sets, sets-eq}
use Rattle.laws.specs.Tests.{every}
use Rattle.laws.proofs.Tests.{and_left, and_right, every_at, and_both}
use Rattle.layout_facts.specs.BranchT.{branch_t, layout_t}
use Rattle.layout_facts.proofs.BranchT.{branch_t_sound}
use Rattle.interlocking.specs.State.{cold}
use Rattle.step_facts.proofs.Range.{cold_in_range}
use Rattle.panel.specs.Panel.{image, panel_length, answer, drawn}
use Rattle.panel.proofs.Laws.{length_image}
use Rattle.panel.proofs.Answers.{too_short, done}
use Rattle.safety.specs.Cases.{cold_panel, same, cases}
use Rattle.safety.proofs.Computed.{run_computed}

-- P1 to P8
pub cases_hold : every (cases branch_t) ≡ true
unfolding run_computed
cases_hold = refl

-- ---- P7, whatever the buffer holds

-- two lists that the test finds the same are the same
same_means : (xs ys : List ℕ) → same xs ys ≡ true → xs ≡ ys
same_means [] [] t = refl
same_means [] (y ∷ ys) t = absurd (false≢true t)
same_means (x ∷ xs) [] t = absurd (false≢true t)
same_means (x ∷ xs) (y ∷ ys) t = ap₂ (λ (n : ℕ) (ns : List ℕ). n ∷ ns) (eqb-true x y (and_left _ _ t)) (same_means xs ys (and_right _ _ t))

-- a list is the same as itself
pub same_itself : (xs : List ℕ) → same xs xs ≡ true
same_itself [] = refl
same_itself (x ∷ xs) = and_both _ _ (eq-eqb x x refl) (same_itself xs)

-- the image is P2's
cold_image : image layout_t cold ≡ cold_panel
cold_image = same_means _ _ (every_at _ cases_hold 1)

-- so it has 16 bytes
cold_length : 16 ≡ panel_length layout_t
cold_length = ap length (sym cold_image) ∙ length_image layout_t cold

-- 15 bytes: 27 and length 0, and the buffer stays as it was
pub short_buffer : (buffer : List ℕ) → length buffer ≡ 15
    → (record { number = 27; length = 0 } ≡ answer layout_t cold (length buffer)) × (buffer ≡ drawn layout_t cold buffer)
unfolding answer drawn
short_buffer buffer e = rw (and_both _ _ branch_t_sound cold_in_range) (too_short layout_t cold buffer 16 cold_length (omega arith))

-- 16 bytes: 0 and length 16, and the buffer holds the image
pub whole_buffer : (buffer : List ℕ) → length buffer ≡ 16
    → (record { number = 0; length = 16 } ≡ answer layout_t cold (length buffer)) × (cold_panel ≡ drawn layout_t cold buffer)
unfolding answer drawn
whole_buffer buffer e =
    let nothing_left = ap (λ xs. cold_panel ++ xs) (drop_of_length-le buffer {i = 16} (omega arith)) in
    rw (and_both _ _ branch_t_sound cold_in_range) (done layout_t cold buffer 16 cold_length (omega arith) cold_panel
    (sym (sets-eq cold_panel buffer 0 (omega arith) ∙ nothing_left) ∙ ap (λ xs. sets buffer 0 xs) (sym cold_image)))
