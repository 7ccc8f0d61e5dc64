-- Numbers that stand in a file in their forms, one after another: put together, cut, and taken one by one in turns.
use Prim.Native.Nat.{ℕ, zero, suc, ◌+◌, ◌<◌}
use mathlib.Core.Path.{◌≡◌, refl, sym, ap, subst, ◌∙◌}
use mathlib.Core.List.{List, [], ◌∷◌, ◌++◌, flat_map, append_assoc, append-nil}
use native.Mathlib.Nat.{add-zero, le_refl}
use native.Mathlib.Omega.{arith}
use lib.ListN.{length, drop, length-append}
use lib.Seq.{drop-drop, drop-append_seam, drop-length}
use Rattle.laws.specs.Tables.{join, iter}
use Rattle.numbers.specs.Form.{encode}
use Rattle.layout_file.specs.Written.{forms}

-- from a place on the forms of these numbers stand, up to the next place
pub record Stand (s : List ℕ) (at : ℕ) (ns : List ℕ) (next : ℕ) : Type 0 where
  pub text : drop at s ≡ forms ns ++ drop next s
  pub place : next ≡ at + length (forms ns)

-- ---- forms

-- the forms of numbers and of more numbers
pub forms_append : (ns ms : List ℕ) → forms (ns ++ ms) ≡ forms ns ++ forms ms
unfolding forms flat_map
forms_append [] ms = refl
forms_append (n ∷ ns) ms = ap (λ t. encode n ++ t) (forms_append ns ms) ∙ sym (append_assoc (encode n) (forms ns) (forms ms))

module _ (s : List ℕ) where
  -- ---- put together

  -- no numbers
  pub stand_none : (at : ℕ) → Stand s at [] at
  unfolding forms flat_map
  stand_none at = record { text = refl; place = sym (add-zero at) }

  -- so the next place is the place itself
  pub stand_here : (at next : ℕ) → Stand s at [] next → next ≡ at
  unfolding forms flat_map
  stand_here at next p = p.place ∙ add-zero at

  -- some numbers, then more
  pub stand_then : {at mid next : ℕ} {ns ms : List ℕ} → Stand s at ns mid → Stand s mid ms next → Stand s at (ns ++ ms) next
  stand_then {at} {mid} {next} {ns} {ms} p q = record {
    text = p.text ∙ ap (λ t. forms ns ++ t) q.text ∙ sym (append_assoc (forms ns) (forms ms) (drop next s)) ∙ ap (λ t. t ++ drop next s) (sym (forms_append ns ms));
    place = q.place ∙ omega (arith, p.place, length-append (forms ns) (forms ms), ap length (forms_append ns ms));
  }

  -- ---- cut

  module _ (at next : ℕ) (ns ms : List ℕ) (p : Stand s at (ns ++ ms) next) where
    -- the forms of the first, before the forms of the others
    both_text : drop at s ≡ forms ns ++ (forms ms ++ drop next s)
    both_text = p.text ∙ ap (λ t. t ++ drop next s) (forms_append ns ms) ∙ append_assoc (forms ns) (forms ms) (drop next s)

    -- from the place between on
    rest_text : drop (at + length (forms ns)) s ≡ forms ms ++ drop next s
    rest_text = sym (drop-drop (length (forms ns)) at s) ∙ ap (drop (length (forms ns))) both_text ∙ drop-append_seam (forms ns) (forms ms ++ drop next s)

    -- numbers before more numbers stand up to the place between
    pub stand_first : Stand s at ns (at + length (forms ns))
    stand_first = record { text = both_text ∙ ap (λ t. forms ns ++ t) (sym rest_text); place = refl }

    -- and the others from there on
    pub stand_rest : Stand s (at + length (forms ns)) ms next
    stand_rest = record { text = rest_text; place = p.place ∙ omega (arith, length-append (forms ns) (forms ms), ap length (forms_append ns ms)) }

  -- nothing after them
  pub stand_last : (at next : ℕ) (ns : List ℕ) → Stand s at (ns ++ []) next → Stand s at ns next
  stand_last at next ns = subst (λ ms. Stand s at ms next) (append-nil ns)

-- the forms of numbers stand in their own file, from its first place to its end
pub stand_own : (ns : List ℕ) → Stand (forms ns) 0 ns (length (forms ns))
stand_own ns = record { text = sym (append-nil (forms ns)) ∙ ap (λ t. forms ns ++ t) (sym (drop-length (forms ns))); place = omega arith }

-- ---- in turns

module _ (s : List ℕ) {T : Type 0} (turn : ℕ → T → T) where
  -- where turn i finds the numbers of the i-th and does with them as it should, n turns do so with the numbers of all
  pub turns_stand : (Done : ℕ → ℕ → T → Type 0) (each : ℕ → List ℕ) (n : ℕ)
      → ((i at next : ℕ) (t : T) → i < n → Stand s at (each i) next → Done i at t → Done (suc i) next (turn i t))
      → (at next : ℕ) (t : T) → Stand s at (join n each) next → Done 0 at t → Done n next (iter turn n t)
  unfolding join iter
  turns_stand Done each zero step at next t p d = subst (λ m. Done zero m t) (sym (stand_here s at next p)) d
  turns_stand Done each (suc n) step at next t p d =
      step n _ next (iter turn n t) (le_refl (suc n)) (stand_rest s at next (join n each) (each n) p)
      (turns_stand Done each n (λ i a b u l. step i a b u (omega arith)) at _ t (stand_first s at next (join n each) (each n) p) d)
