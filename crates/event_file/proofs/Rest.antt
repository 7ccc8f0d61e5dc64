-- The bytes from one place of a buffer to another, brought to its front one after the other.
use Prim.Native.Nat.{ℕ, ◌+◌, ◌-◌, ◌<◌, ◌≤◌, min}
use mathlib.Core.Path.{◌≡◌, refl, sym, ap, subst, ◌∙◌}
use mathlib.Core.List.{List, [], ◌∷◌, ◌++◌}
use native.Mathlib.Numerals.{add-one}
use native.Mathlib.Omega.{arith}
use borrow.Author.Rules.{rules}
use lib.ListN.{length, take, drop, get_or, set, length-take, length-drop}
use lib.Seq.{take-suc, take_all, sets-eq, get_or-append-add, get_or-drop, get_or-take}
use Rattle.numerals.specs.Writes.{Put}
use Rattle.event_file.specs.Writes.{rest}
use Rattle.numerals.proofs.Writes.{put_one, put_then, put_within}

module _ (from till : ℕ) (a : List ℕ) where
  -- how many they are
  rest_length : length (rest from till a) ≡ min till (length a) - from
  unfolding rest
  rest_length = length-drop from (take till a) ∙ ap (λ n. n - from) (length-take till a)

  -- none yet
  pub rest_start : Put a 0 (take 0 (rest from till a)) 0 a 0
  rest_start = record { buffer = refl; place = refl; near = omega arith; long = refl }

  module _ (b : List ℕ) (i at : ℕ) (p : Put a 0 (take i (rest from till a)) i b i) (e : at ≡ from + i) where
    -- the byte that is read is still what it was, since what was written lies before it
    rest_byte : at < till → at < length b → get_or b at 0 ≡ get_or (rest from till a) i 0
    unfolding rest
    rest_byte h k =
        let ys : List ℕ = take i (drop from (take till a)) in
        let long = p.long in
        let place : i ≡ 0 + length ys = p.place in
        let far : at ≡ length ys + from = omega arith in
        let back : 0 + length ys + from ≡ from + i = omega arith in
        let before : from + i < till = omega arith in
        ap (λ xs. get_or xs at 0) (p.buffer ∙ sets-eq ys a 0 (omega arith))
        ∙ ap (λ m. get_or (ys ++ drop (0 + length ys) a) m 0) far
        ∙ get_or-append-add ys (drop (0 + length ys) a) from 0
        ∙ get_or-drop (0 + length ys) a from 0
        ∙ ap (λ m. get_or a m 0) back
        ∙ sym (get_or-drop from (take till a) i 0 ∙ get_or-take till a (from + i) 0 before)

    -- one more
    pub rest_on : at < till → at < length b → Put a 0 (take (i + 1) (rest from till a)) (i + 1) (set b i (get_or b at 0)) (i + 1)
    rest_on h k =
        let less : i < length (rest from till a) = omega (arith, rest_length, p.long) in
        let grown : take (i + 1) (rest from till a) ≡ take i (rest from till a) ++ (get_or b at 0 ∷ []) =
        ap (λ m. take m (rest from till a)) (add-one i) ∙ take-suc (rest from till a) i 0 less
        ∙ ap (λ x. take i (rest from till a) ++ (x ∷ [])) (sym (rest_byte h k)) in
        rw grown (put_then p (put_one (get_or b at 0)))

    -- all of them
    whole : length (rest from till a) ≤ i → Put a 0 (rest from till a) (length a) b i
    whole h =
        let all : take i (rest from till a) ≡ rest from till a = take_all i (rest from till a) h in
        let short : i ≤ length a = omega (arith, p.place, ap length all, rest_length) in
        subst (λ xs. Put a 0 xs (length a) b i) all (put_within (length a) short p)

    -- to the last place, or to the buffer's end where that comes first
    pub rest_end : (end : ℕ) → end ≡ min till (length a) → end ≤ at → Put a 0 (rest from till a) (length a) b i
    rest_end end l h = whole (omega (arith, rest_length))

pub ruleset rests = (rules, rest_start, rest_on, rest_end)
