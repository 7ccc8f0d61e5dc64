-- Every number up to the largest has exactly one accepted form, and what is read is what was written.
use Prim.Native.Nat.{ℕ, zero, suc, ◌+◌, ◌-◌, ◌*◌, ◌/◌, ◌%◌, ◌^◌, ◌<◌, ◌≤◌}
use native.Mathlib.Nat.{add-zero, pow-suc}
use native.Mathlib.Numerals.{sub-one}
use native.Mathlib.Omega.{arith}
use mathlib.Core.Path.{◌≡◌, refl, sym, ap, ◌∙◌}
use mathlib.Core.List.{List, [], ◌∷◌, ◌++◌, append-nil}
use lib.ListN.{length, get_or, drop, length-drop}
use lib.Seq.{drop-drop, drop-length, get_or-drop}
use lib.Dec.{ltb}
use borrow.Author.Tests.{ltb-true, ltb-false}
use Rattle.laws.proofs.Choice.{if_both}
use Rattle.numbers.specs.Number.{Value}
use Rattle.numbers.specs.Number.{max_groups, largest, groups_at, number_at}
use Rattle.numbers.specs.Form.{encode_in, encode, Bytes, OneForm}
use Rattle.numbers.proofs.Cases.{with_group_value, groups_last, groups_more, most_within}
use Rattle.numbers.proofs.Readings.{number_written, number_most}

-- ---- a byte that stands at a place
module _ (s : List ℕ) (at b : ℕ) (rest : List ℕ) (e : drop at s ≡ b ∷ rest) where
  -- it is what is read there
  at_head : get_or s at 0 ≡ b
  at_head = ap (λ k. get_or s k 0) (sym (add-zero at)) ∙ sym (get_or-drop at s 0 0) ∙ ap (λ l. get_or l 0 0) e

  -- its place is inside the string
  at_inside : at < length s
  at_inside = let d : length s - at ≡ suc (length rest) = sym (length-drop at s) ∙ ap length e in omega arith

  -- what stands after it
  at_tail : drop (at + 1) s ≡ rest
  at_tail = sym (drop-drop 1 at s) ∙ ap (drop 1) e

-- ---- what is written is read
module _ (s : List ℕ) (first : ℕ) (post : List ℕ) where
  -- a last byte
  decodes_last : (k n at : ℕ) → n < 128 → drop at s ≡ n ∷ post → groups_at (suc k) s first at ≡ Value n (at + 1)
  decodes_last k n at h e =
      let b : get_or s at 0 ≡ n = at_head s at n post e in
      sym (groups_last s first at (suc k) n (omega arith) (at_inside s at n post e) (sym b) (omega arith))

  -- a byte that is not the last, before a number that is read
  decodes_more : (k n at next : ℕ) (rest : List ℕ) → 128 ≤ n → drop at s ≡ (128 + n % 128) ∷ rest
      → groups_at k s first (at + 1) ≡ Value (n / 128) next → groups_at (suc k) s first at ≡ Value n next
  decodes_more k n at next rest h e g =
      let b : get_or s at 0 ≡ 128 + n % 128 = at_head s at (128 + n % 128) rest e in
      let v : get_or s at 0 - 128 + 128 * (n / 128) ≡ n = omega arith in
      sym (groups_more s first at (suc k) (get_or s at 0 - 128) (Value (n / 128) next) (Value n next) (omega arith)
      (at_inside s at (128 + n % 128) rest e) (omega arith) refl (rw sub-one (sym g))
      (ap (λ m. Value m next) (sym v) ∙ with_group_value first (get_or s at 0 - 128) (Value (n / 128) next) refl (omega arith)))

  -- a number's form, standing anywhere, is read as the number
  decodes : (k n at : ℕ) → n < 128 ^ suc k → drop at s ≡ encode_in (suc k) n ++ post
      → groups_at (suc k) s first at ≡ Value n (at + length (encode_in (suc k) n))
  unfolding encode_in
  decodes zero n at h =
      if_both (λ form. drop at s ≡ form ++ post → groups_at 1 s first at ≡ Value n (at + length form)) (ltb n 128)
      (λ t e. decodes_last zero n at (ltb-true n 128 t) e)
      (λ t e. absurd (omega (arith, ltb-false n 128 t)))
  decodes (suc k) n at h =
      if_both (λ form. drop at s ≡ form ++ post → groups_at (suc (suc k)) s first at ≡ Value n (at + length form)) (ltb n 128)
      (λ t e. decodes_last (suc k) n at (ltb-true n 128 t) e)
      (λ t e. decodes_more (suc k) n at _ _ (ltb-false n 128 t) e
      (decodes k (n / 128) (at + 1) (omega (arith, pow-suc 128 (suc k))) (at_tail s at _ _ e) ∙ ap (λ m. Value (n / 128) m) (omega arith)))

-- the form that is written for a number, standing anywhere in a string, is read as that number, with the place after it
pub accepts : (s : List ℕ) (at n : ℕ) (post : List ℕ) → n ≤ largest → drop at s ≡ encode n ++ post → number_at s at ≡ Value n (at + length (encode n))
unfolding number_at encode
accepts s at n post h e =
    sym (most_within at largest (groups_at max_groups s at at) (decodes s at post (max_groups - 1) n at (omega arith) e) h)

-- a number that is read is at most the largest, and what stands there, up to the place after it, is the form that is written for it
pub exact : (s : List ℕ) (at v next : ℕ) → Bytes s → number_at s at ≡ Value v next
    → (v ≤ largest) × (next ≡ at + length (encode v)) × (drop at s ≡ encode v ++ drop next s)
exact s at v next h e =
    let most = number_most s at refl e in
    let form = number_written s at h refl e in
    let again = accepts s at v (drop next s) most form in
    (most, cc, form)

-- every number up to the largest has exactly one accepted form
pub one_form : (n : ℕ) → n ≤ largest → OneForm n
one_form n h = record {
  read = accepts (encode n) 0 n [] h (sym (append-nil (encode n))) ∙ ap (λ k. Value n k) (omega arith);
  only = λ form b e. (exact form 0 n (length form) b e).2 ∙ rw (drop-length, append-nil);
}
