-- A word written byte for byte.
use Prim.Native.Nat.{ℕ, ◌+◌, ◌≤◌}
use mathlib.Core.Path.{◌≡◌, refl, sym, ap, ◌∙◌}
use mathlib.Core.List.{List}
use native.Mathlib.Omega.{arith}
use lib.ListN.{length, take, drop}
use lib.Seq.{sets, length-sets}
use borrow.Rule.Slice.PartMut.{put_mid}
use Rattle.std.proofs.lemmas.Slice.{put_mid-paste}
use Rattle.std.proofs.lemmas.List.{append_assoc}
use Rattle.std.proofs.lemmas.List.Edits.{paste_all, sets-eq}
use Rattle.numerals.specs.Writes.{Put}

-- a part of the buffer, as long as the word and from a place on, that the word was copied to
pub word_put : (a xs ys : List ℕ) (at k : ℕ) → k ≡ length xs → ys ≡ xs → at + length xs ≤ length a → Put a at xs (length xs) (put_mid at k a ys) (at + length xs)
word_put a xs ys at k e q h =
    let same : put_mid at k a ys ≡ sets a at xs =
    put_mid-paste at k a ys xs (length xs) q (sym e) refl ∙ paste_all a at xs (length xs) refl ∙ sym (sets-eq xs a at h ∙ append_assoc (take at a) xs (drop (at + length xs) a)) in
    record { buffer = same; place = refl; near = omega arith; long = ap length same ∙ length-sets a at xs }
