-- A long file: reading stops before its end, so that it is answered as its first bytes are.
use Prim.Native.Nat.{ℕ, zero, suc, ◌+◌, ◌<◌, ◌≤◌}
use mathlib.Core.Path.{◌≡◌, refl, ap}
use mathlib.Core.List.{List}
use native.Mathlib.Decide.{dec_lt}
use native.Mathlib.Omega.{arith}
use borrow.Author.Tests.{lt-ltb, ne_eqb}
use lib.ListN.{length, take}
use lib.Seq.{length-take-le, get_or-take, take_all}
use Rattle.numbers.specs.Number.{max_groups, groups_at, number_at}
use Rattle.numbers.specs.Form.{Bytes}
use Rattle.layout.specs.Records.{Whole}
use Rattle.layout.specs.Load.{whole, finished, load}
use Rattle.layout_file.specs.Lengths.{whole_span, enough, buffer}
use Rattle.layout_file.proofs.Near.{Alike}
use Rattle.layout_file.proofs.Reach.{whole_near}

-- reading stops at this place at the latest: every part goes only so far
pub whole_stops : (s : List ℕ) → Bytes s → (whole s).cur.at ≤ whole_span
whole_stops s b =
    let A : Alike s s whole_span = record { bytes = b; numbers = λ at l. refl } in
    (whole_near A (omega arith)).moved

-- ---- the first k bytes of a longer file

module _ (s : List ℕ) (k : ℕ) (long : k ≤ length s) where
  -- so many bytes of a number inside them are read alike
  groups_alike : (n first at : ℕ) → at + n ≤ k → groups_at n (take k s) first at ≡ groups_at n s first at
  unfolding groups_at
  groups_alike zero first at h = refl
  groups_alike (suc n) first at h =
      rw (
        length-take-le k s long,
        get_or-take k s at 0 (omega arith),
        lt-ltb at k (omega arith),
        lt-ltb at (length s) (omega arith),
        groups_alike n first (at + 1) (omega arith),
      )

  -- and so is a number
  number_alike : (at : ℕ) → at + max_groups ≤ k → number_at (take k s) at ≡ number_at s at
  unfolding number_at
  number_alike at h = rw (groups_alike max_groups at at h)

  -- reading that stopped inside both is answered alike, whatever it met
  finished_alike : (w : Whole) → w.cur.at < k → finished w k ≡ finished w (length s)
  unfolding finished
  finished_alike w h = rw (ne_eqb w.cur.at k (omega arith), ne_eqb w.cur.at (length s) (omega arith))

  -- a file is answered as its first bytes are, where these are enough
  pub load_start : Bytes s → enough ≤ k → load (take k s) ≡ load s
  unfolding load
  load_start b h =
      let A : Alike s (take k s) whole_span = record { bytes = b; numbers = λ at l. number_alike at (omega arith) } in
      let near = whole_near A (omega arith) in
      rw (near.same, length-take-le k s long) (finished_alike (whole s) (omega arith))

-- every file is answered as what is taken of it into the buffer: a shorter one is all of it
pub load_buffer : (s : List ℕ) → Bytes s → load (take buffer s) ≡ load s
load_buffer s b = one (dec_lt (length s) buffer)
  where
    one : Dec (length s < buffer) → load (take buffer s) ≡ load s
    one (yes l) = ap load (take_all buffer s (omega arith))
    one (no l) = load_start s buffer (omega arith) b (omega arith)
