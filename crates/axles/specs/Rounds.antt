-- L1: whole numbers taken round 65,536, as signed numbers from -32,768 to 32,767.
use Rattle.std.specs.Prelude.{◌≡◌, ℕ, ◌-◌, ◌*◌, ◌%◌, ◌<◌, ℤ, pos, negsuc, ◌+ℤ◌, ◌-ℤ◌, nat_lt}
use Rattle.std.specs.Int.Signed.{mag}
use Rattle.laws.specs.Choice.{when◌then◌else◌}

-- z taken round 65,536: the one of 0 .. 65,535 that differs from z by a multiple of 65,536
unfoldable pub around : ℤ → ℕ
around (pos n) = n % 65536
around (negsuc n) = 65535 - n % 65536

-- one of 0 .. 65,535 as a signed number from -32,768 to 32,767
unfoldable pub signed : ℕ → ℤ
signed n = when nat_lt n 32768 then pos n else (pos n -ℤ pos 65536)

-- the same as a plain statement: n is z, taken round 65,536 as a signed number
pub record Rounded (z n : ℤ) : Type 0 where
  -- from -32,768 to 32,767: `mag` of k and of -(k + 1) is k
  pub ranges : mag n < 32768
  -- rounds added to z and to n make the two equal
  pub rounds : ℕ
  pub back : ℕ
  pub differ : z +ℤ pos (rounds * 65536) ≡ n +ℤ pos (back * 65536)
