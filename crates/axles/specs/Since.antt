-- L1: what was counted since the reset, with counts that roll over, and what a free reading needs.
use Rattle.std.specs.Prelude.{◌≡◌, ℕ, ◌+◌, ◌%◌, ◌≤◌, true, ◌++◌, ℤ, pos, ◌-ℤ◌, ◌==◌}
use Rattle.laws.specs.Choice.{when◌then◌else◌}
use Rattle.track.specs.Codes.{axles_in, axles_out}
use Rattle.axles.specs.Rounds.{around}
use Rattle.axles.specs.HeadLog.{HeadLog, both_speak, resets_in, number_told, was_reset}
use Rattle.axles.specs.declared.Head.{Head}
use Rattle.axles.specs.declared.Axles.{Axles}
use Rattle.axles.specs.declared.Said.{Said}

-- ---- counts of 16 bits that roll over

-- L1: a count is told by 16 bits, 0 .. 65,535, and rolls over
unfoldable pub rolled : ℕ → ℕ
rolled n = n % 65536

-- a section's heads, which at the reset had counted a0, a1 in and b0, b1 out since their own start, and since then i0, i1 in and o0, o1 out: any whole
-- numbers
pub record Counted (x : Axles) (a0 a1 b0 b1 i0 i1 o0 o1 : ℕ) : Type 0 where
  pub in0 : x.head0.inward ≡ rolled (a0 + i0)
  pub in1 : x.head1.inward ≡ rolled (a1 + i1)
  pub out0 : x.head0.outward ≡ rolled (b0 + o0)
  pub out1 : x.head1.outward ≡ rolled (b1 + o1)
  pub at_reset : x.sum ≡ around (pos (a0 + a1) -ℤ pos (b0 + b1))

-- a count after n axles more
unfoldable pub more : ℕ → ℕ → ℕ
more n count = rolled (count + n)

-- a section's heads after n axles in past head i and out past head j, each 0 or else 1
unfoldable pub passed : ℕ → ℕ → ℕ → Axles → Axles
passed n i j x = record {
  head0 = record {
    inward = when i == 0 then more n x.head0.inward else x.head0.inward;
    outward = when j == 0 then more n x.head0.outward else x.head0.outward;
    hasin = x.head0.hasin;
    hasout = x.head0.hasout;
  };
  head1 = record {
    inward = when i == 0 then x.head1.inward else more n x.head1.inward;
    outward = when j == 0 then x.head1.outward else more n x.head1.outward;
    hasin = x.head1.hasin;
    hasout = x.head1.hasout;
  };
  sum = x.sum;
  proof = x.proof;
}

-- ---- a count told again

-- head h of a section: 0 or else 1
unfoldable pub head_of : Axles → ℕ → Head
head_of x h = when h == 0 then x.head0 else x.head1

-- an event of kind 11 or 12 with the count that is held of its head
pub data Repeats (x : Axles) (e : Said) : Type 0 where
  again_in : e.kind ≡ axles_in → e.count ≡ (head_of x e.head).inward → Repeats x e
  again_out : e.kind ≡ axles_out → e.count ≡ (head_of x e.head).outward → Repeats x e

-- ---- what a free reading needs

-- a number in 1 to 255
pub record Few (z : ℤ) : Type 0 where
  pub axles : ℕ
  pub some : 1 ≤ axles
  pub most : axles ≤ 255
  pub are : z ≡ pos axles

-- since the last reset there was a moment with the number in 1 to 255 and neither head silent: the log up to it has a reset, and what was said since none
pub record ProvedSince (es : HeadLog) : Type 0 where
  pub since : HeadLog
  pub moment : HeadLog
  pub parts : es ≡ since ++ moment
  pub was_reset_law : was_reset moment ≡ true
  pub no_other : resets_in es ≡ resets_in moment
  pub spoke : both_speak moment ≡ true
  pub few : Few (number_told moment)

-- neither head is silent, the last reset is proved by such a moment, and the number now is 0
pub record FreeFrom (es : HeadLog) : Type 0 where
  pub speak : both_speak es ≡ true
  pub proved_then : ProvedSince es
  pub none_left : number_told es ≡ pos 0
