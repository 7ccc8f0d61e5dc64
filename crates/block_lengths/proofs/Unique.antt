-- No second result meets the contract of a public function. `Post` is the contract itself, as the function is proved to meet it.
use mathlib.Core.Path.{◌≡◌, refl, ap}
use native.Mathlib.Omega.{arith}
use Rattle.std.specs.Prelude.{Result, Ok, Err}
use Rattle.laws.proofs.Only.{Determines, only}
use Rattle.block_lengths.specs.declared.BlockLengths.{BlockLengths}
use Rattle.block_lengths.specs.declared.LengthsAnswer.{LengthsAnswer}
use Rattle.block_lengths.specs.declared.Refusal.{Refusal}
use Rattle.block_lengths.specs.declared.Refusal.TheVariants.{BadHeadway, BadSpeed}
use Rattle.block_lengths.specs.Lengths.{refusal}
use Rattle.block_lengths.specs.Told.{told}
use Rattle.block_lengths.proofs.lengths.Reads as lengths
use Rattle.block_lengths.proofs.hiruketawha_lengths.Reads as hiruketawha_lengths
use Rattle.block_lengths.proofs.metres.millimetres.Reads as millimetres
use Rattle.block_lengths.proofs.paper.speed_of.Reads as speed_of

-- two results that are told alike are one: a refusal has its number, and the lengths have 0
told_one : (r q : Result BlockLengths Refusal) → told r ≡ told q → r ≡ q
unfolding refusal
told_one (Ok a) (Ok b) e = ap Ok (ap (λ (x : LengthsAnswer). x.lengths) e)
told_one (Ok a) (Err BadHeadway) e = absurd (omega (arith, ap (λ (x : LengthsAnswer). x.number) e))
told_one (Ok a) (Err BadSpeed) e = absurd (omega (arith, ap (λ (x : LengthsAnswer). x.number) e))
told_one (Err BadHeadway) (Ok b) e = absurd (omega (arith, ap (λ (x : LengthsAnswer). x.number) e))
told_one (Err BadSpeed) (Ok b) e = absurd (omega (arith, ap (λ (x : LengthsAnswer). x.number) e))
told_one (Err BadHeadway) (Err BadHeadway) e = refl
told_one (Err BadSpeed) (Err BadSpeed) e = refl
told_one (Err BadHeadway) (Err BadSpeed) e = absurd (omega (arith, ap (λ (x : LengthsAnswer). x.number) e))
told_one (Err BadSpeed) (Err BadHeadway) e = absurd (omega (arith, ap (λ (x : LengthsAnswer). x.number) e))

-- the answer for a headway in seconds and a speed in km/h
pub lengths_determined : Determines lengths.Post
lengths_determined κs a r q s p o = told_one r q (only p o)

-- the same of the C entry
pub hiruketawha_lengths_determined : Determines hiruketawha_lengths.Post
hiruketawha_lengths_determined κs a r q s = only

-- a length in whole millimetres
pub millimetres_determined : Determines millimetres.Post
millimetres_determined κs a r q s = only

-- the speed of a column
pub speed_of_determined : Determines speed_of.Post
speed_of_determined κs a r q s = only
