-- Where the reading of a text stands after a byte of a word.
use Prim.Native.Nat.{ℕ, ◌≤◌}
use mathlib.Core.Path.{◌≡◌}
use mathlib.Core.Bool.{true}
use borrow.Author.Tests.{leb-true}
use lib.Dec.{leb}
use Rattle.laws.proofs.Tests.{and_left}
use Rattle.number_text.specs.Text.{is_digit}
use Rattle.number_text.proofs.Decided.{decided}

-- a digit is not below `0`
pub digit_least : (byte : ℕ) → is_digit byte ≡ true → 48 ≤ byte
unfolding is_digit
digit_least byte e = leb-true 48 byte (and_left (leb 48 byte) (leb byte 57) e)

-- for a byte of a word
pub ruleset words = (digit_least, decided)
