-- A word that a person writes for one number.
use Rattle.std.specs.Prelude.{ℕ, Bool, true, false, List, eqb, length, get_or, Option, Some, None}
use Rattle.laws.specs.Choice.{when◌then◌else◌}
use Rattle.laws.specs.Tables.{iter}
use Rattle.laws.specs.Tests.{all_below}
use Rattle.number_text.specs.Text.{is_digit, next_value}

-- it is a number where all its bytes are digits, and there is at least one
unfoldable pub is_number : List ℕ → Bool
is_number word = when eqb (length word) 0 then false else all_below (length word) (λ i. is_digit (get_or word i 0))

-- the number of a word of digits; of one above 65,535 some number above 65,535
unfoldable pub number_of : List ℕ → ℕ
number_of word = iter (λ i value. next_value value (get_or word i 0)) (length word) 0

-- whether a word is a number, and which
pub record Word : Type 0 where
  pub good : Bool
  pub value : ℕ

-- a word as it is read: 0 where it is no number
unfoldable pub word_of : List ℕ → Word
word_of word = when is_number word then record { good = true; value = number_of word } else record { good = false; value = 0 }

-- the number of a word as it is read, where it is one
unfoldable pub number_in : Word → Option ℕ
number_in w = when w.good then Some w.value else None
