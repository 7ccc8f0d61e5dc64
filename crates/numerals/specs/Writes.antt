-- How text is written into a lent buffer.
use Rattle.std.specs.Prelude.{ℕ, ◌+◌, ◌≤◌, ◌≡◌, List, length}
use Rattle.std.proofs.lemmas.List.Edits.{sets}

-- the bytes xs, no more than `most`, were written into a buffer from a place on: what the buffer is then, and the next place
pub record Put (before : List ℕ) (at : ℕ) (xs : List ℕ) (most : ℕ) (after : List ℕ) (next : ℕ) : Type 0 where
  pub buffer : after ≡ sets before at xs
  pub place : next ≡ at + length xs
  pub near : next ≤ at + most
  pub long : length after ≡ length before
