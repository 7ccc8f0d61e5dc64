-- The tables of a state by their names, as the refusals of orders look at them (section 3).
use Rattle.std.specs.Prelude.{ℕ, List, []}

-- what sections and points read; the phases of routes; the directions of lines; the stages and the bars of blocks; what lamps report (L3)
pub record Tables : Type 0 where
  pub section : List ℕ
  pub point : List ℕ
  pub phase : List ℕ
  pub direction : List ℕ
  pub stage : List ℕ
  pub bar : List ℕ
  pub lamp : List ℕ

-- stands for a table that a refusal does not look at
abbrev pub unasked : List ℕ
unasked = []
