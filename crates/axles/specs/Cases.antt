-- L1: short runs of one section's heads.
use Rattle.std.specs.Prelude.{ℕ, List, [], ◌∷◌, ℤ}
use Rattle.axles.specs.Heads.{number, axles_after, axles_reading}
use Rattle.axles.specs.HeadLog.{said}
use Rattle.axles.specs.declared.Axles.{Axles}
use Rattle.axles.specs.declared.Said.{Said}

-- what the section reads after each event of a list, the first one first
unfoldable pub readings : Axles → List Said → List ℕ
readings x [] = []
readings x (e ∷ es) = axles_reading (axles_after x e) ∷ readings (axles_after x e) es

-- its number after each
unfoldable pub numbers : Axles → List Said → List ℤ
numbers x [] = []
numbers x (e ∷ es) = number (axles_after x e) ∷ numbers (axles_after x e) es

-- the counts of two heads that have just started, and a reset
abbrev pub started : List Said
started = said 11 0 0 ∷ said 12 0 0 ∷ said 11 1 0 ∷ said 12 1 0 ∷ said 14 0 0 ∷ []

-- the counts of two heads, one at 65,535 in, and a reset
abbrev pub at_the_end : List Said
at_the_end = said 11 0 65535 ∷ said 12 0 7 ∷ said 11 1 0 ∷ said 12 1 9 ∷ said 14 0 0 ∷ []

-- two axles in past that head, which rolls over to 1; both out past the other, one too many out, and one in there
abbrev pub rolls_over : List Said
rolls_over = said 11 0 1 ∷ said 12 1 10 ∷ said 12 1 11 ∷ said 12 1 12 ∷ said 11 1 1 ∷ []

-- the ends: 0 before any axle came; 255, 256, 32,767, -32,768, -1, and 0 again
abbrev pub ends : List Said
ends = said 11 0 0 ∷ said 11 0 255 ∷ said 11 0 256 ∷ said 11 0 32767 ∷ said 11 0 32768 ∷ said 11 0 65535 ∷ said 11 0 0 ∷ []

-- three axles in; a head is silent, and a reset meanwhile counts for nothing; its counts come back with the three out; a reset
abbrev pub silence : List Said
silence = said 11 0 3 ∷ said 13 1 0 ∷ said 14 0 0 ∷ said 11 1 5 ∷ said 12 1 8 ∷ said 14 0 0 ∷ []
