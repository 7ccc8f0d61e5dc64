-- Tables 7.1 and 7.2 of the paper (JD 550 chapter 7, 2.1.1): the greatest length in metres of two blocks one after the other.
use Rattle.std.specs.Prelude.{ℕ, ◌-◌, ◌/◌, ◌%◌, List, [], ◌∷◌, eqb, get_or, set}
use Rattle.laws.specs.Tests.{lowest}

-- the six speeds in km/h, one for each column
unfoldable pub speeds : List ℕ
speeds = 70 ∷ 90 ∷ 100 ∷ 130 ∷ 160 ∷ 200 ∷ []

-- table 7.1 as it is printed, where there is no stopping place: a row for each headway of 120, 180, .., 600 s
unfoldable pub printed71 : List (List ℕ)
printed71 =
    (1400 ∷ 1900 ∷ 2070 ∷ 2830 ∷ 3510 ∷ 4431 ∷ [])
    ∷ (2260 ∷ 3930 ∷ 3290 ∷ 4460 ∷ 5490 ∷ 6910 ∷ [])
    ∷ (3110 ∷ 4160 ∷ 4510 ∷ 6080 ∷ 7480 ∷ 9390 ∷ [])
    ∷ (3970 ∷ 5290 ∷ 5730 ∷ 7700 ∷ 9460 ∷ 11880 ∷ [])
    ∷ (4830 ∷ 6420 ∷ 6950 ∷ 9330 ∷ 11450 ∷ 14360 ∷ [])
    ∷ (5690 ∷ 7540 ∷ 8160 ∷ 10950 ∷ 13430 ∷ 16837 ∷ [])
    ∷ (6540 ∷ 8670 ∷ 9380 ∷ 12580 ∷ 15415 ∷ 19320 ∷ [])
    ∷ (7400 ∷ 9800 ∷ 10600 ∷ 14200 ∷ 17400 ∷ 21800 ∷ [])
    ∷ (8260 ∷ 10930 ∷ 11820 ∷ 15824 ∷ 19380 ∷ 24280 ∷ [])
    ∷ []

-- table 7.2 as it is printed, next to a stopping place and past it
unfoldable pub printed72 : List (List ℕ)
printed72 =
    (1210 ∷ 1670 ∷ 1820 ∷ 2490 ∷ 3090 ∷ 3910 ∷ [])
    ∷ (1980 ∷ 2670 ∷ 2290 ∷ 3930 ∷ 4850 ∷ 6110 ∷ [])
    ∷ (2740 ∷ 3670 ∷ 3980 ∷ 5370 ∷ 6610 ∷ 8310 ∷ [])
    ∷ (3500 ∷ 4670 ∷ 5060 ∷ 6810 ∷ 8370 ∷ 10510 ∷ [])
    ∷ (4260 ∷ 5670 ∷ 6140 ∷ 8250 ∷ 10130 ∷ 12710 ∷ [])
    ∷ (5020 ∷ 6670 ∷ 7220 ∷ 9690 ∷ 11890 ∷ 14910 ∷ [])
    ∷ (5780 ∷ 7670 ∷ 8300 ∷ 11130 ∷ 13650 ∷ 17110 ∷ [])
    ∷ (6540 ∷ 8670 ∷ 9380 ∷ 12570 ∷ 15410 ∷ 19310 ∷ [])
    ∷ (7300 ∷ 9670 ∷ 10460 ∷ 14010 ∷ 17170 ∷ 21510 ∷ [])
    ∷ []

-- the row of the highest of the tables' headways that is not above the one asked for, and by how many seconds it is below
unfoldable pub row_of : ℕ → ℕ
row_of headway = (headway - 120) / 60

unfoldable pub seconds_over : ℕ → ℕ
seconds_over headway = (headway - 120) % 60

-- the column of a speed; 6 where none of them has it
unfoldable pub column_of : ℕ → ℕ
column_of speed = lowest 6 (λ k. eqb speed (get_or speeds k 0))

-- the number of a table in a row and a column
unfoldable pub entry : List (List ℕ) → ℕ → ℕ → ℕ
entry t row column = get_or (get_or t row []) column 0

-- a table with another number in the place of a misprint
unfoldable pub corrected : List (List ℕ) → ℕ → ℕ → ℕ → List (List ℕ)
corrected t row column length = set t row (set (get_or t row []) column length)

-- L13, what is used: 180 s, 90 km/h in 7.1 (3930) as 3030; 180 s, 100 km/h in 7.2 (2290) as 2900; every other number as it is printed
unfoldable pub table71 : List (List ℕ)
table71 = corrected printed71 (row_of 180) (column_of 90) 3030

unfoldable pub table72 : List (List ℕ)
table72 = corrected printed72 (row_of 180) (column_of 100) 2900
