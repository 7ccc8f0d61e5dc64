-- Layouts beside branch T: some that load, and some that break one rule and nothing else (`proofs/OtherLayouts`).
use Rattle.std.specs.Prelude.{ℕ, Bool, List, [], ◌∷◌}
use Rattle.layout.specs.declared.Layout.{Layout}
use Rattle.layout.specs.Rules.{rule1, rule2, rule3, rule4, rule5, rule6, rule7}

-- ---- they load

-- branch T's line with two blocks and no points: sections 0 (inner at A), 1, 2 (blocks), 3 (inner at B), 4; route 0 goes out at A, 1 in at B
abbrev pub two_blocks : List ℕ
two_blocks =
    1 ∷ 5 ∷ 0 ∷ 3 ∷ 1
    ∷ 2 ∷ 1 ∷ 2 ∷ 0 ∷ 3 ∷ 1 ∷ 2 ∷ 0
    ∷ 2
    ∷ 0 ∷ 2 ∷ 0 ∷ 0 ∷ 0 ∷ 1 ∷ 0 ∷ 0 ∷ 0
    ∷ 2 ∷ 1 ∷ 0 ∷ 1 ∷ 0 ∷ 2 ∷ 3 ∷ 4 ∷ 0 ∷ 0
    ∷ 0
    ∷ []

-- `two_blocks` in version 2 with six distants (L2), its route in at B diverging. Its block signals are 3, A to B, and 4, B to A; free-standing distants announce
-- 2, 3 and 4, one on the mast of 0 announces 3, one on that of 3 announces 2, and one on that of 2 announces 3
abbrev pub with_distants : List ℕ
with_distants =
    2 ∷ 5 ∷ 0 ∷ 3 ∷ 1
    ∷ 2 ∷ 1 ∷ 2 ∷ 0 ∷ 3 ∷ 1 ∷ 2 ∷ 0
    ∷ 6 ∷ 0 ∷ 2 ∷ 0 ∷ 3 ∷ 0 ∷ 4 ∷ 1 ∷ 3 ∷ 4 ∷ 2 ∷ 3 ∷ 3
    ∷ 2
    ∷ 0 ∷ 2 ∷ 0 ∷ 0 ∷ 0 ∷ 1 ∷ 0 ∷ 0 ∷ 0
    ∷ 2 ∷ 1 ∷ 0 ∷ 1 ∷ 1 ∷ 2 ∷ 3 ∷ 4 ∷ 0 ∷ 0
    ∷ 0
    ∷ []

-- a line of three blocks, sections 1 to 3, and one of two, sections 5 and 6 (L2). Their block signals are 4 and 5, A to B, 6 and 7, B to A, of the first, and 8
-- and 9 of the second; a free-standing distant announces 6
abbrev pub three_and_two : List ℕ
three_and_two =
    2 ∷ 9 ∷ 0 ∷ 4 ∷ 2
    ∷ 3 ∷ 1 ∷ 2 ∷ 3 ∷ 0 ∷ 4 ∷ 0 ∷ 1 ∷ 0
    ∷ 2 ∷ 5 ∷ 6 ∷ 7 ∷ 8 ∷ 2 ∷ 3 ∷ 0
    ∷ 1 ∷ 0 ∷ 6
    ∷ 0
    ∷ 0
    ∷ []

-- two lines, each of one block, sections 1 and 4; route 0 goes out at A of the first
abbrev pub two_lines : List ℕ
two_lines =
    1 ∷ 6 ∷ 0 ∷ 5 ∷ 2
    ∷ 1 ∷ 1 ∷ 0 ∷ 2 ∷ 1 ∷ 2 ∷ 0
    ∷ 1 ∷ 4 ∷ 3 ∷ 5 ∷ 3 ∷ 4 ∷ 0
    ∷ 1
    ∷ 0 ∷ 2 ∷ 0 ∷ 0 ∷ 0 ∷ 1 ∷ 0 ∷ 0 ∷ 0
    ∷ 0
    ∷ []

-- one line of one block, section 1; routes 0 and 1, from signals 0 and 3, both go out at A, and conflict
abbrev pub two_exits : List ℕ
two_exits =
    1 ∷ 3 ∷ 0 ∷ 4 ∷ 1
    ∷ 1 ∷ 1 ∷ 0 ∷ 2 ∷ 1 ∷ 2 ∷ 0
    ∷ 2
    ∷ 0 ∷ 2 ∷ 0 ∷ 0 ∷ 0 ∷ 1 ∷ 0 ∷ 0 ∷ 0
    ∷ 3 ∷ 2 ∷ 0 ∷ 0 ∷ 0 ∷ 1 ∷ 0 ∷ 0 ∷ 0
    ∷ 1 ∷ 0 ∷ 1
    ∷ []

-- one line of one block, section 1; route 0 goes out at A, route 1 in at B by 2 and 3, route 2 in at A by 0 and 4, and 0 and 2 conflict (L3)
abbrev pub both_ends : List ℕ
both_ends =
    1 ∷ 5 ∷ 0 ∷ 3 ∷ 1
    ∷ 1 ∷ 1 ∷ 0 ∷ 2 ∷ 1 ∷ 2 ∷ 0
    ∷ 3
    ∷ 0 ∷ 2 ∷ 0 ∷ 0 ∷ 0 ∷ 1 ∷ 0 ∷ 0 ∷ 0
    ∷ 2 ∷ 1 ∷ 0 ∷ 1 ∷ 0 ∷ 2 ∷ 2 ∷ 3 ∷ 0 ∷ 0
    ∷ 1 ∷ 1 ∷ 0 ∷ 0 ∷ 0 ∷ 2 ∷ 0 ∷ 4 ∷ 0 ∷ 0
    ∷ 1 ∷ 0 ∷ 2
    ∷ []

-- one line of one block, section 1; route 0 goes out at A, route 1 in at B by 2 and 3, with section 4 as its overlap
abbrev pub with_overlap : List ℕ
with_overlap =
    1 ∷ 5 ∷ 0 ∷ 3 ∷ 1
    ∷ 1 ∷ 1 ∷ 0 ∷ 2 ∷ 1 ∷ 2 ∷ 0
    ∷ 2
    ∷ 0 ∷ 2 ∷ 0 ∷ 0 ∷ 0 ∷ 1 ∷ 0 ∷ 0 ∷ 0
    ∷ 2 ∷ 1 ∷ 0 ∷ 1 ∷ 0 ∷ 2 ∷ 2 ∷ 3 ∷ 1 ∷ 4 ∷ 0
    ∷ 0
    ∷ []

-- one line of one block, section 1, with point 0, whose own section is 3, to the left
abbrev pub with_line_point : List ℕ
with_line_point =
    1 ∷ 4 ∷ 1 ∷ 3 ∷ 3 ∷ 1
    ∷ 1 ∷ 1 ∷ 0 ∷ 2 ∷ 1 ∷ 2 ∷ 1 ∷ 0 ∷ 1
    ∷ 0
    ∷ 0
    ∷ []

-- ---- they break a rule

-- rule 1 is broken: the inner section at B is the block, section 1
abbrev pub inner_is_block : List ℕ
inner_is_block =
    1 ∷ 3 ∷ 0 ∷ 3 ∷ 1
    ∷ 1 ∷ 1 ∷ 0 ∷ 1 ∷ 1 ∷ 2 ∷ 0
    ∷ 2
    ∷ 0 ∷ 2 ∷ 0 ∷ 0 ∷ 0 ∷ 1 ∷ 0 ∷ 0 ∷ 0
    ∷ 2 ∷ 1 ∷ 0 ∷ 1 ∷ 0 ∷ 2 ∷ 1 ∷ 2 ∷ 0 ∷ 0
    ∷ 0
    ∷ []

-- rule 1 is broken: two lines have one block, section 1; routes 0 and 1 go out at A of each
abbrev pub shared_block : List ℕ
shared_block =
    1 ∷ 5 ∷ 0 ∷ 6 ∷ 2
    ∷ 1 ∷ 1 ∷ 0 ∷ 2 ∷ 2 ∷ 3 ∷ 0
    ∷ 1 ∷ 1 ∷ 3 ∷ 4 ∷ 4 ∷ 5 ∷ 0
    ∷ 2
    ∷ 0 ∷ 2 ∷ 0 ∷ 0 ∷ 0 ∷ 1 ∷ 0 ∷ 0 ∷ 0
    ∷ 1 ∷ 2 ∷ 1 ∷ 0 ∷ 0 ∷ 1 ∷ 3 ∷ 0 ∷ 0
    ∷ 0
    ∷ []

-- rule 1 is broken: two lines of two blocks have the second block in common, section 2
abbrev pub shared_second : List ℕ
shared_second =
    1 ∷ 7 ∷ 0 ∷ 4 ∷ 2
    ∷ 2 ∷ 1 ∷ 2 ∷ 0 ∷ 4 ∷ 0 ∷ 1 ∷ 0
    ∷ 2 ∷ 3 ∷ 2 ∷ 5 ∷ 6 ∷ 2 ∷ 3 ∷ 0
    ∷ 0
    ∷ 0
    ∷ []

-- rule 2 is broken: signal 2 is the entrance signal at B of both lines; route 1 goes in at B of the second, by 4 and 6, with the block of the first as
-- its overlap
abbrev pub shared_entrance : List ℕ
shared_entrance =
    1 ∷ 7 ∷ 0 ∷ 4 ∷ 2
    ∷ 1 ∷ 1 ∷ 0 ∷ 2 ∷ 1 ∷ 2 ∷ 0
    ∷ 1 ∷ 5 ∷ 3 ∷ 4 ∷ 3 ∷ 2 ∷ 0
    ∷ 2
    ∷ 0 ∷ 2 ∷ 0 ∷ 0 ∷ 0 ∷ 1 ∷ 0 ∷ 0 ∷ 0
    ∷ 2 ∷ 1 ∷ 1 ∷ 1 ∷ 0 ∷ 2 ∷ 4 ∷ 6 ∷ 1 ∷ 1 ∷ 0
    ∷ 0
    ∷ []

-- rule 5 is broken: the route in at B has the path 3, 4 without the inner section 2, and the block as its overlap
abbrev pub inner_passed_by : List ℕ
inner_passed_by =
    1 ∷ 5 ∷ 0 ∷ 3 ∷ 1
    ∷ 1 ∷ 1 ∷ 0 ∷ 2 ∷ 1 ∷ 2 ∷ 0
    ∷ 2
    ∷ 0 ∷ 2 ∷ 0 ∷ 0 ∷ 0 ∷ 1 ∷ 0 ∷ 0 ∷ 0
    ∷ 2 ∷ 1 ∷ 0 ∷ 1 ∷ 0 ∷ 2 ∷ 3 ∷ 4 ∷ 1 ∷ 1 ∷ 0
    ∷ 0
    ∷ []

-- rule 6 is broken: `two_exits` with no conflict listed
abbrev pub unlisted_exits : List ℕ
unlisted_exits =
    1 ∷ 3 ∷ 0 ∷ 4 ∷ 1
    ∷ 1 ∷ 1 ∷ 0 ∷ 2 ∷ 1 ∷ 2 ∷ 0
    ∷ 2
    ∷ 0 ∷ 2 ∷ 0 ∷ 0 ∷ 0 ∷ 1 ∷ 0 ∷ 0 ∷ 0
    ∷ 3 ∷ 2 ∷ 0 ∷ 0 ∷ 0 ∷ 1 ∷ 0 ∷ 0 ∷ 0
    ∷ 0
    ∷ []

-- rule 7 is broken: the distant of one signal stands on that signal's mast (L2)
abbrev pub announces_itself : List ℕ
announces_itself = 2 ∷ 1 ∷ 0 ∷ 1 ∷ 0 ∷ 1 ∷ 1 ∷ 0 ∷ 0 ∷ 0 ∷ []

-- which of the seven rules a layout keeps
abbrev pub kept : Layout → List Bool
kept L = rule1 L ∷ rule2 L ∷ rule3 L ∷ rule4 L ∷ rule5 L ∷ rule6 L ∷ rule7 L ∷ []
