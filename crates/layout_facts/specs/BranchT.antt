-- Branch T, the layout of section 8.
use Rattle.std.specs.Prelude.{ℕ, List, [], ◌∷◌}
use Rattle.layout.specs.declared.Layout.{Layout}
use Rattle.layout.specs.Load.{load}

-- its 49 bytes: version, sections, points, signals, the number of lines; the line; the number of routes; the three routes; the conflicts
unfoldable pub branch_t : List ℕ
branch_t =
    1 ∷ 4 ∷ 1 ∷ 2 ∷ 4 ∷ 1
    ∷ 1 ∷ 1 ∷ 0 ∷ 2 ∷ 1 ∷ 2 ∷ 0
    ∷ 3
    ∷ 0 ∷ 2 ∷ 0 ∷ 0 ∷ 0 ∷ 1 ∷ 0 ∷ 0 ∷ 0
    ∷ 2 ∷ 1 ∷ 0 ∷ 1 ∷ 0 ∷ 2 ∷ 2 ∷ 3 ∷ 0 ∷ 1 ∷ 0 ∷ 1
    ∷ 3 ∷ 2 ∷ 0 ∷ 1 ∷ 0 ∷ 1 ∷ 2 ∷ 0 ∷ 1 ∷ 0 ∷ 1
    ∷ 1 ∷ 1 ∷ 2
    ∷ []

-- the layout that it loads
abbrev pub layout_t : Layout
layout_t = (load branch_t).layout
