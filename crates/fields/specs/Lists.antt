-- The lists of the layout file: a count, then so many numbers (section 2).
use Rattle.std.specs.Prelude.{ℕ, List, set, replicate}
use Rattle.laws.specs.Tables.{iter}
use Rattle.track.specs.Sizes.{most_listed}
use Rattle.fields.specs.declared.Cursor.{Cursor}
use Rattle.fields.specs.declared.Items.{Items}
use Rattle.fields.specs.declared.Points.{Points}
use Rattle.fields.specs.Fields.{code, reference}

-- the i-th number of a list of objects
unfoldable pub item_turn : List ℕ → ℕ → ℕ → Items → Items
item_turn s objects i t =
    let d : Cursor = reference s t.cur objects in
    record { cur = d; count = t.count; item = set t.item i d.value }

-- a count, low to high, and so many numbers of objects
unfoldable pub items : List ℕ → Cursor → ℕ → ℕ → ℕ → Items
items s c low high objects =
    let d : Cursor = code s c low high in
    iter (item_turn s objects) d.value (record { cur = d; count = d.value; item = replicate most_listed 0 })

-- the i-th point, then its position: 1 left or 2 right
unfoldable pub point_turn : List ℕ → ℕ → ℕ → Points → Points
point_turn s objects i t =
    let a : Cursor = reference s t.cur objects in
    let b : Cursor = code s a 1 2 in
    record { cur = b; count = t.count; point = set t.point i a.value; position = set t.position i b.value }

-- points 0..8 as (point, position)
unfoldable pub points : List ℕ → Cursor → ℕ → Points
points s c objects =
    let d : Cursor = code s c 0 most_listed in
    iter (point_turn s objects) d.value (record { cur = d; count = d.value; point = replicate most_listed 0; position = replicate most_listed 0 })
