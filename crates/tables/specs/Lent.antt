-- The tables of a state as the code lends them: `Tables` of src/.
use Rattle.tables.specs.declared.Tables as lent
use Rattle.tables.specs.Tables.{Tables}

-- what is lent
abbrev pub tables_of : lent.Tables → Tables
tables_of t = record { section = t.section.now; point = t.point.now; phase = t.phase.now; direction = t.direction.now; stage = t.stage.now; bar = t.bar.now; lamp = t.lamp.now }
