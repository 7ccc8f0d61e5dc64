-- How many of each there may be (section 2): the most of each, which is also the length of the table that holds them.
use Rattle.std.specs.Prelude.{ℕ}

-- sections, points, main signals
abbrev pub most_sections : ℕ
most_sections = 64

abbrev pub most_points : ℕ
most_points = 32

abbrev pub most_signals : ℕ
most_signals = 32

-- lines, the blocks of one line, and the places of all blocks of all lines in a table of blocks
abbrev pub most_lines : ℕ
most_lines = 8

abbrev pub most_blocks : ℕ
most_blocks = 8

abbrev pub most_places : ℕ
most_places = 64

-- lamps (L3), one for each main and block signal: a line of eight blocks has seven block signals each way
abbrev pub most_lamps : ℕ
most_lamps = 144

-- distants (L2); the last version of the layout file
abbrev pub most_distants : ℕ
most_distants = 32

abbrev pub last_version : ℕ
last_version = 2

-- train routes, of which the layout has a record each; all routes that have a number, a phase and conflicts. Today all routes are train routes
abbrev pub most_train_routes : ℕ
most_train_routes = 48

abbrev pub most_routes : ℕ
most_routes = 48

-- pairs of routes: the places of the table of conflicts, for each two routes both ways; the pairs of train routes that a file may list
abbrev pub most_pairs : ℕ
most_pairs = 2304

abbrev pub most_conflicts : ℕ
most_conflicts = 1128

-- the entries of a list of a line or a route: blocks, path, overlap, points; the sections of an overlap
abbrev pub most_listed : ℕ
most_listed = 8

abbrev pub most_overlap : ℕ
most_overlap = 4
