-- No room, the cold start's line, or the header.
use Rattle.event_file.proofs.Framing.{openings, cold_room, header_room}
use Rattle.event_file.proofs.frame.opening_line.Goals as goal

pub returns-then-out-most_line : goal.returns-then-out-most_line
returns-then-out-most_line c = search openings

pub put_cold-requires : goal.put_cold-requires
put_cold-requires c = search (openings, cold_room)

pub put_header-requires : goal.put_header-requires
put_header-requires c = search (openings, header_room)

pub returns-then-panel : goal.returns-then-panel
returns-then-panel c = search openings

pub returns-else-panel : goal.returns-else-panel
returns-else-panel c = search openings
