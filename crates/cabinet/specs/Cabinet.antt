-- What a call tells, as the records that the entries return have it (sections 2, 3, 7, L1).
use Rattle.panel.specs.declared.Drawn.{Drawn}
use Rattle.cabinet.specs.declared.Reply.{Reply}
use Rattle.cabinet.specs.declared.LoadReply.{LoadReply}
use Rattle.cabinet.specs.Calls.{Told}

-- of an event
unfoldable pub reply : Told → Reply
reply t = record { number = t.number; detail = t.detail }

-- of a layout file, and of a file of fitted sections
unfoldable pub load_reply : Told → LoadReply
load_reply t = record { number = t.number; detail = t.detail }

-- of a panel image: the detail is its length
unfoldable pub drawn_reply : Told → Drawn
drawn_reply t = record { number = t.number; length = t.detail }
