-- No second result, and no second buffer, meets the contract of a public function.
-- Each `Post` is the contract itself, as the function is proved to meet it.
use mathlib.Core.Path.{◌≡◌, refl, ap}
use native.Mathlib.Omega.{arith}
use Rattle.laws.proofs.Only.{Determines, only}
use Rattle.numerals.proofs.Unique.{DeterminesBytes}
use Rattle.numbers.proofs.Same.{from_21, fault_same}
use Rattle.event_file.specs.declared.pieces.Piece.{Piece}
use Rattle.event_file.specs.declared.pieces.End.{End}
use Rattle.event_file.specs.declared.pieces.End.TheVariants.{Turned, Full, Later, AtEnd, Bad}
use Rattle.event_file.specs.Run.{place_of, stop_given}
use Rattle.event_file.proofs.Reading.{next_same, found_same}
use Rattle.event_file.proofs.next_event.Reads as next_event
use Rattle.event_file.proofs.frame.opening_line.Reads as opening_line
use Rattle.event_file.proofs.frame.fault_line.Reads as fault_line
use Rattle.event_file.proofs.pieces.bring_rest.Reads as bring_rest
use Rattle.event_file.proofs.pieces.run_piece.Reads as run_piece

-- what stands at a place of an event file
pub next_event_determined : Determines next_event.Post
next_event_determined κs a r q s p o = found_same r q (next_same _ _ (only p o))

-- what stands before the first event
pub opening_line_determined : DeterminesBytes (λ κs s. s.1.1.0.now) opening_line.Post
opening_line_determined κs a r q s t p o = (only p.place o.place, only p.buffer o.buffer)

-- the line of a file's fault
pub fault_line_determined : DeterminesBytes (λ κs s. s.1.1.1.0.now) fault_line.Post
fault_line_determined κs a r q s t p o = (only p.place o.place, only p.buffer o.buffer)

-- what is left, at the front
pub bring_rest_determined : DeterminesBytes (λ κs s. s.0.now) bring_rest.Post
bring_rest_determined κs a r q s t p o = (only p.place o.place, only p.buffer o.buffer)

-- two ends of one number, at one place, are one
end_same : (a b : End) → place_of a ≡ place_of b → stop_given a ≡ stop_given b → a ≡ b
end_same (Turned at) (Turned to) p e = ap Turned p
end_same (Turned at) (Full to) p e = cc
end_same (Turned at) (Later to) p e = cc
end_same (Turned at) (AtEnd to) p e = cc
end_same (Turned at) (Bad g) p e = absurd (omega (arith, from_21 g))
end_same (Full at) (Turned to) p e = cc
end_same (Full at) (Full to) p e = ap Full p
end_same (Full at) (Later to) p e = cc
end_same (Full at) (AtEnd to) p e = cc
end_same (Full at) (Bad g) p e = absurd (omega (arith, from_21 g))
end_same (Later at) (Turned to) p e = cc
end_same (Later at) (Full to) p e = cc
end_same (Later at) (Later to) p e = ap Later p
end_same (Later at) (AtEnd to) p e = cc
end_same (Later at) (Bad g) p e = absurd (omega (arith, from_21 g))
end_same (AtEnd at) (Turned to) p e = cc
end_same (AtEnd at) (Full to) p e = cc
end_same (AtEnd at) (Later to) p e = cc
end_same (AtEnd at) (AtEnd to) p e = ap AtEnd p
end_same (AtEnd at) (Bad g) p e = absurd (omega (arith, from_21 g))
end_same (Bad f) (Turned to) p e = absurd (omega (arith, from_21 f))
end_same (Bad f) (Full to) p e = absurd (omega (arith, from_21 f))
end_same (Bad f) (Later to) p e = absurd (omega (arith, from_21 f))
end_same (Bad f) (AtEnd to) p e = absurd (omega (arith, from_21 f))
end_same (Bad f) (Bad g) p e = ap Bad (fault_same f g e p)

-- two runs with the same numbers are the same
same_piece : (r q : Piece) → r.state ≡ q.state → r.count ≡ q.count → place_of r.end ≡ place_of q.end → r.written ≡ q.written
    → stop_given r.end ≡ stop_given q.end → r ≡ q
same_piece r q a b c d e = rw (a, b, d, end_same r.end q.end c e) refl

-- how far a run came, and the text
pub run_piece_determined : DeterminesBytes (λ κs s. s.1.1.1.1.1.1.1.0.now) run_piece.Post
run_piece_determined κs a r q s t p o = (
  same_piece r q (only p.state o.state) (only p.count o.count) (only p.at o.at) (only p.text.place o.text.place)
      (only p.stop o.stop),
  only p.text.buffer o.text.buffer,
)
