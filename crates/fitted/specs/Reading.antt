-- What the code gives for a piece and for a file, by its numbers (L1).
use Rattle.std.specs.Prelude.{ℕ, Result, Ok, Err}
use Rattle.numbers.specs.declared.Fault.{Fault}
use Rattle.numbers.specs.Given.{number_of, detail_of}
use Rattle.layout.specs.declared.Layout.{Layout}
use Rattle.fitted.specs.declared.Piece.{Piece as PieceGiven}
use Rattle.fitted.specs.declared.End.{End}
use Rattle.fitted.specs.declared.End.TheVariants.{Later, AtEnd, Bad}
use Rattle.fitted.specs.Records.{Piece, Fitting}

-- where a piece ended, and why
abbrev pub place_of : End → ℕ
place_of (Later at) = at
place_of (AtEnd at) = at
place_of (Bad fault) = detail_of fault

abbrev pub stop_given : End → ℕ
stop_given (Later at) = 2
stop_given (AtEnd at) = 3
stop_given (Bad fault) = number_of fault

-- a piece
abbrev pub in_numbers : PieceGiven → Piece
in_numbers p = record { told = p.told; at = place_of p.end; stop = stop_given p.end }

-- the answer to a file for a layout
abbrev pub told_of : Layout → Result Layout Fault → Fitting
told_of L (Ok M) = record { number = 0; detail = 0; layout = M }
told_of L (Err f) = record { number = number_of f; detail = detail_of f; layout = L }
