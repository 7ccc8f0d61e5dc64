-- The file of fitted sections, a piece at a time (L1).
use Rattle.std.specs.Prelude.{ℕ, ◌+◌, Bool, true, false, List, [], ◌∷◌, ◌++◌, drop, eqb}
use Rattle.laws.specs.Choice.{when◌then◌else◌}
use Rattle.layout.specs.declared.Layout.{Layout}
use Rattle.fitted.specs.declared.Told.{Told}
use Rattle.fitted.specs.Records.{Piece}
use Rattle.fitted.specs.Records.{Fitting}
use Rattle.fitted.specs.Numbers.{Numbers, from_place}
use Rattle.fitted.specs.Fitted.{with_told, none_told, tell_all}

-- why reading ended, by the fault that was met, 0 where the bytes ended: 22 a bad number; 2 the next number lies past the end of a piece that is not the
-- file's last; 3 the file's end; 21 it ends inside a number
unfoldable pub stop_of : Bool → ℕ → ℕ
stop_of last fault = when eqb fault 22 then 22 else when last then (when eqb fault 0 then 3 else fault) else 2

-- a piece that was read as far as a place
unfoldable pub ended : Bool → Told → ℕ → ℕ → Piece
ended last t at fault = record { told = t; at = at; stop = stop_of last fault }

-- the numbers of a piece of the file from a place on, after what was told before
unfoldable pub piece_of : ℕ → Bool → List ℕ → Told → ℕ → Piece
piece_of sections last bytes t at =
    let r : Numbers = from_place bytes at in
    ended last (tell_all sections t r.list) r.place r.fault

-- the answer to a file that was read to its end or to a fault
unfoldable pub answer : Layout → Piece → Fitting
answer L p =
    when eqb p.stop 3 then record { number = 0; detail = 0; layout = with_told L p.told } else record { number = p.stop; detail = p.at; layout = L }

-- ---- a file of any length: what lies in the buffer is read, what is left of it is brought to the front, and the next read put behind it

-- a piece whose place is told of the file, of which so many bytes lie before the buffer's
unfoldable pub in_file : ℕ → Piece → Piece
in_file gone p = record { told = p.told; at = gone + p.at; stop = p.stop }

-- the bytes of the buffer and the reads still to come, of which the last gives nothing more
unfoldable pub told_in_reads : ℕ → List ℕ → List (List ℕ) → ℕ → Told → Piece
told_in_reads sections bytes [] gone t = in_file gone (piece_of sections true bytes t 0)
told_in_reads sections bytes (r ∷ reads) gone t =
    let p : Piece = piece_of sections false bytes t 0 in
    when eqb p.stop 2 then told_in_reads sections (drop p.at bytes ++ r) reads (gone + p.at) p.told else in_file gone p

-- the answer to a file by its reads, the first and those after it
unfoldable pub fit_in_reads : Layout → List ℕ → List (List ℕ) → Fitting
fit_in_reads L first reads = answer L (told_in_reads L.sections first reads 0 none_told)
