-- No second result meets the contract of a public function. Each `Post` is the contract itself, as the function is proved to meet it.
use mathlib.Core.Path.{◌≡◌, refl, sym, ap, ◌∙◌}
use native.Mathlib.Omega.{arith}
use Rattle.std.specs.Prelude.{Result, Ok, Err}
use Rattle.laws.proofs.Only.{Determines, only}
use Rattle.numbers.specs.declared.Fault.{Fault}
use Rattle.numbers.specs.Given.{number_of, detail_of}
use Rattle.numbers.proofs.Same.{from_21, fault_same}
use Rattle.layout.specs.declared.Layout.{Layout}
use Rattle.fitted.specs.declared.Told.{Told}
use Rattle.fitted.specs.declared.Piece.{Piece as PieceGiven}
use Rattle.fitted.specs.declared.End.{End}
use Rattle.fitted.specs.declared.End.TheVariants.{Later, AtEnd, Bad}
use Rattle.fitted.specs.Records.{Piece, Fitting}
use Rattle.fitted.specs.Reading.{place_of, stop_given, in_numbers, told_of}
use Rattle.fitted.proofs.none_told.Reads as none_told
use Rattle.fitted.proofs.tell_piece.Reads as tell_piece
use Rattle.fitted.proofs.equip.Reads as equip
use Rattle.fitted.proofs.fit.Reads as fit

-- nothing told
pub none_told_determined : Determines none_told.Post
none_told_determined κs a r q s = only

-- two ends of one number, at one place, are one
end_same : (a b : End) → place_of a ≡ place_of b → stop_given a ≡ stop_given b → a ≡ b
end_same (Later at) (Later to) p e = ap Later p
end_same (Later at) (AtEnd to) p e = cc
end_same (Later at) (Bad g) p e = absurd (omega (arith, from_21 g))
end_same (AtEnd at) (Later to) p e = cc
end_same (AtEnd at) (AtEnd to) p e = ap AtEnd p
end_same (AtEnd at) (Bad g) p e = absurd (omega (arith, from_21 g))
end_same (Bad f) (Later to) p e = absurd (omega (arith, from_21 f))
end_same (Bad f) (AtEnd to) p e = absurd (omega (arith, from_21 f))
end_same (Bad f) (Bad g) p e = ap Bad (fault_same f g e p)

-- two pieces that are told alike are one
piece_same : (a b : PieceGiven) → in_numbers a ≡ in_numbers b → a ≡ b
piece_same a b e =
    ap (λ (t : Told). record { told = t; end = a.end }) (ap (λ (p : Piece). p.told) e)
    ∙ ap (λ (x : End). record { told = b.told; end = x }) (end_same a.end b.end (ap (λ (p : Piece). p.at) e) (ap (λ (p : Piece). p.stop) e))

-- a piece of the file
pub tell_piece_determined : Determines tell_piece.Post
tell_piece_determined κs a r q s p o = piece_same r q (only p o)

-- the layout with what was told
pub equip_determined : Determines equip.Post
equip_determined κs a r q s = only

-- two answers that are told alike for one layout are one
told_same : (L : Layout) (r q : Result Layout Fault) → told_of L r ≡ told_of L q → r ≡ q
told_same L (Ok a) (Ok b) e = ap Ok (ap (λ (p : Fitting). p.layout) e)
told_same L (Ok a) (Err g) e = let z : 0 ≡ number_of g = ap (λ (p : Fitting). p.number) e in absurd (omega (arith, from_21 g))
told_same L (Err f) (Ok b) e = let z : number_of f ≡ 0 = ap (λ (p : Fitting). p.number) e in absurd (omega (arith, from_21 f))
told_same L (Err f) (Err g) e = ap Err (fault_same f g (ap (λ (p : Fitting). p.number) e) (ap (λ (p : Fitting). p.detail) e))

-- the answer to a file of fitted sections
pub fit_determined : Determines fit.Post
fit_determined κs a r q s p o = told_same _ r q (only p o)
