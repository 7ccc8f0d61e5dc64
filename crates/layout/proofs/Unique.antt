-- No second result meets the contract of a public function. Each `Post` is the contract itself, as the function is proved to meet it.
use mathlib.Core.Path.{◌≡◌, sym, ap}
use Rattle.laws.proofs.Only.{Determines, only}
use Rattle.std.specs.Prelude.{Result, Ok, Err}
use Rattle.numbers.specs.declared.Fault.{Fault}
use Rattle.numbers.proofs.Same.{not_none, fault_same}
use Rattle.layout.specs.declared.Layout.{Layout}
use Rattle.layout.specs.Records.{Loaded}
use Rattle.layout.specs.Load.{refused}
use Rattle.layout.specs.Reading.{told}
use Rattle.layout.proofs.none_fitted.Reads as none_fitted
use Rattle.layout.proofs.no_layout.Reads as no_layout
use Rattle.layout.proofs.Layout.sound.Reads as sound
use Rattle.layout.proofs.load.Reads as load
use Rattle.layout.proofs.layout_given.Reads as layout_given

-- no section has heads
pub none_fitted_determined : Determines none_fitted.Post
none_fitted_determined κs a r q s = only

-- the layout with no objects
pub no_layout_determined : Determines no_layout.Post
no_layout_determined κs a r q s = only

-- whether a record is sound
pub sound_determined : Determines sound.Post
sound_determined κs a r q s = only

-- two answers to a layout file that are told alike are one: a layout has the number 0, and no fault has
told_same : (r q : Result Layout Fault) → told r ≡ told q → r ≡ q
unfolding refused
told_same (Ok a) (Ok b) e = ap Ok (ap (λ (l : Loaded). l.layout) e)
told_same (Ok a) (Err g) e = absurd (not_none g (sym (ap (λ (l : Loaded). l.number) e)))
told_same (Err f) (Ok b) e = absurd (not_none f (ap (λ (l : Loaded). l.number) e))
told_same (Err f) (Err g) e = ap Err (fault_same f g (ap (λ (l : Loaded). l.number) e) (ap (λ (l : Loaded). l.detail) e))

-- the answer to a layout file
pub load_determined : Determines load.Post
load_determined κs a r q s p o = told_same r q (only p o)

-- the layout that a load gives
pub layout_given_determined : Determines layout_given.Post
layout_given_determined κs a r q s = only
