-- The step of the parts, with the heads of the section that the event names and the lamps lent, put together.
use mathlib.Core.Path.{refl}
use borrow.Author.Rules.{rules}
use Rattle.laws.proofs.Arrays.{length_mapped}
use Rattle.interlocking.specs.Parts.{together}
use Rattle.interlocking.proofs.Lifted.{place_small}
use Rattle.interlocking.proofs.Together.{together_is}
use Rattle.interlocking.proofs.State.answer.Goals as goal

-- the place is one of the table
pub offset_bounds-axles-place : goal.offset_bounds-axles-place
offset_bounds-axles-place c = search (rules, place_small _ _ _ c.head_place-place.ensures)

pub bounds-axles-place : goal.bounds-axles-place
bounds-axles-place c = search (rules, place_small _ _ _ c.head_place-place.ensures)

pub offset_bounds-axles-place-2 : goal.offset_bounds-axles-place-2
offset_bounds-axles-place-2 c = search (rules, place_small _ _ _ c.head_place-place.ensures)

pub bounds-axles-place-2 : goal.bounds-axles-place-2
bounds-axles-place-2 c = search (rules, place_small _ _ _ c.head_place-place.ensures)

-- the answer put together
pub returns : goal.returns
unfolding together
returns c =
    rw (c.whole-next.ensures, c.lamps_then.ensures)
    (together_is _ _ _ _ _ _ _ _ _ _ _ (λ z. (c.requires z).2) (search (rules, length_mapped, c.well_formed)) c.head_place-place.ensures refl
    c.core_of.ensures c.answered-r.ensures)
