-- A run holds its state in three parts, the nine tables, the heads (request L1) and the lamps (request L3): its steps, its lines and its ends are those of
-- the state.
use Prim.Native.Nat.{ℕ, ◌<◌, ◌≤◌}
use mathlib.Core.Path.{◌≡◌, refl, sym, ap, ◌∙◌}
use mathlib.Core.Bool.{Bool, true, false}
use mathlib.Core.List.{List}
use native.Mathlib.Omega.{arith}
use lib.ListN.{length, get_or, set}
use borrow.Author.Tests.{leb-true}
use Rattle.laws.proofs.Choice.{if_false, if_both}
use Rattle.laws.proofs.Tests.{and_left, and_right, fails_from}
use lib.Seq.{set-get_or}
use Rattle.track.specs.Codes.{axles_in, reset_axles}
use Rattle.track.specs.Sizes.{most_sections}
use Rattle.track.specs.Lists.{between}
use Rattle.axles.specs.declared.Axles.{Axles}
use Rattle.layout.specs.declared.Layout.{Layout}
use Rattle.interlocking.specs.declared.State.{State}
use Rattle.interlocking.specs.declared.Core.{Core}
use Rattle.interlocking.specs.declared.Answer.{Answer}
use Rattle.interlocking.specs.declared.CoreAnswer.{CoreAnswer}
use Rattle.interlocking.specs.Step.{asked_in_run, step_in_run}
use Rattle.interlocking.specs.Parts.{core_of, bare, whole, is_of_heads, heads_then, head_place, followed, core_step, core_step_in_run, together}
use Rattle.interlocking.proofs.Together.{together_is}
use Rattle.panel.specs.Panel.{signal_shows, distant_byte, image, answer_where, answer_in_run}
use Rattle.step_facts.specs.Run.{Event, event, box_in_run}
use Rattle.event_file.specs.Lines.{shown_in_run, line_of, most_line}
use Rattle.event_file.specs.Run.{Piece, Run, piece_of, so_far, Went}
use Rattle.numerals.specs.Writes.{Put}

-- a state is its three parts, so a run from these is a run from it
pub from_parts : (f : State → Event → Answer) (panel : Bool) (show : State → List ℕ) (last : Bool) (bytes : List ℕ) (room : ℕ) (a b : List ℕ) (r : Piece) (s : State) (c : Core)
    (n at : ℕ) → c ≡ core_of s → Went a 0 (length a) b r (piece_of f panel show last bytes room (whole c s.axles s.lamp) n at)
    → Went a 0 (length a) b r (piece_of f panel show last bytes room s n at)
unfolding core_of
from_parts f panel show last bytes room a b r s c n at e w = rw e at w

-- a run that did not stop, in the state that was put together
pub so_far_whole : (t u : State) (m place written : ℕ) (p : Piece) → t ≡ u → p ≡ so_far t m place written → p ≡ so_far u m place written
so_far_whole t u m place written p e f = f ∙ ap (λ (s : State). so_far s m place written) e

-- a run came as far with other names of its tables of heads and of lamps
pub so_far_tables : (a b : List ℕ) (c : Core) (xs ys : List Axles) (ls ms : List ℕ) (m place written : ℕ) (g : Run) → ys ≡ xs → ms ≡ ls
    → Went a 0 (length a) b (so_far (whole c xs ls) m place written) g → Went a 0 (length a) b (so_far (whole c ys ms) m place written) g
so_far_tables a b c xs ys ls ms m place written g e f w = rw (e, f) w

-- a panel shows no heads and no lamps, so the line of the nine tables is that of the state
pub line_of_whole : (L : Layout) (c : Core) (xs : List Axles) (ls : List ℕ) (number answer detail : ℕ) (a b : List ℕ) (at k : ℕ)
    → Put a at (line_of true (shown_in_run L (bare c)) number answer detail) (most_line true) b k
    → Put a at (line_of true (shown_in_run L (whole c xs ls)) number answer detail) (most_line true) b k
unfolding shown_in_run answer_in_run answer_where image distant_byte signal_shows
line_of_whole L c xs ls number answer detail a b at k p = p

-- what a run asks says that there are no more sections than the table of heads has
few_sections : (L : Layout) → asked_in_run L ≡ true → L.sections ≤ most_sections
unfolding asked_in_run between
few_sections L e = leb-true _ _ (and_right _ _ (and_left _ _ (and_right _ _ (and_right _ _ e))))

-- the answer of the parts, with the heads at their place, put together is that of the state
pub run_together : (L : Layout) (c : Core) (xs : List Axles) (ls : List ℕ) (k a b : ℕ) (d x : Axles) (p : ℕ) (r : CoreAnswer) → length xs ≡ most_sections → p ≡ head_place k a
    → x ≡ get_or xs p d → r ≡ core_step_in_run L c x ls k a b → together xs p ls k a b r ≡ box_in_run L (whole c xs ls) (event k a b)
unfolding core_step_in_run box_in_run step_in_run core_of
run_together L c xs ls k a b d x p r len q at e = together_is (asked_in_run L) L (whole c xs ls) k a b d x c p r (few_sections L) len q at refl e

-- an event that is of no heads leaves those that were handed in
heads_left : (L : Layout) (c : Core) (x : Axles) (ls : List ℕ) (k a b : ℕ) → k < axles_in → (core_step_in_run L c x ls k a b).heads ≡ x
unfolding core_step_in_run core_step followed heads_then is_of_heads between
heads_left L c x ls k a b h =
    let none : between axles_in reset_axles k ≡ false = fails_from _ (λ e. let n = leb-true axles_in k (and_left _ _ e) in omega arith) in
    let stay : heads_then x k a b ≡ x = sym (if_false _ _ _ x none refl) in
    if_both (λ (r : CoreAnswer). r.heads ≡ x) _ (λ t. stay) (λ t. refl)

-- so where they are not stored, the table is as if they were
pub heads_kept : (L : Layout) (c : Core) (xs ys : List Axles) (ls : List ℕ) (k a b : ℕ) (d x : Axles) (p : ℕ) (r : CoreAnswer) → length xs ≡ most_sections → p ≡ head_place k a
    → x ≡ get_or xs p d → r ≡ core_step_in_run L c x ls k a b → k < axles_in → ys ≡ xs → ys ≡ set xs p r.heads
heads_kept L c xs ys ls k a b d x p r len q at e h f =
    let same : r.heads ≡ get_or xs p d = ap (λ (z : CoreAnswer). z.heads) e ∙ heads_left L c x ls k a b h ∙ at in
    f ∙ sym (set-get_or xs p d) ∙ ap (set xs p) (sym same)
