-- What follows where an event is not refused, and which numbers the refusals have.
use Prim.Native.Nat.{ℕ, ◌/◌, ◌≤◌}
use mathlib.Core.Path.{◌≡◌, refl}
use mathlib.Core.Bool.{Bool, true, false, not}
use mathlib.Core.List.{List, [], ◌∷◌}
use mathlib.Core.Logic.{◌≢◌, inl, inr}
use native.Mathlib.Omega.{arith}
use Rattle.laws.specs.Choice.{when◌then◌else◌}
use Rattle.laws.proofs.Choice.{if_both}
use Rattle.track.specs.declared.Route.{Route}
use Rattle.tables.specs.Tables.{Tables}
use Rattle.layout.specs.declared.Layout.{Layout}
use Rattle.reasons.specs.Refusal.{Refusal, refused, no_refusal, refused_if, found, first_of}
use Rattle.reasons.specs.Reasons.{not_free, not_placed, conflicting, by_route, by_line, exit_locked, block_barred, block_held, arrival_dark, no_heads, has_heads}
use Rattle.refusals.specs.Orders.{throw_refusal, way_refusal, exit_refusal, route_refusal, set_refusal, cancel_refusal, secure_refusal, manual_refusal}
use Rattle.refusals.specs.Events.{numbers_refusal}
use Rattle.refusals.proofs.Granted.{granted_at, granted_second}
use Rattle.interlocking.specs.declared.State.{State}
use Rattle.interlocking.specs.Rows.{Row, section_row, point_row, throw_row, set_row, cancel_row, secure_row, manual_row, bar_row, second_row, head_row, count_row, silent_row, reset_row, still_silent, lamp_row, no_row, row_of}
use Rattle.interlocking.specs.Step.{row_refusal, refusal}
use Rattle.interlocking.proofs.Rows.{OfKind, section_row_kind, point_row_kind, throw_row_kind, set_row_kind, cancel_row_kind, secure_row_kind, manual_row_kind, bar_row_kind, unbar_row, second_row_kind, count_row_kind, silent_row_kind, reset_row_kind, lamp_row_kind, no_row_kind, row_kind_of}
use Rattle.step_facts.specs.Numbers.{OfEvents}

-- ---- nothing is refused

-- an event that is not refused has a second number as its kind asks
pub second_right : (is_sound : Bool) (L : Layout) (s : State) (k a b : ℕ) → (refusal is_sound L s k a b).number ≡ 0 → (row_of L s k a b).wrong ≡ false
unfolding refusal row_refusal
second_right is_sound L s k a b p = granted_second is_sound _ a _ _ (granted_at _ p 0)

-- ---- numbers: only an unsound layout or state is refused by 18

-- a refusal's number is one that an answer to an event can have on a sound layout
abbrev Known : Refusal → Type 0
Known f = OfEvents f.number

-- one of section 3
low : {n : ℕ} → n ≤ 17 → OfEvents n
unfolding OfEvents
low h = inl h

-- none of them is 18
pub not_18 : {n : ℕ} → OfEvents n → n ≢ 18
unfolding OfEvents
not_18 (inl h) q = omega arith
not_18 (inr (inl h)) q = omega arith
not_18 (inr (inr (inl h))) q = omega arith
not_18 (inr (inr (inr (inl h)))) q = omega arith
not_18 (inr (inr (inr (inr h)))) q = omega arith

infixr 20 ◌then◌
-- each refusal of a list has such a number
data Orders : List Refusal → Type 0 where
  no_more : Orders []
  ◌then◌ : {x : Refusal} {xs : List Refusal} → Known x → Orders xs → Orders (x ∷ xs)

-- no refusal has number 0
none_order : Known no_refusal
unfolding no_refusal refused
none_order = low (omega arith)

-- the first of such a list has such a number
first_order : {xs : List Refusal} → Orders xs → Known (first_of xs)
unfolding first_of
first_order no_more = none_order
first_order (h then no_more) = h
first_order (h then (g then rest)) = if_both Known _ (λ t. first_order (g then rest)) (λ t. h)

-- one that goes by a test
when_order : (t : Bool) (number detail : ℕ) → OfEvents number → Known (refused_if t number detail)
unfolding refused_if refused
when_order t number detail h = if_both Known t (λ u. h) (λ u. none_order)

-- one that goes by a search
found_order : (number n : ℕ) (p : ℕ → Bool) → number ≤ 17 → Known (found number n p)
unfolding found
found_order number n p h = when_order _ number _ (low h)

-- 7 and 8
not_free_order : (sections : List ℕ) (set : ℕ) → Known (not_free sections set)
unfolding not_free refused
not_free_order sections set =
    if_both Known _ (λ t. if_both OfEvents _ (λ u. low (omega arith)) (λ u. low (omega arith))) (λ t. none_order)

-- 30 and 34: of the section that an event names
fit_order : (L : Layout) (g : ℕ) → Known (no_heads L g) × Known (has_heads L g)
unfolding no_heads has_heads OfEvents
fit_order L g = (when_order _ 30 g (inr (inl refl)), when_order _ 34 g (inr (inr (inr (inl refl)))))

-- throw: 15, 16, then 7 and 8
throw_order : (L : Layout) (t : Tables) (p : ℕ) → Known (throw_refusal L t p)
unfolding throw_refusal by_route by_line
throw_order L t p = first_order (found_order 15 _ _ (omega arith) then found_order 16 _ _ (omega arith) then not_free_order _ _ then no_more)

-- secure: 12, 11, 6, 10, 31
secure_order : (L : Layout) (t : Tables) (l w : ℕ) → Known (secure_refusal L t l w)
unfolding secure_refusal not_placed block_barred block_held arrival_dark OfEvents
secure_order L t l w =
    first_order (when_order _ 12 _ (low (omega arith)) then found_order 11 _ _ (omega arith) then found_order 6 _ _ (omega arith) then found_order 10 _ _ (omega arith)
    then when_order _ 31 _ (inr (inr (inl refl))) then no_more)

-- set route, where it is an exit route: on a neutral line those of secure (L5), 9, 6, 11, 10
exit_order : (L : Layout) (t : Tables) (a : Route) → Known (exit_refusal L t a)
unfolding exit_refusal way_refusal not_placed
exit_order L t a =
    first_order (if_both Known _ (λ u. secure_order L t _ _) (λ u. when_order _ 9 _ (low (omega arith))) then found_order 6 _ _ (omega arith)
    then when_order _ 11 _ (low (omega arith)) then when_order _ 10 _ (low (omega arith)) then no_more)

-- what is asked of the route by itself: 6, 7 and 8, then as an exit route
route_order : (L : Layout) (t : Tables) (a : Route) → Known (route_refusal L t a)
unfolding route_refusal not_placed no_refusal refused
route_order L t a =
    first_order (found_order 6 _ _ (omega arith) then not_free_order _ _
    then if_both Known _ (λ t. exit_order L _ a) (λ t. none_order) then no_more)

-- set route: 4, 5, then these
set_order : (L : Layout) (t : Tables) (r : ℕ) → Known (set_refusal L t r)
unfolding set_refusal conflicting
set_order L t r = first_order (when_order _ 4 _ (low (omega arith)) then found_order 5 _ _ (omega arith) then route_order L _ _ then no_more)

-- cancel: 13, 14
cancel_order : (t : Tables) (r : ℕ) → Known (cancel_refusal t r)
unfolding cancel_refusal
cancel_order t r = first_order (when_order _ 13 _ (low (omega arith)) then when_order _ 14 _ (low (omega arith)) then no_more)

-- manual release: 17, then 7 and 8
manual_order : (L : Layout) (t : Tables) (l : ℕ) → Known (manual_refusal L t l)
unfolding manual_refusal exit_locked
manual_order L t l = first_order (found_order 17 _ _ (omega arith) then not_free_order _ _ then no_more)

-- what is refused besides, row by row: of an order one of these, of a reset 35, of a kind that has no row 1
besides_order : (L : Layout) (s : State) (k a b : ℕ) {row : Row} → OfKind L s a b k row → Known row.besides
unfolding section_row point_row throw_row set_row cancel_row secure_row manual_row bar_row second_row head_row count_row silent_row reset_row still_silent lamp_row no_row refused OfEvents
besides_order L s k a b (section_row_kind q) = none_order
besides_order L s k a b (point_row_kind q) = none_order
besides_order L s k a b (throw_row_kind q) = throw_order L _ a
besides_order L s k a b (set_row_kind q) = set_order L _ a
besides_order L s k a b (cancel_row_kind q) = cancel_order _ a
besides_order L s k a b (secure_row_kind q) = secure_order L _ a b
besides_order L s k a b (manual_row_kind q) = manual_order L _ a
besides_order L s k a b (bar_row_kind q) = none_order
besides_order L s k a b (unbar_row q) = none_order
besides_order L s k a b (second_row_kind q) = none_order
besides_order L s k a b (count_row_kind q) = none_order
besides_order L s k a b (silent_row_kind q) = none_order
besides_order L s k a b (reset_row_kind q) = when_order _ 35 a (inr (inr (inr (inr refl))))
besides_order L s k a b (lamp_row_kind q) = none_order
besides_order L s k a b (no_row_kind u) = low (omega arith)

-- whether its section has heads, row by row: of an event of heads 30, of a reading of kind 1 34, of any other nothing
misfit_order : (L : Layout) (s : State) (k a b : ℕ) {row : Row} → OfKind L s a b k row → Known row.misfit
unfolding section_row point_row throw_row set_row cancel_row secure_row manual_row bar_row second_row head_row count_row silent_row reset_row still_silent lamp_row no_row
misfit_order L s k a b (section_row_kind q) = (fit_order L a).1
misfit_order L s k a b (point_row_kind q) = none_order
misfit_order L s k a b (throw_row_kind q) = none_order
misfit_order L s k a b (set_row_kind q) = none_order
misfit_order L s k a b (cancel_row_kind q) = none_order
misfit_order L s k a b (secure_row_kind q) = none_order
misfit_order L s k a b (manual_row_kind q) = none_order
misfit_order L s k a b (bar_row_kind q) = none_order
misfit_order L s k a b (unbar_row q) = none_order
misfit_order L s k a b (second_row_kind q) = none_order
misfit_order L s k a b (count_row_kind q) = (fit_order L (a / 2)).0
misfit_order L s k a b (silent_row_kind q) = (fit_order L (a / 2)).0
misfit_order L s k a b (reset_row_kind q) = (fit_order L a).0
misfit_order L s k a b (lamp_row_kind q) = none_order
misfit_order L s k a b (no_row_kind u) = none_order

-- where soundness was found, the test for 18 does not refuse
found_sound : Known (refused_if (not true) 18 0)
unfolding refused_if when◌then◌else◌
found_sound = none_order

-- so no event is refused by 18
pub sound_number : (L : Layout) (s : State) (k a b : ℕ) → OfEvents (refusal true L s k a b).number
unfolding refusal row_refusal numbers_refusal
sound_number L s k a b =
    first_order (first_order (found_sound then when_order _ 2 _ (low (omega arith)) then misfit_order L s k a b (row_kind_of L s k a b)
    then when_order _ 3 _ (low (omega arith)) then no_more) then besides_order L s k a b (row_kind_of L s k a b) then no_more)

-- where it was not, each is, with detail 0
pub unsound_refused : (L : Layout) (s : State) (k a b : ℕ) → ((refusal false L s k a b).number ≡ 18) × ((refusal false L s k a b).detail ≡ 0)
unfolding refusal row_refusal numbers_refusal first_of refused_if when◌then◌else◌ refused
unsound_refused L s k a b = (refl, refl)
