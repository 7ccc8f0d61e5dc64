-- Demand 1, of the calls: each gets an answer, and a refusal changes no byte that is lent.
use Rattle.std.specs.Prelude.{ℕ, ◌≤◌, ◌≡◌, ◌⊎◌}
use Rattle.step_facts.specs.Numbers.{OfEvents}
use Rattle.cabinet.specs.Calls.{Records, Call, power_on, load_file, fit_sections, give_event, draw_panel, after_call, tells, lent}

-- the numbers that a call can be answered by: of a layout file 0 or 21 to 26 (section 2), of a file of fitted sections 0, 21 or 22 (L1), of an event 0 to 18
-- (section 3), 30, 34 or 35 (L1), or 31 (L3), of a panel image 0, 18 or 27 (section 7)
unfoldable pub Numbered : Call → ℕ → Type 0
Numbered power_on n = n ≡ 0
Numbered (load_file bytes) n = (n ≡ 0) ⊎ ((21 ≤ n) × (n ≤ 26))
Numbered (fit_sections bytes) n = (n ≡ 0) ⊎ ((n ≡ 21) ⊎ (n ≡ 22))
Numbered (give_event k a b) n = (n ≡ 18) ⊎ OfEvents n
Numbered (draw_panel buffer) n = (n ≡ 0) ⊎ ((n ≡ 18) ⊎ (n ≡ 27))

-- a call that leaves both records and the lent buffer as they were
pub record Untouched (before : Records) (c : Call) : Type 0 where
  pub records : after_call before c ≡ before
  pub buffer : (tells before c).buffer ≡ lent c

-- whatever the records hold, each call has one of its numbers, and where that is not 0 no byte is changed
pub record Demand1 (before : Records) (c : Call) : Type 0 where
  pub answered : Numbered c (tells before c).number
  pub refused : ((tells before c).number ≡ 0 → ⊥) → Untouched before c
