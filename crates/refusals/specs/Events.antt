-- What is refused of any event by its numbers, before its kind is asked (section 3).
use Rattle.std.specs.Prelude.{ℕ, Bool, not, [], ◌∷◌}
use Rattle.reasons.specs.Refusal.{Refusal, refused_if, first_of}

-- 18 unless layout and state are sound, 2 where there is no object a, 30 or 34 where its section has no heads or has them (L1), 3 for a wrong second
-- number
unfoldable pub numbers_refusal : Bool → Bool → ℕ → Refusal → Bool → Refusal
numbers_refusal is_sound missing a misfit wrong = first_of (refused_if (not is_sound) 18 0 ∷ refused_if missing 2 a ∷ misfit ∷ refused_if wrong 3 0 ∷ [])
