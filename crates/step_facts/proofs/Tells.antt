-- The readings that events give sections: those of kind 1, and what a section's heads say (L1).
use Prim.Native.Nat.{ℕ, ◌≤◌}
use mathlib.Core.Path.{◌≡◌, refl, sym, ap, ap₂, ◌∙◌}
use mathlib.Core.Logic.{◌≢◌}
use mathlib.Core.List.{List}
use native.Mathlib.Omega.{arith}
use lib.ListN.{set}
use Rattle.tables.specs.Readings.{recorded}
use Rattle.axles.specs.declared.Axles.{Axles}
use Rattle.axles.specs.Heads.{axles_reading}
use Rattle.interlocking.specs.declared.State.{State}
use Rattle.interlocking.specs.State.{heads_at}
use Rattle.interlocking.specs.Own.{head_section, heads_by}
use Rattle.interlocking.proofs.Rows.{kind_of_no_heads}
use Rattle.step_facts.specs.Run.{Event}

-- event e gives section g the reading v, and the sections then have the heads xs: a reading of kind 1 leaves heads as they were; where an event is of heads,
-- those of its section become y, and the section is given what they say
pub data Tells (s : State) (e : Event) : ℕ → ℕ → List Axles → Type 0 where
  by_code : e.kind ≡ 1 → Tells s e e.first (recorded e.second) s.axles
  by_heads : {g : ℕ} {y : Axles} → (11 ≤ e.kind) × (e.kind ≤ 14) → g ≡ head_section e.kind e.first
      → y ≡ heads_by (heads_at s.axles g) e.kind e.first e.second → Tells s e g (axles_reading y) (set s.axles g y)

-- kind k gives no section a reading: it is neither 1 nor of heads
abbrev pub Untold : ℕ → Type 0
Untold k = (k ≢ 1) × (k ≢ 11) × (k ≢ 12) × (k ≢ 13) × (k ≢ 14)

-- it is not of heads
pub of_no_heads : {k : ℕ} → Untold k → (11 ≤ k) × (k ≤ 14) → ⊥
of_no_heads u h = kind_of_no_heads u.1 u.2 u.3 u.4 h

module _ {s : State} {e : Event} {g v : ℕ} {xs : List Axles} (t : Tells s e g v xs) where
  -- an event of such a kind gives none
  pub tells_nothing : Untold e.kind → ⊥
  tells_nothing = go t
    where
      go : {h w : ℕ} {ys : List Axles} → Tells s e h w ys → Untold e.kind → ⊥
      go (by_code k) u = u.0 k
      go (by_heads k p q) u = of_no_heads u k

  -- so no reading of a point, no order and no second does
  pub tells_no_order : (2 ≤ e.kind) × (e.kind ≤ 10) → ⊥
  tells_no_order h = tells_nothing (omega arith)

-- it gives one reading at most, and that to one section: what it names is told by the event, and heads by the section
pub tells_once : {s : State} {e : Event} {g v h w : ℕ} {xs ys : List Axles} → Tells s e g v xs → Tells s e h w ys → (g ≡ h) × (v ≡ w) × (xs ≡ ys)
tells_once (by_code k) (by_code m) = (refl, refl, refl)
tells_once (by_code k) (by_heads m p q) = absurd (omega arith)
tells_once (by_heads m p q) (by_code k) = absurd (omega arith)
tells_once {s} {e} (by_heads k p q) (by_heads m u w) =
    let same = p ∙ sym u in
    let heads = q ∙ ap (λ n. heads_by (heads_at s.axles n) e.kind e.first e.second) same ∙ sym w in
    (same, ap axles_reading heads, ap₂ (set s.axles) same heads)
