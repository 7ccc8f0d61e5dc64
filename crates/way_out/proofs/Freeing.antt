-- A section comes to read free by the events that are for it, whatever it read; what holds of the rest lasts where no reading of the section touches it.
use Prim.Native.Nat.{ℕ, ◌+◌, ◌*◌, ◌/◌, ◌<◌, ◌≤◌}
use mathlib.Core.Path.{◌≡◌, refl, sym, ap, ◌∙◌}
use mathlib.Core.Logic.{◌≢◌, ◌⊎◌, inl, inr, ⊎_elim}
use mathlib.Core.Bool.{true, false}
use mathlib.Core.List.{List, [], ◌∷◌}
use native.Mathlib.Decide.{ℕ_discrete}
use native.Mathlib.Omega.{arith}
use lib.ListN.{set}
use Rattle.laws.specs.Choice.{when◌then◌else◌}
use Rattle.laws.specs.Tests.{◌and◌}
use Rattle.laws.proofs.Choice.{if_both}
use Rattle.track.specs.Sizes.{most_sections}
use Rattle.tables.specs.Readings.{recorded, reading}
use Rattle.axles.specs.declared.Axles.{Axles}
use Rattle.axles.specs.Heads.{axles_reading}
use Rattle.axles.specs.Since.{rolled}
use Rattle.layout.specs.declared.Layout.{Layout}
use Rattle.layout.specs.Layout.{is_fitted}
use Rattle.layout.specs.Sound.{sound}
use Rattle.layout_facts.specs.Plain.{Sound}
use Rattle.interlocking.specs.declared.State.{State}
use Rattle.interlocking.specs.State.{in_range, heads_at, with_sections, with_routes, with_lines, with_axles}
use Rattle.interlocking.specs.Own.{own_section, head_section, heads_by}
use Rattle.interlocking.specs.Settle.{signals, far_sections, routes_by, routes, arrivals, line_release, settle}
use Rattle.interlocking.specs.Step.{refusal, after}
use Rattle.interlocking.proofs.Rows.{head_named, reset_named}
use Rattle.step_facts.specs.Run.{Event, event}
use Rattle.step_facts.proofs.Entries.{put_here, put_elsewhere}
use Rattle.step_facts.proofs.Tells.{Tells, by_code, by_heads}
use Rattle.step_facts.proofs.Within.{end, tells_done, tells_readings}
use Rattle.step_facts.proofs.Heads.{heads_here}
use Rattle.step_facts.proofs.Granted.{reading_granted, count_granted, reset_granted}
use Rattle.way_out.specs.Freeing.{CountsOf, axle_passes, freeing}
use Rattle.way_out.proofs.Proving.{spoken_speak, passed_free}
use Rattle.way_out.proofs.Goes.{Whole, Goes, stop, goes}

-- ---- after a reading

-- points and bars stay
pub told_else : (L : Layout) {s : State} {e : Event} {g v : ℕ} {xs : List Axles} → Tells s e g v xs → ((end L s e).point ≡ s.point) × ((end L s e).bar ≡ s.bar)
unfolding after settle line_release with_lines arrivals routes routes_by with_routes far_sections signals own_section with_sections with_axles
told_else L told = (ap (λ (t : State). t.point) (tells_done L told), ap (λ (t : State). t.bar) (tells_done L told))

module _ (L : Layout) {s : State} {e : Event} {g v : ℕ} {xs : List Axles} (told : Tells s e g v xs) (h : ℕ) (b : h < most_sections) where
  -- the section that is given it reads it
  pub told_here : h ≡ g → reading (end L s e).section h ≡ v
  unfolding reading
  told_here q = rw (tells_readings L told) (put_here most_sections 3 s.section g v h b q)

  -- any other what it did
  pub told_elsewhere : h ≢ g → reading (end L s e).section h ≡ reading s.section h
  unfolding reading
  told_elsewhere d = rw (tells_readings L told) (put_elsewhere most_sections 3 s.section g v h b d)

-- ---- what lasts

-- no reading of section g, whatever it is, takes Q away
abbrev pub Outlasts : Layout → ℕ → (State → Type 0) → Type 0
Outlasts L g Q = (s : State) (e : Event) (v : ℕ) (xs : List Axles) → Tells s e g v xs → Q s → Q (end L s e)

-- the sections other than g read what they did
abbrev Elsewhere : ℕ → State → State → Type 0
Elsewhere g s t = (h : ℕ) → h < most_sections → h ≢ g → reading t.section h ≡ reading s.section h

-- section g reads free, and so does each that did
pub record Freed (g : ℕ) (s t : State) : Type 0 where
  pub here : reading t.section g ≡ 1
  pub still : (h : ℕ) → h < most_sections → reading s.section h ≡ 1 → reading t.section h ≡ 1

-- by whether it is that section
freed : (g : ℕ) (s t : State) → Elsewhere g s t → reading t.section g ≡ 1 → Freed g s t
freed g s t same here = record { here = here; still = λ h b was. go h b was (ℕ_discrete h g) }
  where
    go : (h : ℕ) → h < most_sections → reading s.section h ≡ 1 → Dec (h ≡ g) → reading t.section h ≡ 1
    go h b was (yes q) = rw q here
    go h b was (no d) = same h b d ∙ was

-- ---- the events

-- on the way from s: Q holds, other sections read what they did, the heads of section g are x, and it reads v
abbrev At : ℕ → (State → Type 0) → State → Axles → ℕ → State → Type 0
At g Q s x v t = Q t × Elsewhere g s t × (heads_at t.axles g ≡ x) × (reading t.section g ≡ v)

-- and in the end
abbrev pub Frees : ℕ → (State → Type 0) → State → State → Type 0
Frees g Q s t = Q t × Freed g s t

module _ (L : Layout) (ok : sound L ≡ true) (S : Sound L) (cs : CountsOf) (g : ℕ) (there : g < L.sections) (Q : State → Type 0) (lasts : Outlasts L g Q) (s : State) where
  -- it is one of the sections that there may be
  below : g < most_sections
  below = omega (arith, S.ranges.section_count)

  -- one reading, where it has no heads
  by_reading : is_fitted L g ≡ false → Whole s → Q s → Goes L s (event 1 g 1 ∷ []) (Frees g Q s)
  unfolding recorded when◌then◌else◌
  by_reading f w q =
      let told : Tells s (event 1 g 1) g 1 s.axles = by_code refl in
      goes L (Frees g Q s) s (event 1 g 1) [] (reading_granted L s ok w.ranged g 1 there f) w
      (λ t at whole. stop L (Frees g Q s) t whole (rw at (lasts _ _ _ _ told q, freed g s _ (told_elsewhere L told) (told_here L told g below refl))))

  -- the events es free it where its heads are x and it reads v
  abbrev From : Axles → ℕ → List Event → Type 0
  From x v es = (t : State) → Whole t → At g Q s x v t → Goes L t es (Frees g Q s)

  -- so do they after an event of its heads that is granted where these are x: they become what it makes of them, and the section reads what they say
  counts : (e : Event) (es : List Event) (x : Axles) (v : ℕ) → (11 ≤ e.kind) × (e.kind ≤ 14) → head_section e.kind e.first ≡ g
      → ((t : State) → Whole t → heads_at t.axles g ≡ x → (refusal (sound L and in_range t) L t e.kind e.first e.second).number ≡ 0)
      → From (heads_by x e.kind e.first e.second) (axles_reading (heads_by x e.kind e.first e.second)) es → From x v (e ∷ es)
  counts e es x v k named pass next t w (q, same, heads, read) =
      goes L (Frees g Q s) t e es (pass t w heads) w (λ u at whole. next u whole (rw at (
        lasts _ _ _ _ told q,
        λ h b d. told_elsewhere L told h b d ∙ same h b d,
        rw (named, heads) at (heads_here L t e k (rw (named, w.heads) below)),
        told_here L told g below refl,
      )))
    where
      told : Tells t e g (axles_reading (heads_by x e.kind e.first e.second)) (set t.axles g (heads_by x e.kind e.first e.second))
      told = by_heads k (sym named) (ap (λ y. heads_by y e.kind e.first e.second) (sym heads))

  -- the seven events, where it has heads
  by_counts : is_fitted L g ≡ true → Whole s → Q s → Goes L s (axle_passes g (cs g)) (Frees g Q s)
  unfolding axle_passes rolled
  by_counts f w q =
      count 11 (2 * g) _ _ _ _ (inl refl) (omega arith) (omega arith)
      (count 12 (2 * g) _ _ _ _ (inr refl) (omega arith) (omega arith)
      (count 11 (2 * g + 1) _ _ _ _ (inl refl) (omega arith) (omega arith)
      (count 12 (2 * g + 1) _ _ _ _ (inr refl) (omega arith) (omega arith)
      (counts (event 14 g 0) _ _ _ (omega arith) (reset_named 14 g refl)
      (λ t w heads. reset_granted L t ok w.ranged g there f (rw heads (spoken_speak g (cs g) (heads_at s.axles g))))
      (count 11 (2 * g) _ _ _ _ (inl refl) (omega arith) (omega arith)
      (count 12 (2 * g + 1) _ _ _ _ (inr refl) (omega arith) (omega arith)
      (λ t w a. stop L (Frees g Q s) t w (a.0, freed g s t a.1 (a.3 ∙ passed_free g (cs g) (heads_at s.axles g))))))))))
      s w (q, λ h b d. refl, refl, refl)
    where
      count : (k a n : ℕ) (es : List Event) (x : Axles) (v : ℕ) → (k ≡ 11) ⊎ (k ≡ 12) → a / 2 ≡ g → n ≤ 65535
          → From (heads_by x k a n) (axles_reading (heads_by x k a n)) es → From x v (event k a n ∷ es)
      count k a n es x v kind named small =
          let few : (11 ≤ k) × (k ≤ 12) = ⊎_elim (λ q. omega arith) (λ q. omega arith) kind in
          counts (event k a n) es x v (omega arith) (head_named k a (omega arith) ∙ named)
          (λ t w h. count_granted L t ok w.ranged k a n kind (omega arith) (rw named f) small)

  -- it comes to read free
  pub free_goes : Whole s → Q s → Goes L s (freeing L cs g) (Frees g Q s)
  unfolding freeing
  free_goes w q = if_both (λ es. Goes L s es (Frees g Q s)) (is_fitted L g) (λ f. by_counts f w q) (λ f. by_reading f w q)
