-- Bars: a block is barred in the state just where the history tells that it is.
use Prim.Native.Nat.{ℕ, ◌/◌, ◌%◌, ◌<◌}
use mathlib.Core.Path.{◌≡◌, refl, sym, ap, ◌∙◌}
use mathlib.Core.Logic.{◌≢◌, ◌⊎◌, ◌↔◌, inl, inr}
use mathlib.Core.Bool.{true}
use mathlib.Core.List.{◌∷◌}
use native.Mathlib.Decide.{ℕ_discrete}
use native.Mathlib.Omega.{arith}
use Rattle.laws.specs.Tests.{◌and◌}
use Rattle.laws.specs.Tables.{read}
use Rattle.track.specs.Sizes.{most_lines, most_blocks, most_places}
use Rattle.tables.specs.Blocks.{place}
use Rattle.layout.specs.declared.Layout.{Layout}
use Rattle.layout.specs.Layout.{line_in}
use Rattle.layout.specs.Sound.{sound}
use Rattle.layout_facts.specs.Plain.{Sound}
use Rattle.interlocking.specs.declared.State.{State}
use Rattle.interlocking.specs.State.{in_range, with_points, with_routes, with_lines, with_bars}
use Rattle.interlocking.specs.Own.{own_point, own_throw, own_bar}
use Rattle.interlocking.specs.Settle.{signals, far_sections, routes_by, routes, arrivals, line_release, settle}
use Rattle.interlocking.specs.Step.{refusal, after}
use Rattle.step_facts.specs.Run.{Event}
use Rattle.safety.specs.History.{Moment, History, Came, Since}
use Rattle.safety.specs.Secured.{Barred}
use Rattle.step_facts.proofs.Entries.{bar_at, put_here, put_elsewhere, place_line, place_block}
use Rattle.step_facts.proofs.Passed.{bar_there}
use Rattle.step_facts.proofs.Within.{end, Placed, point_read, thrown, barred, unbarred, untouched, is_placed}
use Rattle.step_facts.proofs.Granted.{bar_granted, unbar_granted}
use Rattle.safety.proofs.Given.{granted}
use Rattle.safety.proofs.Invariant.{Inv}

-- two blocks at one place are one
place_same : (l i a v : ℕ) → i < most_blocks → v < most_blocks → place l i ≡ place a v → (a ≡ l) × (v ≡ i)
place_same l i a v b c q = (
  sym (place_line a v c) ∙ ap (λ n. n / most_blocks) (sym q) ∙ place_line l i b,
  sym (place_block a v c) ∙ ap (λ n. n % most_blocks) (sym q) ∙ place_block l i b,
)

-- a place of one of the lines that there may be is in the table
place_below : (l i : ℕ) → l < most_lines → i < most_blocks → place l i < most_places
unfolding place
place_below l i b c = omega arith

-- the event is of kind k, for block i of line l
abbrev OnBlock : ℕ → Event → ℕ → ℕ → Type 0
OnBlock k e l i = (e.kind ≡ k) × (e.first ≡ l) × (e.second ≡ i)

-- the bar of block i of line l after an event: set, cleared, or as it was
data BarCase (s : State) (e : Event) (l i x : ℕ) : Type 0 where
  bars : OnBlock 8 e l i → x ≡ 1 → BarCase s e l i x
  unbars : OnBlock 9 e l i → x ≡ 0 → BarCase s e l i x
  leaves : ¬ OnBlock 8 e l i → ¬ OnBlock 9 e l i → x ≡ bar_at s l i → BarCase s e l i x

module _ (L : Layout) (S : Sound L) (s : State) (h : History) (I : Inv L s h) (e : Event)
    (pass : (refusal (sound L and in_range s) L s e.kind e.first e.second).number ≡ 0) (l i : ℕ) (b : l < L.lines) (c : i < (line_in L l).blocks) where
  -- by its kind: a bar or an unbar that was accepted is of a block that there is. Nothing that follows the event's own effect touches bars
  bar_case : BarCase s e l i (bar_at (end L s e) l i)
  unfolding after settle line_release with_lines arrivals routes routes_by with_routes far_sections signals own_point own_throw own_bar with_points with_bars
  bar_case = go (is_placed L s e)
    where
      below : i < most_blocks
      below = omega (arith, (S.ranges.lines l b).block_count)

      here : place l i < most_places
      here = place_below l i (omega (arith, S.ranges.line_count)) below

      at : Dec (place l i ≡ place e.first e.second)
      at = ℕ_discrete (place l i) (place e.first e.second)

      other : (k : ℕ) → e.kind ≢ k → ¬ OnBlock k e l i
      other k d u = d u.0

      elsewhere : (k : ℕ) → place l i ≢ place e.first e.second → ¬ OnBlock k e l i
      elsewhere k n u = n (rw (u.1, u.2))

      named : (k : ℕ) → e.kind ≡ k → (k ≡ 8) ⊎ (k ≡ 9) → place l i ≡ place e.first e.second → OnBlock k e l i
      named k q t p =
          let (f, g) = bar_there L s e pass (rw q t) in
          let (x, y) = place_same l i e.first e.second below (omega (arith, (S.ranges.lines e.first f).block_count)) p in
          (q, x, y)

      go : {t : State} → Placed s e t → BarCase s e l i (bar_at t l i)
      go (point_read q) = leaves (other 8 (omega arith)) (other 9 (omega arith)) refl
      go (thrown q) = leaves (other 8 (omega arith)) (other 9 (omega arith)) refl
      go (barred q) = put_at at
        where
          put_at : Dec (place l i ≡ place e.first e.second) → BarCase s e l i (bar_at (own_bar s e.first e.second 1) l i)
          put_at (yes p) = bars (named 8 q (inl refl) p) (put_here most_places 1 s.bar _ 1 _ here p)
          put_at (no n) = leaves (elsewhere 8 n) (other 9 (omega arith)) (put_elsewhere most_places 1 s.bar _ 1 _ here n)
      go (unbarred q) = put_at at
        where
          put_at : Dec (place l i ≡ place e.first e.second) → BarCase s e l i (bar_at (own_bar s e.first e.second 0) l i)
          put_at (yes p) = unbars (named 9 q (inr refl) p) (put_here most_places 1 s.bar _ 0 _ here p)
          put_at (no n) = leaves (other 8 (omega arith)) (elsewhere 9 n) (put_elsewhere most_places 1 s.bar _ 0 _ here n)
      go (untouched d u) = leaves (other 8 d.2) (other 9 d.3) (ap (λ xs. read most_places 1 xs (place l i)) u.1)

  -- an accepted event bars and unbars as the history tells
  pub bar_accepted : bar_at (end L s e) l i ≢ 0 ↔ Barred l i (granted L s e ∷ h)
  unfolding Since
  bar_accepted = (λ d. from d bar_case, λ x. to x bar_case)
    where
      from : bar_at (end L s e) l i ≢ 0 → BarCase s e l i (bar_at (end L s e) l i) → Barred l i (granted L s e ∷ h)
      from d (bars u x) = inl u
      from d (unbars u x) = absurd (d x)
      from d (leaves n m x) = inr (m, (I.bars l i b c).0 (λ z. d (x ∙ z)))

      to : Barred l i (granted L s e ∷ h) → BarCase s e l i (bar_at (end L s e) l i) → bar_at (end L s e) l i ≢ 0
      to t (bars u x) z = omega arith
      to (inl v) (unbars u x) z = let p = u.0 in let q = v.0 in omega arith
      to (inr v) (unbars u x) z = v.0 u
      to (inl v) (leaves n m x) z = n v
      to (inr v) (leaves n m x) z = (I.bars l i b c).1 v.1 (sym x ∙ z)

-- a refused event is no bar and no unbar of a block that there is: each of those is accepted
pub bar_refused : (L : Layout) → sound L ≡ true → (s : State) (h : History) → Inv L s h → (m : Moment)
    → (refusal (sound L and in_range s) L s m.event.kind m.event.first m.event.second).number ≢ 0
    → (l i : ℕ) → l < L.lines → i < (line_in L l).blocks → (bar_at s l i ≢ 0 ↔ Barred l i (m ∷ h))
unfolding Since
bar_refused L ok s h I m d l i b c = (λ x. inr (no_unbar, (I.bars l i b c).0 x), go)
  where
    no_bar : ¬ Came 8 l i m
    no_bar u = d (rw (u.0, u.1, u.2) (bar_granted L s ok I.ranged l i b c))

    no_unbar : ¬ Came 9 l i m
    no_unbar u = d (rw (u.0, u.1, u.2) (unbar_granted L s ok I.ranged l i b c))

    go : Barred l i (m ∷ h) → bar_at s l i ≢ 0
    go (inl u) = absurd (no_bar u)
    go (inr x) = (I.bars l i b c).1 x.1
