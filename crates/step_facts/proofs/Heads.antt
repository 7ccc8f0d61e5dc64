-- The heads of sections after an event and in runs (L1): every section has its heads, and an event of heads changes those of its section alone.
use Prim.Native.Nat.{ℕ, ◌<◌, ◌≤◌}
use mathlib.Core.Path.{◌≡◌, refl, ap, ◌∙◌}
use mathlib.Core.Logic.{◌≢◌}
use mathlib.Core.Bool.{Bool}
use mathlib.Core.List.{List, [], ◌∷◌}
use native.Mathlib.Omega.{arith}
use lib.ListN.{length, length-set}
use lib.Seq.{get_or-set_same, get_or-set_other}
use Rattle.track.specs.Sizes.{most_sections}
use Rattle.layout.specs.declared.Layout.{Layout}
use Rattle.interlocking.specs.declared.State.{State}
use Rattle.interlocking.specs.State.{cold, heads_at, with_sections, with_routes, with_lines, with_axles}
use Rattle.interlocking.specs.Own.{own_section, own_lock, own_cancel, own_secure, own_manual, head_section, heads_by}
use Rattle.interlocking.specs.Settle.{signals, far_sections, routes_by, routes, arrivals, line_release, settle}
use Rattle.interlocking.specs.declared.Answer.{Answer}
use Rattle.interlocking.specs.Step.{own, after, step}
use Rattle.step_facts.specs.Run.{Event, box, state_after, from_cold}
use Rattle.step_facts.proofs.Tells.{of_no_heads, by_code, by_heads}
use Rattle.step_facts.proofs.Step.{Ending, done, refused_by, ending}
use Rattle.step_facts.proofs.Within.{end, Done, reads, sets, cancels, secures, opens, leaves, is_done}

-- ---- one event

module _ (L : Layout) (s : State) (e : Event) where
  -- an event of heads
  abbrev KindOfHeads : Type 0
  KindOfHeads = (11 ≤ e.kind) × (e.kind ≤ 14)

  -- the section that it names
  abbrev named : ℕ
  named = head_section e.kind e.first

  -- what follows an event leaves heads as the event itself left them
  end_axles : (end L s e).axles ≡ (own L s e.kind e.first e.second).axles
  unfolding after settle line_release with_lines arrivals routes routes_by with_routes far_sections signals
  end_axles = refl

  -- after an event of heads those of its section are what becomes of them
  pub heads_here : KindOfHeads → named < length s.axles → heads_at (end L s e).axles named ≡ heads_by (heads_at s.axles named) e.kind e.first e.second
  unfolding own_section with_sections with_axles heads_at
  heads_here h b = rw end_axles (go (is_done L s e))
    where
      go : {t : State} → Done L s e t → heads_at t.axles named ≡ heads_by (heads_at s.axles named) e.kind e.first e.second
      go (reads (by_code k)) = absurd (omega arith)
      go (reads (by_heads k p q)) = rw (← p) (get_or-set_same s.axles _ _ _ (rw p b) ∙ q)
      go (sets k) = absurd (omega arith)
      go (cancels k) = absurd (omega arith)
      go (secures k) = absurd (omega arith)
      go (opens k) = absurd (omega arith)
      go (leaves f u) = absurd (of_no_heads f.4 h)

  -- those of any other section stay, and after any other event all do
  pub heads_elsewhere : (g : ℕ) → (KindOfHeads → g ≢ named) → heads_at (end L s e).axles g ≡ heads_at s.axles g
  unfolding own_section own_lock own_cancel own_secure own_manual with_sections with_routes with_lines with_axles heads_at
  heads_elsewhere g d = rw end_axles (go (is_done L s e))
    where
      go : {t : State} → Done L s e t → heads_at t.axles g ≡ heads_at s.axles g
      go (reads (by_code k)) = refl
      go (reads (by_heads k p q)) = get_or-set_other s.axles _ g _ _ (λ z. d k (z ∙ p))
      go (sets k) = refl
      go (cancels k) = refl
      go (secures k) = refl
      go (opens k) = refl
      go (leaves f u) = ap (λ xs. heads_at xs g) u.6

  -- there are as many as before
  pub heads_many : length (end L s e).axles ≡ length s.axles
  unfolding own_section own_lock own_cancel own_secure own_manual with_sections with_routes with_lines with_axles
  heads_many = rw end_axles (go (is_done L s e))
    where
      go : {t : State} → Done L s e t → length t.axles ≡ length s.axles
      go (reads (by_code k)) = refl
      go (reads (by_heads k p q)) = length-set s.axles _ _
      go (sets k) = refl
      go (cancels k) = refl
      go (secures k) = refl
      go (opens k) = refl
      go (leaves f u) = ap length u.6

-- ---- runs

-- an event that is refused leaves all: so there are as many after any answer
answer_heads : {is_sound : Bool} (L : Layout) (s : State) (e : Event) {r : Answer} → Ending is_sound L s e.kind e.first e.second r
    → length r.next.axles ≡ length s.axles
answer_heads L s e (done p) = heads_many L s e
answer_heads L s e (refused_by p) = refl

-- and after a step
pub step_heads : (L : Layout) (s : State) (e : Event) → length (step L s e.kind e.first e.second).next.axles ≡ length s.axles
unfolding step
step_heads L s e = answer_heads L s e (ending _ L s e.kind e.first e.second)

-- and after a run
run_heads : (L : Layout) (s : State) (es : List Event) → length (state_after (box L) s es).axles ≡ length s.axles
unfolding state_after box
run_heads L s [] = refl
run_heads L s (e ∷ es) = run_heads L (box L s e).next es ∙ step_heads L s e

-- so from the cold start every section has its heads
pub cold_run_heads : (L : Layout) (es : List Event) → length (from_cold L es).axles ≡ most_sections
unfolding from_cold cold
cold_run_heads L es = run_heads L cold es
