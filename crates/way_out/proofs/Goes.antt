-- Lists of events that are granted one after the other, and what holds when they are over.
use mathlib.Core.Path.{◌≡◌, ap, ◌∙◌}
use mathlib.Core.Bool.{true}
use mathlib.Core.List.{List, [], ◌∷◌, ◌++◌}
use lib.ListN.{length}
use Rattle.laws.specs.Tests.{◌and◌}
use Rattle.track.specs.Sizes.{most_sections}
use Rattle.layout.specs.declared.Layout.{Layout}
use Rattle.layout.specs.Sound.{sound}
use Rattle.interlocking.specs.declared.State.{State}
use Rattle.interlocking.specs.declared.Answer.{Answer}
use Rattle.interlocking.specs.State.{in_range}
use Rattle.interlocking.specs.Step.{refusal, step}
use Rattle.step_facts.specs.Run.{Event, box, state_after, from_cold}
use Rattle.step_facts.proofs.Run.{cold_run_in_range}
use Rattle.step_facts.proofs.Heads.{step_heads, cold_run_heads}
use Rattle.step_facts.proofs.Step.{step_in_range}
use Rattle.step_facts.proofs.Within.{end}
use Rattle.step_facts.proofs.Granted.{step_granted}
use Rattle.way_out.specs.WayOut.{Granted}

-- ---- what holds of every state of a run

-- no code is outside its range, and every section has its heads (L1)
pub record Whole (s : State) : Type 0 where
  pub ranged : in_range s ≡ true
  pub heads : length s.axles ≡ most_sections

-- from the cold start
pub run_whole : (L : Layout) (es : List Event) → Whole (from_cold L es)
run_whole L es = record { ranged = cold_run_in_range L es; heads = cold_run_heads L es }

-- after one event more
pub step_whole : (L : Layout) (s : State) (e : Event) → Whole s → Whole (step L s e.kind e.first e.second).next
step_whole L s e w = record { ranged = step_in_range L s _ _ _ w.ranged; heads = step_heads L s e ∙ w.heads }

-- ---- lists of events that are granted and end in a whole state of which P holds

-- in one record, so that lists can be joined
pub record Goes (L : Layout) (s : State) (es : List Event) (P : State → Type 0) : Type 0 where
  pub granted : Granted L s es
  pub whole : Whole (state_after (box L) s es)
  pub ends : P (state_after (box L) s es)

module _ (L : Layout) (P : State → Type 0) where
  -- no event
  pub stop : (s : State) → Whole s → P s → Goes L s [] P
  unfolding Granted state_after box
  stop s w p = record { granted = tt; whole = w; ends = p }

  -- one event more
  pub first : (s : State) (e : Event) (es : List Event) → (step L s e.kind e.first e.second).number ≡ 0
      → Goes L (step L s e.kind e.first e.second).next es P → Goes L s (e ∷ es) P
  unfolding Granted state_after box
  first s e es n G = record { granted = (n, G.granted); whole = G.whole; ends = G.ends }

  -- one event that nothing refuses
  pub goes : (s : State) (e : Event) (es : List Event) → (refusal (sound L and in_range s) L s e.kind e.first e.second).number ≡ 0
      → Whole s → ((t : State) → t ≡ end L s e → Whole t → Goes L t es P) → Goes L s (e ∷ es) P
  goes s e es pass w next =
      let done = step_granted L s e pass in
      first s e es (ap (λ (r : Answer). r.number) done) (next _ (ap (λ (r : Answer). r.next) done) (step_whole L s e w))

  -- one list after another
  joined : (xs ys : List Event) (s : State) → Granted L s xs → Goes L (state_after (box L) s xs) ys P → Goes L s (xs ++ ys) P
  unfolding Granted state_after box
  joined [] ys s g G = G
  joined (e ∷ xs) ys s g G = first s e (xs ++ ys) g.0 (joined xs ys _ g.1 G)

-- one list after another, where what holds after the first is what the second needs
pub after_that : {L : Layout} {s : State} {xs ys : List Event} {P Q : State → Type 0} → Goes L s xs P
    → ((t : State) → Whole t → P t → Goes L t ys Q) → Goes L s (xs ++ ys) Q
after_that {L} {s} {xs} {ys} {P} {Q} G next = joined L Q xs ys s G.granted (next _ G.whole G.ends)

-- what follows from what holds in the end holds then
pub ending_so : {L : Layout} {s : State} {es : List Event} {P Q : State → Type 0} → Goes L s es P → ((t : State) → Whole t → P t → Q t) → Goes L s es Q
ending_so G so = record { granted = G.granted; whole = G.whole; ends = so _ G.whole G.ends }
