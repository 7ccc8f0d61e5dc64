-- Every event keeps the invariant, accepted or refused; so every run has it.
use Prim.Native.Nat.{ℕ, ◌<◌}
use mathlib.Core.Path.{◌≡◌, refl}
use mathlib.Core.Logic.{◌≢◌, ◌↔◌}
use mathlib.Core.Bool.{true}
use mathlib.Core.List.{List, [], ◌∷◌}
use native.Mathlib.Decide.{ℕ_discrete}
use Rattle.laws.specs.Tests.{◌and◌}
use Rattle.layout.specs.declared.Layout.{Layout}
use Rattle.layout.specs.Layout.{line_in}
use Rattle.layout.specs.Sound.{sound}
use Rattle.layout_facts.specs.Plain.{Sound}
use Rattle.layout_facts.proofs.Sound.{sound_says}
use Rattle.interlocking.specs.declared.State.{State}
use Rattle.interlocking.specs.State.{cold, in_range}
use Rattle.interlocking.specs.Step.{step, refusal}
use Rattle.panel.specs.Panel.{image}
use Rattle.step_facts.specs.Run.{Event, box, state_after, from_cold}
use Rattle.step_facts.proofs.Step.{step_in_range, step_done, step_refused}
use Rattle.safety.specs.History.{Moment, History, gave_section, shown, Second, moment, goes_on, history}
use Rattle.safety.specs.Locked.{Locked}
use Rattle.step_facts.proofs.Entries.{phase}
use Rattle.step_facts.proofs.Within.{end}
use Rattle.step_facts.proofs.Granted.{second_granted, step_granted}
use Rattle.safety.proofs.Given.{granted, refused_gives_nothing}
use Rattle.safety.proofs.Invariant.{BlockTold, RouteTold, Inv, cold_has}
use Rattle.safety.proofs.ReadAfter.{reads_then}
use Rattle.safety.proofs.HeadsKept.{heads_accepted, heads_refused}
use Rattle.safety.proofs.Routes.{apart_on, exits_on}
use Rattle.safety.proofs.Held.{opens_told, enters_told}
use Rattle.safety.proofs.Far.{passing_then}
use Rattle.safety.proofs.Waits.{waits_then}
use Rattle.safety.proofs.StageThree.{holds_then, held_then}
use Rattle.safety.proofs.LampsTold.{lamp_accepted, lamp_refused}
use Rattle.safety.proofs.Released.{route_accepted, route_refused}
use Rattle.safety.proofs.Bars.{bar_accepted, bar_refused}
use Rattle.safety.proofs.Points.{point_accepted, point_refused}
use Rattle.safety.proofs.Lights.{SignalsTold}
use Rattle.safety.proofs.Upright.{lights_accepted, upright_accepted, upright_refused}
use Rattle.safety.proofs.Lines.{line_accepted, line_refused}
use Rattle.safety.proofs.Refused.{reads_refused, block_refused}

module _ (L : Layout) (ok : sound L ≡ true) (S : Sound L) (s : State) (h : History) (I : Inv L s h) (e : Event) where
  -- ---- an accepted event, part by part

  module _ (pass : (refusal (sound L and in_range s) L s e.kind e.first e.second).number ≡ 0) where
    -- each route
    route_then : (r : ℕ) → r < L.routes → RouteTold L (end L s e) (granted L s e ∷ h) r
    route_then r b = route_accepted L S s h I e pass r b

    -- so which are locked
    locks_then : (r : ℕ) → r < L.routes → (phase (end L s e) r ≢ 0 ↔ Locked L r (granted L s e ∷ h))
    locks_then r b = (route_then r b).locks

    -- each block
    block_then : (l i : ℕ) → l < L.lines → i < (line_in L l).blocks → BlockTold L (end L s e) (granted L s e ∷ h) l i
    block_then l i b c = record {
      opens = opens_told L S s h I e pass l i b c locks_then;
      enters = enters_told L S s h I e pass l i b c;
      passes = passing_then L S s h I e pass l i b c;
      waits = waits_then L S s h I e pass l i b c;
      holds = holds_then L S s h I e pass locks_then l i b c;
      held = held_then L S s h I e pass locks_then l i b c;
    }

    -- what signals go by
    signals_then : SignalsTold L (end L s e) (granted L s e ∷ h)
    signals_then = record {
      reads = reads_then L S s h I e pass;
      points = point_accepted L S s h I e;
      bars = bar_accepted L S s h I e pass;
      opens = λ l i b c. opens_told L S s h I e pass l i b c locks_then;
    }

    pub accepted : Inv L (end L s e) (granted L s e ∷ h)
    unfolding shown
    accepted = record {
      ranged = rw (step_granted L s e pass) at (step_in_range L s e.kind e.first e.second I.ranged);
      seen = refl;
      reads = signals_then.reads;
      heads = heads_accepted L S.ranges.section_count.1 s h I.heads e pass;
      lamps = lamp_accepted L S s h I e;
      points = signals_then.points;
      bars = signals_then.bars;
      blocks = block_then;
      routes = route_then;
      upright = λ r b. upright_accepted L S s e r b h I signals_then pass;
      lines = λ l b. line_accepted L S s h I e pass locks_then l b (λ i c. signals_then.bars l i b c);
      apart = apart_on L S s h I e pass;
      lights = lights_accepted L S s e;
      exits = exits_on L S s h I e pass;
    }

  -- ---- a refused one gives nothing, is no accepted order and no second, and changes nothing

  module _ (m : Moment) (of : m.event ≡ e) (same : m.image ≡ image L s) (no_answer : m.number ≢ 0)
      (d : (refusal (sound L and in_range s) L s e.kind e.first e.second).number ≢ 0) where
    -- it is refused
    refuses : (refusal (sound L and in_range s) L s m.event.kind m.event.first m.event.second).number ≢ 0
    refuses = rw of d

    -- nothing is given
    quiet : (g : ℕ) → gave_section L g m h ≡ 0
    quiet = refused_gives_nothing L ok s I.ranged m h I.heads refuses

    -- it is no second, which would be accepted
    no_second : ¬ Second m
    no_second u = refuses (rw (u.0, u.1, u.2) (second_granted L s ok I.ranged))

    -- a route that is locked stays so
    still_locked : (r : ℕ) → r < L.routes → Locked L r h → Locked L r (m ∷ h)
    still_locked r b k = (route_refused L S s h m I quiet no_answer no_second r b).locks.0 ((I.routes r b).locks.1 k)

    -- what signals go by
    signals_still : SignalsTold L s (m ∷ h)
    signals_still = record {
      reads = reads_refused L s h m I quiet same no_answer;
      points = point_refused L ok s h I m no_answer refuses;
      bars = bar_refused L ok s h I m refuses;
      opens = λ l i b c. (block_refused L s h m I quiet same no_answer still_locked l i b c).opens;
    }

    refused : Inv L s (m ∷ h)
    unfolding shown
    refused = record {
      ranged = I.ranged;
      seen = rw same;
      reads = signals_still.reads;
      heads = heads_refused L ok s I.ranged m h I.heads refuses;
      lamps = lamp_refused L S s h I ok m refuses;
      points = signals_still.points;
      bars = signals_still.bars;
      blocks = block_refused L s h m I quiet same no_answer still_locked;
      routes = λ r b. route_refused L S s h m I quiet no_answer no_second r b;
      upright = λ r b. upright_refused L S s h I m no_answer signals_still r b;
      lines = line_refused L S s h m I quiet no_answer still_locked;
      apart = I.apart;
      lights = I.lights;
      exits = I.exits;
    }

  -- ---- one or the other

  pub kept : Inv L (box L s e).next (moment L e (box L s e) ∷ h)
  unfolding box step moment
  kept = go (ℕ_discrete (refusal (sound L and in_range s) L s e.kind e.first e.second).number 0)
    where
      go : Dec ((refusal (sound L and in_range s) L s e.kind e.first e.second).number ≡ 0)
          → Inv L (box L s e).next (moment L e (box L s e) ∷ h)
      go (yes p) = rw (step_done _ L s e.kind e.first e.second p) (accepted p)
      go (no p) = rw (step_refused _ L s e.kind e.first e.second p) (refused _ refl refl p p)

-- so every run has it
ran : (L : Layout) → sound L ≡ true → Sound L → (s : State) (h : History) → Inv L s h → (es : List Event)
    → Inv L (state_after (box L) s es) (goes_on L (box L) s h es)
unfolding goes_on state_after
ran L ok S s h I [] = I
ran L ok S s h I (e ∷ es) = ran L ok S (box L s e).next (moment L e (box L s e) ∷ h) (kept L ok S s h I e) es

-- from the cold start, on any sound layout, loaded or assembled by hand
pub run_has : (L : Layout) → sound L ≡ true → (es : List Event) → Inv L (from_cold L es) (history L es)
unfolding history from_cold
run_has L ok es = let S = sound_says L ok in ran L ok S cold [] (cold_has L S) es
