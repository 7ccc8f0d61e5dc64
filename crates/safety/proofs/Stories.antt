-- The customer's stories do not come true: throws by what refuses them, the rest from demand 3 and exactness.
use Prim.Native.Nat.{ℕ, ◌<◌}
use mathlib.Core.Path.{◌≡◌, refl, sym, ap, ◌∙◌}
use mathlib.Core.Logic.{◌≢◌, inl, inr}
use mathlib.Core.Bool.{true}
use mathlib.Core.List.{List, ◌∷◌}
use native.Mathlib.Decide.{ℕ_discrete}
use Rattle.track.specs.Signal.{Signal, main}
use Rattle.track.proofs.OnlySection.{in_only}
use Rattle.layout.specs.declared.Layout.{Layout}
use Rattle.layout.specs.Layout.{line_in, route_in}
use Rattle.layout.specs.Sound.{sound}
use Rattle.layout_facts.specs.Plain.{InBlock, Sound, same_entry}
use Rattle.layout_facts.proofs.Sound.{sound_says}
use Rattle.fitted.proofs.InUse.{in_use_sound}
use Rattle.interlocking.specs.declared.State.{State}
use Rattle.step_facts.specs.Run.{Event, box}
use Rattle.safety.specs.History.{Moment, History, gave_section, section_reads, shown, Since, Throughout, moment, history}
use Rattle.safety.specs.Locked.{Locked}
use Rattle.safety.specs.Cleared.{Proceeds, Cleared, by_passage, by_hand}
use Rattle.safety.specs.Lights.{Clear, NotFallen}
use Rattle.safety.specs.Demand3.{Enters, Safe}
use Rattle.safety.specs.Exact.{Exact}
use Rattle.safety.specs.Stories.{ThrowsFree, Lists, FallsAtOnce, OpenedSince, NoStory, StoriesKept}
use Rattle.step_facts.proofs.Step.{not_refused}
use Rattle.step_facts.proofs.Passed.{throw_routes, throw_lines, throw_free}
use Rattle.safety.proofs.Told.{reads_given, since_map}
use Rattle.safety.proofs.Invariant.{Inv}
use Rattle.safety.proofs.Kept.{kept}
use Rattle.safety.proofs.EveryEvent.{in_every_event}
use Rattle.safety.proofs.Demand3.{safe}
use Rattle.safety.proofs.Exact.{exact}

-- ---- blades

module _ (L : Layout) (S : Sound L) (s : State) (h : History) (I : Inv L s h) (e : Event) where
  -- 15, 16, 7 and 8 asked it all
  throws : ThrowsFree L (moment L e (box L s e)) h
  unfolding moment box
  throws p (z, k, q) =
      let pass = not_refused L s e.kind e.first e.second z in
      let free = throw_free L s e pass S k in
      record {
        is_free = rw q at (sym (I.reads _ free.0) ∙ free.1);
        no_route = λ r i b c x y. (I.routes r b).locks.1 y (throw_routes L s e pass k r i b c (x ∙ sym q));
        no_line = λ l i w b c x d y. d (sym ((I.lines l b w d).1 y) ∙ throw_lines L s e pass k l i b c (x ∙ sym q));
      }

-- ---- sections that are not free

module _ (L : Layout) (S : Sound L) (m : Moment) (h : History) (safely : Safe L (m ∷ h)) (exactly : Exact L (m ∷ h)) where
  -- a signal that has not fallen has all that keeps it at proceed
  clear_now : (r : ℕ) → NotFallen L r (m ∷ h) → Clear L r (m ∷ h)
  unfolding Since
  clear_now r (inl x) = x.1
  clear_now r (inr x) = x.0

  -- a section that was given something else does not read free
  not_free : (g : ℕ) → gave_section L g m h ≢ 0 → gave_section L g m h ≢ 1 → section_reads L g (m ∷ h) ≢ 1
  not_free g some other free = other (sym (reads_given (gave_section L g) m h _ refl some) ∙ free)

  -- the sections that the route of a signal at proceed lists read free
  listed_free : (r g : ℕ) → Lists L r g → Clear L r (m ∷ h) → section_reads L g (m ∷ h) ≡ 1
  listed_free r g (inl (j, b, q)) c = rw q at (c.path_free j b)
  listed_free r g (inr (j, b, q)) c = rw q at (c.overlap_free j b)

  falls : (g : ℕ) → gave_section L g m h ≢ 0 → gave_section L g m h ≢ 1 → FallsAtOnce L m h g
  unfolding InBlock
  falls g some other = record { routes = routes; blocks = blocks }
    where
      -- by rule 6 two locked routes that start at one signal are one
      routes : (r : ℕ) → r < L.routes → Lists L r g → Locked L r (m ∷ h) → ¬ Proceeds (shown L (m ∷ h)) (main (route_in L r).entry)
      routes r b lists locked up =
          let (q, there, starts, at) = (exactly.mains _ (S.ranges.routes r b).entry).proceeds.0 up in
          go q there starts at.locked (clear_now q at.not_fallen) (ℕ_discrete q r)
        where
          go : (q : ℕ) → q < L.routes → (route_in L q).entry ≡ (route_in L r).entry → Locked L q (m ∷ h) → Clear L q (m ∷ h) → Dec (q ≡ r) → ⊥
          go q there starts up_there clears (yes same) = not_free g some other (listed_free r g lists (rw same at clears))
          go q there starts up_there clears (no d) = safely.apart q r there b (S.rule6.listed q r there b d (same_entry starts)) up_there locked

      blocks : (x : Signal) (l i w : ℕ) → InBlock L l i g → ¬ Enters L (m ∷ h) x l i w
      blocks x l i w has E = not_free g some other (ap (λ k. section_reads L k (m ∷ h)) (sym (in_only (line_in L l) i g has)) ∙ (safely.guarded x l i w E).is_free)

-- ---- dead inputs

-- by a passage in some direction, or by hand
opened_since : (L : Layout) (l i : ℕ) (h : History) → Cleared L l i h → OpenedSince L l i h
opened_since L l i h (by_passage w p) = since_map (λ m h x. inl (w, x)) (λ m h free. free) h p
opened_since L l i h (by_hand r) = since_map (λ m h x. inr x) (λ m h free. free) h r

-- ---- in every event of every run

module _ (L : Layout) (ok : sound L ≡ true) (S : Sound L) where
  stories : (s : State) (h : History) → Inv L s h → (e : Event) → NoStory L (moment L e (box L s e)) h
  stories s h I e =
      let now = kept L ok S s h I e in
      let told = exact L S _ _ now in
      record {
        throws = throws L S s h I e;
        falls = falls L S _ h (safe L S _ _ now) told;
        opens = λ l i b c z. opened_since L l i _ ((told.blocks l i b c).opens.0 z).cleared;
      }

-- on any sound layout
pub stories_run : (L : Layout) → sound L ≡ true → (es : List Event) → Throughout (NoStory L) (history L es)
stories_run L ok es = in_every_event L ok _ (stories L ok (sound_says L ok)) es

-- on any layout file that loads with 0
pub stories_kept : StoriesKept
stories_kept L u es = stories_run L (in_use_sound u) es
