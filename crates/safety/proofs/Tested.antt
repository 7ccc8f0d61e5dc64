-- Tests on a history that hold just where what they test does: accepted orders, the passage of a block, and the free reading that closes it. Where a test is
-- cheap it stands first.
use Prim.Native.Nat.{ℕ}
use mathlib.Core.Path.{◌≡◌, refl, ap, ◌∙◌}
use mathlib.Core.Logic.Iff
use mathlib.Core.Logic.{◌↔◌, inl, inr, ⊎_elim}
use mathlib.Core.Bool.{Bool, true, false, not}
use mathlib.Core.List.{[], ◌∷◌}
use lib.Dec.{eqb, ltb}
use Rattle.laws.specs.Tests.{◌and◌, ◌or◌, every}
use Rattle.laws.proofs.Tests.{and_right, and_both, or_cases, or_left, or_right, not_both}
use Rattle.track.specs.Codes.{free, occupied, reads_none, neutral}
use Rattle.signals.specs.Aspects.{stop}
use Rattle.layout.specs.declared.Layout.{Layout}
use Rattle.layout_facts.proofs.Means.{eqb_means, ltb_means, not_means, and_means, or_means, lastly, ◌also◌, ◌&◌, every_means}
use Rattle.safety.specs.History.{Moment, History, Given, gave_section, gave_block, reads, section_reads, shown, Accepted, Came, Since, EndsSpell}
use Rattle.safety.specs.Cleared.{far_section, far_signal, Stays, Entered, Drops, Passage, Closes}

-- ---- earlier and later

-- an event passed the one test, and every later one the other, each of it and of what was before it
abbrev pub since_test : (Moment → History → Bool) → (Moment → History → Bool) → History → Bool
since_test began kept [] = false
since_test began kept (m ∷ h) = began m h or (kept m h and since_test began kept h)

-- by what the two tests mean
pub since_means : {Began Kept : Moment → History → Type 0} {began kept : Moment → History → Bool} → ((m : Moment) (h : History) → began m h ≡ true ↔ Began m h)
    → ((m : Moment) (h : History) → kept m h ≡ true ↔ Kept m h) → (h : History) → since_test began kept h ≡ true ↔ Since Began Kept h
unfolding Since
since_means b k [] = (λ t. not_both t refl, λ x. absurd x)
since_means b k (m ∷ h) = or_means (b m h) (and_means (k m h) (since_means b k h))

-- ---- events

-- an order of kind k for object a was accepted
abbrev pub accepted_test : ℕ → ℕ → Moment → Bool
accepted_test k a m = every (eqb m.number 0 ∷ eqb m.event.kind k ∷ eqb m.event.first a ∷ [])

-- its three numbers, one by one
pub accepted_means : (k a : ℕ) (m : Moment) → accepted_test k a m ≡ true ↔ Accepted k a m
accepted_means k a m =
    Iff.trans (every_means (eqb_means _ 0 also eqb_means _ k also lastly (eqb_means _ a))) (λ (n, (j, f)). (n, j, f), λ u. u.0 & u.1 & u.2)

-- the event had these three numbers
abbrev pub came_test : ℕ → ℕ → ℕ → Moment → Bool
came_test k a b m = every (eqb m.event.kind k ∷ eqb m.event.first a ∷ eqb m.event.second b ∷ [])

-- likewise
pub came_means : (k a b : ℕ) (m : Moment) → came_test k a b m ≡ true ↔ Came k a b m
came_means k a b m =
    Iff.trans (every_means (eqb_means _ k also eqb_means _ a also lastly (eqb_means _ b))) (λ (j, (f, g)). (j, f, g), λ u. u.0 & u.1 & u.2)

-- ---- a passage

-- neither none nor free was given
abbrev stays_test : Given → Moment → History → Bool
stays_test gave m h = not (eqb (gave m h) reads_none) and not (eqb (gave m h) free)

-- one and the other
stays_means : (gave : Given) (m : Moment) (h : History) → stays_test gave m h ≡ true ↔ Stays gave m h
stays_means gave m h = and_means (not_means (eqb_means _ reads_none)) (not_means (eqb_means _ free))

-- it was entered
abbrev pub entered_test : Given → History → Bool
entered_test gave h = since_test (λ m older. eqb (gave m older) occupied) (stays_test gave) h

-- by the law of `Since`
pub entered_means : (gave : Given) (h : History) → entered_test gave h ≡ true ↔ Entered gave h
entered_means gave = since_means (λ m h. eqb_means _ occupied) (stays_means gave)

-- an event dropped the far signal of a block that was entered, and left its far section occupied
abbrev drops_test : Layout → ℕ → ℕ → ℕ → Moment → History → Bool
drops_test L l i w m older = every (
    stays_test (gave_block L l i) m older
    ∷ eqb ((shown L (m ∷ older)).line l) w
    ∷ not (eqb w neutral)
    ∷ eqb (section_reads L (far_section L l i w) (m ∷ older)) occupied
    ∷ ltb stop ((shown L older).signal (far_signal L l i w))
    ∷ eqb ((shown L (m ∷ older)).signal (far_signal L l i w)) stop
    ∷ entered_test (gave_block L l i) older
    ∷ [])

-- a passage waits for its free reading
abbrev passage_test : Layout → ℕ → ℕ → ℕ → History → Bool
passage_test L l i w h =
    since_test (drops_test L l i w) (λ m older. stays_test (gave_block L l i) m older and not (eqb (gave_section L (far_section L l i w) m older) reads_none)) h

module _ (L : Layout) (l i w : ℕ) where
  -- part by part
  drops_means : (m : Moment) (h : History) → drops_test L l i w m h ≡ true ↔ Drops L l i w m h
  drops_means m h =
      Iff.trans
      (every_means (stays_means (gave_block L l i) m h also eqb_means _ w also not_means (eqb_means w neutral) also eqb_means _ occupied also ltb_means stop _
      also eqb_means _ stop also lastly (entered_means (gave_block L l i) h))) (
        λ (stays, (way, (some, (taken, (up, (down, entered)))))).
            record { entered = entered; stays = stays; secured = (way, some); taken = taken; from_proceed = up; to_stop = down },
        λ d. d.stays & d.secured.0 & d.secured.1 & d.taken & d.from_proceed & d.to_stop & d.entered,
      )

  -- and as a passage goes
  passage_means : (h : History) → passage_test L l i w h ≡ true ↔ Passage L l i w h
  passage_means = since_means drops_means (λ m h. and_means (stays_means (gave_block L l i) m h) (not_means (eqb_means _ reads_none)))

-- ---- a passage in some direction: one that the line showed in the event of its drop

-- an event was the drop of a passage of block i of line l in a direction that passes a test
abbrev pub way_test : Layout → ℕ → ℕ → (ℕ → Bool) → History → Bool
way_test L l i p [] = false
way_test L l i p (m ∷ h) = (drops_test L l i ((shown L (m ∷ h)).line l) m h and p ((shown L (m ∷ h)).line l)) or way_test L l i p h

-- so there is one that passes
pub some_way : (L : Layout) (l i : ℕ) (p : ℕ → Bool) (h : History) → way_test L l i p h ≡ true → (w : ℕ) × (p w ≡ true)
some_way L l i p [] t = not_both t refl
some_way L l i p (m ∷ h) t = ⊎_elim (λ u. (_, and_right _ _ u)) (some_way L l i p h) (or_cases _ _ t)

-- the direction of a passage was shown, in the event of its drop
pub way_shown : (L : Layout) (l i w : ℕ) (p : ℕ → Bool) → p w ≡ true → (h : History) → Passage L l i w h → way_test L l i p h ≡ true
unfolding Since
way_shown L l i w p t [] x = absurd x
way_shown L l i w p t (m ∷ h) (inl d) =
    or_left _ _ (ap (λ v. drops_test L l i v m h and p v) d.secured.0 ∙ and_both _ _ ((drops_means L l i w m h).1 d) t)
way_shown L l i w p t (m ∷ h) (inr k) = or_right _ _ (way_shown L l i w p t h k.1)

-- a passage waits for its free reading, in some direction
abbrev pub some_passage_test : Layout → ℕ → ℕ → History → Bool
some_passage_test L l i h = way_test L l i (λ w. passage_test L l i w h) h

-- the direction that passes the test has a passage, and that of a passage was shown
pub some_passage_means : (L : Layout) (l i : ℕ) (h : History) → some_passage_test L l i h ≡ true ↔ (w : ℕ) × Passage L l i w h
some_passage_means L l i h = (
  λ t. let (w, u) = some_way L l i (λ x. passage_test L l i x h) h t in (w, (passage_means L l i w h).0 u),
  λ (w, p). way_shown L l i w (λ x. passage_test L l i x h) ((passage_means L l i w h).1 p) h p,
)

-- ---- the free reading that closes it

-- the event ended a spell; after it the block reads free
abbrev ends_test : Given → Moment → History → Bool
ends_test gave m h = not (eqb (reads gave h) free) and eqb (reads gave (m ∷ h)) free

-- after the event it reads free
abbrev pub leaves_test : Given → Moment → History → Bool
leaves_test gave m h = eqb (reads gave (m ∷ h)) free

-- before and after
ends_means : (gave : Given) (m : Moment) (h : History) → ends_test gave m h ≡ true ↔ EndsSpell gave m h
ends_means gave m h = and_means (not_means (eqb_means _ free)) (eqb_means _ free)

-- the event closed a passage in direction w
abbrev pub closes_test : Layout → ℕ → ℕ → ℕ → Moment → History → Bool
closes_test L l i w m older = ends_test (gave_block L l i) m older and passage_test L l i w older

-- it ended a spell, and found a passage
pub closes_means : (L : Layout) (l i w : ℕ) (m : Moment) (h : History) → closes_test L l i w m h ≡ true ↔ Closes L l i w m h
closes_means L l i w m h =
    Iff.trans (and_means (ends_means (gave_block L l i) m h) (passage_means L l i w h))
    (λ (e, p). record { ends = e; passage = p }, λ c. (c.ends, c.passage))
