-- What a history tells of routes, lines, open blocks and signals does not look at the newest image: whatever image the last event left, the same is told.
-- Each law goes from image a to image b, for any two; what is denied goes from b to a. What stands in no law here looks at the event alone, and is the same
-- by computation.
use Prim.Native.Nat.{ℕ, zero, suc}
use mathlib.Core.Path.{◌≡◌, refl, ◌∙◌}
use mathlib.Core.Logic.{inl, inr}
use mathlib.Core.Bool.{Bool, true, false}
use mathlib.Core.List.{List, ◌∷◌}
use lib.Dec.{eqb}
use Rattle.laws.specs.Choice.{when◌then◌else◌}
use Rattle.layout.specs.declared.Layout.{Layout}
use Rattle.layout.specs.Layout.{route_in}
use Rattle.safety.specs.History.{Moment, History, Given, gave_section, reads, Since}
use Rattle.safety.specs.Locked.{gave_first, gave_second, Unbroken, StepOne, StepTwo, StepThree, Vacated, seconds_since, Goes, Locked}
use Rattle.safety.specs.Cleared.{Closes, CompletedBy, while_lit, with_beyond, later, FreesBeyond, Waits, Cleared, by_passage, by_hand, Opened}
use Rattle.safety.specs.Secured.{LineEnds, Secured, by_order, by_route}
use Rattle.safety.specs.Lights.{position, MayEnter, Lit, Clear, NotFallen, AtProceed}

-- the moment m with image a in place of its own
abbrev pub showing : Moment → List ℕ → Moment
showing m a = record { event = m.event; number = m.number; detail = m.detail; image = a }

-- one of two, told by a test that does not look at the moment
either_same : (t : Bool) (f g : Given) (m n : Moment) (h : History) → f m h ≡ f n h → g m h ≡ g n h → (when t then f else g) m h ≡ (when t then f else g) n h
unfolding when◌then◌else◌
either_same true f g m n h p q = p
either_same false f g m n h p q = q

-- what two moments give the same reads the same after them
reads_same : (gave : Given) (m n : Moment) (h : History) → gave m h ≡ gave n h → reads gave (m ∷ h) ≡ reads gave (n ∷ h)
unfolding reads
reads_same gave m n h q = rw q

module _ (L : Layout) (m : Moment) (h : History) (r : ℕ) (a b : List ℕ) where
  -- the first of a watched pair is given the same, whichever section it is
  first_same : gave_first L r (showing m a) h ≡ gave_first L r (showing m b) h
  unfolding gave_first gave_section
  first_same = either_same (eqb (route_in L r).kind 2) _ _ (showing m a) (showing m b) h refl refl

  -- and the second
  second_same : gave_second L r (showing m a) h ≡ gave_second L r (showing m b) h
  unfolding gave_second gave_section
  second_same = either_same (eqb (route_in L r).kind 2) _ _ (showing m a) (showing m b) h refl refl

module _ (L : Layout) (m : Moment) (h : History) where
  -- ---- routes

  -- the watched pair does not start again
  unbroken : (r : ℕ) (a b : List ℕ) → Unbroken L r (showing m a) h → Unbroken L r (showing m b) h
  unbroken r a b x =
      let one = first_same L m h r a b in
      let two = second_same L m h r a b in
      record { not_set = x.not_set; not_free = λ z. x.not_free (one ∙ z); not_none = (λ z. x.not_none.0 (one ∙ z), λ z. x.not_none.1 (two ∙ z)) }

  -- the first step: the pair is given the same, and reads the same
  step_one : (r : ℕ) (a b : List ℕ) → StepOne L r (showing m a ∷ h) → StepOne L r (showing m b ∷ h)
  unfolding Since
  step_one r a b (inl x) = inl (first_same L m h r b a ∙ x.0, λ z. x.1 (reads_same _ _ _ h (second_same L m h r a b) ∙ z))
  step_one r a b (inr x) = inr (unbroken r a b x.0, x.1)

  -- the second, likewise; the first stands in what was before
  step_two : (r : ℕ) (a b : List ℕ) → StepTwo L r (showing m a ∷ h) → StepTwo L r (showing m b ∷ h)
  unfolding Since
  step_two r a b (inl x) = inl (x.0, second_same L m h r b a ∙ x.1, reads_same _ _ _ h (first_same L m h r b a) ∙ x.2)
  step_two r a b (inr x) = inr (unbroken r a b x.0, x.1)

  -- the third
  step_three : (r : ℕ) (a b : List ℕ) → StepThree L r (showing m a ∷ h) → StepThree L r (showing m b ∷ h)
  unfolding Since
  step_three r a b (inl x) = inl (x.0, first_same L m h r b a ∙ x.1)
  step_three r a b (inr x) = inr x

  -- what sections read is told from the events
  vacated : (r : ℕ) (a b : List ℕ) → Vacated L r (showing m a ∷ h) → Vacated L r (showing m b ∷ h)
  unfolding reads gave_section
  vacated r a b x = record { path = x.path; block = x.block }

  -- so a train lets the route go or does not, and so does time, which is told from the orders and the seconds
  goes : (r : ℕ) (a b : List ℕ) → Goes L r (showing m a) h → Goes L r (showing m b) h
  unfolding seconds_since
  goes r a b (inl x) = inl (step_three r a b x.0, vacated r a b x.1)
  goes r a b (inr x) = inr (record { cancelled = x.cancelled; second = x.second; ninetieth = x.ninetieth })

  -- and it is locked or not
  pub locked : (r : ℕ) (a b : List ℕ) → Locked L r (showing m a ∷ h) → Locked L r (showing m b ∷ h)
  unfolding Since
  locked r a b (inl x) = inl x
  locked r a b (inr x) = inr (λ y. x.0 (goes r b a y), x.1)

  -- ---- open blocks, and lines

  -- the passage that a free reading closes stands in what was before
  closes : (l i w : ℕ) (a b : List ℕ) → Closes L l i w (showing m a) h → Closes L l i w (showing m b) h
  unfolding reads gave_section
  closes l i w a b x = record { ends = x.ends; passage = x.passage }

  -- so an event completes a passage or not, where it frees what lies beyond or not
  completed : (l i w : ℕ) (Beyond : Moment → History → Type 0) → ((a b : List ℕ) → Beyond (showing m a) h → Beyond (showing m b) h)
      → (a b : List ℕ) → CompletedBy L l i w Beyond (showing m a) h → CompletedBy L l i w Beyond (showing m b) h
  unfolding reads gave_section
  completed l i w Beyond f a b (while_lit x t) = while_lit (closes l i w a b x) t
  completed l i w Beyond f a b (with_beyond x y) = with_beyond (closes l i w a b x) (f a b y)
  completed l i w Beyond f a b (later x k y) = later x k (f a b y)

  -- along the line, from the arrival end back: an entrance route is released, or the next passage completed
  frees : (l w d : ℕ) (a b : List ℕ) → FreesBeyond L l w d (showing m a) h → FreesBeyond L l w d (showing m b) h
  unfolding FreesBeyond
  frees l w zero a b (r, x) = (
    r,
    record {
      there = x.there;
      is_entrance = x.is_entrance;
      of_line = x.of_line;
      of_end = x.of_end;
      locked = x.locked;
      released = λ k. x.released (locked r b a k);
    },
  )
  frees l w (suc d) a b x = completed l _ w (FreesBeyond L l w d) (frees l w d) a b x

  -- so a block waits or not
  pub waits : (l i w : ℕ) (a b : List ℕ) → Waits L l i w (showing m a ∷ h) → Waits L l i w (showing m b ∷ h)
  unfolding Since reads gave_section
  waits l i w a b (inl (x, dark, none)) = inl (closes l i w a b x, dark, λ y. none (frees l w _ b a y))
  waits l i w a b (inr ((free, hand, none), x)) = inr ((free, hand, λ y. none (frees l w _ b a y)), x)

  -- and was cleared or not
  cleared : (l i : ℕ) (a b : List ℕ) → Cleared L l i (showing m a ∷ h) → Cleared L l i (showing m b ∷ h)
  unfolding Since reads gave_section
  cleared l i a b (by_passage w (inl x)) = by_passage w (inl (completed l i w _ (frees l w _) a b x))
  cleared l i a b (by_passage w (inr x)) = by_passage w (inr x)
  cleared l i a b (by_hand x) = by_hand x

  -- and is to be open or not
  pub opened : (l i : ℕ) (a b : List ℕ) → Opened L l i (showing m a ∷ h) → Opened L l i (showing m b ∷ h)
  unfolding reads gave_section
  opened l i a b x = record { is_free = x.is_free; cleared = cleared l i a b x.cleared }

  -- the line release asks of the last block's passage, of open blocks, locked routes and bars
  line_ends : (l w : ℕ) (a b : List ℕ) → LineEnds L l w (showing m a) h → LineEnds L l w (showing m b) h
  unfolding Since
  line_ends l w a b x = record {
    held = x.held;
    completes = completed l _ w _ (frees l w _) a b x.completes;
    all_open = λ i c. opened l i a b (x.all_open i c);
    no_exit = λ r c e k y. x.no_exit r c e k (locked r b a y);
    no_bar = x.no_bar;
  }

  -- so a line is secured or not
  pub secured : (l w : ℕ) (a b : List ℕ) → Secured L l w (showing m a ∷ h) → Secured L l w (showing m b ∷ h)
  unfolding Secured
  secured l w a b (inl (by_order x y)) = inl (by_order x y)
  secured l w a b (inl (by_route r x n)) = inl (by_route r (record { sets = x.sets; there = x.there; is_exit = x.is_exit; of_line = x.of_line; way = x.way }) n)
  secured l w a b (inr (x, y)) = inr (record { no_order = x.no_order; no_release = x.no_release; no_end = λ z. x.no_end (line_ends l w b a z) }, y)

  -- ---- signals

  -- a block may be entered or not: points are told from the events too
  pub may_enter_law : (l i : ℕ) (a b : List ℕ) → MayEnter L l i (showing m a ∷ h) → MayEnter L l i (showing m b ∷ h)
  unfolding Since position
  may_enter_law l i a b x = record { is_open = opened l i a b x.is_open; unbarred = x.unbarred; placed = x.placed }

  -- its signal is lit or not
  pub lit : (l i w : ℕ) (a b : List ℕ) → Lit L l i w (showing m a ∷ h) → Lit L l i w (showing m b ∷ h)
  lit l i w a b x = record { secured = secured l w a b x.secured; upward = x.upward; downward = x.downward }

  -- a route has what keeps its signal at proceed or not
  clear : (r : ℕ) (a b : List ℕ) → Clear L r (showing m a ∷ h) → Clear L r (showing m b ∷ h)
  unfolding reads gave_section position
  clear r a b x =
      record { path_free = x.path_free; overlap_free = x.overlap_free; placed = x.placed; may_enter = λ k. may_enter_law _ _ a b (x.may_enter k) }

  -- so its signal has fallen or not
  not_fallen_law : (r : ℕ) (a b : List ℕ) → NotFallen L r (showing m a ∷ h) → NotFallen L r (showing m b ∷ h)
  unfolding Since
  not_fallen_law r a b (inl x) = inl (x.0, clear r a b x.1)
  not_fallen_law r a b (inr x) = inr (clear r a b x.0, x.1)

  -- and is at proceed or not
  pub at_proceed : (r : ℕ) (a b : List ℕ) → AtProceed L r (showing m a ∷ h) → AtProceed L r (showing m b ∷ h)
  unfolding Since
  at_proceed r a b x = record { locked = locked r a b x.locked; standing = x.standing; not_fallen = not_fallen_law r a b x.not_fallen }
