-- What is answered and what the buffer holds then, by cases: unsound, too short, drawn; asked of sound records, and asked in a run.
use Prim.Native.Nat.{ℕ, ◌<◌, ◌≤◌}
use mathlib.Core.Path.{◌≡◌, refl, sym, ap, subst, ◌∙◌}
use mathlib.Core.Bool.{Bool, true, false, not}
use mathlib.Core.List.{List, ◌++◌}
use native.Mathlib.Nat.{zero-add}
use native.Mathlib.Omega.{arith}
use borrow.Author.Tests.{not-true, not-false, le-leb, leb-true}
use lib.Dec.{eqb}
use lib.ListN.{length, drop}
use lib.Seq.{sets, sets-eq}
use Rattle.laws.specs.Tests.{◌and◌}
use Rattle.laws.proofs.Choice.{if_true, if_false, if_lt, if_ge}
use Rattle.laws.proofs.Tests.{and_left, and_right, and_both, every_at, every_one, every_more, fails_from, not_both}
use Rattle.track.specs.Sizes.{most_distants}
use Rattle.track.specs.Lists.{between}
use Rattle.file_objects.specs.Distants.{most_distants_of}
use Rattle.file_objects.proofs.DistantRanges.{version_most}
use Rattle.layout.specs.declared.Layout.{Layout}
use Rattle.layout.specs.Sound.{fits, sound}
use Rattle.interlocking.specs.declared.State.{State}
use Rattle.interlocking.specs.State.{in_range}
use Rattle.interlocking.specs.declared.Core.{Core}
use Rattle.interlocking.specs.Parts.{core_of, bare}
use Rattle.panel.specs.declared.Drawn.{Drawn}
use Rattle.panel.specs.Panel.{signal_shows, distant_byte, image, panel_length, refused, answer_where, drawn_where, answer, drawn, panel_asked_in_run, answer_in_run, drawn_in_run}
use Rattle.panel.specs.Writes.{FitsTables}
use Rattle.panel.proofs.Laws.{length_image}

-- ---- what is asked

-- what a run asks says that there are no more objects than the tables hold
asked_fits : (L : Layout) → panel_asked_in_run L ≡ true → FitsTables L
unfolding panel_asked_in_run between
asked_fits L e = record {
  sections = leb-true _ _ (and_right _ _ (every_at _ e 0));
  points = leb-true _ _ (every_at _ e 1);
  signals = leb-true _ _ (every_at _ e 2);
  routes = leb-true _ _ (every_at _ e 3);
  distants = leb-true _ _ (every_at _ e 4);
  lines = leb-true _ _ (every_at _ e 5);
}

-- a sound layout has all that a run asks; no version has more distants than there may be
sound_asked : (L : Layout) → sound L ≡ true → panel_asked_in_run L ≡ true
unfolding sound fits panel_asked_in_run
sound_asked L e =
    let f : fits L ≡ true = every_at _ e 0 in
    let few : L.distants ≤ most_distants_of L.version = leb-true _ _ (every_at _ f 7) in
    every_more _ _ _ (every_at _ f 1) (every_more _ _ _ (every_at _ f 2) (every_more _ _ _ (every_at _ f 4)
    (every_more _ _ _ (every_at _ f 9) (every_more _ _ _ (le-leb L.distants most_distants (omega (arith, few, version_most L.version)))
    (every_more _ _ _ (every_at _ f 5) (every_one _ (every_at _ f 12)))))))

-- so of a layout that the code found sound
pub sound_holds : (L : Layout) (v : Bool) → v ≡ sound L → not v ≡ false → FitsTables L
sound_holds L v e q = asked_fits L (sound_asked L (sym e ∙ not-false v q))

-- and of one that it found to be within the tables
pub asked_holds : (L : Layout) (v : Bool) → v ≡ panel_asked_in_run L → not v ≡ false → FitsTables L
asked_holds L v e q = asked_fits L (sym e ∙ not-false v q)

-- ---- the answer and the buffer

module _ (L : Layout) (s : State) (buffer : List ℕ) where
  -- an answer r with what the buffer holds then, where t answers the question of 18
  abbrev pub Answered : Bool → Drawn → List ℕ → Type 0
  Answered t r after = (r ≡ answer_where t L s (length buffer)) × (after ≡ drawn_where t L s buffer)

  -- an answer that is not 0 leaves the buffer as it was
  kept : (t : Bool) (r : Drawn) → r ≡ answer_where t L s (length buffer) → eqb r.number 0 ≡ false → Answered t r buffer
  unfolding drawn_where
  kept t r e q = (e, if_false _ _ _ buffer (ap (λ (d : Drawn). eqb d.number 0) (sym e) ∙ q) refl)

  -- 18: what is asked fails
  unsound : (t : Bool) → t ≡ false → Answered t (record { number = 18; length = 0 }) buffer
  unfolding answer_where refused
  unsound t e = kept t (refused 18) (if_true _ _ _ (refused 18) (ap not e) refl) refl

  module _ (n : ℕ) (g : n ≡ panel_length L) where
    -- the image is as long as the code counted
    long : length (image L s) ≡ n
    long = length_image L s ∙ sym g

    -- 27: the buffer is too short
    pub too_short : length buffer < n → Answered true (record { number = 27; length = 0 }) buffer
    unfolding answer_where refused
    too_short h =
        kept true (refused 27) (if_false _ _ _ (refused 27) refl (if_lt (length buffer) (length (image L s)) _ _ (refused 27) (omega (arith, long)) refl)) refl

    -- 0: there is room
    module _ (h : n ≤ length buffer) where
      -- the answer is 0 with the image's length
      is_0 : record { number = 0; length = n } ≡ answer_where true L s (length buffer)
      unfolding answer_where
      is_0 = if_false _ _ _ _ refl (if_ge (length buffer) (length (image L s)) _ _ _ (omega (arith, long)) (ap (λ k. record { number = 0; length = k }) (sym long)))

      -- and the buffer is the image, then what was there
      pub done : (after : List ℕ) → after ≡ sets buffer 0 (image L s) → Answered true (record { number = 0; length = n }) after
      unfolding drawn_where
      done after d = (
        is_0,
        if_true _ _ _ after (ap (λ (r : Drawn). eqb r.number 0) (sym is_0))
            (d ∙ sets-eq (image L s) buffer 0 (omega (arith, long)) ∙ ap (λ k. image L s ++ drop k buffer) (zero-add (length (image L s)))),
      )

  -- ---- asked of sound records

  -- the code found the state out of range
  pub unsound_state : (v : Bool) → v ≡ in_range s → not v ≡ true → (record { number = 18; length = 0 } ≡ answer L s (length buffer)) × (buffer ≡ drawn L s buffer)
  unfolding answer drawn
  unsound_state v e q = unsound _ (fails_from _ (λ p. not_both (and_right _ _ p) (sym e ∙ not-true v q)))

  -- the code found the layout not sound
  pub unsound_layout : (v : Bool) → v ≡ sound L → not v ≡ true → (record { number = 18; length = 0 } ≡ answer L s (length buffer)) × (buffer ≡ drawn L s buffer)
  unfolding answer drawn
  unsound_layout v e q = unsound _ (fails_from _ (λ p. not_both (and_left _ _ p) (sym e ∙ not-true v q)))

  -- it found both sound
  pub sound_drawn : (v u : Bool) (r : Drawn) (after : List ℕ) → v ≡ in_range s → not v ≡ false → u ≡ sound L → not u ≡ false → Answered true r after
      → (r ≡ answer L s (length buffer)) × (after ≡ drawn L s buffer)
  unfolding answer drawn
  sound_drawn v u r after e p f q a = subst (λ t. Answered t r after) (sym (and_both _ _ (sym f ∙ not-false u q) (sym e ∙ not-false v p))) a

  -- ---- asked in a run

  -- the layout has more objects than the tables hold, or no section
  pub run_unsound : (v : Bool) → v ≡ panel_asked_in_run L → not v ≡ true
      → (record { number = 18; length = 0 } ≡ answer_in_run L s (length buffer)) × (buffer ≡ drawn_in_run L s buffer)
  unfolding answer_in_run drawn_in_run
  run_unsound v e q = unsound _ (sym e ∙ not-true v q)

  -- it is within the tables
  pub run_drawn : (v : Bool) (r : Drawn) (after : List ℕ) → v ≡ panel_asked_in_run L → not v ≡ false → Answered true r after
      → (r ≡ answer_in_run L s (length buffer)) × (after ≡ drawn_in_run L s buffer)
  unfolding answer_in_run drawn_in_run
  run_drawn v r after e q a = subst (λ t. Answered t r after) (sym (sym e ∙ not-false v q)) a

-- what is drawn of the nine tables is drawn of the state: the image looks at no heads
pub core_drawn : (L : Layout) (s : State) (buffer : List ℕ) (c : Core) (r : Drawn) (after : List ℕ) → c ≡ core_of s → Answered L (bare c) buffer true r after → Answered L s buffer true r after
unfolding answer_where drawn_where image distant_byte signal_shows core_of
core_drawn L s buffer c r after e a = rw e at a

-- ---- the panel of a run

module _ (L : Layout) (s : State) (h : sound L ≡ true) (e : in_range s ≡ true) where
  -- both ask, and find all in order
  asked_same : panel_asked_in_run L ≡ sound L and in_range s
  asked_same = sound_asked L h ∙ sym (and_both _ _ h e)

  -- on a sound layout and a state in range the panel of a run is the panel: its answer
  pub run_answer_same : (room : ℕ) → answer_in_run L s room ≡ answer L s room
  unfolding answer_in_run answer
  run_answer_same room = ap (λ t. answer_where t L s room) asked_same

  -- and every byte of the buffer
  pub run_drawn_same : (buffer : List ℕ) → drawn_in_run L s buffer ≡ drawn L s buffer
  unfolding drawn_in_run drawn
  run_drawn_same buffer = ap (λ t. drawn_where t L s buffer) asked_same
