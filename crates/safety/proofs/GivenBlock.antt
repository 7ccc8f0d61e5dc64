-- What an accepted event gives a block is what it gives its one section, and takes the block to a stage, or the event releases its line by hand and opens it.
use Prim.Native.Nat.{ℕ, ◌/◌, ◌%◌, ◌<◌}
use mathlib.Core.Path.{◌≡◌, refl, sym, ap, ◌∙◌}
use mathlib.Core.Bool.{Bool, true}
use mathlib.Core.List.{List}
use native.Mathlib.Decide.{ℕ_discrete}
use native.Mathlib.Omega.{arith}
use borrow.Author.Tests.{eqb-true, eq-eqb, ne_eqb, lt-ltb}
use lib.Dec.{eqb, ltb}
use Rattle.laws.specs.Choice.{when◌then◌else◌}
use Rattle.laws.specs.Tests.{◌and◌}
use Rattle.laws.proofs.Choice.{chosen, passed_over}
use Rattle.laws.proofs.Tests.{and_left, and_both, fails_from}
use Rattle.laws.specs.Tables.{read}
use Rattle.track.specs.Codes.{stage0}
use Rattle.track.specs.Sizes.{most_blocks, most_places}
use Rattle.track.specs.Objects.{line}
use Rattle.track.specs.declared.Line.{Line}
use Rattle.track.specs.Blocks.{only_section, in_block}
use Rattle.tables.specs.declared.Gives.{Gives}
use Rattle.tables.specs.Readings.{given, block_given}
use Rattle.tables.specs.Blocks.{place, stage_of}
use Rattle.passage.specs.Passage.{own_stage}
use Rattle.layout.specs.declared.Layout.{Layout}
use Rattle.layout.specs.Layout.{line_in}
use Rattle.layout.specs.Sound.{sound}
use Rattle.layout_facts.specs.Plain.{Sound}
use Rattle.interlocking.specs.declared.State.{State}
use Rattle.interlocking.specs.State.{in_range, with_sections, with_routes, with_lines, with_axles}
use Rattle.lamps.specs.Lamps.{far_stop_lit}
use Rattle.line_block.specs.PassingBack.{goes_open, no_arrival, waited_stage, waited_stage_at, passed_back}
use Rattle.line_block.specs.OwnReadings.{own_given, own_stage_at, given_stages, own_stages}
use Rattle.axles.specs.declared.Axles.{Axles}
use Rattle.interlocking.specs.Own.{own_section, own_lock, own_cancel, own_secure, open_at, own_manual}
use Rattle.interlocking.specs.Rows.{gives_reading}
use Rattle.interlocking.specs.Step.{refusal}
use Rattle.step_facts.specs.Run.{Event}
use Rattle.step_facts.proofs.Tells.{Tells, Untold, tells_no_order}
use Rattle.safety.specs.History.{History, gave_block}
use Rattle.step_facts.proofs.Entries.{direction, stage, block, place_line, place_block, read_block}
use Rattle.step_facts.proofs.Within.{On, done, Done, reads, sets, cancels, secures, opens, leaves, is_done}
use Rattle.step_facts.proofs.Openings.{passes_still}
use Rattle.safety.proofs.Heads.{HeadsHeld}
use Rattle.safety.proofs.Given.{granted, untold_gives_nothing, reading_follows}

-- a block to which nothing is given stays
own_nothing : (lit : Bool) (was : ℕ) → own_stage 0 lit was ≡ was
unfolding own_stage when◌then◌else◌
own_nothing lit was = refl

-- what an event gives a block is what it gives its one section
pub block_given_law : (g : Gives) (b : Line) (i : ℕ) → block_given g b i ≡ given g (only_section b i)
unfolding block_given given in_block
block_given_law g b i = go (ℕ_discrete (only_section b i) g.section)
  where
    go : Dec (only_section b i ≡ g.section)
        → (when eqb (only_section b i) g.section then g.reading else 0) ≡ (when eqb g.section (only_section b i) then g.reading else 0)
    go (yes q) = chosen _ _ _ (eq-eqb _ _ q) ∙ sym (chosen _ _ _ (eq-eqb _ _ (sym q)))
    go (no d) = passed_over _ _ _ (ne_eqb _ _ d) ∙ sym (passed_over _ _ _ (ne_eqb _ _ (λ z. d (sym z))))

-- so what it gives block i of line l
given_here : (L : Layout) (l i : ℕ) (g : Gives) → i < (line_in L l).blocks → own_given g (line_in L l) i ≡ given g (block L l i)
unfolding own_given
given_here L l i g c = chosen _ _ _ (lt-ltb i (line_in L l).blocks c) ∙ block_given_law g (line_in L l) i

module _ (L : Layout) (S : Sound L) (s : State) (e : Event) (h : History) (H : HeadsHeld L s.axles h)
    (pass : (refusal (sound L and in_range s) L s e.kind e.first e.second).number ≡ 0) (l i : ℕ) (b : l < L.lines) (c : i < (line_in L l).blocks) where
  -- a line has at most eight blocks
  few_blocks : i < most_blocks
  few_blocks = omega (arith, (S.ranges.lines l b).block_count)

  -- the block is the one at its place
  here : e.first ≡ l → eqb (place l i / most_blocks) e.first and ltb (place l i % most_blocks) (line L.line e.first).blocks ≡ true
  unfolding line_in
  here z =
      and_both _ _ (eq-eqb _ _ (place_line l i few_blocks ∙ sym z))
      (lt-ltb (place l i % most_blocks) (line L.line e.first).blocks (rw (place_block l i few_blocks, z) c))

  -- a manual release of its line opens the block
  pub own_by_hand : On 7 e l → stage (done L s e) l i ≡ 0
  unfolding own_manual with_lines open_at
  own_by_hand u = go (is_done L s e)
    where
      go : {t : State} → Done L s e t → stage t l i ≡ 0
      go (reads t) = absurd (tells_no_order t (let v = u.0 in omega arith))
      go (sets k) = absurd (let v = u.0 in omega arith)
      go (cancels k) = absurd (let v = u.0 in omega arith)
      go (secures k) = absurd (let v = u.0 in omega arith)
      go (opens k) = read_block l i few_blocks L.lines _ s.stage b S.ranges.line_count ∙ chosen _ _ _ (here u.1)
      go (leaves f v) = absurd (f.3 u.0)

-- ---- else it follows what it is given

-- the stages of the blocks of line l after their own readings, before an opening passes back: each as it follows from what the block is given, and the event
-- leaves them as passing back does
pub record OwnStages (L : Layout) (s : State) (e : Event) (h : History) (l : ℕ) (own : List ℕ) : Type 0 where
  pub given : (i : ℕ) → i < (line_in L l).blocks
      → stage_of own l i ≡ own_stage (gave_block L l i (granted L s e) h) (far_stop_lit L.signals L.line s.lamp l i (direction s l)) (stage s l i)
  pub passed : (i : ℕ) → i < (line_in L l).blocks
      → stage (done L s e) l i ≡ waited_stage (line_in L l) own (goes_open s.stage own) no_arrival l i (direction s l) (stage_of own l i)

module _ (L : Layout) (S : Sound L) (s : State) (e : Event) (h : History) (H : HeadsHeld L s.axles h)
    (pass : (refusal (sound L and in_range s) L s e.kind e.first e.second).number ≡ 0) (l : ℕ) (b : l < L.lines) where
  -- what the lamp of a block's far signal reports
  abbrev lit_there : ℕ → Bool
  lit_there i = far_stop_lit L.signals L.line s.lamp l i (direction s l)

  -- where no block is given anything and the stages stay, they are what they were
  stages_still : Untold e.kind → ((i : ℕ) → i < (line_in L l).blocks → stage (done L s e) l i ≡ stage s l i) → OwnStages L s e h l s.stage
  unfolding stage_of
  stages_still u same = record {
    given = λ i c. sym (ap (λ v. own_stage v (lit_there i) (stage s l i)) (untold_gives_nothing L (block L l i) (granted L s e) h u) ∙ own_nothing _ (stage s l i));
    passed = λ i c. same i c ∙ passes_still (line_in L l) s.stage l i (direction s l);
  }

  -- a reading takes each block to the stage that follows
  stages_read : {g v : ℕ} {xs : List Axles} → Tells s e g v xs → done L s e ≡ own_section L.signals L.line L.lines (with_axles s xs) g v
      → OwnStages L s e h l (given_stages L.lines L.signals L.line s.direction s.lamp (gives_reading g v) s.stage)
  unfolding stage_of own_section own_stages given_stages passed_back with_sections with_axles own_stage_at waited_stage_at gives_reading line_in
  stages_read t q = record {
    given = λ i c.
        let few = few_blocks L S s e h H pass l i b c in
        read_block l i few L.lines _ s.stage b S.ranges.line_count
        ∙ rw (place_line l i few, place_block l i few)
        (ap (λ v. own_stage v (lit_there i) (stage s l i)) (given_here L l i _ c ∙ reading_follows L s e h H pass (block L l i) t));
    passed = λ i c.
        let few = few_blocks L S s e h H pass l i b c in
        ap (λ (x : State). stage x l i) q ∙ read_block l i few L.lines _ _ b S.ranges.line_count ∙ rw (place_line l i few, place_block l i few);
  }

  -- by its kind
  pub own_follows : ¬ On 7 e l → (own : List ℕ) × OwnStages L s e h l own
  unfolding own_lock own_cancel own_secure own_manual with_routes with_lines open_at
  own_follows n = go (is_done L s e) refl
    where
      go : {t : State} → Done L s e t → done L s e ≡ t → (own : List ℕ) × OwnStages L s e h l own
      go (reads t) q = (_, stages_read t q)
      go (sets k) q = (_, stages_still (omega arith) (λ i c. ap (λ (x : State). stage x l i) q))
      go (cancels k) q = (_, stages_still (omega arith) (λ i c. ap (λ (x : State). stage x l i) q))
      go (secures k) q = (_, stages_still (omega arith) (λ i c. ap (λ (x : State). stage x l i) q))
      go (opens k) q = (
        _,
        stages_still (omega arith) (λ i c.
            let few = few_blocks L S s e h H pass l i b c in
            ap (λ (x : State). stage x l i) q
            ∙ read_block l i few L.lines _ s.stage b S.ranges.line_count
            ∙ passed_over _ _ _ (fails_from _ (λ t. n (k, sym (sym (place_line l i few) ∙ eqb-true _ _ (and_left _ _ t)))))),
      )
      go (leaves f u) q = (_, stages_still f.4 (λ i c. ap (λ (x : State). stage x l i) q ∙ ap (λ xs. read most_places stage0 xs (place l i)) u.3))
