-- The step of the whole state is that of its parts: the code hands the nine tables through a step, of the heads only those of one section, and lends the
-- lamps.
use Prim.Native.Nat.{ℕ, ◌/◌, ◌*◌, ◌<◌, ◌≤◌}
use mathlib.Core.Path.{◌≡◌, refl, ap, subst, ◌∙◌}
use mathlib.Core.Bool.{Bool, true, false, not}
use mathlib.Core.Logic.{◌≢◌, inl, inr}
use mathlib.Core.List.{List}
use native.Mathlib.Decide.{ℕ_discrete, dec_lt}
use native.Mathlib.Omega.{arith}
use borrow.Author.Tests.{eq-eqb, ne_eqb, lt-ltb, le-leb}
use lib.Dec.{eqb, leb}
use lib.ListN.{length, get_or, set}
use Rattle.laws.specs.Choice.{when◌then◌else◌}
use Rattle.laws.specs.Tests.{◌and◌}
use Rattle.laws.proofs.Choice.{chosen}
use Rattle.laws.proofs.Tests.{and_both, not_both}
use lib.Seq.{set-get_or}
use Rattle.laws.proofs.Arrays.{read_in}
use Rattle.track.specs.Codes.{head_silent, reset_axles, report_lamp}
use Rattle.track.specs.Sizes.{most_sections}
use Rattle.axles.specs.declared.Axles.{Axles}
use Rattle.axles.specs.Heads.{cold_heads}
use Rattle.layout.specs.declared.Layout.{Layout}
use Rattle.reasons.specs.Refusal.{Refusal, refused, no_refusal, refused_if, first_of}
use Rattle.refusals.specs.Events.{numbers_refusal}
use Rattle.refusals.specs.Orders.{throw_refusal, secure_refusal, way_refusal, exit_refusal, route_refusal, set_refusal, cancel_refusal, manual_refusal}
use Rattle.interlocking.specs.declared.State.{State}
use Rattle.interlocking.specs.declared.Core.{Core}
use Rattle.interlocking.specs.declared.CoreAnswer.{CoreAnswer}
use Rattle.interlocking.specs.State.{heads_at, with_sections, with_points, with_routes, with_lines, with_bars, with_axles, with_lamps}
use Rattle.interlocking.specs.Own.{own_section, own_point, own_throw, own_lock, own_cancel, own_secure, own_manual, own_bar, head_section, heads_of, heads_by, own_heads, own_lamp}
use Rattle.interlocking.specs.Rows.{Row, section_row, point_row, throw_row, set_row, cancel_row, secure_row, manual_row, bar_row, second_row, head_row, count_row, silent_row, still_silent, reset_row, lamp_row, no_row, row_with, row_of}
use Rattle.interlocking.specs.Step.{row_refusal, answered_by, step_where}
use Rattle.interlocking.specs.Parts.{core_of, headless, moves, stays, tried, is_of_heads, heads_then, head_place, followed, core_step, lamps_then, together}
use Rattle.interlocking.proofs.Departure.{set_lines}
use Rattle.interlocking.proofs.Rows.{OfKind, section_row_kind, point_row_kind, throw_row_kind, set_row_kind, cancel_row_kind, secure_row_kind, manual_row_kind, bar_row_kind, unbar_row, second_row_kind, count_row_kind, silent_row_kind, reset_row_kind, lamp_row_kind, no_row_kind, row_unknown, row_kind_of, head_named, reset_named, of_heads, kinds_of_heads, kind_of_no_heads}
use Rattle.interlocking.proofs.Lifted.{settle_parts}

-- ---- rows of the parts and of the whole

-- the row of the parts and that of the whole, for an event with the numbers k, a and b: they refuse alike, and where they do not refuse they make the same
-- nine tables, give the same, the heads y stored at place p are those of the whole, and so are the lamps with the report stored
data Alike (t : Bool) (k a b : ℕ) (s : State) (p : ℕ) (y : Axles) (of_parts of_whole : Row) : Type 0 where
  same : row_refusal t a of_parts ≡ row_refusal t a of_whole → core_of of_parts.does ≡ core_of of_whole.does → of_parts.gives ≡ of_whole.gives
      → set s.axles p y ≡ of_whole.does.axles → lamps_then s.lamp 0 k a b ≡ of_whole.does.lamp → Alike t k a b s p y of_parts of_whole
  refused_both : row_refusal t a of_parts ≡ row_refusal t a of_whole → (row_refusal t a of_whole).number ≢ 0 → Alike t k a b s p y of_parts of_whole

module _ (t : Bool) (L : Layout) (s : State) (k a b p : ℕ) (x y : Axles) (back : set s.axles p x ≡ s.axles) where
  -- a refusal leaves the state as it was, since the heads are stored back as they were, and no report is
  stays_whole : (of_parts of_whole : Row) → row_refusal t a of_parts ≡ row_refusal t a of_whole → (row_refusal t a of_whole).number ≢ 0
      → together s.axles p s.lamp k a b (followed L (core_of s) x y (tried t (core_of s) a of_parts)) ≡ answered_by t L s a of_whole
  unfolding together followed tried moves stays answered_by when◌then◌else◌ core_of lamps_then ◌and◌
  stays_whole of_parts of_whole e d =
      let z : eqb (row_refusal t a of_whole).number 0 ≡ false = ne_eqb _ 0 d in
      rw (e, z, z, z, back)

  -- so the answer is the whole's
  answers_whole : {of_parts of_whole : Row} → Alike t k a b s p y of_parts of_whole
      → together s.axles p s.lamp k a b (followed L (core_of s) x y (tried t (core_of s) a of_parts)) ≡ answered_by t L s a of_whole
  unfolding together followed tried moves stays answered_by when◌then◌else◌
  answers_whole {of_parts} {of_whole} (refused_both e d) = stays_whole of_parts of_whole e d
  answers_whole {of_parts = u} {of_whole = v} (same e c g h i) = go (ℕ_discrete (row_refusal t a v).number 0)
    where
      go : Dec ((row_refusal t a v).number ≡ 0) → together s.axles p s.lamp k a b (followed L (core_of s) x y (tried t (core_of s) a u)) ≡ answered_by t L s a v
      go (no d) = stays_whole u v e d
      go (yes q) =
          let z : eqb (row_refusal t a v).number 0 ≡ true = eq-eqb _ 0 q in
          rw (e, z, c, g, h, i, settle_parts L s v.does v.gives)

-- an event of another kind reports no lamp
no_report : (lamps : List ℕ) (k a b : ℕ) → k ≢ report_lamp → lamps_then lamps 0 k a b ≡ lamps
unfolding lamps_then ◌and◌ when◌then◌else◌
no_report lamps k a b d = rw (ne_eqb k report_lamp d)

-- ---- an event of no heads

module _ (t : Bool) (L : Layout) (s : State) (k a b : ℕ) (x : Axles) (back : set s.axles (head_place k a) x ≡ s.axles) where
  -- it leaves them, and its row is made of the nine tables
  plain : is_of_heads k ≡ false → {v : Row} → OfKind L s a b k v → Alike t k a b s (head_place k a) (heads_then x k a b) (row_with L (headless (core_of s) s.lamp) x (heads_then x k a b) k a b) v
  unfolding core_of row_with heads_then when◌then◌else◌ row_refusal section_row point_row throw_row set_row cancel_row secure_row manual_row bar_row second_row lamp_row no_row
      own_section own_point own_throw own_lock own_cancel own_secure own_manual own_bar own_lamp with_sections with_points with_routes with_lines with_bars with_lamps lamps_then ◌and◌
      throw_refusal set_refusal cancel_refusal manual_refusal route_refusal exit_refusal way_refusal secure_refusal
  plain n (section_row_kind q) = rw (n, q) (same refl refl refl (rw q at back) refl)
  plain n (point_row_kind q) = rw (n, q) (same refl refl refl (rw q at back) refl)
  plain n (throw_row_kind q) = rw (n, q) (same refl refl refl (rw q at back) refl)
  plain n (set_row_kind q) =
      rw (n, q, set_lines L.route s a, set_lines L.route (headless (core_of s) s.lamp) a) (same refl refl refl (rw q at back) refl)
  plain n (cancel_row_kind q) = rw (n, q) (same refl refl refl (rw q at back) refl)
  plain n (secure_row_kind q) = rw (n, q) (same refl refl refl (rw q at back) refl)
  plain n (manual_row_kind q) = rw (n, q) (same refl refl refl (rw q at back) refl)
  plain n (bar_row_kind q) = rw (n, q) (same refl refl refl (rw q at back) refl)
  plain n (unbar_row q) = rw (n, q) (same refl refl refl (rw q at back) refl)
  plain n (second_row_kind q) = rw (n, q) (same refl refl refl (rw q at back) refl)
  plain n (lamp_row_kind q) = rw (n, q) (same refl refl refl (rw q at back) refl)
  plain n (count_row_kind (inl q)) = not_both (of_heads k (omega arith) (omega arith)) n
  plain n (count_row_kind (inr q)) = not_both (of_heads k (omega arith) (omega arith)) n
  plain n (silent_row_kind q) = not_both (of_heads k (omega arith) (omega arith)) n
  plain n (reset_row_kind q) = not_both (of_heads k (omega arith) (omega arith)) n
  plain n (no_row_kind u) = rw (← row_unknown L (headless (core_of s) s.lamp) x (heads_then x k a b) k a b u) (same refl refl refl (rw n back) (no_report _ _ _ _ u.others.no_lamp))

-- ---- an event of heads

-- where the numbers refuse, they are what is refused
numbers_first : (t : Bool) (a : ℕ) (u v : Row) → u.missing ≡ v.missing → u.misfit ≡ v.misfit → u.wrong ≡ v.wrong
    → (numbers_refusal t v.missing a v.misfit v.wrong).number ≢ 0 → (row_refusal t a u ≡ row_refusal t a v) × ((row_refusal t a v).number ≢ 0)
unfolding row_refusal first_of when◌then◌else◌
numbers_first t a u v m f w d =
    let z : eqb (numbers_refusal t v.missing a v.misfit v.wrong).number 0 ≡ false = ne_eqb _ 0 d in
    (rw (m, f, w, z), rw z d)

-- where soundness was not found, or there is no such object, they do
numbers_refuse : (t missing wrong : Bool) (a : ℕ) (f : Refusal) → (t ≡ true → missing ≡ true) → (numbers_refusal t missing a f wrong).number ≢ 0
unfolding numbers_refusal first_of refused_if refused no_refusal when◌then◌else◌
numbers_refuse true missing wrong a f h = rw (h refl) (λ z. omega arith)
numbers_refuse false missing wrong a f h = λ z. omega arith

module _ (t : Bool) (L : Layout) (s : State) (k a b : ℕ) (x : Axles) (of : is_of_heads k ≡ true) (few : t ≡ true → L.sections ≤ most_sections) (d : Axles) (len : length s.axles ≡ most_sections)
    (at : x ≡ get_or s.axles (head_place k a) d) where
  -- it is one of the four kinds
  kinds : (11 ≤ k) × (k ≤ 14)
  kinds = kinds_of_heads k of

  -- the section named has a place: the heads read there are its own, and those that it leaves are stored there
  there : head_section k a < most_sections → (head_place k a ≡ head_section k a) × (x ≡ heads_of s k a)
  unfolding head_place heads_of heads_at
  there h =
      let p = chosen _ (head_section k a) 0 (and_both _ _ of (lt-ltb _ _ h)) in
      (p, at ∙ ap (λ i. get_or s.axles i d) p ∙ read_in s.axles (head_section k a) most_sections d cold_heads len h)

  -- a row of the heads of section g, with f besides in the parts and h in the whole
  alike_rows : (missing wrong : Bool) (f h : Refusal) → (most_sections ≤ head_section k a → t ≡ true → missing ≡ true) → (x ≡ heads_of s k a → f ≡ h)
      → Alike t k a b s (head_place k a) (heads_then x k a b) (head_row L (headless (core_of s) s.lamp) (heads_then x k a b) (head_section k a) missing wrong f)
      (head_row L s (heads_by (heads_of s k a) k a b) (head_section k a) missing wrong h)
  unfolding head_row heads_then when◌then◌else◌ row_refusal own_heads own_section with_sections with_axles core_of
  alike_rows missing wrong f h past besides = go (dec_lt (head_section k a) most_sections)
    where
      go : Dec (head_section k a < most_sections)
          → Alike t k a b s (head_place k a) (heads_then x k a b) (head_row L (headless (core_of s) s.lamp) (heads_then x k a b) (head_section k a) missing wrong f)
          (head_row L s (heads_by (heads_of s k a) k a b) (head_section k a) missing wrong h)
      go (yes u) =
          let (p, q) = there u in
          rw (of, p, q, besides q) (same refl refl refl refl (no_report _ _ _ _ (let h = kinds.1 in omega arith)))
      go (no u) =
          let (e, n) = numbers_first t a (head_row L (headless (core_of s) s.lamp) (heads_then x k a b) (head_section k a) missing wrong f)
          (head_row L s (heads_by (heads_of s k a) k a b) (head_section k a) missing wrong h) refl refl refl (numbers_refuse t missing wrong a _ (past (omega arith))) in
          refused_both e n

  -- a head of a section past the table is past the last
  head_past : head_section k a ≡ a / 2 → most_sections ≤ head_section k a → t ≡ true → leb (2 * L.sections) a ≡ true
  head_past e h q = let b = few q in le-leb _ a (omega arith)

  -- so the row of a count, where it is the one of this kind
  count_alike : k ≢ reset_axles → row_with L (headless (core_of s) s.lamp) x (heads_then x k a b) k a b ≡ count_row L (headless (core_of s) s.lamp) (heads_then x k a b) a b
      → Alike t k a b s (head_place k a) (heads_then x k a b) (row_with L (headless (core_of s) s.lamp) x (heads_then x k a b) k a b) (count_row L s (heads_by (heads_of s k a) k a b) a b)
  unfolding count_row
  count_alike n e = rw (e, ← head_named k a n) (alike_rows _ _ no_refusal no_refusal (head_past (head_named k a n)) (λ q. refl))

  -- of a silence
  silent_alike : k ≡ head_silent → row_with L (headless (core_of s) s.lamp) x (heads_then x k a b) k a b ≡ silent_row L (headless (core_of s) s.lamp) (heads_then x k a b) a b
      → Alike t k a b s (head_place k a) (heads_then x k a b) (row_with L (headless (core_of s) s.lamp) x (heads_then x k a b) k a b) (silent_row L s (heads_by (heads_of s k a) k a b) a b)
  unfolding silent_row
  silent_alike n e = let g = head_named k a (omega arith) in rw (e, ← g) (alike_rows _ _ no_refusal no_refusal (head_past g) (λ q. refl))

  -- and of a reset, which asks the heads as they were
  reset_alike : k ≡ reset_axles → row_with L (headless (core_of s) s.lamp) x (heads_then x k a b) k a b ≡ reset_row L (headless (core_of s) s.lamp) x (heads_then x k a b) a b
      → Alike t k a b s (head_place k a) (heads_then x k a b) (row_with L (headless (core_of s) s.lamp) x (heads_then x k a b) k a b)
      (reset_row L s (heads_of s k a) (heads_by (heads_of s k a) k a b) a b)
  unfolding reset_row
  reset_alike n e =
      rw e (subst (λ i. Alike t k a b s (head_place k a) (heads_then x k a b) (head_row L (headless (core_of s) s.lamp) (heads_then x k a b) i (leb L.sections a) (not (eqb b 0)) (still_silent x a))
      (head_row L s (heads_by (heads_of s k a) k a b) i (leb L.sections a) (not (eqb b 0)) (still_silent (heads_of s k a) a))) (reset_named k a n)
      (alike_rows _ _ _ _ (λ h q. let c = few q in let g = reset_named k a n in le-leb _ a (omega arith)) (λ q. ap (λ z. still_silent z a) q)))

  -- its row, kind by kind
  of_its_heads : {v : Row} → OfKind L s a b k v → Alike t k a b s (head_place k a) (heads_then x k a b) (row_with L (headless (core_of s) s.lamp) x (heads_then x k a b) k a b) v
  unfolding row_with when◌then◌else◌
  of_its_heads (count_row_kind (inl q)) = count_alike (omega arith) (rw q)
  of_its_heads (count_row_kind (inr q)) = count_alike (omega arith) (rw q)
  of_its_heads (silent_row_kind q) = silent_alike q (rw q)
  of_its_heads (reset_row_kind q) = reset_alike q (rw q)
  of_its_heads (section_row_kind q) = absurd (omega (arith, kinds.0))
  of_its_heads (point_row_kind q) = absurd (omega (arith, kinds.0))
  of_its_heads (throw_row_kind q) = absurd (omega (arith, kinds.0))
  of_its_heads (set_row_kind q) = absurd (omega (arith, kinds.0))
  of_its_heads (cancel_row_kind q) = absurd (omega (arith, kinds.0))
  of_its_heads (secure_row_kind q) = absurd (omega (arith, kinds.0))
  of_its_heads (manual_row_kind q) = absurd (omega (arith, kinds.0))
  of_its_heads (bar_row_kind q) = absurd (omega (arith, kinds.0))
  of_its_heads (unbar_row q) = absurd (omega (arith, kinds.0))
  of_its_heads (second_row_kind q) = absurd (omega (arith, kinds.0))
  of_its_heads (lamp_row_kind q) = absurd (omega (arith, kinds.1))
  of_its_heads (no_row_kind u) = absurd (kind_of_no_heads u.no_in u.no_out u.no_silent u.no_reset kinds)

-- ---- either

-- the answer r of the parts, with the heads x that stood at their place, put together, is that of the whole
pub together_is : (t : Bool) (L : Layout) (s : State) (k a b : ℕ) (d x : Axles) (c : Core) (p : ℕ) (r : CoreAnswer) → (t ≡ true → L.sections ≤ most_sections) → length s.axles ≡ most_sections
    → p ≡ head_place k a → x ≡ get_or s.axles p d → c ≡ core_of s → r ≡ core_step t L c x s.lamp k a b
    → together s.axles p s.lamp k a b r ≡ step_where t L s k a b
unfolding core_step step_where
together_is t L s k a b d x c p r few len q at e f =
    rw (f, e, q) (answers_whole t L s k a b (head_place k a) x (heads_then x k a b) back (go (is_of_heads k) refl))
  where
    here : x ≡ get_or s.axles (head_place k a) d
    here = rw q at at

    back : set s.axles (head_place k a) x ≡ s.axles
    back = ap (set s.axles (head_place k a)) here ∙ set-get_or s.axles (head_place k a) d

    go : (of : Bool) → is_of_heads k ≡ of → Alike t k a b s (head_place k a) (heads_then x k a b) (row_with L (headless (core_of s) s.lamp) x (heads_then x k a b) k a b) (row_of L s k a b)
    go true of = of_its_heads t L s k a b x of few d len here (row_kind_of L s k a b)
    go false n = plain t L s k a b x back n (row_kind_of L s k a b)
