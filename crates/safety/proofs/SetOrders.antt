-- An order to secure a line, and one to set a route, is not refused just where there is what the history tells that it asks (section 3). To set an exit route
-- asks of a neutral line what to secure it asks (L5).
use Prim.Native.Nat.{ℕ, ◌<◌, ◌≤◌}
use mathlib.Core.Path.{◌≡◌, refl, sym, ◌∙◌}
use mathlib.Core.Logic.Iff
use mathlib.Core.Logic.{◌≢◌, ◌⊎◌, ◌↔◌, inl, inr, ⊎_elim}
use mathlib.Core.Bool.{true}
use native.Mathlib.Decide.{ℕ_discrete}
use native.Mathlib.Omega.{arith}
use borrow.Author.Tests.{eq-eqb, ne_eqb}
use lib.Dec.{eqb}
use Rattle.laws.specs.Tests.{◌and◌}
use Rattle.laws.proofs.Choice.{if_both}
use Rattle.layout_facts.proofs.Means.{eqb_means, and_means}
use Rattle.layout_facts.proofs.Uses.{entered_block}
use Rattle.layout_facts.proofs.Lists.{between_means}
use Rattle.step_facts.proofs.Range.{in_range_means, read_within}
use Rattle.sets.specs.Sets.{merged_set, set_of}
use Rattle.track.specs.Lists.{between}
use Rattle.track.specs.Objects.{entrance}
use Rattle.track.specs.Signal.{main}
use Rattle.track.specs.SignalNumbers.{number_of}
use Rattle.track.proofs.SignalNumbers.{one_number}
use Rattle.passage.specs.Passage.{arrival}
use Rattle.lamps.specs.Lamps.{lamp_of, reports_none}
use Rattle.tables.specs.Blocks.{is_open, unbarred}
use Rattle.tables.specs.Locks.{departs}
use Rattle.layout.specs.declared.Layout.{Layout}
use Rattle.layout.specs.Layout.{line_in, route_in, signals_in}
use Rattle.layout.specs.Sound.{sound}
use Rattle.layout_facts.specs.Plain.{entrance_signal, nearest_block, path, overlap, route_point, route_position, RouteRanges, Sound}
use Rattle.reasons.specs.Reasons.{not_free, conflicting, block_barred, block_held, arrival_dark}
use Rattle.refusals.specs.Orders.{secure_refusal, way_refusal, exit_refusal, route_refusal, set_refusal}
use Rattle.interlocking.specs.declared.State.{State}
use Rattle.interlocking.specs.State.{in_range, tables_of}
use Rattle.interlocking.specs.Rows.{set_row, secure_row}
use Rattle.interlocking.specs.Step.{row_refusal}
use Rattle.step_facts.proofs.Entries.{direction}
use Rattle.safety.specs.History.{History, section_reads, lamp_told}
use Rattle.safety.specs.Secured.{Secured}
use Rattle.safety.specs.Lights.{MayEnter, Clear}
use Rattle.safety.specs.Grants.{MaySet, MaySecure}
use Rattle.safety.proofs.Invariant.{Inv}
use Rattle.safety.proofs.Unrefused.{Lifts, there_means, last, ◌before◌, reasons_mean, if_means, unless_means, found_means, where_means, free_means, union_means}
use Rattle.laws.specs.Choice.{when◌then◌else◌}
use Rattle.track.specs.Codes.{leaving}
use Rattle.track.proofs.Ways.{leaving_two, leaving_some}
use Rattle.safety.proofs.Lines.{neutral_told}
use Rattle.safety.proofs.Orders.{two_means, none_means, row_means, lock_means, neutral_means, placed_means, listed_means, blocks_means, line_means, open_means, unbarred_means}

-- a direction arrives at one of the two ends
arrival_end : (w : ℕ) → arrival w ≤ 1
unfolding arrival
arrival_end w = if_both (λ n. n ≤ 1) (eqb w 1) (λ t. omega arith) (λ f. omega arith)

module _ (L : Layout) (ok : sound L ≡ true) (S : Sound L) (s : State) (h : History) (I : Inv L s h) where
  -- ---- secure

  -- 31 by the lamp of the arrival entrance signal, which is a signal; a lamp has three codes (L3)
  dark_means : (a b : ℕ) → a < L.lines → between 1 2 (lamp_of s.lamp (entrance (line_in L a) (arrival b))) ≡ true ↔ lamp_told (entrance (line_in L a) (arrival b)) h ≢ 3
  unfolding entrance_signal signals_in number_of lamp_of
  dark_means a b p =
      Iff.trans (between_means 1 2 _) (rw same (λ x z. omega arith, λ n. omega (arith, three)))
    where
      x : ℕ
      x = entrance (line_in L a) (arrival b)

      same : lamp_of s.lamp x ≡ lamp_told x h
      same = I.lamps x (one_number L.signals L.lines L.line (main x) ((S.ranges.lines a p).entrances (arrival b) (arrival_end b))).below

      three : (1 ≤ lamp_told x h) × (lamp_told x h ≤ 3)
      three = rw same at (read_within ((in_range_means s).0 I.ranged).lamp 3 x (omega arith))

  -- 12 by the line's direction, 11 and 10 by the searches over its blocks, 6 by its points, 31 by the lamp
  besides_means : (a b : ℕ) → a < L.lines → (b ≡ 1) ⊎ (b ≡ 2) → Lifts (secure_refusal L (tables_of s) a b) (MaySecure L a b h)
  unfolding secure_refusal block_barred block_held arrival_dark reports_none line_in
  besides_means a b p w =
      Iff.trans (reasons_mean (unless_means _ (omega arith) (neutral_means L ok S s h I a p) before blocks_means L ok S s h I a p _ (omega arith) (unbarred_means L ok S s h I a p)
      before line_means L ok S s h I a p before blocks_means L ok S s h I a p _ (omega arith) (open_means L ok S s h I a p) before last (unless_means _ (omega arith) (dark_means a b p)))) (
        λ (n, (u, (q, (o, d)))). record { there = p; direction = w; is_neutral = n; unbarred = u; placed = q; all_open = o; lamp = d },
        λ m. (m.is_neutral, (m.unbarred, (m.placed, (m.all_open, m.lamp)))),
      )

  -- and before these 2 and 3
  pub secure_means : (a b : ℕ) → Lifts (row_refusal (sound L and in_range s) a (secure_row L s a b)) (MaySecure L a b h)
  unfolding secure_row
  secure_means a b =
      Iff.trans (row_means L ok S s h I a _ (there_means _ a) refl (two_means b) (λ p. Iff.rfl))
      (λ (p, w, z). (besides_means a b p w).0 z, λ m. (m.there, m.direction, (besides_means a b m.there m.direction).1 m))

  -- ---- set route

  module _ (a : ℕ) (there : a < L.routes) where
    -- the direction in which it leaves its line
    abbrev way : ℕ
    way = leaving (route_in L a).end

    module _ (k : (route_in L a).kind ≡ 2) where
      -- its line is there
      b : (route_in L a).line < L.lines
      b = ((S.ranges.routes a there).line (inr k)).0

      -- 9, or (L5) of a neutral line what to secure it asks
      way_means : Lifts (way_refusal L (tables_of s) (route_in L a)) (Secured L (route_in L a).line way h ⊎ MaySecure L (route_in L a).line way h)
      unfolding way_refusal departs when◌then◌else◌ ◌and◌
      way_means = go (ℕ_discrete (direction s (route_in L a).line) 0)
        where
          secured : direction s (route_in L a).line ≡ way ↔ Secured L (route_in L a).line way h
          secured = I.lines _ b way (leaving_some _)

          go : Dec (direction s (route_in L a).line ≡ 0) → Lifts (way_refusal L (tables_of s) (route_in L a)) (Secured L (route_in L a).line way h ⊎ MaySecure L (route_in L a).line way h)
          go (yes z) = rw (eq-eqb _ 2 k, eq-eqb _ 0 z) (
              Iff.trans (besides_means _ way b (leaving_two _)) (inr, ⊎_elim (λ y. absurd (leaving_some _ (sym (secured.1 y) ∙ z))) (λ m. m))
              )
          go (no d) = rw (eq-eqb _ 2 k, ne_eqb _ 0 d) (
              Iff.trans (unless_means _ (omega arith) (Iff.trans (eqb_means _ _) secured)) (inl, ⊎_elim (λ y. y) (λ m. absurd (d ((neutral_told L s h I _ b).1 m.is_neutral))))
              )

      -- then 6, 11, 10 of the block that it enters
      exit_means : Lifts (exit_refusal L (tables_of s) (route_in L a))
          ((Secured L (route_in L a).line way h ⊎ MaySecure L (route_in L a).line way h) × MayEnter L (route_in L a).line (nearest_block L (route_in L a).line (route_in L a).end) h)
      unfolding exit_refusal nearest_block line_in
      exit_means =
          Iff.trans (reasons_mean (way_means before line_means L ok S s h I _ b before
          unless_means _ (omega arith) (unbarred_means L ok S s h I _ b _ c) before last (unless_means _ (omega arith) (open_means L ok S s h I _ b _ c))))
          (λ (w, (p, (u, o))). (w, record { is_open = o; unbarred = u; placed = p }), λ (w, m). (w, (m.placed, (m.unbarred, m.is_open))))
        where
          c : nearest_block L (route_in L a).line (route_in L a).end < (line_in L (route_in L a).line).blocks
          c = entered_block L S a there k

    -- 6, 7 and 8, and these: all that keeps the signal at proceed, and what is asked of the line's direction
    route_means : Lifts (route_refusal L (tables_of s) (route_in L a))
        (Clear L a h × ((route_in L a).kind ≡ 2 → Secured L (route_in L a).line way h ⊎ MaySecure L (route_in L a).line way h))
    unfolding route_refusal path overlap route_point route_position
    route_means =
        Iff.trans (reasons_mean (placed_means L ok S s h I _ _ _ ranges.points before sections before last (where_means _ exit_means))) (
          λ (p, ((f, o), x)). (record { path_free = f; overlap_free = o; placed = p; may_enter = λ k. (x k).1 }, λ k. (x k).0),
          λ (m, w). (m.placed, ((m.path_free, m.overlap_free), λ k. (w k, m.may_enter k))),
        )
      where
        ranges : RouteRanges L a
        ranges = S.ranges.routes a there

        sections : Lifts (not_free s.section (merged_set (set_of (route_in L a).paths (route_in L a).path) (set_of (route_in L a).overlaps (route_in L a).overlap)))
            (((j : ℕ) → j < (route_in L a).paths → section_reads L (path L a j) h ≡ 1) × ((j : ℕ) → j < (route_in L a).overlaps → section_reads L (overlap L a j) h ≡ 1))
        sections =
            Iff.trans (free_means _ _) (Iff.trans (union_means _ _) (Iff.and (listed_means L ok S s h I _ _ ranges.paths) (listed_means L ok S s h I _ _ ranges.overlaps)))

  -- 4 by the route's phase, 5 by the search over the routes, and the rest
  pub set_means : (a b : ℕ) → Lifts (row_refusal (sound L and in_range s) a (set_row L s a b)) (MaySet L a b h)
  unfolding set_row set_refusal conflicting route_in
  set_means a b =
      Iff.trans (row_means L ok S s h I a _ (there_means _ a) refl (none_means b) (λ p.
      reasons_mean (if_means _ (omega arith) (lock_means L ok S s h I a p) before found_means (omega arith) (λ q c. and_means (lock_means L ok S s h I q c) Iff.rfl) before last (route_means a p)))) (
        λ (p, w, (i, (f, (m, x)))). record { there = p; unused = w; idle = i; apart = λ q c t y. f q c (y, t); clear = m; secured = x },
        λ m. (m.there, m.unused, (m.idle, (λ q c (y, t). m.apart q c t y, (m.clear, m.secured)))),
      )
