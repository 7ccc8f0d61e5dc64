-- The full layout is sound: most of it computed, the conflicts entry by entry.
use Prim.Native.Nat.{ℕ, ◌+◌, ◌-◌, ◌*◌, ◌/◌, ◌%◌, ◌<◌}
use mathlib.Core.Path.{◌≡◌, refl, sym, ◌∙◌}
use mathlib.Core.Bool.{Bool, true, not}
use native.Mathlib.Omega.{arith}
use borrow.Author.Tests.{eq-eqb}
use lib.ListN.{get_or-replicate}
use Rattle.laws.specs.Choice.{when◌then◌else◌}
use Rattle.laws.specs.Tests.{◌and◌, ◌or◌, implies, every, all_below, any_below}
use Rattle.laws.specs.Tables.{table, table_from}
use Rattle.laws.proofs.Choice.{if_eq, if_ne}
use Rattle.laws.proofs.Tests.{and_both, every_one, every_more, all_from, implies_from}
use Rattle.laws.proofs.Tables.{table_at}
use Rattle.track.specs.declared.Route.{Route}
use Rattle.track.specs.Sizes.{most_distants, most_train_routes, most_routes, most_pairs}
use Rattle.track.specs.Objects.{no_route, line, route, inner}
use Rattle.track.specs.Lists.{among, all_differ, between, referring, positions}
use Rattle.track.specs.Blocks.{in_block, blocks_differ}
use Rattle.track.specs.Ranges.{points_fit, line_fits, distant_fits, route_fits}
use Rattle.track.specs.SignalNumbers.{line_signals, block_signals, all_signals, signal_count}
use Rattle.rules.specs.Rules.{share, has_block, is_block, has_inner, is_inner, in_path, has_entrance, is_entrance}
use Rattle.rules.specs.Rules.{once, line_ends, line_points, route_lists, route_length, route_ends, announces_carrier}
use Rattle.file_objects.specs.Distants.{most_distants_of}
use Rattle.pairs.specs.Pairs.{place_of}
use Rattle.layout.specs.Layout.{none_fitted, counts, line_in, signals_in, carrier_of, announced_by, route_in, entry_of, conflict}
use Rattle.layout.specs.Rules.{rule1, rule2, rule3, rule4, rule5, rule6, rule7}
use Rattle.layout.specs.Sound.{sections_fit, fits, pair_mirrors, row_mirrors, mirrored, sound}
use Rattle.layout_facts.proofs.Sound.{broken_means}
use Rattle.layout_file.specs.Full.{up_from, all_left, full_lines, last_signal, full_line, full_route, full_conflict, full_layout}

-- ---- conflicts

-- the table's entry for two routes
full_entry : (r q : ℕ) → r < most_routes → q < most_routes → entry_of full_layout.conflict r q ≡ full_conflict (place_of r q)
unfolding entry_of place_of full_layout
full_entry r q hr hq = table_at most_pairs full_conflict 0 (most_routes * r + q) (omega arith)

-- no route conflicts with itself
full_own : (r : ℕ) → r < most_routes → entry_of full_layout.conflict r r ≡ 0
unfolding full_conflict place_of
full_own r h = full_entry r r h h ∙ sym (if_eq ((most_routes * r + r) / most_routes) ((most_routes * r + r) % most_routes) 0 1 0 (omega arith) refl)

-- each two do
full_listed : (r q : ℕ) → r < most_routes → q < most_routes → (r ≡ q → ⊥) → entry_of full_layout.conflict r q ≡ 1
unfolding full_conflict place_of
full_listed r q hr hq d =
    full_entry r q hr hq ∙ sym (if_ne ((most_routes * r + q) / most_routes) ((most_routes * r + q) % most_routes) 0 1 1 (λ e. d (omega arith)) refl)

-- so they do both ways
full_mirrored : mirrored full_layout ≡ true
unfolding mirrored row_mirrors pair_mirrors ◌and◌ full_layout
full_mirrored =
    all_from most_train_routes _ (λ r h. and_both _ _ (eq-eqb _ 0 (full_own r h)) (all_from r _ (λ q l.
    rw (full_listed r q h (omega arith) (omega arith), full_listed q r (omega arith) h (omega arith)))))

-- and are listed as conflicting
pub full_conflicts : (r q : ℕ) → r < most_routes → q < most_routes → (r ≡ q → ⊥) → conflict full_layout r q ≡ true
unfolding conflict
full_conflicts r q hr hq d = eq-eqb _ 1 (full_listed r q hr hq d)

-- rule 6: whatever they have in common
full_rule6 : rule6 full_layout ≡ true
unfolding rule6 full_layout
full_rule6 = all_from most_train_routes _ (λ r h. all_from r _ (λ q l. implies_from _ _ (λ t. full_conflicts r q h (omega arith) (omega arith))))

-- ---- the rest

-- each route is the full route
pub full_route_law : (r : ℕ) → r < most_train_routes → route_in full_layout r ≡ full_route
unfolding route_in route full_layout
full_route_law r h = get_or-replicate most_train_routes r full_route no_route h

-- what holds of it holds of all
full_routes : (p : Route → Bool) → p full_route ≡ true → all_below most_train_routes (λ r. p (route_in full_layout r)) ≡ true
full_routes p e = all_from most_train_routes _ (λ r h. rw (full_route_law r h) e)

-- each distant has the same carrier and announces the same signal
pub full_distant : (d : ℕ) → d < most_distants → (carrier_of full_layout d ≡ last_signal + 1) × (announced_by full_layout d ≡ last_signal - 1)
unfolding carrier_of announced_by full_layout
full_distant d h = (get_or-replicate most_distants d (last_signal + 1) 0 h, get_or-replicate most_distants d (last_signal - 1) 0 h)

-- what holds of these holds of all
full_distants : (p : ℕ → ℕ → Bool) → p (last_signal + 1) (last_signal - 1) ≡ true → all_below most_distants (λ d. p (carrier_of full_layout d) (announced_by full_layout d)) ≡ true
full_distants p e = all_from most_distants _ (λ d h. rw ((full_distant d h).0, (full_distant d h).1) e)

-- they are signals: seven lines have fourteen block signals each
full_signals : distant_fits (signals_in full_layout) (last_signal + 1) (last_signal - 1) ≡ true
unfolding distant_fits ◌and◌ signals_in signal_count all_signals block_signals line_signals line table table_from full_line full_layout when◌then◌else◌
full_signals = refl

-- every number is in its range
full_fits : fits full_layout ≡ true
unfolding fits every between ◌and◌ ◌or◌ all_below sections_fit most_distants_of line_fits route_fits points_fit referring positions counts line_in line
    table table_from up_from all_left full_line full_route full_layout none_fitted when◌then◌else◌
full_fits = rw (full_distants (distant_fits (signals_in full_layout)) full_signals, full_routes (route_fits (counts full_layout)) refl)

-- rule 1: every block has a section of its own
full_once : all_below full_lines (once full_layout.line) ≡ true
unfolding once ◌and◌ ◌or◌ all_below any_below among all_differ share has_block is_block in_block blocks_differ line table table_from up_from full_line full_layout when◌then◌else◌
full_once = refl

-- which is not in the path
full_off : not (share (is_block full_lines full_layout.line) (in_path full_route)) ≡ true
unfolding ◌and◌ any_below among share has_block is_block in_path in_block line table table_from up_from full_line full_route full_layout when◌then◌else◌
full_off = refl

-- and no inner section
full_apart : not (share (is_block full_lines full_layout.line) (is_inner full_lines full_layout.line)) ≡ true
unfolding ◌and◌ ◌or◌ any_below share has_block is_block has_inner is_inner in_block line table table_from up_from full_line full_layout when◌then◌else◌
full_apart = refl

-- all of rule 1
full_rule1 : rule1 full_layout ≡ true
unfolding rule1 full_layout
full_rule1 =
    every_more _ _ _ full_once (every_more _ _ _ (full_routes (λ a. not (share (is_block full_lines full_layout.line) (in_path a))) full_off) (every_one _ full_apart))

-- rule 2: two entrance signals for each line
full_rule2 : rule2 full_layout ≡ true
unfolding rule2 every ◌or◌ all_below any_below line_ends is_entrance has_entrance line table table_from full_line full_layout when◌then◌else◌
full_rule2 = refl

-- rule 3: the numbers from a number on differ
full_rule3 : rule3 full_layout ≡ true
unfolding rule3 route_lists line_points ◌and◌ all_below any_below among all_differ line table table_from up_from full_line full_route full_layout when◌then◌else◌
full_rule3 = rw (full_routes route_lists refl)

-- rule 4: exit routes alone
full_rule4 : rule4 full_layout ≡ true
unfolding rule4 route_length ◌or◌ full_route full_layout
full_rule4 = full_routes route_length refl

-- rule 5: the path ends at the inner section, and begins at no entrance signal
full_rule5 : rule5 full_layout ≡ true
unfolding rule5 route_ends every ◌and◌ ◌or◌ implies any_below is_entrance has_entrance line inner table table_from up_from full_line full_route full_layout when◌then◌else◌
full_rule5 = full_routes (route_ends full_lines full_layout.line) refl

-- rule 7: the signal announced is the one before the carrier
full_rule7 : rule7 full_layout ≡ true
unfolding rule7 announces_carrier full_layout
full_rule7 = full_distants (λ carrier announced. not (announces_carrier carrier announced)) refl

-- all of it
pub full_sound : sound full_layout ≡ true
unfolding sound
full_sound =
    every_more _ _ _ full_fits (every_more _ _ _ full_mirrored (every_one _ (eq-eqb _ 0
    ((broken_means full_layout).1 (full_rule1, (full_rule2, (full_rule3, (full_rule4, (full_rule5, (full_rule6, full_rule7))))))))))
