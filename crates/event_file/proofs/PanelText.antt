-- The panel of a state as text, and a line with it or without.
use Prim.Native.Nat.{ℕ, ◌+◌, ◌*◌, ◌≤◌}
use mathlib.Core.Path.{◌≡◌, refl, sym, ap, subst, ◌∙◌}
use mathlib.Core.Bool.{Bool, true, false}
use mathlib.Core.List.{List, [], ◌∷◌, ◌++◌}
use native.Mathlib.Omega.{arith}
use borrow.Author.Rules.{rules}
use borrow.Author.Tests.{ltb-false, eqb-true, eqb-false}
use lib.Dec.{eqb}
use lib.ListN.{length, drop, set, get_or-append}
use Rattle.laws.specs.Choice.{when◌then◌else◌}
use Rattle.laws.proofs.Choice.{if_both}
use Rattle.laws.specs.Tables.{join}
use Rattle.laws.proofs.Joins.{join_same}
use Rattle.layout.specs.declared.Layout.{Layout}
use Rattle.interlocking.specs.declared.State.{State}
use Rattle.panel.specs.declared.Drawn.{Drawn}
use Rattle.panel.specs.Panel.{image, refused, answer_where, drawn_where, answer, drawn, answer_in_run, drawn_in_run}
use Rattle.event_file.specs.Lines.{space, line_end, stroke, three_numbers, after_space, spaced, shown_by, shown, shown_in_run, panel_text, line_text, line_of, most_text, most_line}
use Rattle.event_file.specs.Writes.{image_line}
use Rattle.numerals.specs.Writes.{Put}
use Rattle.numerals.proofs.Writes.{put_one, put_then, put_within}

-- ---- what a panel's answer says of its length

-- no more than there is room for; with answer 0 that of the whole image, with any other 0
record Said (L : Layout) (s : State) (room : ℕ) (d : Drawn) : Type 0 where
  pub fits : d.length ≤ room
  pub whole : d.number ≡ 0 → d.length ≡ length (image L s)
  pub none : (d.number ≡ 0 → ⊥) → d.length ≡ 0

module _ (t : Bool) (L : Layout) (s : State) (room : ℕ) where
  -- a refusal draws nothing
  said_refused : (number : ℕ) → (number ≡ 0 → ⊥) → Said L s room (refused number)
  unfolding refused
  said_refused number h = record { fits = omega arith; whole = λ e. absurd (h e); none = λ e. refl }

  -- refused for soundness, refused for room, or drawn
  answer_says : Said L s room (answer_where t L s room)
  unfolding answer_where
  answer_says =
      if_both (Said L s room) _ (λ e. said_refused 18 (λ z. let y : 18 ≡ 0 = z in omega arith))
      (λ e. if_both (Said L s room) _ (λ f. said_refused 27 (λ z. let y : 27 ≡ 0 = z in omega arith))
      (λ f. record { fits = ltb-false _ _ f; whole = λ z. refl; none = λ h. absurd (h refl) }))

-- the length that is answered is no more than the room; in a run too
pub drawn_fits : (L : Layout) (s : State) (room : ℕ) (d : Drawn) → d ≡ answer L s room → d.length ≤ room
unfolding answer
drawn_fits L s room d e = rw e (answer_says _ L s room).fits

pub run_drawn_fits : (L : Layout) (s : State) (room : ℕ) (d : Drawn) → d ≡ answer_in_run L s room → d.length ≤ room
unfolding answer_in_run
run_drawn_fits L s room d e = rw e (answer_says _ L s room).fits

-- ---- the bytes that are drawn, as text

-- only the first bytes are read
spaced_front : (xs ys : List ℕ) → spaced (length xs) (xs ++ ys) ≡ spaced (length xs) xs
unfolding spaced
spaced_front xs ys = join_same (length xs) _ _ (λ k l. ap after_space (get_or-append xs ys 0 k l))

-- no bytes are read
spaced_none : (n : ℕ) (xs ys : List ℕ) → n ≡ 0 → spaced n xs ≡ spaced 0 ys
unfolding spaced join
spaced_none n xs ys e = rw e

module _ (t : Bool) (L : Layout) (s : State) (d : Drawn) (before after : List ℕ) (e : d ≡ answer_where t L s 512) (n : length before ≡ 512)
    (f : after ≡ drawn_where t L s before) where
  -- the answer with 512 bytes of room
  as_said : Said L s 512 d
  as_said = rw e (answer_says t L s 512)

  -- what is shown
  abbrev bytes : List ℕ
  bytes = shown_by (answer_where t L s 512) (image L s)

  -- by the answer's number
  shown_as : (u : Bool) → eqb (answer_where t L s 512).number 0 ≡ u → spaced d.length after ≡ spaced (length bytes) bytes
  unfolding drawn_where shown_by when◌then◌else◌
  shown_as true q =
      rw (f, n, q, as_said.whole (ap (λ (r : Drawn). r.number) e ∙ eqb-true _ 0 q)) (spaced_front (image L s) (drop (length (image L s)) before))
  shown_as false q = rw q (spaced_none d.length after [] (as_said.none (λ z. eqb-false _ 0 q (sym (ap (λ (r : Drawn). r.number) e) ∙ z))))

  -- so the line of what was drawn is that of what is shown
  line_shown : (k x m : ℕ) → image_line d.length after k x m ≡ line_of true bytes k x m
  unfolding image_line line_of line_text panel_text when◌then◌else◌
  line_shown k x m =
      ap (λ xs. three_numbers k x m ++ ((space ∷ stroke ∷ []) ++ xs) ++ (line_end ∷ [])) (shown_as (eqb (answer_where t L s 512).number 0) refl)

module _ (L : Layout) (s : State) (d : Drawn) (before after : List ℕ) (n : length before ≡ 512) (k x m : ℕ) (a b : List ℕ) (at i : ℕ)
    (p : Put a at (image_line d.length after k x m) (most_line true) b i) where
  -- the line of a state by the panel, the state being that one
  pub panel_line_made : (same : State) → s ≡ same → d ≡ answer L s 512 → after ≡ drawn L s before
      → Put a at (line_of true (shown L same) k x m) (most_line true) b i
  unfolding answer drawn shown
  panel_line_made same q e f = rw (← q) (subst (λ xs. Put a at xs (most_line true) b i) (line_shown _ L s d before after e n f k x m) p)

  -- and in a run
  pub run_line_made : d ≡ answer_in_run L s 512 → after ≡ drawn_in_run L s before → Put a at (line_of true (shown_in_run L s) k x m) (most_line true) b i
  unfolding answer_in_run drawn_in_run shown_in_run
  run_line_made e f = subst (λ xs. Put a at xs (most_line true) b i) (line_shown _ L s d before after e n f k x m) p

-- ---- a line

-- every line has room for its three numbers
pub text_room : (p : Bool) → 62 ≤ most_text p
unfolding most_text when◌then◌else◌
text_room true = omega arith
text_room false = omega arith

-- and one byte more, for its end
pub line_room : (p : Bool) → most_line p ≡ most_text p + 1
unfolding most_line
line_room p = refl

module _ (p : Bool) (bytes : List ℕ) (n x d : ℕ) (a b c : List ℕ) (at m k : ℕ) where
  -- without the panel
  pub line_plain : p ≡ false → c ≡ b → k ≡ m → Put a at (three_numbers n x d ++ (line_end ∷ [])) 63 b m → Put a at (line_of p bytes n x d) (most_line p) c k
  unfolding line_of line_text most_line most_text when◌then◌else◌
  line_plain e f g q = rw (e, f, g) q

  -- with it
  pub line_panel : p ≡ true → c ≡ b → k ≡ m → Put a at (line_of true bytes n x d) (most_line true) b m → Put a at (line_of p bytes n x d) (most_line p) c k
  line_panel e f g q = rw (e, f, g) q

-- the numbers and the end
pub plain_made : (n x d : ℕ) (a b : List ℕ) (at m : ℕ) → Put a at (three_numbers n x d) 62 b m → Put a at (three_numbers n x d ++ (line_end ∷ [])) 63 (set b m 10) (m + 1)
plain_made n x d a b at m q = put_then q (put_one 10)

-- a space, a stroke, the bytes
pub image_made : (k : ℕ) (image a c : List ℕ) (at m : ℕ) → k ≤ 512 → Put (set (set a at 32) (at + 1) 124) (at + 2) (spaced k image) (4 * k) c m
    → Put a at ((space ∷ stroke ∷ []) ++ spaced k image) 2050 c m
image_made k image a c at m h p =
    let there : at + 1 + 1 ≡ at + 2 = omega arith in
    let two : Put a at (space ∷ stroke ∷ []) 2 (set (set a at 32) (at + 1) 124) (at + 2) = rw (← there) (put_then (put_one 32) (put_one 124)) in
    put_within 2050 (omega arith) (put_then two p)

-- the numbers, the panel and the end
pub image_line_made : (k n x d : ℕ) (image a b c : List ℕ) (at m i : ℕ) → Put a at (three_numbers n x d) 62 b m
    → Put b m ((space ∷ stroke ∷ []) ++ spaced k image) 2050 c i → Put a at (image_line k image n x d) (most_line true) (set c i 10) (i + 1)
unfolding image_line most_line most_text when◌then◌else◌
image_line_made k n x d image a b c at m i q r = put_then (put_then q r) (put_one 10)

-- the most bytes of a line with the panel
pub most_panel : (p : Bool) → p ≡ true → 2113 ≡ most_line p
unfolding most_line most_text when◌then◌else◌
most_panel p e = rw e

-- without it
pub most_plain : (p : Bool) → p ≡ false → 63 ≡ most_line p
unfolding most_line most_text when◌then◌else◌
most_plain p e = rw e

pub ruleset lines_most = (rules, most_panel, most_plain)
