-- What the signal of a number shows: by the signals that stand alone; and as the code finds it, main signals first, then the block signals line by line.
use Prim.Native.Nat.{ℕ, ◌+◌, ◌-◌, ◌<◌, ◌≤◌}
use mathlib.Core.Path.{◌≡◌, refl, sym, ap, ◌∙◌, fun_ext}
use mathlib.Core.Bool.{Bool}
use mathlib.Core.List.{List}
use native.Mathlib.Omega.{arith}
use native.Mathlib.Decide.{dec_lt}
use borrow.Author.Rules.{rules}
use borrow.Author.Tests.{ltb-true}
use lib.Dec.{ltb}
use Rattle.laws.specs.Choice.{when◌then◌else◌}
use Rattle.laws.specs.Tests.{◌or◌}
use Rattle.laws.specs.Tables.{read}
use Rattle.laws.proofs.Choice.{if_lt, if_ge, if_both, chosen, passed_over}
use Rattle.track.specs.declared.Line.{Line}
use Rattle.track.specs.Codes.{a_to_b, b_to_a}
use Rattle.track.specs.Sizes.{most_signals}
use Rattle.track.specs.Objects.{line}
use Rattle.track.specs.Signal.{Signal, main, into, Stands}
use Rattle.track.specs.SignalNumbers.{signal_count, signal_of, between_blocks}
use Rattle.track.proofs.SignalNumbers.{number_stands, Is, number_main, number_first, number_then, count_mains, count_line}
use Rattle.tables.specs.Readings.{line_placed}
use Rattle.tables.specs.Locks.{direction}
use Rattle.signals.specs.Aspects.{dark}
use Rattle.signals.specs.Signals.{enterable_by, enterable}
use Rattle.signals.specs.BlockSignals.{block_shows, block_shown_where}
use Rattle.signals.specs.Shows.{shows_with, number_shows, line_signal_shown, number_shown_by}

-- ---- by the signals that stand

-- where two say the same of each signal that stands, each number shows the same: it is such a signal's, or dark
pub numbers_same : (m n : ℕ) (ls : List Line) (f g : Signal → ℕ) → ((x : Signal) → Stands m n ls x → f x ≡ g x)
    → number_shows m n ls f ≡ number_shows m n ls g
unfolding number_shows
numbers_same m n ls f g same =
    fun_ext (λ k.
    if_both (λ v. v ≡ number_shows m n ls g k) (ltb k (signal_count m n ls))
    (λ t. same _ (number_stands m n ls k (ltb-true k _ t)) ∙ sym (chosen _ (g (signal_of m n ls k)) dark t))
    (λ t. sym (passed_over _ (g (signal_of m n ls k)) dark t)))

-- ---- a block signal of one line

module _ (b : Line) (directions points stages bars : List ℕ) (l j way : ℕ) (placed : Bool) (p : way ≡ direction directions l) (q : placed ≡ line_placed points b) where
  -- one for A to B
  pub line_first : (v n : ℕ) → n ≡ b.blocks → j < n - 1 → v ≡ block_shown_where stages bars b.blocks way placed l (j + 1) a_to_b
      → v ≡ line_signal_shown b directions points stages bars l j
  unfolding line_signal_shown
  line_first v n d c e = if_lt j (b.blocks - 1) _ _ v (rw (← d) c) (rw (← p, ← q) e)

  -- one for B to A
  pub line_then : (v n : ℕ) → n ≡ b.blocks → n - 1 ≤ j → v ≡ block_shown_where stages bars b.blocks way placed l (j - (n - 1)) b_to_a
      → v ≡ line_signal_shown b directions points stages bars l j
  unfolding line_signal_shown
  line_then v n d c e = if_ge j (b.blocks - 1) _ _ v (rw (← d) c) (rw (← p, ← q) (rw d at e))

-- ---- any signal

module _ (m n : ℕ) (ls : List Line) (mains directions points stages bars : List ℕ) (k : ℕ) where
  -- what each signal shows, by the table of main signals
  abbrev shown : Signal → ℕ
  shown = shows_with (λ x. read most_signals dark mains x) ls directions points stages bars

  -- what the signal of the number shows, where that signal is known
  is_shown : (x : Signal) (v : ℕ) → Is m n ls k x → v ≡ shown x → v ≡ number_shown_by m n ls mains directions points stages bars k
  unfolding number_shown_by number_shows
  is_shown x v p e = if_lt k (signal_count m n ls) _ _ v p.0 (e ∙ ap shown (sym p.1))

  -- a main signal's: what the table says
  pub shown_main : (v : ℕ) → k < m → v ≡ read most_signals dark mains k → v ≡ number_shown_by m n ls mains directions points stages bars k
  unfolding shows_with
  shown_main v b e = is_shown (main k) v (number_main m n ls k b) e

  -- ---- the loop over the lines

  -- the number is so many past those of the signals before line l
  unfoldable pub Past : ℕ → ℕ → Type 0
  Past left l = (l ≤ n) × (k ≡ signal_count m l ls + left)

  -- before the first line it is past the main signals
  pub past_start : (x y : ℕ) → m ≤ k → x ≡ k → y ≡ m → Past (x - y) 0
  unfolding Past
  past_start x y b e f = (omega arith, omega (arith, count_mains m ls))

  module _ (left l : ℕ) (p : Past left l) where
    -- after the last line no signal has it: dark
    pub past_end : n ≤ l → dark ≡ number_shown_by m n ls mains directions points stages bars k
    unfolding Past number_shown_by number_shows
    past_end b =
        let last : l ≡ n = omega arith in
        if_ge k (signal_count m n ls) _ _ dark (omega (arith, ap (λ i. signal_count m i ls) last)) refl

    -- what the code asks of line l by its record is what shows
    asked : (b : Line) → b ≡ line ls l → (i w : ℕ)
        → block_shown_where stages bars b.blocks (direction directions l) (line_placed points b) l i w ≡ block_shows ls directions points stages bars l i w
    unfolding block_shows block_shown_where enterable enterable_by
    asked b same i w = rw same

    module _ (b : Line) (own : ℕ) (same : b ≡ line ls l) (all : own ≡ between_blocks b) (more : l < n) where
      -- it is past the signals of line l too
      pub past_on : own ≤ left → Past (left - own) (l + 1)
      unfolding Past
      past_on few = (omega arith, omega (arith, count_line m l ls, ap between_blocks same))

      -- it is a block signal's of line l: one for A to B, else one for B to A
      pub past_here : (v : ℕ) → left < own → v ≡ line_signal_shown b directions points stages bars l left
          → v ≡ number_shown_by m n ls mains directions points stages bars k
      unfolding Past between_blocks line_signal_shown shows_with ◌or◌ when◌then◌else◌
      past_here v few e = go (dec_lt left (b.blocks - 1))
        where
          blocks : b.blocks ≡ (line ls l).blocks
          blocks = ap (λ (a : Line). a.blocks) same

          go : Dec (left < b.blocks - 1) → v ≡ number_shown_by m n ls mains directions points stages bars k
          go (yes c) =
              is_shown (into l (left + 1) a_to_b) v (number_first m n ls k l left more (omega (arith, blocks)) p.1)
              (e ∙ sym (if_lt left (b.blocks - 1) _ _ _ c refl) ∙ asked b same (left + 1) a_to_b)
          go (no c) =
              is_shown (into l (left - (b.blocks - 1)) b_to_a) v (number_then m n ls k l (left - (b.blocks - 1)) more (omega (arith, blocks)) (omega (arith, p.1, blocks)))
              (e ∙ sym (if_ge left (b.blocks - 1) _ _ _ (omega arith) refl) ∙ asked b same (left - (b.blocks - 1)) b_to_a)

-- for the search of a number's signal
pub ruleset numbered = (rules, shown_main, past_start, past_end, past_on, past_here)
