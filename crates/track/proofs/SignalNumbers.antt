-- Every signal that stands has exactly one number, and every number below the count is one signal that stands.
use Prim.Native.Nat.{ℕ, zero, suc, ◌+◌, ◌-◌, ◌*◌, ◌<◌, ◌≤◌}
use mathlib.Core.Path.{◌≡◌, refl, sym, ap, ap₂, subst, ◌∙◌}
use mathlib.Core.Logic.{inl, inr}
use mathlib.Core.List.{List, ◌++◌}
use native.Mathlib.Nat.{not-suc-le-zero}
use native.Mathlib.Decide.{dec_lt}
use native.Mathlib.Numerals.{add-one}
use native.Mathlib.Omega.{arith}
use borrow.Author.Tests.{ltb-true, lt-ltb}
use lib.Dec.{eqb}
use lib.ListN.{length, get_or, length-append, get_or-append}
use lib.Seq.{get_or-append-add}
use Rattle.laws.specs.Choice.{when◌then◌else◌}
use Rattle.laws.specs.Tables.{table}
use Rattle.laws.proofs.Choice.{if_eq, if_ne}
use Rattle.laws.proofs.Tables.{length_table, table_at}
use Rattle.track.specs.declared.Line.{Line}
use Rattle.track.specs.Codes.{a_to_b, b_to_a}
use Rattle.track.specs.Objects.{line}
use Rattle.track.specs.Sizes.{most_blocks}
use Rattle.track.specs.Signal.{Signal, main, into, Stands}
use Rattle.track.specs.SignalNumbers.{between_blocks, line_signals, block_signals, all_signals, signal_count, signal_of, number_of, OneNumber}
use Rattle.track.proofs.Signal.{has_first, has_last}

-- what stands k places after the first n entries, of two lists one after the other
behind : {A : Type 0} (xs ys : List A) (n k : ℕ) (d : A) → length xs ≡ n → get_or (xs ++ ys) (n + k) d ≡ get_or ys k d
behind xs ys n k d e = ap (λ m. get_or (xs ++ ys) (m + k) d) (sym e) ∙ get_or-append-add xs ys k d

module _ (ls : List Line) where
  -- ---- one line

  module _ (l : ℕ) where
    -- its block signals for A to B, and for B to A
    abbrev up : List Signal
    up = table ((line ls l).blocks - 1) (λ k. into l (k + 1) a_to_b)

    abbrev down : List Signal
    down = table ((line ls l).blocks - 1) (λ k. into l k b_to_a)

    -- one each way between each two blocks
    line_count : length (line_signals ls l) ≡ (line ls l).blocks - 1 + ((line ls l).blocks - 1)
    unfolding line_signals
    line_count = simp (length-append, length_table)

    -- those for A to B come first, from block 1 on
    at_first : (k : ℕ) (d : Signal) → k < (line ls l).blocks - 1 → get_or (line_signals ls l) k d ≡ into l (k + 1) a_to_b
    unfolding line_signals
    at_first k d h =
        let all : length up ≡ (line ls l).blocks - 1 = length_table ((line ls l).blocks - 1) (λ j. into l (j + 1) a_to_b) in
        get_or-append up down d k (omega arith) ∙ table_at ((line ls l).blocks - 1) (λ j. into l (j + 1) a_to_b) d k h

    -- then those for B to A, from block 0 on
    at_then : (k : ℕ) (d : Signal) → k < (line ls l).blocks - 1 → get_or (line_signals ls l) ((line ls l).blocks - 1 + k) d ≡ into l k b_to_a
    unfolding line_signals
    at_then k d h =
        behind up down ((line ls l).blocks - 1) k d (length_table ((line ls l).blocks - 1) (λ j. into l (j + 1) a_to_b))
        ∙ table_at ((line ls l).blocks - 1) (λ j. into l j b_to_a) d k h

  -- ---- the lines before

  -- one line more
  blocks_more : (n : ℕ) → length (block_signals (suc n) ls) ≡ length (block_signals n ls) + length (line_signals ls n)
  unfolding block_signals
  blocks_more n = length-append (block_signals n ls) (line_signals ls n)

  -- the k-th block signal of line l is one of those of the first n lines, behind those of the lines before it
  abbrev Behind : ℕ → ℕ → ℕ → Signal → Type 0
  Behind n l k d =
      (length (block_signals l ls) + k < length (block_signals n ls)) × (get_or (block_signals n ls) (length (block_signals l ls) + k) d ≡ get_or (line_signals ls l) k d)

  -- one of the lines before, or the last one
  line_or_last : (n l k : ℕ) (d : Signal) → l < suc n → k < length (line_signals ls l) → (l < n → Behind n l k d) → Dec (l < n) → Behind (suc n) l k d
  unfolding block_signals
  line_or_last n l k d b h before (yes c) =
      (omega (arith, (before c).0, blocks_more n), get_or-append (block_signals n ls) (line_signals ls n) d _ (before c).0 ∙ (before c).1)
  line_or_last n l k d b h before (no c) =
      let e : n ≡ l = omega arith in
      subst (λ j. Behind (suc j) l k d) (sym e) (omega (arith, blocks_more l), get_or-append-add (block_signals l ls) (line_signals ls l) k d)

  -- so for every line
  on_line : (n l k : ℕ) (d : Signal) → l < n → k < length (line_signals ls l) → Behind n l k d
  on_line zero l k d b h = absurd (not-suc-le-zero b)
  on_line (suc n) l k d b h = line_or_last n l k d b h (λ c. on_line n l k d c h) (dec_lt l n)

  -- ---- a number's signal

  module _ (m : ℕ) where
    -- signal x stands, where there are n lines, and has number k
    abbrev Numbered : ℕ → ℕ → Signal → Type 0
    Numbered n k x = Stands m n ls x × (number_of m ls x ≡ k)

    -- the k-th block signal of line l: one for A to B, or one for B to A
    line_numbered : (n l k : ℕ) (d : Signal) → l < n → k < length (line_signals ls l) → Dec (k < (line ls l).blocks - 1)
        → Numbered n (m + (length (block_signals l ls) + k)) (get_or (line_signals ls l) k d)
    unfolding number_of
    line_numbered n l k d b h (yes c) =
        rw (at_first l k d c) (
          (b, omega arith, inl refl, sym (has_first (line ls l).blocks (k + 1) a_to_b refl) ∙ lt-ltb 0 (k + 1) (omega arith)),
          rw (sym (if_eq a_to_b a_to_b (k + 1 - 1) ((line ls l).blocks - 1 + (k + 1)) (k + 1 - 1) refl refl)) (omega arith),
        )
    line_numbered n l k d b h (no c) =
        let j : ℕ = k - ((line ls l).blocks - 1) in
        let small : j < (line ls l).blocks - 1 = omega (arith, line_count l) in
        let back : (line ls l).blocks - 1 + j ≡ k = omega arith in
        subst (λ i. Numbered n (m + (length (block_signals l ls) + i)) (get_or (line_signals ls l) i d)) back (
        rw (at_then l j d small) (
          (b, omega arith, inr refl, sym (has_last (line ls l).blocks j b_to_a j (line ls l).blocks two refl refl) ∙ lt-ltb (j + 1) _ (omega arith)),
          rw (sym (if_ne b_to_a a_to_b (j - 1) ((line ls l).blocks - 1 + j) ((line ls l).blocks - 1 + j) two refl)) (omega arith),
        )
        )
      where
        two : ◌≡◌ {A = ℕ} b_to_a a_to_b → ⊥
        two z = omega arith

    -- the k-th block signal of the first n lines, of which there are more: on a line before the last, or on the last
    last_numbered : (most n k : ℕ) (d : Signal) → suc n ≤ most → k < length (block_signals (suc n) ls)
        → (k < length (block_signals n ls) → Numbered most (m + k) (get_or (block_signals n ls) k d)) → Dec (k < length (block_signals n ls))
        → Numbered most (m + k) (get_or (block_signals (suc n) ls) k d)
    unfolding block_signals
    last_numbered most n k d few h before (yes c) = rw (get_or-append (block_signals n ls) (line_signals ls n) d k c) (before c)
    last_numbered most n k d few h before (no c) =
        let j : ℕ = k - length (block_signals n ls) in
        let back : length (block_signals n ls) + j ≡ k = omega arith in
        subst (λ i. Numbered most (m + i) (get_or (block_signals n ls ++ line_signals ls n) i d)) back
        (rw (get_or-append-add (block_signals n ls) (line_signals ls n) j d)
        (line_numbered most n j d (omega arith) (omega (arith, blocks_more n)) (dec_lt j ((line ls n).blocks - 1))))

    -- so each of them
    block_numbered : (most n k : ℕ) (d : Signal) → n ≤ most → k < length (block_signals n ls) → Numbered most (m + k) (get_or (block_signals n ls) k d)
    unfolding block_signals
    block_numbered most zero k d few h = absurd (not-suc-le-zero h)
    block_numbered most (suc n) k d few h =
        last_numbered most n k d few h (λ c. block_numbered most n k d (omega arith) c) (dec_lt k (length (block_signals n ls)))

    -- ---- all signals

    module _ (n : ℕ) where
      -- main signals, then block signals
      count_all : signal_count m n ls ≡ m + length (block_signals n ls)
      unfolding signal_count all_signals
      count_all = simp (length-append, length_table)

      -- number k of the main signals
      main_at : (k : ℕ) (d : Signal) → k < m → get_or (all_signals m n ls) k d ≡ main k
      unfolding all_signals
      main_at k d h =
          let all : length (table m main) ≡ m = length_table m main in
          get_or-append (table m main) (block_signals n ls) d k (omega arith) ∙ table_at m main d k h

      -- number k of the block signals
      block_at : (k : ℕ) (d : Signal) → get_or (all_signals m n ls) (m + k) d ≡ get_or (block_signals n ls) k d
      unfolding all_signals
      block_at k d = behind (table m main) (block_signals n ls) m k d (length_table m main)

      -- every number below the count is a signal that stands, and that signal's number
      by_number : (k : ℕ) → k < signal_count m n ls → Dec (k < m) → Numbered n k (signal_of m n ls k)
      unfolding signal_of number_of
      by_number k h (yes c) = rw (main_at k (main k) c) (c, refl)
      by_number k h (no c) =
          let j : ℕ = k - m in
          let back : m + j ≡ k = omega arith in
          subst (λ i. Numbered n i (get_or (all_signals m n ls) i (main k))) back
          (rw (block_at j (main k)) (block_numbered n n j (main k) (omega arith) (omega (arith, count_all))))

-- ---- a number and its signal

module _ (m n : ℕ) (ls : List Line) (k : ℕ) where
  -- a number of a signal that stands, and that signal
  abbrev pub Is : Signal → Type 0
  Is x = (k < signal_count m n ls) × (signal_of m n ls k ≡ x)

  -- below the number of main signals it is a main signal's
  pub number_main : k < m → Is (main k)
  unfolding signal_of
  number_main h = (omega (arith, count_all ls m n), main_at ls m n k (main k) h)

  -- so many past the signals of the lines before l it is a block signal's of line l
  number_into : (l j : ℕ) (x : Signal) → l < n → j < length (line_signals ls l) → k ≡ signal_count m l ls + j → ((d : Signal) → get_or (line_signals ls l) j d ≡ x) → Is x
  unfolding signal_of
  number_into l j x b h e f =
      let there = on_line ls n l j (main k) b h in
      let place : k ≡ m + (length (block_signals l ls) + j) = omega (arith, count_all ls m l) in (
        omega (arith, count_all ls m n, there.0),
        ap (λ i. get_or (all_signals m n ls) i (main k)) place ∙ block_at ls m n (length (block_signals l ls) + j) (main k) ∙ there.1 ∙ f (main k),
      )

  -- first those for A to B
  pub number_first : (l j : ℕ) → l < n → j < (line ls l).blocks - 1 → k ≡ signal_count m l ls + j → Is (into l (j + 1) a_to_b)
  number_first l j b h e = number_into l j _ b (omega (arith, line_count ls l)) e (λ d. at_first ls l j d h)

  -- then those for B to A
  pub number_then : (l j : ℕ) → l < n → j < (line ls l).blocks - 1 → k ≡ signal_count m l ls + ((line ls l).blocks - 1 + j) → Is (into l j b_to_a)
  number_then l j b h e = number_into l ((line ls l).blocks - 1 + j) _ b (omega (arith, line_count ls l)) e (λ d. at_then ls l j d h)

-- the number of a signal that stands is that signal's, by what it is
stands_named : (m n : ℕ) (ls : List Line) (x : Signal) → Stands m n ls x → Is m n ls (number_of m ls x) x
unfolding number_of
stands_named m n ls (main x) h = number_main m n ls x h
stands_named m n ls (into l i w) (b, h, inl e, u) =
    let some : 0 < i = ltb-true 0 i (has_first (line ls l).blocks i w e ∙ u) in
    let back : i - 1 + 1 ≡ i = omega arith in
    let place : (when eqb w a_to_b then i - 1 else (line ls l).blocks - 1 + i) ≡ i - 1 = sym (if_eq w a_to_b (i - 1) ((line ls l).blocks - 1 + i) (i - 1) e refl) in
    number_into m n ls _ l (i - 1) (into l i w) b (omega (arith, line_count ls l)) (omega (arith, place, count_all ls m l))
    (λ d. at_first ls l (i - 1) d (omega arith) ∙ ap (λ k. into l k a_to_b) back ∙ ap (into l i) (sym e))
stands_named m n ls (into l i w) (b, h, inr e, u) =
    let last : i + 1 < (line ls l).blocks = ltb-true (i + 1) _ (has_last (line ls l).blocks i w i (line ls l).blocks other refl refl ∙ u) in
    let place : (when eqb w a_to_b then i - 1 else (line ls l).blocks - 1 + i) ≡ (line ls l).blocks - 1 + i =
    sym (if_ne w a_to_b (i - 1) ((line ls l).blocks - 1 + i) ((line ls l).blocks - 1 + i) other refl) in
    number_into m n ls _ l ((line ls l).blocks - 1 + i) (into l i w) b (omega (arith, line_count ls l)) (omega (arith, place, count_all ls m l))
    (λ d. at_then ls l i d (omega arith) ∙ ap (into l i) (sym e))
  where
    other : w ≡ a_to_b → ⊥
    other z = omega arith

-- every number below the count is one signal that stands
pub number_stands : (m n : ℕ) (ls : List Line) (k : ℕ) → k < signal_count m n ls → Stands m n ls (signal_of m n ls k)
number_stands m n ls k h = (by_number ls m n k h (dec_lt k m)).0

-- every signal that stands has exactly one number
pub one_number : (m n : ℕ) (ls : List Line) (x : Signal) → Stands m n ls x → OneNumber m n ls x
one_number m n ls x h =
    let named = stands_named m n ls x h in
    record { below = named.0; named = named.1; only = λ k b e. sym (by_number ls m n k b (dec_lt k m)).1 ∙ ap (number_of m ls) e }

-- ---- how many there are

-- with no line only the main signals
pub count_mains : (m : ℕ) (ls : List Line) → signal_count m 0 ls ≡ m
unfolding block_signals
count_mains m ls = count_all ls m 0 ∙ omega arith

-- one line more has its block signals more
pub count_line : (m l : ℕ) (ls : List Line) → signal_count m (l + 1) ls ≡ signal_count m l ls + between_blocks (line ls l)
unfolding between_blocks
count_line m l ls = rw add-one (omega (arith, count_all ls m (suc l), count_all ls m l, blocks_more ls l, line_count ls l))

-- a line of no more blocks than there may be has at most fourteen; so has each of n lines
pub signals_few : (m : ℕ) (ls : List Line) (n : ℕ) → ((l : ℕ) → l < n → (line ls l).blocks ≤ most_blocks) → signal_count m n ls ≤ m + 14 * n
unfolding between_blocks
signals_few m ls zero few = omega (arith, count_mains m ls)
signals_few m ls (suc n) few =
    let one : signal_count m (suc n) ls ≡ signal_count m n ls + between_blocks (line ls n) = rw (← add-one n) (count_line m n ls) in
    let last : (line ls n).blocks ≤ most_blocks = few n (omega arith) in
    omega (arith, one, last, signals_few m ls n (λ l b. few l (omega arith)))

-- the loop that counts them: line l adds its own
pub count_on : (m l count more : ℕ) (ls : List Line) (b : Line) → count ≡ signal_count m l ls → b ≡ line ls l → more ≡ between_blocks b
    → count + more ≡ signal_count m (l + 1) ls
count_on m l count more ls b e f g = ap₂ ◌+◌ e (g ∙ ap between_blocks f) ∙ sym (count_line m l ls)

-- no line is left: all are counted
pub count_end : (m l n count : ℕ) (ls : List Line) → count ≡ signal_count m l ls → l ≤ n → n ≤ l → count ≡ signal_count m n ls
count_end m l n count ls e b f = let d : l ≡ n = omega arith in e ∙ ap (λ k. signal_count m k ls) d

-- ---- the number of a block signal, as the code puts it together

module _ (m l i w before : ℕ) (ls : List Line) (e : before ≡ signal_count m l ls) where
  -- from A to B: after the signals of the lines before, those into the blocks before its own
  pub number_up : (k : ℕ) → w ≡ a_to_b → k ≡ i - 1 → before + k ≡ number_of m ls (into l i w)
  unfolding number_of
  number_up k h q = ap₂ ◌+◌ (e ∙ count_all ls m l) (if_eq w a_to_b _ _ k h q)

  -- from B to A: after those for the other direction too
  pub number_down : (k j : ℕ) (b : Line) → (w ≡ a_to_b → ⊥) → b ≡ line ls l → k ≡ b.blocks - 1 → j ≡ i → before + (k + j) ≡ number_of m ls (into l i w)
  unfolding number_of
  number_down k j b h f q p = ap₂ ◌+◌ (e ∙ count_all ls m l) (if_ne w a_to_b _ _ (k + j) h (ap₂ ◌+◌ (q ∙ ap (λ (z : Line). z.blocks - 1) f) p))
