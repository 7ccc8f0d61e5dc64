-- The whole events of a file are all of it, up to the place where it ends or has a fault; and what is written for events is read as those events.
use Prim.Native.Nat.{ℕ, zero, suc, ◌+◌, ◌*◌, ◌<◌, ◌≤◌}
use mathlib.Core.Path.{◌≡◌, refl, sym, ap, subst, ◌∙◌}
use mathlib.Core.List.{List, [], ◌∷◌, ◌++◌, flat_map, append_assoc, append-nil}
use native.Mathlib.Omega.{arith}
use borrow.Author.Tests.{lt-ltb}
use lib.Dec.{ltb}
use lib.ListN.{length, drop, drop_of_length-le, length-drop}
use lib.Seq.{drop-drop, drop-append_seam}
use Rattle.laws.specs.Choice.{when◌then◌else◌}
use Rattle.laws.proofs.Choice.{if_both}
use Rattle.numbers.specs.Number.{Number}
use Rattle.numbers.specs.Number.{Value, Fault}
use Rattle.numbers.specs.Number.{largest, number_at}
use Rattle.numbers.specs.Form.{encode, Bytes}
use Rattle.numbers.proofs.Readings.{number_after, number_inside, number_written, number_most}
use Rattle.numbers.proofs.Forms.{accepts}
use Rattle.step_facts.specs.Run.{Event, event}
use Rattle.event_file.specs.Next.{Next}
use Rattle.event_file.specs.Next.{Taken, Bad, Nothing}
use Rattle.event_file.specs.Read.{with_second, with_first, with_kind, event_at}
use Rattle.event_file.specs.Events.{events_next, events_from, events_of, behind_next, behind_from, behind_events, ending_by, ending_of, event_form, written, Writable, AllWritable}
use Rattle.event_file.proofs.Reading.{event_none}
use Rattle.event_file.proofs.Onward.{Past, event_past}

module _ (file : List ℕ) where
  -- ---- how many there are

  -- each event takes three bytes or more of those that are left
  next_few : (m : ℕ) → ((at : ℕ) → at ≤ length file → at + 3 * length (events_from m file at) ≤ length file)
      → (at : ℕ) (x : Next) → Past file at x → at ≤ length file → at + 3 * length (events_next (events_from m file) x) ≤ length file
  unfolding events_next
  next_few m before at (Taken kind first second next) p h = omega (arith, p.0, before next p.1)
  next_few m before at (Bad number place) p h = omega arith
  next_few m before at Nothing p h = omega arith

  -- by the events that are allowed
  from_few : (m at : ℕ) → at ≤ length file → at + 3 * length (events_from m file at) ≤ length file
  unfolding events_from
  from_few zero at h = omega arith
  from_few (suc m) at h = next_few m (from_few m) at (event_at file at) (event_past file at) h

  -- a file has three bytes or more for each of its events
  pub events_few : 3 * length (events_of file) ≤ length file
  unfolding events_of
  events_few = omega (arith, from_few (length file) 0 (omega arith))

  -- ---- what stands behind them

  -- it is no event
  abbrev NoEvent : Next → Type 0
  NoEvent (Taken kind first second next) = ⊥
  NoEvent (Bad number place) = Unit {0}
  NoEvent Nothing = Unit {0}

  -- behind an event as before; where there is none, the place is the place
  next_ends : (m : ℕ) → ((at : ℕ) → length file ≤ m + at → NoEvent (event_at file (behind_from m file at)))
      → (at : ℕ) (x : Next) → event_at file at ≡ x → Past file at x → length file ≤ suc m + at
      → NoEvent (event_at file (behind_next at (behind_from m file) x))
  unfolding behind_next
  next_ends m before at (Taken kind first second next) e p h = before next (omega (arith, p.0))
  next_ends m before at (Bad number place) e p h = rw e tt
  next_ends m before at Nothing e p h = rw e tt

  -- by the events that are allowed
  from_ends : (m at : ℕ) → length file ≤ m + at → NoEvent (event_at file (behind_from m file at))
  unfolding behind_from
  from_ends zero at h = let past : length file ≤ at = omega arith in rw (← event_none file at past) tt
  from_ends (suc m) at h = next_ends m (from_ends m) at (event_at file at) refl (event_past file at) h

  -- no whole event stands behind the whole events of a file: it ends there, or has a fault
  pub no_event_behind : {kind first second next : ℕ} → event_at file (behind_events file) ≡ Taken kind first second next → ⊥
  unfolding behind_events
  no_event_behind e = subst NoEvent e (from_ends (length file) 0 (omega arith))

  -- ---- the bytes before it

  module _ (b : Bytes file) where
    -- an event stands at a place in the forms of its three numbers
    abbrev Stands : ℕ → Next → Type 0
    Stands at (Taken kind first second next) =
        Writable (event kind first second) × (drop at file ≡ event_form (event kind first second) ++ drop next file)
    Stands at (Bad number place) = Unit {0}
    Stands at Nothing = Unit {0}

    -- the second number, behind kind and first
    second_stands : (at kind first place : ℕ) (n : Number) → n ≡ number_at file place → kind ≤ largest → first ≤ largest
        → drop at file ≡ encode kind ++ encode first ++ drop place file → Stands at (with_second kind first n)
    unfolding with_second event_form
    second_stands at kind first place (Value value next) e k a d = (
      record { kind = k; first = a; second = number_most file place e refl },
      d ∙ ap (λ xs. encode kind ++ encode first ++ xs) (number_written file place b e refl) ∙ simp append_assoc,
    )
    second_stands at kind first place (Fault number p) e k a d = tt

    -- the first number, behind the kind
    first_stands : (at kind place : ℕ) (n : Number) → n ≡ number_at file place → kind ≤ largest → drop at file ≡ encode kind ++ drop place file
        → Stands at (with_first file kind n)
    unfolding with_first
    first_stands at kind place (Value value next) e k d =
        second_stands at kind value next (number_at file next) refl k (number_most file place e refl)
        (d ∙ ap (λ xs. encode kind ++ xs) (number_written file place b e refl) ∙ simp append_assoc)
    first_stands at kind place (Fault number p) e k d = tt

    -- the kind
    kind_stands : (at : ℕ) (n : Number) → n ≡ number_at file at → Stands at (with_kind file n)
    unfolding with_kind
    kind_stands at (Value value next) e =
        first_stands at value next (number_at file next) refl (number_most file at e refl) (number_written file at b e refl)
    kind_stands at (Fault number p) e = tt

    -- so it is at every place
    event_stands : (at : ℕ) → Stands at (event_at file at)
    unfolding event_at
    event_stands at = if_both (Stands at) (ltb at (length file)) (λ t. kind_stands at (number_at file at) refl) (λ t. tt)

    -- the bytes from a place on are those of the events there, and what is behind them
    abbrev Whole : ℕ → List Event → ℕ → Type 0
    Whole at es behind = (drop at file ≡ written es ++ drop behind file) × AllWritable es

    -- an event's bytes stand before those of the events behind it
    next_whole : (m : ℕ) → ((at : ℕ) → Whole at (events_from m file at) (behind_from m file at))
        → (at : ℕ) (x : Next) → Stands at x → Whole at (events_next (events_from m file) x) (behind_next at (behind_from m file) x)
    unfolding events_next behind_next AllWritable written flat_map
    next_whole m before at (Taken kind first second next) p =
        (p.1 ∙ ap (λ xs. event_form (event kind first second) ++ xs) (before next).0 ∙ simp append_assoc, (p.0, (before next).1))
    next_whole m before at (Bad number place) p = (refl, tt)
    next_whole m before at Nothing p = (refl, tt)

    -- by the events that are allowed
    from_whole : (m at : ℕ) → Whole at (events_from m file at) (behind_from m file at)
    unfolding events_from behind_from AllWritable written flat_map
    from_whole zero at = (refl, tt)
    from_whole (suc m) at = next_whole m (from_whole m) at (event_at file at) (event_stands at)

    -- a file is its whole events, each in its one form, and then the bytes from the place on where it ends or has a fault
    pub file_whole : (file ≡ written (events_of file) ++ drop (behind_events file) file) × AllWritable (events_of file)
    unfolding events_of behind_events
    file_whole = from_whole (length file) 0

    -- where it has no fault, it is its events and nothing else
    pub file_events : event_at file (behind_events file) ≡ Nothing → file ≡ written (events_of file)
    file_events e =
        let none : drop (behind_events file) file ≡ [] =
        drop_of_length-le file (subst (Past file (behind_events file)) e (event_past file (behind_events file))) in
        file_whole.0 ∙ ap (λ xs. written (events_of file) ++ xs) none ∙ append-nil _

  -- ---- what is written is read

  -- the bytes behind what stands at a place
  past_form : (at : ℕ) (xs post : List ℕ) → drop at file ≡ xs ++ post → drop (at + length xs) file ≡ post
  past_form at xs post e = sym (drop-drop (length xs) at file) ∙ ap (drop (length xs)) e ∙ drop-append_seam xs post

  -- the form of an event, standing anywhere, is read as the event, to its end
  event_read : (at : ℕ) (e : Event) (post : List ℕ) → Writable e → drop at file ≡ event_form e ++ post
      → (next : ℕ) × (event_at file at ≡ Taken e.kind e.first e.second next) × (drop next file ≡ post)
  unfolding event_form event_at with_kind with_first with_second when◌then◌else◌
  event_read at e post w d =
      let k : List ℕ = encode e.kind in
      let a : List ℕ = encode e.first in
      let c : List ℕ = encode e.second in
      let d₀ : drop at file ≡ k ++ (a ++ (c ++ post)) = d ∙ simp append_assoc in
      let n₀ = accepts file at e.kind _ w.kind d₀ in
      let d₁ : drop (at + length k) file ≡ a ++ (c ++ post) = past_form at k _ d₀ in
      let n₁ = accepts file (at + length k) e.first _ w.first d₁ in
      let d₂ : drop (at + length k + length a) file ≡ c ++ post = past_form (at + length k) a _ d₁ in
      let n₂ = accepts file (at + length k + length a) e.second _ w.second d₂ in
      let inside : at < length file = omega (arith, number_after file at refl n₀, number_inside file at refl n₀) in
      (at + length k + length a + length c, rw (lt-ltb at (length file) inside, n₀, n₁, n₂), past_form (at + length k + length a) c post d₂)

  -- the events that are written from a place on are the events there, and nothing stands behind them
  from_written : (m at : ℕ) (es : List Event) → AllWritable es → drop at file ≡ written es → length file ≤ m + at
      → (events_from m file at ≡ es) × (event_at file (behind_from m file at) ≡ Nothing)
  unfolding events_from events_next behind_from behind_next AllWritable written flat_map
  from_written m at [] w d h =
      let past : length file ≤ at = omega (arith, length-drop at file, ap length d) in
      no_more m (sym (event_none file at past))
    where
      no_more : (k : ℕ) → event_at file at ≡ Nothing → (events_from k file at ≡ []) × (event_at file (behind_from k file at) ≡ Nothing)
      no_more zero none = (refl, none)
      no_more (suc k) none = (rw none, rw (none, none))
  from_written zero at (e ∷ es) w d h =
      let there = event_read at e (written es) w.0 d in
      let p = subst (Past file at) there.1 (event_past file at) in
      absurd (omega (arith, p.0, p.1))
  from_written (suc m) at (e ∷ es) w d h =
      let there = event_read at e (written es) w.0 d in
      let p = subst (Past file at) there.1 (event_past file at) in
      let rest = from_written m there.0 es w.1 there.2 (omega (arith, p.0)) in
      (rw there.1 (ap (λ (xs : List Event). e ∷ xs) rest.0), rw there.1 rest.1)

-- what is written for events is read as these events, and nothing ends the list: every run whose numbers can be written is the run of a file
pub written_events : (es : List Event) → AllWritable es → (events_of (written es) ≡ es) × (ending_of (written es) ≡ [])
unfolding events_of behind_events ending_of ending_by
written_events es w =
    let whole = from_written (written es) (length (written es)) 0 es w refl (omega arith) in
    (whole.0, rw whole.1)
