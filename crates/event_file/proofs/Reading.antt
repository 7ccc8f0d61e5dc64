-- The cases of an event that is read, each from the facts that choose it.
use Prim.Native.Nat.{ℕ, ◌<◌, ◌≤◌}
use mathlib.Core.Path.{◌≡◌, refl, ap}
use mathlib.Core.List.{List}
use lib.ListN.{length}
use Rattle.laws.proofs.Choice.{if_lt, if_ge}
use Rattle.std.specs.Prelude.{Option, Some, None, Result, Ok, Err}
use Rattle.numbers.specs.declared.Fault.{Fault as FileFault}
use Rattle.numbers.specs.Given.{number_of, detail_of}
use Rattle.numbers.specs.Number.{Number}
use Rattle.numbers.specs.Number.{Value, Fault}
use Rattle.numbers.specs.Number.{number_at, number_told}
use Rattle.numbers.proofs.Cases.{number_same}
use Rattle.numbers.proofs.Readings.{number_most}
use Rattle.numbers.proofs.Same.{fault_same}
use Rattle.event_file.specs.declared.Event.{Event}
use Rattle.event_file.specs.Next.{Next, found}
use Rattle.event_file.specs.Next.{Taken, Bad, Nothing}
use Rattle.event_file.specs.Read.{Small, with_second, with_first, with_kind, event_at, next_told}

-- what is read at a place is not too large
pub read_small : (file : List ℕ) (at : ℕ) (n : Number) → number_told n ≡ number_told (number_at file at) → Small n
read_small file at n e value next f = number_most file at (number_same _ _ e) f

module _ (file : List ℕ) (at : ℕ) where
  -- at the file's end or past it nothing stands
  pub event_none : length file ≤ at → Nothing ≡ event_at file at
  unfolding event_at
  event_none h = if_ge _ _ _ _ _ h refl

  module _ (h : at < length file) where
    -- before it a number is read, the kind, or its fault is told
    pub kind_bad : (n d : ℕ) → number_told (Fault n d) ≡ number_told (number_at file at) → Bad n d ≡ event_at file at
    unfolding event_at with_kind
    kind_bad n d e = if_lt _ _ _ _ _ h (rw (← number_same _ _ e) refl)

    module _ (kind then : ℕ) (e : number_told (Value kind then) ≡ number_told (number_at file at)) where
      -- behind the kind the first number is read, or its fault is told
      pub first_bad : (n d : ℕ) → number_told (Fault n d) ≡ number_told (number_at file then) → Bad n d ≡ event_at file at
      unfolding event_at with_kind with_first
      first_bad n d f = if_lt _ _ _ _ _ h (rw (← number_same _ _ e, ← number_same _ _ f) refl)

      module _ (first after : ℕ) (f : number_told (Value first after) ≡ number_told (number_at file then)) where
        -- and behind that the second
        pub second_bad : (n d : ℕ) → number_told (Fault n d) ≡ number_told (number_at file after) → Bad n d ≡ event_at file at
        unfolding event_at with_kind with_first with_second
        second_bad n d g = if_lt _ _ _ _ _ h (rw (← number_same _ _ e, ← number_same _ _ f, ← number_same _ _ g) refl)

        -- which makes the event whole
        pub event_taken : (second next : ℕ) → number_told (Value second next) ≡ number_told (number_at file after)
            → Taken kind first second next ≡ event_at file at
        unfolding event_at with_kind with_first with_second
        event_taken second next g = if_lt _ _ _ _ _ h (rw (← number_same _ _ e, ← number_same _ _ f, ← number_same _ _ g) refl)

-- no two results are told alike: an event is told in five numbers, a fault in two and the file's end in none, each with all that it holds
pub next_same : (r q : Next) → next_told r ≡ next_told q → r ≡ q
unfolding next_told
next_same (Taken kind first second next) (Taken k a b place) e = cc
next_same (Taken kind first second next) (Bad number at) e = cc
next_same (Taken kind first second next) Nothing e = cc
next_same (Bad number at) (Taken k a b place) e = cc
next_same (Bad number at) (Bad m place) e = cc
next_same (Bad number at) Nothing e = cc
next_same Nothing (Taken k a b place) e = cc
next_same Nothing (Bad m place) e = cc
next_same Nothing Nothing e = refl

-- so where the code gives nothing, or an event, that is what stands there
pub next_none : (o : Option Event) (x : Next) → o ≡ None → next_told (found (Ok o)) ≡ next_told x → Nothing ≡ x
next_none o x e t = next_same Nothing x (rw e at t)

pub next_some : (o : Option Event) (x : Next) {event : Event} → o ≡ Some event → next_told (found (Ok o)) ≡ next_told x
    → Taken event.kind event.first event.second event.next ≡ x
next_some o x {event} e t = next_same (Taken event.kind event.first event.second event.next) x (rw e at t)

-- nor are two answers of the code found to be the same
pub found_same : (r q : Result (Option Event) FileFault) → found r ≡ found q → r ≡ q
found_same (Ok (Some a)) (Ok (Some b)) e =
    let k : a.kind ≡ b.kind = cc in
    let f : a.first ≡ b.first = cc in
    let s : a.second ≡ b.second = cc in
    let n : a.next ≡ b.next = cc in
    ap (λ (x : Event). Ok (Some x)) (rw (k, f, s, n) refl)
found_same (Ok (Some a)) (Ok None) e = cc
found_same (Ok (Some a)) (Err g) e = cc
found_same (Ok None) (Ok (Some b)) e = cc
found_same (Ok None) (Ok None) e = refl
found_same (Ok None) (Err g) e = cc
found_same (Err f) (Ok (Some b)) e = cc
found_same (Err f) (Ok None) e = cc
found_same (Err f) (Err g) e =
    let n : number_of f ≡ number_of g = cc in
    let d : detail_of f ≡ detail_of g = cc in
    ap Err (fault_same f g n d)
