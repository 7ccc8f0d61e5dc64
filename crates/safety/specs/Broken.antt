-- A clause of demand 3 that is broken at the end of a history.
use Rattle.std.specs.Prelude.{ℕ, ◌<◌, ◌≡◌, ◌≢◌, true}
use Rattle.track.specs.Codes.{free, exit_route, neutral, leaving}
use Rattle.track.specs.Signal.{Signal, main}
use Rattle.layout.specs.declared.Layout.{Layout}
use Rattle.layout.specs.Layout.{route_in, conflict}
use Rattle.layout_facts.specs.Plain.{InBlock}
use Rattle.safety.specs.History.{History, block_reads, shown}
use Rattle.safety.specs.Locked.{Locked}
use Rattle.safety.specs.Cleared.{Proceeds, Cleared}
use Rattle.safety.specs.Secured.{Secured}
use Rattle.safety.specs.Lights.{AtProceed}
use Rattle.safety.specs.Demand3.{Enters}

-- a clause of demand 3
pub data Clause : Type 0 where
  apart : Clause
  exits : Clause
  directions : Clause
  backed : Clause
  secured : Clause
  shows_secured : Clause
  alone : Clause
  is_free : Clause
  cleared : Clause

-- two conflicting routes are locked
pub record Together (L : Layout) (h : History) : Type 0 where
  pub one : ℕ
  pub other : ℕ
  pub one_there : one < L.routes
  pub other_there : other < L.routes
  pub conflicts : conflict L one other ≡ true
  pub one_locked : Locked L one h
  pub other_locked : Locked L other h

-- an exit route is locked, and its line not secured its way
pub record Adrift (L : Layout) (h : History) : Type 0 where
  pub route : ℕ
  pub there : route < L.routes
  pub is_exit : (route_in L route).kind ≡ exit_route
  pub locked : Locked L route h
  pub unmet : Secured L (route_in L route).line (leaving (route_in L route).end) h → ⊥

-- a line shows a direction in which it is not secured
pub record Untrue (L : Layout) (h : History) : Type 0 where
  pub line : ℕ
  pub way : ℕ
  pub there : line < L.lines
  pub some : way ≢ neutral
  pub shows : (shown L h).line line ≡ way
  pub unmet : Secured L line way h → ⊥

-- a main signal shows proceed for no route that starts at it and is at proceed
pub record Unbacked (L : Layout) (h : History) : Type 0 where
  pub at : ℕ
  pub proceeds : Proceeds (shown L h) (main at)
  pub unmet : (r : ℕ) → r < L.routes → (route_in L r).entry ≡ at → AtProceed L r h → ⊥

-- some signal shows proceed into a block without this
pub record Unguarded (Met : Signal → ℕ → ℕ → ℕ → Type 0) (L : Layout) (h : History) : Type 0 where
  pub at : Signal
  pub line : ℕ
  pub number : ℕ
  pub way : ℕ
  pub enters : Enters L h at line number way
  pub unmet : Met at line number way → ⊥

-- the clause is broken at the end of a history
abbrev pub Broken : Clause → Layout → History → Type 0
Broken apart L h = Together L h
Broken exits L h = Adrift L h
Broken directions L h = Untrue L h
Broken backed L h = Unbacked L h
Broken secured L h = Unguarded (λ x l i w. Secured L l w h) L h
Broken shows_secured L h = Unguarded (λ x l i w. (shown L h).line l ≡ w) L h
Broken alone L h = Unguarded (λ x l i w. (y : Signal) (k j v g : ℕ) → Enters L h y k j v → InBlock L k j g → InBlock L l i g → y ≡ x) L h
Broken is_free L h = Unguarded (λ x l i w. block_reads L l i h ≡ free) L h
Broken cleared L h = Unguarded (λ x l i w. Cleared L l i h) L h
