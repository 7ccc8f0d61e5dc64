-- A line secured, told from the history (section 5): from the event in which an order to secure it was accepted, or (L5) one to set an exit route of it while
-- it was neutral, until a manual release or the line release.
--
-- Read as `Demand3` says.
use Rattle.std.specs.Prelude.{ℕ, ◌<◌, ◌≡◌, ◌⊎◌, [], ◌∷◌}
use Rattle.track.specs.Codes.{exit_route, a_to_b, b_to_a, leaving, secure_line, bar_block, unbar_block}
use Rattle.passage.specs.Passage.{arrival}
use Rattle.layout.specs.declared.Layout.{Layout}
use Rattle.layout.specs.Layout.{line_in, route_in}
use Rattle.layout_facts.specs.Plain.{nearest_block}
use Rattle.safety.specs.History.{Moment, History, Accepted, Releases, Came, Since}
use Rattle.safety.specs.Locked.{Sets, Locked}
use Rattle.safety.specs.Cleared.{Completed, Opened}

-- block i of line l is barred: a bar of it came, and no unbar since
abbrev pub Barred : ℕ → ℕ → History → Type 0
Barred l i h = Since (λ m older. Came bar_block l i m) (λ m older. ¬ Came unbar_block l i m) h

-- the last block of line l in travel in direction w: the one nearest the arrival end
abbrev pub last_block : Layout → ℕ → ℕ → ℕ
last_block L l w = nearest_block L l (arrival w)

-- "When the last block in travel goes from 2 to open" (L3: or from 3), "the line becomes neutral if every block is open, no exit route of the line is locked
-- and no block is barred": the event m, line l secured in direction w
pub record LineEnds (L : Layout) (l w : ℕ) (m : Moment) (older : History) : Type 0 where
  -- the last block in travel was not open, and the event completed its passage
  pub held : ¬ Opened L l (last_block L l w) older
  pub completes : Completed L l (last_block L l w) w m older
  -- every block is open after it
  pub all_open : (i : ℕ) → i < (line_in L l).blocks → Opened L l i (m ∷ older)
  -- no exit route of the line is locked after it
  pub no_exit : (r : ℕ) → r < L.routes → (route_in L r).kind ≡ exit_route → (route_in L r).line ≡ l → ¬ Locked L r (m ∷ older)
  -- no block is barred
  pub no_bar : (i : ℕ) → i < (line_in L l).blocks → ¬ Barred l i (m ∷ older)

-- it stays secured in direction w: no order to secure it and no manual release of it was accepted, and no line release came
pub record StaysSecured (L : Layout) (l w : ℕ) (m : Moment) (older : History) : Type 0 where
  pub no_order : ¬ Accepted secure_line l m
  pub no_release : ¬ Releases l m
  pub no_end : ¬ LineEnds L l w m older

-- ---- one order for departure (L5)

-- the event m sets route r, an exit route of line l that leaves in direction w
pub record SetsOut (L : Layout) (l w : ℕ) (m : Moment) (r : ℕ) : Type 0 where
  pub sets : Sets r m
  pub there : r < L.routes
  pub is_exit : (route_in L r).kind ≡ exit_route
  pub of_line : (route_in L r).line ≡ l
  pub way : leaving (route_in L r).end ≡ w

-- neutral: neither from A to B nor from B to A, where `Was v` says that it was secured in direction v
abbrev pub Neither : (ℕ → Type 0) → Type 0
Neither Was = ¬ Was a_to_b × ¬ Was b_to_a

-- the event m secures line l in direction w, where `Was` tells the direction in which it was secured before: an order to secure it so was accepted; or "setting
-- an exit route on a neutral line now first secures it the route's way"
pub data SecuredBy (L : Layout) (l w : ℕ) (Was : ℕ → Type 0) (m : Moment) : Type 0 where
  by_order : Accepted secure_line l m → m.event.second ≡ w → SecuredBy L l w Was m
  by_route : (r : ℕ) → SetsOut L l w m r → Neither Was → SecuredBy L l w Was m

-- ---- secured

-- line l is secured in direction w: an event secured it so, and it has stayed so
unfoldable pub Secured : Layout → ℕ → ℕ → History → Type 0
Secured L l w [] = ⊥
Secured L l w (m ∷ h) = SecuredBy L l w (λ v. Secured L l v h) m ⊎ (StaysSecured L l w m h × Secured L l w h)

-- line l is neutral
abbrev pub Neutral : Layout → ℕ → History → Type 0
Neutral L l h = Neither (λ w. Secured L l w h)
