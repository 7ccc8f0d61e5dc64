-- What keeps a signal at proceed (section 4), told from the history.
--
-- Read as `Demand3` says; p is a point.
use Rattle.std.specs.Prelude.{ℕ, ◌+◌, ◌<◌, ◌≡◌, Bool, [], ◌∷◌, eqb}
use Rattle.laws.specs.Choice.{when◌then◌else◌}
use Rattle.laws.specs.Tests.{◌and◌}
use Rattle.track.specs.Codes.{free, left, right, reads_none, exit_route, a_to_b, b_to_a, read_point, throw_point}
use Rattle.layout.specs.declared.Layout.{Layout}
use Rattle.layout.specs.Layout.{line_in, route_in}
use Rattle.layout_facts.specs.Plain.{path, overlap, route_point, route_position, line_point, line_position, nearest_block}
use Rattle.safety.specs.History.{Moment, History, section_reads, Since}
use Rattle.safety.specs.Locked.{Sets, Cancelled, Locked}
use Rattle.safety.specs.Cleared.{Opened}
use Rattle.safety.specs.Secured.{Barred, Secured}

-- ---- points (sections 1 and 3)

-- an order to throw point p was accepted
abbrev throws : ℕ → Moment → Bool
throws p m = eqb m.number 0 and (eqb m.event.kind throw_point and eqb m.event.first p)

-- what point p reads: what was last given, code 1 left, 2 right, every other code none; none after an accepted throw, unless it already read that
-- position; none at the cold start
unfoldable pub position : ℕ → History → ℕ
position p [] = reads_none
position p (m ∷ h) =
    when eqb m.event.kind read_point and eqb m.event.first p then
    (when eqb m.event.second 1 then left else when eqb m.event.second 2 then right else reads_none)
    else when throws p m then (when eqb (position p h) m.event.second then m.event.second else reads_none)
    else position p h

-- the points of route r, of line l, are read in position
abbrev pub RoutePlaced : Layout → ℕ → History → Type 0
RoutePlaced L r h = (i : ℕ) → i < (route_in L r).points → position (route_point L r i) h ≡ route_position L r i

abbrev pub LinePlaced : Layout → ℕ → History → Type 0
LinePlaced L l h = (i : ℕ) → i < (line_in L l).points → position (line_point L l i) h ≡ line_position L l i

-- ---- block signals

-- block i of line l may be entered: "open, not barred, and the line's points are in position"
pub record MayEnter (L : Layout) (l i : ℕ) (h : History) : Type 0 where
  pub is_open : Opened L l i h
  pub unbarred : ¬ Barred l i h
  pub placed : LinePlaced L l h

-- there is a signal into block i of line l in direction w, and its line is secured that way: "block signals stand between blocks, one each way"
pub record Lit (L : Layout) (l i w : ℕ) (h : History) : Type 0 where
  pub secured : Secured L l w h
  pub upward : w ≡ a_to_b → 0 < i
  pub downward : w ≡ b_to_a → i + 1 < (line_in L l).blocks

-- ---- main signals

-- what keeps the signal of route r at proceed: "a path or overlap section doesn't read free or a point isn't read in position" lets it fall; "an exit
-- signal also when a line point isn't, or the block it enters is held or barred"
pub record Clear (L : Layout) (r : ℕ) (h : History) : Type 0 where
  pub path_free : (j : ℕ) → j < (route_in L r).paths → section_reads L (path L r j) h ≡ free
  pub overlap_free : (j : ℕ) → j < (route_in L r).overlaps → section_reads L (overlap L r j) h ≡ free
  pub placed : RoutePlaced L r h
  pub may_enter : (route_in L r).kind ≡ exit_route → MayEnter L (route_in L r).line (nearest_block L (route_in L r).line (route_in L r).end) h

-- "a fallen signal stays at 20 until the route is locked anew": the route was set, and has had all that keeps its signal at proceed ever since
abbrev pub NotFallen : Layout → ℕ → History → Type 0
NotFallen L r h = Since (λ m older. Sets r m × Clear L r (m ∷ older)) (λ m older. Clear L r (m ∷ older)) h

-- the signal of route r is at proceed: it is locked, it was not cancelled, and its signal did not fall
pub record AtProceed (L : Layout) (r : ℕ) (h : History) : Type 0 where
  pub locked : Locked L r h
  pub standing : ¬ Cancelled r h
  pub not_fallen : NotFallen L r h
