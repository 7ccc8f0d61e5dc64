-- A line and a route, put together from what was read; and a fault met before or in one, which stays.
use Prim.Native.Nat.{ℕ}
use mathlib.Core.Path.{◌≡◌, refl, sym, subst, ◌∙◌}
use mathlib.Core.List.{List}
use Rattle.std.specs.Prelude.{Ok}
use Rattle.laws.proofs.Choice.{if_both, if_eq, if_ne}
use Rattle.numbers.specs.declared.Fault.{Fault}
use Rattle.fields.specs.declared.Cursor.{Cursor}
use Rattle.fields.specs.declared.Items.{Items}
use Rattle.fields.specs.declared.Points.{Points}
use Rattle.fields.specs.Fields.{code, reference}
use Rattle.fields.specs.Lists.{items, points}
use Rattle.fields.specs.Reading.{Stands, Met, NumberRead}
use Rattle.fields.proofs.Laws.{code_met, reference_met}
use Rattle.fields.proofs.Turns.{items_met, points_met}
use Rattle.track.specs.declared.Counts.{Counts}
use Rattle.track.specs.Sizes.{most_blocks, most_listed, most_overlap}
use Rattle.file_objects.specs.declared.End.{End}
use Rattle.file_objects.specs.Lines.{line_of, a_line}
use Rattle.file_objects.specs.Routes.{line_and_end, an_end, route_head, a_route}
use Rattle.file_objects.specs.Reading.{LineRead, EndRead, HeadRead, RouteRead}
use Rattle.file_objects.specs.declared.place.Head.{Head as HeadGiven}

-- ---- a line

-- from its six reads, whether a fault was met or not
pub line_parts : (s : List ℕ) (n : Counts) (c : Cursor) (b : Items) (innera innerb entrancea entranceb : Cursor) (p : Points)
    → b ≡ items s c 1 most_blocks n.sections → innera ≡ reference s b.cur n.sections → innerb ≡ reference s innera n.sections
    → entrancea ≡ reference s innerb n.signals → entranceb ≡ reference s entrancea n.signals → p ≡ points s entranceb n.points
    → line_of b innera innerb entrancea entranceb p ≡ a_line s n c
unfolding a_line
line_parts s n c b innera innerb entrancea entranceb p e₁ e₂ e₃ e₄ e₅ e₆ = rw (e₆, e₅, e₄, e₃, e₂, e₁)

module _ (s : List ℕ) (n : Counts) (c : Cursor) where
  -- its blocks, and the cursors behind its inner sections and its entrance signals
  abbrev pub line_blocks : Items
  line_blocks = items s c 1 most_blocks n.sections

  abbrev pub innera : Cursor
  innera = reference s line_blocks.cur n.sections

  abbrev pub innerb : Cursor
  innerb = reference s innera n.sections

  abbrev pub entrancea : Cursor
  entrancea = reference s innerb n.signals

  abbrev pub entranceb : Cursor
  entranceb = reference s entrancea n.signals

  module _ {f : Fault} where
    -- a fault in place of its points, and one before each part
    pub line_cut : Met (points s entranceb n.points).cur f → Met (a_line s n c).cur f
    unfolding a_line
    line_cut h = h

    pub line_cut5 : Met entranceb f → Met (a_line s n c).cur f
    line_cut5 h = line_cut (points_met s entranceb n.points h)

    pub line_cut4 : Met entrancea f → Met (a_line s n c).cur f
    line_cut4 h = line_cut5 (reference_met s entrancea f h n.signals)

    pub line_cut3 : Met innerb f → Met (a_line s n c).cur f
    line_cut3 h = line_cut4 (reference_met s innerb f h n.signals)

    pub line_cut2 : Met innera f → Met (a_line s n c).cur f
    line_cut2 h = line_cut3 (reference_met s innera f h n.sections)

    pub line_cut1 : Met line_blocks.cur f → Met (a_line s n c).cur f
    line_cut1 h = line_cut2 (reference_met s line_blocks.cur f h n.sections)

    pub line_met : Met c f → Met (a_line s n c).cur f
    line_met h = line_cut1 (items_met s c 1 most_blocks n.sections h)

  -- all of it is read
  pub line_made : {at blocks innera' innerb' entrancea' entranceb' points' : ℕ} {block point position : List ℕ} → Stands (points s entranceb n.points).cur at
      → blocks ≡ line_blocks.count → block ≡ line_blocks.item → innera' ≡ innera.value → innerb' ≡ innerb.value → entrancea' ≡ entrancea.value
      → entranceb' ≡ entranceb.value → points' ≡ (points s entranceb n.points).count → point ≡ (points s entranceb n.points).point
      → position ≡ (points s entranceb n.points).position
      → LineRead
      (Ok
      (record {
        blocks = blocks;
        block = block;
        innera = innera';
        innerb = innerb';
        entrancea = entrancea';
        entranceb = entranceb';
        points = points';
        point = point;
        position = position;
      })) at (a_line s n c)
  unfolding a_line
  line_made h e₁ e₂ e₃ e₄ e₅ e₆ e₇ e₈ e₉ = (h, rw (e₁, e₂, e₃, e₄, e₅, e₆, e₇, e₈, e₉))

-- ---- the line and the end of a route

module _ (s : List ℕ) (c : Cursor) (lines : ℕ) where
  -- an inner route has neither
  pub end_none : {at kind : ℕ} → Stands c at → c.value ≡ kind → kind ≡ 0 → EndRead (Ok (record { line = 0; end = 0 })) at (line_and_end s c lines)
  unfolding line_and_end
  end_none {at} h k z = subst (EndRead (Ok (record { line = 0; end = 0 })) at) (if_eq _ _ _ _ _ (k ∙ z) refl) (h, (refl, refl))

  module _ {kind : ℕ} (k : c.value ≡ kind) (z : kind ≡ 0 → ⊥) where
    -- another has both
    end_both : an_end s c lines ≡ line_and_end s c lines
    unfolding line_and_end
    end_both = if_ne _ _ _ _ _ (λ e. z (sym k ∙ e)) refl

    pub end_made : {line end between at : ℕ} → NumberRead (Ok line) between (reference s c lines) → NumberRead (Ok end) at (code s (reference s c lines) 0 1)
        → EndRead (Ok (record { line = line; end = end })) at (line_and_end s c lines)
    unfolding an_end
    end_made l e = rw (← end_both) (e.0, (l.1, e.1))

    -- a fault in place of the end, and of the line
    pub end_cut : {f : Fault} → Met (code s (reference s c lines) 0 1) f → Met (line_and_end s c lines).cur f
    unfolding an_end
    end_cut h = rw (← end_both) h

    pub end_cut1 : {f : Fault} → Met (reference s c lines) f → Met (line_and_end s c lines).cur f
    end_cut1 h = end_cut (code_met s (reference s c lines) _ h 0 1)

  -- a fault before
  pub end_met : {f : Fault} → Met c f → Met (line_and_end s c lines).cur f
  unfolding line_and_end an_end
  end_met {f} h =
      if_both (λ (t : End). Met t.cur f) _ (λ e. h) (λ e. code_met s (reference s c lines) f (reference_met s c f h lines) 0 1)

-- ---- a route

module _ (s : List ℕ) (n : Counts) (c : Cursor) where
  -- the cursors behind the entry signal and the kind, and the line and the end
  abbrev pub entry : Cursor
  entry = reference s c n.signals

  abbrev pub kind : Cursor
  kind = code s entry 0 2

  abbrev pub place : End
  place = line_and_end s kind n.lines

  module _ {f : Fault} where
    -- a fault in place of the last part of its head, and one before each part
    pub head_cut : Met (code s place.cur 0 1) f → Met (route_head s n c).cur f
    unfolding route_head
    head_cut h = h

    pub head_cut3 : Met place.cur f → Met (route_head s n c).cur f
    head_cut3 h = head_cut (code_met s place.cur f h 0 1)

    pub head_cut2 : Met kind f → Met (route_head s n c).cur f
    head_cut2 h = head_cut3 (end_met s kind n.lines h)

    pub head_cut1 : Met entry f → Met (route_head s n c).cur f
    head_cut1 h = head_cut2 (code_met s entry f h 0 2)

  -- all of it is read
  pub head_made : {at : ℕ} {h : HeadGiven} → Stands (code s place.cur 0 1) at → h.entry ≡ entry.value → h.kind ≡ kind.value → h.line ≡ place.line
      → h.end ≡ place.end → h.diverging ≡ (code s place.cur 0 1).value → HeadRead (Ok h) at (route_head s n c)
  unfolding route_head
  head_made h e₁ e₂ e₃ e₄ e₅ = (h, (e₁, e₂, e₃, e₄, e₅))

  -- its path, its overlap and its points
  abbrev pub path : Items
  path = items s (route_head s n c).cur 1 most_listed n.sections

  abbrev pub overlap : Items
  overlap = items s path.cur 0 most_overlap n.sections

  abbrev pub route_points : Points
  route_points = points s overlap.cur n.points

  module _ {f : Fault} where
    -- a fault in place of its points, and one before each part
    pub route_cut : Met route_points.cur f → Met (a_route s n c).cur f
    unfolding a_route
    route_cut h = h

    pub route_cut3 : Met overlap.cur f → Met (a_route s n c).cur f
    route_cut3 h = route_cut (points_met s overlap.cur n.points h)

    pub route_cut2 : Met path.cur f → Met (a_route s n c).cur f
    route_cut2 h = route_cut3 (items_met s path.cur 0 most_overlap n.sections h)

    pub route_cut1 : Met (route_head s n c).cur f → Met (a_route s n c).cur f
    route_cut1 h = route_cut2 (items_met s (route_head s n c).cur 1 most_listed n.sections h)

    pub route_met : Met c f → Met (a_route s n c).cur f
    route_met h = route_cut1 (head_cut1 (reference_met s c f h n.signals))

  -- all of it is read
  pub route_made : {at last paths overlaps points' : ℕ} {path' overlap' point position : List ℕ} {h : HeadGiven} → HeadRead (Ok h) at (route_head s n c)
      → paths ≡ path.count → path' ≡ path.item → overlaps ≡ overlap.count → overlap' ≡ overlap.item → Stands route_points.cur last
      → points' ≡ route_points.count → point ≡ route_points.point → position ≡ route_points.position
      → RouteRead
      (Ok
      (record {
        entry = h.entry;
        kind = h.kind;
        line = h.line;
        end = h.end;
        diverging = h.diverging;
        paths = paths;
        path = path';
        overlaps = overlaps;
        overlap = overlap';
        points = points';
        point = point;
        position = position;
      })) last (a_route s n c)
  unfolding a_route
  route_made g e₁ e₂ e₃ e₄ h e₅ e₆ e₇ = (h, rw (g.1.0, g.1.1, g.1.2, g.1.3, g.1.4, e₁, e₂, e₃, e₄, e₅, e₆, e₇))
