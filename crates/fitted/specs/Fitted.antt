-- The sections that have heads, told beside the layout (L1).
use Rattle.std.specs.Prelude.{ℕ, ◌<◌, ◌≡◌, Bool, false, List, [], ◌∷◌, length, get_or, set, eqb, leb}
use Rattle.laws.specs.Choice.{when◌then◌else◌}
use Rattle.laws.specs.Tests.{◌or◌}
use Rattle.laws.specs.Tables.{table}
use Rattle.laws.specs.Totals.{bit}
use Rattle.track.specs.Sizes.{most_sections}
use Rattle.layout.specs.declared.Layout.{Layout}
use Rattle.layout.specs.Layout.{none_fitted}
use Rattle.fitted.specs.declared.Told.{Told}
use Rattle.fitted.specs.Records.{Fitting}
use Rattle.fitted.specs.Numbers.{Numbers, numbers_of}

-- ---- what a list of numbers tells

-- g is one of the numbers
abbrev pub Among : List ℕ → ℕ → Type 0
Among ns g = (i : ℕ) × (i < length ns) × (get_or ns i 0 ≡ g)

-- the test holds of one of the numbers
unfoldable pub any_of : (ℕ → Bool) → List ℕ → Bool
any_of p [] = false
any_of p (n ∷ ns) = p n or any_of p ns

-- section g is told
unfoldable pub is_told : List ℕ → ℕ → Bool
is_told ns g = any_of (λ n. eqb n g) ns

-- of so many sections, one is told that there is not
unfoldable pub lacks : ℕ → List ℕ → Bool
lacks sections ns = any_of (λ n. leb sections n) ns

-- what a list of numbers tells of a layout with so many sections: 1 at g just where g is told; and 1 just where one is told that there is not
unfoldable pub told_by : ℕ → List ℕ → Told
told_by sections ns = record { fitted = table most_sections (λ g. bit (is_told ns g)); lacking = bit (lacks sections ns) }

-- the layout with what was told; everything else as it is
unfoldable pub with_told : Layout → Told → Layout
with_told L t = record {
  version = L.version;
  sections = L.sections;
  points = L.points;
  pointsection = L.pointsection;
  signals = L.signals;
  lines = L.lines;
  line = L.line;
  distants = L.distants;
  carrier = L.carrier;
  announced = L.announced;
  routes = L.routes;
  route = L.route;
  conflict = L.conflict;
  fitted = t.fitted;
  lacking = t.lacking;
}

-- L1, the layout with these sections told as fitted
unfoldable pub equipped : List ℕ → Layout → Layout
equipped ns L = with_told L (told_by L.sections ns)

-- ---- the file

-- L1, by the numbers of a file: 0 and 0 with the layout so equipped; or the first fault and its offset, with the layout as it was
unfoldable pub fit_by : Layout → Numbers → Fitting
fit_by L r =
    when eqb r.fault 0 then record { number = 0; detail = 0; layout = equipped r.list L } else record { number = r.fault; detail = r.place; layout = L }

-- L1, the answer to a file of fitted sections
unfoldable pub fit : Layout → List ℕ → Fitting
fit L file = fit_by L (numbers_of file)

-- ---- one number after another

-- nothing is told
unfoldable pub none_told : Told
none_told = record { fitted = none_fitted; lacking = 0 }

-- whether a section is lacking, when n is told too
unfoldable pub lacking_with : ℕ → ℕ → ℕ → ℕ
lacking_with sections lacking n = when leb sections n then 1 else lacking

-- what was told, and n
unfoldable pub tell : ℕ → Told → ℕ → Told
tell sections t n = record { fitted = set t.fitted n 1; lacking = lacking_with sections t.lacking n }

-- and each of a list
unfoldable pub tell_all : ℕ → Told → List ℕ → Told
tell_all sections t [] = t
tell_all sections t (n ∷ ns) = tell_all sections (tell sections t n) ns
