-- A layout in use: one that a file was accepted for, with any of its sections told as fitted (section 2, L1).
use Rattle.std.specs.Prelude.{ℕ, ◌<◌, ◌≡◌, List}
use Rattle.layout.specs.declared.Layout.{Layout}
use Rattle.layout.specs.Load.{load}
use Rattle.fitted.specs.Fitted.{Among, equipped}

pub record InUse (L : Layout) : Type 0 where
  -- the layout's file, and the sections that are told
  pub file : List ℕ
  pub told : List ℕ
  -- it is accepted, and each of these is there
  pub done : (load file).number ≡ 0
  pub there : (g : ℕ) → Among told g → g < (load file).layout.sections
  -- the layout is what was loaded, with these fitted
  pub its : equipped told (load file).layout ≡ L
