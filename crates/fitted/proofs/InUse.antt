-- A layout in use is sound, and so is one with no section told.
use Prim.Native.Nat.{ℕ}
use mathlib.Core.Path.{◌≡◌, ap, sym, ◌∙◌}
use mathlib.Core.Bool.{true}
use mathlib.Core.List.{List, []}
use native.Mathlib.Omega.{arith}
use Rattle.layout.specs.declared.Layout.{Layout}
use Rattle.layout.specs.Load.{load}
use Rattle.layout.specs.Sound.{sound}
use Rattle.layout_facts.proofs.Loaded.{loaded_sound}
use Rattle.fitted.specs.InUse.{InUse}
use Rattle.fitted.proofs.Equipped.{equipped_none, equipped_sound}

-- what was loaded is sound, and stays so where each section told is there
pub in_use_sound : {L : Layout} → InUse L → sound L ≡ true
in_use_sound u = ap sound (sym u.its) ∙ (equipped_sound (load u.file).layout u.told (loaded_sound u.file u.done)).1 u.there

-- a layout that was loaded is in use as it is
pub loaded_in_use : (file : List ℕ) → (load file).number ≡ 0 → InUse (load file).layout
loaded_in_use file d = record { file = file; told = []; done = d; there = λ g a. absurd (let b = a.1 in omega arith); its = equipped_none file }
