-- Files and layouts are the same thing: the accepted files are the files of the sound layouts that have nothing beside their objects, each of one.
use Prim.Native.Nat.{ℕ}
use mathlib.Core.Path.{◌≡◌, sym, ap, ◌∙◌}
use mathlib.Core.Bool.{true}
use mathlib.Core.List.{List}
use mathlib.Core.Logic.{◌↔◌}
use native.Mathlib.Omega.{arith}
use lib.ListN.{length}
use Rattle.numbers.specs.Form.{Bytes}
use Rattle.layout.specs.declared.Layout.{Layout}
use Rattle.layout.specs.Records.{Loaded}
use Rattle.layout.specs.Sound.{sound}
use Rattle.layout.specs.Load.{load}
use Rattle.layout_facts.proofs.Loaded.{loaded_sound}
use Rattle.layout_file.specs.Written.{file_of}
use Rattle.layout_file.specs.Bare.{Bare}
use Rattle.layout_file.specs.Lengths.{IsLongest}
use Rattle.layout_file.specs.Full.{full_layout}
use Rattle.layout_file.proofs.Longest.{longest_file}
use Rattle.layout_file.proofs.Loaded.{loaded_bare}
use Rattle.layout_file.proofs.Whole.{file_is_layout}
use Rattle.layout_file.proofs.Given.{layout_loads}
use Rattle.layout_file.proofs.Full.{full_sound}
use Rattle.layout_file.proofs.FullFile.{full_length, full_bare}
use Rattle.layout_file.proofs.FileBytes.{file_bytes}

-- ---- which files are accepted

-- two files that load as one layout are one file
pub one_file : (s t : List ℕ) → Bytes s → Bytes t → (load s).number ≡ 0 → (load t).number ≡ 0 → (load s).layout ≡ (load t).layout → s ≡ t
one_file s t b c e f same = file_is_layout s b e ∙ ap file_of same ∙ sym (file_is_layout t c f)

-- two such layouts that have one file are one layout
pub one_layout : (L M : Layout) → sound L ≡ true → Bare L → sound M ≡ true → Bare M → file_of L ≡ file_of M → L ≡ M
one_layout L M t b u c same = ap (λ (a : Loaded). a.layout) (sym (layout_loads L t b) ∙ ap load same ∙ layout_loads M u c)

-- a file is accepted just where it is the file of a sound layout that has nothing beside its objects
pub accepted_exactly : (s : List ℕ) → Bytes s → (load s).number ≡ 0 ↔ (L : Layout) × (sound L ≡ true) × Bare L × (s ≡ file_of L)
accepted_exactly s b = (
  λ e. ((load s).layout, loaded_sound s e, loaded_bare s e, file_is_layout s b e),
  λ f. ap (λ (t : List ℕ). (load t).number) f.3 ∙ ap (λ (a : Loaded). a.number) (layout_loads f.0 f.1 f.2),
)

-- ---- how long they are

-- the most bytes of a file that loads: no sound layout has more, and the full layout has as many
pub longest_is : IsLongest 4363
longest_is = record {
  most = λ s b e. omega (arith, longest_file (load s).layout (loaded_sound s e), ap length (file_is_layout s b e));
  reached = (file_of full_layout, file_bytes full_layout, ap (λ (a : Loaded). a.number) (layout_loads full_layout full_sound full_bare), full_length);
}
