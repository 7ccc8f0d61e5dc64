-- The three numbers, the image, the end.
use native.Mathlib.Omega.{arith}
use mathlib.Core.Path.{refl}
use mathlib.Core.Bool.{true}
use borrow.Author.Rules.{rules}
use Rattle.event_file.proofs.PanelText.{most_panel, image_line_made}
use Rattle.event_file.proofs.lines.put_image_line.Goals as goal

pub put_three-before-requires : goal.put_three-before-requires
put_three-before-requires c = omega (arith, most_panel true refl)

pub put_image-end-requires : goal.put_image-end-requires
put_image-end-requires c = (search rules, omega (arith, most_panel true refl))

pub bounds-out-end : goal.bounds-out-end
bounds-out-end c = omega (arith, most_panel true refl)

pub returns : goal.returns
returns c = search (rules, image_line_made)
