-- The word that begins the line of a file's fault, by the file.
use Rattle.std.specs.Prelude.{ℕ, List}
use Rattle.event_file.specs.declared.frame.FileKind.{FileKind}
use Rattle.event_file.specs.declared.frame.FileKind.TheVariants.{Layout, Fitted, Events}
use Rattle.event_file.specs.List.{layout_word, fitted_word, events_word}

abbrev pub word_of : FileKind → List ℕ
word_of Layout = layout_word
word_of Fitted = fitted_word
word_of Events = events_word
