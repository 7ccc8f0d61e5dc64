-- A section that has heads reads and shows what the log of them tells, and so do the box's own heads (L1).
use Prim.Native.Nat.{ℕ, ◌<◌}
use mathlib.Core.Path.{◌≡◌, refl, sym, ap, ◌∙◌}
use mathlib.Core.Bool.{true}
use mathlib.Core.List.{[], ◌∷◌}
use native.Mathlib.Omega.{arith}
use borrow.Author.Tests.{eqb-true, eq-eqb}
use lib.Dec.{eqb}
use Rattle.laws.specs.Choice.{when◌then◌else◌}
use Rattle.laws.specs.Tests.{◌and◌, every}
use Rattle.laws.proofs.Choice.{Is, holds, fails, which}
use Rattle.laws.proofs.Tests.{not_both}
use Rattle.axles.specs.Heads.{speaking, number, axles_reading, heads_after_log}
use Rattle.axles.specs.HeadLog.{HeadLog, has_told, both_speak, reading_told}
use Rattle.axles.proofs.HeadLog.{log_reads, log_speaks, log_number}
use Rattle.layout.specs.declared.Layout.{Layout}
use Rattle.layout.specs.Layout.{is_fitted}
use Rattle.interlocking.specs.State.{heads_at}
use Rattle.step_facts.specs.Run.{from_cold}
use Rattle.safety.specs.Said.{said_of, saying}
use Rattle.safety.specs.History.{Moment, History, gave_section, head_log, reads, section_reads, history}
use Rattle.safety.specs.HeadsTold.{ReadsByHeads, HeadsTold}
use Rattle.safety.proofs.Heads.{SaidOf, said_is, is_said, log_said, log_unsaid, told_in, reset_lost}
use Rattle.safety.proofs.Given.{Gave, by_reading, by_saying, gives_none, gives_said}
use Rattle.safety.proofs.Told.{reads_kept, reads_given}
use Rattle.safety.proofs.Kept.{run_has}
use Rattle.safety.proofs.Exact.{exact_run}

-- ---- what it reads

module _ (L : Layout) (g : ℕ) (b : g < L.sections) (f : is_fitted L g ≡ true) (m : Moment) (h : History) (older : section_reads L g h ≡ reading_told (head_log g h)) where
  -- the log of its heads before the event
  abbrev es : HeadLog
  es = head_log g h

  -- an event that says something of them gives what the log then tells; a reset that counts for nothing gives nothing, and the log tells the same
  said_reads : SaidOf g m.event → Is (eqb m.event.kind 14) → Is (both_speak es) → section_reads L g (m ∷ h) ≡ reading_told (saying m.event ∷ es)
  said_reads x = go
    where
      counting : (m.event.kind ≡ 14 → both_speak es ≡ true) → section_reads L g (m ∷ h) ≡ reading_told (saying m.event ∷ es)
      counting y =
          reads_given (gave_section L g) m h _ (gives_said L g m h b f x y) (λ z. let some = told_in (saying m.event ∷ es) in omega arith)

      go : Is (eqb m.event.kind 14) → Is (both_speak es) → section_reads L g (m ∷ h) ≡ reading_told (saying m.event ∷ es)
      go (fails k) s = counting (λ q. not_both (eq-eqb _ 14 q) k)
      go (holds k) (holds s) = counting (λ q. s)
      go (holds k) (fails s) =
          reads_kept (gave_section L g) m h (gives_none L g m h no) ∙ older ∙ sym (log_reads es)
          ∙ ap axles_reading (sym (reset_lost m.event es reset s)) ∙ log_reads (saying m.event ∷ es)
        where
          reset : m.event.kind ≡ 14
          reset = eqb-true _ 14 k

          no : ¬ Gave L g m.event h
          no (by_reading c u v w) = not_both f u
          no (by_saying c u v w) = not_both (w reset) s

  -- any other event gives it nothing
  reads_on : Is (said_of g m.event) → section_reads L g (m ∷ h) ≡ reading_told (head_log g (m ∷ h))
  reads_on (holds t) = let x : SaidOf g m.event = said_is t in said_reads x (which _) (which _) ∙ ap reading_told (sym (log_said g m h x))
  reads_on (fails t) = reads_kept (gave_section L g) m h (gives_none L g m h no) ∙ older ∙ ap reading_told (sym (log_unsaid g m h t))
    where
      no : ¬ Gave L g m.event h
      no (by_reading c u v w) = not_both f u
      no (by_saying c u v w) = not_both (is_said v) t

-- so event by event from the cold start, at which it reads none
pub reads_by_heads : ReadsByHeads
unfolding reads head_log reading_told both_speak has_told every ◌and◌ when◌then◌else◌
reads_by_heads L g b f [] = refl
reads_by_heads L g b f (m ∷ h) = reads_on L g b f m h (reads_by_heads L g b f h) (which _)

-- ---- the box's own heads, and what shows

-- they are as after the log, event by event, and that is what it tells
pub heads_told : HeadsTold
heads_told L ok es g b f =
    let log : HeadLog = head_log g (history L es) in
    let held : heads_at (from_cold L es).axles g ≡ heads_after_log log = (run_has L ok es).heads.told g b f in
    record {
      speaks = ap speaking held ∙ log_speaks log;
      counts = ap number held ∙ log_number log;
      says = ap axles_reading held ∙ log_reads log;
      shows = (exact_run L ok es).sections g b ∙ reads_by_heads L g b f (history L es);
    }
