-- After any calls the records are in one run on one layout: no call leaves a state of another layout. So 18 is told just while no layout is in use.
use Prim.Native.Nat.{ℕ, zero, suc, ◌<◌, ◌≤◌}
use mathlib.Core.Path.{◌≡◌, refl, sym, ap, subst, ◌∙◌}
use mathlib.Core.Bool.{Bool, true, false}
use mathlib.Core.Logic.{◌⊎◌, ◌↔◌, inl, inr, ⊎_elim}
use mathlib.Core.List.{List, [], ◌∷◌, ◌++◌}
use native.Mathlib.Nat.{not-suc-le-zero}
use native.Mathlib.Omega.{arith}
use native.Mathlib.Decide.{dec_lt}
use borrow.Author.Tests.{eqb-true}
use lib.Dec.{eqb, ltb}
use lib.ListN.{length}
use Rattle.laws.specs.Choice.{when◌then◌else◌}
use Rattle.laws.specs.Tables.{table_from, table}
use Rattle.laws.specs.Tests.{◌and◌, every}
use Rattle.laws.specs.Totals.{bit}
use Rattle.laws.proofs.Tests.{and_both, fails_from}
use Rattle.track.specs.Lists.{between}
use Rattle.layout.specs.declared.Layout.{Layout}
use Rattle.layout.specs.Layout.{none_fitted, no_layout}
use Rattle.layout.specs.Load.{load}
use Rattle.layout.specs.Sound.{fits, sound}
use Rattle.layout_facts.proofs.Loaded.{loaded_sound}
use Rattle.fitted.specs.Numbers.{numbers_of}
use Rattle.fitted.specs.Fitted.{Among, any_of, is_told, lacks, told_by, with_told, equipped}
use Rattle.fitted.specs.InUse.{InUse}
use Rattle.fitted.proofs.Equipped.{equipped_none, equipped_sound}
use Rattle.fitted.proofs.InUse.{in_use_sound}
use Rattle.fitted.proofs.Answers.{fit_number, fit_layout}
use Rattle.interlocking.specs.declared.State.{State}
use Rattle.interlocking.specs.declared.Answer.{Answer}
use Rattle.interlocking.specs.State.{in_range}
use Rattle.panel.specs.Panel.{image, refused, answer_where, answer}
use Rattle.panel.proofs.Answers.{unsound_layout}
use Rattle.step_facts.specs.Run.{Event, event, box, state_after, from_cold}
use Rattle.step_facts.proofs.Refusals.{not_18}
use Rattle.step_facts.proofs.Step.{unsound_18, sound_numbers}
use Rattle.step_facts.proofs.Run.{cold_run_in_range}
use Rattle.cabinet.specs.Calls.{Records, records, Call, power_on, load_file, fit_sections, give_event, draw_panel, at_power_on, after_file, after_load, after_fit, after_call, records_after, Told, of_event, of_panel, tells}
use Rattle.cabinet.specs.Runs.{events_since, loaded_after, told_after, layout_after, Lacking, InRun, Waits, Serves}

-- one event more at the end of a run: from the state that the others leave
one_more : (f : State → Event → Answer) (s : State) (es : List Event) (e : Event) → state_after f s (es ++ (e ∷ [])) ≡ (f (state_after f s es) e).next
unfolding state_after
one_more f s [] e = refl
one_more f s (d ∷ es) e = one_more f (f s d).next es e

-- ---- the layout

-- no section told leaves the layout with no objects as it is
none_told : equipped [] no_layout ≡ no_layout
unfolding equipped with_told told_by lacks is_told any_of bit table table_from no_layout none_fitted when◌then◌else◌
none_told = refl

-- a layout file: accepted, its layout with no section told; refused, what was there
file_leaves : (bytes : List ℕ) (cs : List Call) → (records_after cs).layout ≡ layout_after cs → (t : Bool) → eqb (load bytes).number 0 ≡ t
    → (records_after (load_file bytes ∷ cs)).layout ≡ layout_after (load_file bytes ∷ cs)
unfolding records_after after_call after_load after_file layout_after loaded_after told_after when◌then◌else◌
file_leaves bytes cs same true e = rw e (sym (equipped_none bytes))
file_leaves bytes cs same false e = rw e same

-- a file of fitted sections: accepted, these are told of the layout that was loaded, whatever was told before; refused, what was there
fit_leaves : (bytes : List ℕ) (cs : List Call) → (records_after cs).layout ≡ layout_after cs → (t : Bool) → eqb (numbers_of bytes).fault 0 ≡ t
    → (records_after (fit_sections bytes ∷ cs)).layout ≡ layout_after (fit_sections bytes ∷ cs)
unfolding records_after after_call after_fit after_file layout_after loaded_after told_after equipped with_told when◌then◌else◌
fit_leaves bytes cs same true e =
    rw (fit_number (records_after cs).layout bytes, e) (fit_layout (records_after cs).layout bytes e ∙ ap (equipped (numbers_of bytes).list) same)
fit_leaves bytes cs same false e = rw (fit_number (records_after cs).layout bytes, e) same

-- each call by what it is
layout_is : (cs : List Call) → (records_after cs).layout ≡ layout_after cs
unfolding records_after after_call at_power_on layout_after loaded_after told_after
layout_is [] = sym none_told
layout_is (power_on ∷ cs) = sym none_told
layout_is (load_file bytes ∷ cs) = file_leaves bytes cs (layout_is cs) (eqb (load bytes).number 0) refl
layout_is (fit_sections bytes ∷ cs) = fit_leaves bytes cs (layout_is cs) (eqb (numbers_of bytes).fault 0) refl
layout_is (give_event k a b ∷ cs) = layout_is cs
layout_is (draw_panel buffer ∷ cs) = layout_is cs

-- a layout that a file was accepted for
abbrev OfFile : Layout → Type 0
OfFile L = (file : List ℕ) × ((load file).number ≡ 0) × ((load file).layout ≡ L)

-- by a layout file
file_loads : (bytes : List ℕ) (cs : List Call) → (loaded_after cs ≡ no_layout) ⊎ OfFile (loaded_after cs) → (t : Bool) → eqb (load bytes).number 0 ≡ t
    → (loaded_after (load_file bytes ∷ cs) ≡ no_layout) ⊎ OfFile (loaded_after (load_file bytes ∷ cs))
unfolding loaded_after when◌then◌else◌
file_loads bytes cs before true e = rw e (inr (bytes, eqb-true _ 0 e, refl))
file_loads bytes cs before false e = rw e before

-- what was loaded is nothing or such a layout
loaded : (cs : List Call) → (loaded_after cs ≡ no_layout) ⊎ OfFile (loaded_after cs)
unfolding loaded_after
loaded [] = inl refl
loaded (power_on ∷ cs) = inl refl
loaded (load_file bytes ∷ cs) = file_loads bytes cs (loaded cs) (eqb (load bytes).number 0) refl
loaded (fit_sections bytes ∷ cs) = loaded cs
loaded (give_event k a b ∷ cs) = loaded cs
loaded (draw_panel buffer ∷ cs) = loaded cs

-- of so many sections each of a list is there, or one is lacking: number by number
there : (sections : ℕ) (ns : List ℕ) → ((g : ℕ) → Among ns g → g < sections) ⊎ ((g : ℕ) × Among ns g × (sections ≤ g))
there sections [] = inl (λ g a. absurd (not-suc-le-zero a.1))
there sections (n ∷ ns) = go (dec_lt n sections) (there sections ns)
  where
    go : Dec (n < sections) → ((g : ℕ) → Among ns g → g < sections) ⊎ ((g : ℕ) × Among ns g × (sections ≤ g))
        → ((g : ℕ) → Among (n ∷ ns) g → g < sections) ⊎ ((g : ℕ) × Among (n ∷ ns) g × (sections ≤ g))
    go (no d) r = inr (n, (0, omega arith, refl), omega arith)
    go (yes h) (inr (g, (i, b, q), s)) = inr (g, (suc i, omega arith, q), s)
    go (yes h) (inl all) = inl each
      where
        each : (g : ℕ) → Among (n ∷ ns) g → g < sections
        each g (zero, b, q) = omega arith
        each g (suc i, b, q) = all g (i, omega arith, q)

-- so the layout is in use, or something is lacking
used : (cs : List Call) → InUse (records_after cs).layout ⊎ Lacking cs
unfolding Lacking layout_after
used cs = ⊎_elim (λ e. inr (inl e)) (λ A. ⊎_elim (λ all. inl (in_use A all)) (λ l. inr (inr l)) (there (loaded_after cs).sections (told_after cs))) (loaded cs)
  where
    in_use : OfFile (loaded_after cs) → ((g : ℕ) → Among (told_after cs) g → g < (loaded_after cs).sections) → InUse (records_after cs).layout
    in_use (file, done, its) all = record { file = file; told = told_after cs; done = done; there = rw its all; its = ap (equipped (told_after cs)) its ∙ sym (layout_is cs) }

-- ---- the state

-- a layout file after which the records were in a run: accepted, it begins one; refused, it leaves them in theirs
after_file_law : (bytes : List ℕ) (cs : List Call) → (records_after cs).state ≡ from_cold (records_after cs).layout (events_since cs) → (t : Bool) → eqb (load bytes).number 0 ≡ t
    → (records_after (load_file bytes ∷ cs)).state ≡ from_cold (records_after (load_file bytes ∷ cs)).layout (events_since (load_file bytes ∷ cs))
unfolding records_after after_call after_load after_file events_since from_cold state_after when◌then◌else◌
after_file_law bytes cs same true e = rw e
after_file_law bytes cs same false e = rw e same

-- and so a file of fitted sections
after_fit_law : (bytes : List ℕ) (cs : List Call) → (records_after cs).state ≡ from_cold (records_after cs).layout (events_since cs) → (t : Bool) → eqb (numbers_of bytes).fault 0 ≡ t
    → (records_after (fit_sections bytes ∷ cs)).state ≡ from_cold (records_after (fit_sections bytes ∷ cs)).layout (events_since (fit_sections bytes ∷ cs))
unfolding records_after after_call after_fit after_file events_since from_cold state_after when◌then◌else◌
after_fit_law bytes cs same true e = rw (fit_number (records_after cs).layout bytes, e)
after_fit_law bytes cs same false e = rw (fit_number (records_after cs).layout bytes, e) same

-- each call by what it is
state_is : (cs : List Call) → (records_after cs).state ≡ from_cold (records_after cs).layout (events_since cs)
unfolding records_after after_call at_power_on events_since from_cold state_after box
state_is [] = refl
state_is (power_on ∷ cs) = refl
state_is (load_file bytes ∷ cs) = after_file_law bytes cs (state_is cs) (eqb (load bytes).number 0) refl
state_is (fit_sections bytes ∷ cs) = after_fit_law bytes cs (state_is cs) (eqb (numbers_of bytes).fault 0) refl
state_is (give_event k a b ∷ cs) = rw (state_is cs) (sym (one_more (box (records_after cs).layout) _ (events_since cs) (event k a b)))
state_is (draw_panel buffer ∷ cs) = state_is cs

pub in_run : (cs : List Call) → InRun cs
in_run cs = record { layout = layout_is cs; used = used cs; state = state_is cs }

-- ---- 18

-- on a layout that is not sound every event and every panel image gets 18, whatever the state
unsound_waits : (L : Layout) (s : State) → sound L ≡ false → Waits (records L s)
unfolding tells of_event of_panel ◌and◌
unsound_waits L s bad =
    let e : sound L and in_range s ≡ false = rw bad in
    record {
      events = λ k a b. ap of_event (unsound_18 L s k a b e);
      panels = λ buffer. let p = unsound_layout L s buffer false (sym bad) refl in rw (sym p.0, sym p.1) refl;
    }

-- the layout with no objects is not sound, whatever is told: there must be a section
none_unsound : (ns : List ℕ) → sound (equipped ns no_layout) ≡ false
unfolding sound fits every between ◌and◌ equipped with_told no_layout
none_unsound ns = refl

-- nor is one that lacks a section that was told
lacking_unsound : (cs : List Call) → Lacking cs → sound (records_after cs).layout ≡ false
unfolding Lacking layout_after
lacking_unsound cs l = rw (layout_is cs) (⊎_elim none (λ m. ⊎_elim none (lacks m) (loaded cs)) l)
  where
    none : loaded_after cs ≡ no_layout → sound (equipped (told_after cs) (loaded_after cs)) ≡ false
    none e = rw e (none_unsound (told_after cs))

    lacks : (g : ℕ) × Among (told_after cs) g × ((loaded_after cs).sections ≤ g) → OfFile (loaded_after cs) → sound (equipped (told_after cs) (loaded_after cs)) ≡ false
    lacks (g, a, h) (file, done, its) =
        let ok : sound (loaded_after cs) ≡ true = subst (λ (L : Layout). sound L ≡ true) its (loaded_sound file done) in
        fails_from _ (λ t. absurd (omega (arith, (equipped_sound (loaded_after cs) (told_after cs) ok).0 t g a, h)))

-- 27 or 0 is not 18
short_or_done : (t : Bool) (n : ℕ) → (when t then refused 27 else record { number = 0; length = n }).number ≡ 18 → ⊥
unfolding refused when◌then◌else◌
short_or_done true n p = omega (arith, p)
short_or_done false n p = omega (arith, p)

-- and sound records get no other answer for a panel image
sound_panels : (L : Layout) (s : State) (room : ℕ) → sound L and in_range s ≡ true → (answer L s room).number ≡ 18 → ⊥
unfolding answer answer_where when◌then◌else◌
sound_panels L s room e = rw e (short_or_done (ltb room (length (image L s))) (length (image L s)))

-- a layout in use is sound, and the states of a run on it are in range
used_serves : (cs : List Call) → InUse (records_after cs).layout → Serves (records_after cs)
unfolding tells of_event of_panel
used_serves cs u =
    let h : sound (records_after cs).layout ≡ true = in_use_sound u in
    let g : in_range (records_after cs).state ≡ true = rw (state_is cs) (cold_run_in_range _ _) in
    record {
      events = λ k a b. not_18 (sound_numbers _ _ k a b h g);
      panels = λ buffer. sound_panels _ _ _ (and_both _ _ h g);
    }

-- no records both wait and serve: an event gets 18 or not
not_both : (r : Records) → Waits r → Serves r → ⊥
not_both r w v = v.events 0 0 0 (ap (λ (t : Told). t.number) (w.events 0 0 0))

-- 18 is all that is told just while something is lacking
pub waits : (cs : List Call) → Lacking cs ↔ Waits (records_after cs)
waits cs = (λ l. unsound_waits _ _ (lacking_unsound cs l), λ w. ⊎_elim (λ u. absurd (not_both _ w (used_serves cs u))) (λ l. l) (used cs))

-- and never told just while a layout is in use
pub serves : (cs : List Call) → InUse (records_after cs).layout ↔ Serves (records_after cs)
serves cs = (used_serves cs, λ v. ⊎_elim (λ u. u) (λ l. absurd (not_both _ (unsound_waits _ _ (lacking_unsound cs l)) v)) (used cs))
