-- Exactness leaves no second log: after the same events, answered the same, each byte of an image that shows exactly is what the history tells, and the
-- history tells it without the image.
use Prim.Native.Nat.{ℕ, ◌<◌, ◌≤◌}
use mathlib.Core.Path.{◌≡◌, refl, sym, ap, ◌∙◌, fun_ext}
use mathlib.Core.Logic.{◌≢◌, ◌⊎◌, ◌↔◌, inl, inr, ⊎_elim}
use mathlib.Core.HLevel.{dec→stable}
use mathlib.Core.Bool.{Bool, true, false}
use mathlib.Core.List.{List, [], ◌∷◌}
use native.Mathlib.Decide.{ℕ_discrete, dec_lt}
use native.Mathlib.Omega.{arith}
use borrow.Author.Tests.{ltb-true, eqb-true}
use lib.Dec.{ltb}
use lib.ListN.{length}
use Rattle.laws.specs.Choice.{when◌then◌else◌}
use Rattle.laws.proofs.Tests.{and_left, and_right, or_cases}
use Rattle.track.specs.Signal.{Signal, main, into}
use Rattle.layout.specs.declared.Layout.{Layout}
use Rattle.signals.specs.Shows.{number_shows}
use Rattle.signals.specs.Distants.{distant_shows}
use Rattle.layout.specs.Layout.{line_in, carrier_of, announced_by}
use Rattle.layout.specs.Sound.{sound}
use Rattle.layout_facts.proofs.Sound.{sound_says}
use Rattle.fitted.proofs.InUse.{in_use_sound}
use Rattle.panel.specs.Panel.{panel_length}
use Rattle.panel.specs.Shown.{panel, signal_shown, line_shown}
use Rattle.panel.proofs.Laws.{length_image}
use Rattle.step_facts.specs.Run.{Event}
use Rattle.safety.specs.History.{Moment, History, gave_section, reads, shown, Since, Throughout, moment, history}
use Rattle.safety.specs.Cleared.{Passage}
use Rattle.safety.specs.Lights.{position, MayEnter, Lit}
use Rattle.safety.specs.Exact.{BlockSignalExact, Exact}
use Rattle.safety.specs.Only.{SameAnswer, SameAnswers, ExactLog, LogsExactly, OneLog, OnlyThisLog}
use Rattle.safety.proofs.Kept.{kept}
use Rattle.safety.proofs.EveryEvent.{in_every_event}
use Rattle.safety.proofs.Exact.{exact}
use Rattle.safety.proofs.Unseen.{showing, locked, opened, secured, may_enter_law, lit, at_proceed, waits}
use Rattle.panel.proofs.Whole.{ShowSame, show_same}

-- ---- two images of one event that both show exactly

-- a number that is none of 0, 2, 3 and 4, and no more than 4, is 1
one_left : (v : ℕ) → v ≢ 0 → v ≢ 4 → ¬ ((2 ≤ v) × (v ≤ 3)) → v ≤ 4 → v ≡ 1
one_left v none four out q = go (dec_lt v 2) (dec_lt v 4)
  where
    go : Dec (v < 2) → Dec (v < 4) → v ≡ 1
    go (yes x) y = omega arith
    go (no x) (yes y) = absurd (out (omega arith))
    go (no x) (no y) = omega arith

-- a block's byte, 0 to 4, is told by whether it is 0, 2 or 3, 3, and 4
stage_same : (u v : ℕ) → (u ≡ 0 ↔ v ≡ 0) → ((2 ≤ u) × (u ≤ 3) ↔ (2 ≤ v) × (v ≤ 3)) → (u ≡ 3 ↔ v ≡ 3) → (u ≡ 4 ↔ v ≡ 4) → u ≤ 4 → v ≤ 4 → u ≡ v
stage_same u v opens entered passes waited p q = go (ℕ_discrete u 0) (ℕ_discrete u 3) (ℕ_discrete u 4) (ℕ_discrete u 2)
  where
    two : u ≡ 2 → v ≢ 3 → v ≡ 2
    two t d = let e = entered.0 (omega arith) in omega arith

    go : Dec (u ≡ 0) → Dec (u ≡ 3) → Dec (u ≡ 4) → Dec (u ≡ 2) → u ≡ v
    go (yes e) g w t = e ∙ sym (opens.0 e)
    go (no e) (yes g) w t = g ∙ sym (passes.0 g)
    go (no e) (no g) (yes w) t = w ∙ sym (waited.0 w)
    go (no e) (no g) (no w) (yes t) = t ∙ sym (two t (λ z. g (passes.1 z)))
    go (no e) (no g) (no w) (no t) =
        let out : ¬ ((2 ≤ u) × (u ≤ 3)) = λ z. t (omega arith) in
        one_left u e w out p ∙ sym (one_left v (λ z. e (opens.1 z)) (λ z. w (waited.1 z)) (λ z. out (entered.1 z)) q)

-- what is not there shows the same in any image: so where the test says that it is there is enough
where_same : (t : Bool) (u v d : ℕ) → (t ≡ true → (when t then u else d) ≡ (when t then v else d)) → (when t then u else d) ≡ (when t then v else d)
unfolding when◌then◌else◌
where_same true u v d f = f refl
where_same false u v d f = refl

module _ (L : Layout) (m : Moment) (h : History) (a b : List ℕ) (x : Exact L (showing m a ∷ h)) (y : Exact L (showing m b ∷ h)) where
  -- a line shows the direction in which it is secured, and neutral where there is none
  line_same : (l : ℕ) → (panel L a).line l ≡ (panel L b).line l
  unfolding shown line_shown
  line_same l = where_same (ltb l L.lines) _ _ _ (λ t. go (ltb-true l L.lines t) (ℕ_discrete _ 0) (ℕ_discrete _ 0))
    where
      go : l < L.lines → Dec ((panel L a).line l ≡ 0) → Dec ((panel L b).line l ≡ 0) → (panel L a).line l ≡ (panel L b).line l
      go c (yes p) (yes q) = p ∙ sym q
      go c (yes p) (no d) = ((x.lines l c).secured _ d).1 (secured L m h l _ b a (((y.lines l c).secured _ d).0 refl))
      go c (no d) e = sym (((y.lines l c).secured _ d).1 (secured L m h l _ a b (((x.lines l c).secured _ d).0 refl)))

  -- a route shows whether it is locked and cancelled
  route_same : (r : ℕ) → r < L.routes → (panel L a).route r ≡ (panel L b).route r
  unfolding shown Since
  route_same r c = go (ℕ_discrete _ 0) (ℕ_discrete _ 1)
    where
      go : Dec ((panel L a).route r ≡ 0) → Dec ((panel L a).route r ≡ 1) → (panel L a).route r ≡ (panel L b).route r
      go (yes p) e = p ∙ sym ((y.routes r c).idles.1 (λ k. (x.routes r c).idles.0 p (locked L m h r b a k)))
      go (no d) (yes p) = let k = (x.routes r c).locks.0 p in p ∙ sym ((y.routes r c).locks.1 (locked L m h r a b k.0, k.1))
      go (no d) (no e) =
          let p : (panel L a).route r ≡ 2 = omega (arith, (x.routes r c).most) in
          let k = (x.routes r c).cancels.0 p in
          p ∙ sym ((y.routes r c).cancels.1 (locked L m h r a b k.0, k.1))

  -- a main signal shows whether a route is at proceed from it, and which
  main_same : (s : ℕ) → s < L.signals → (panel L a).signal (main s) ≡ (panel L b).signal (main s)
  unfolding shown
  main_same s c = go (dec_lt 20 _)
    where
      go : Dec (20 < (panel L a).signal (main s)) → (panel L a).signal (main s) ≡ (panel L b).signal (main s)
      go (yes p) =
          let (r, there, starts, up) = (x.mains s c).proceeds.0 p in
          (x.mains s c).light r there starts up ∙ sym ((y.mains s c).light r there starts (at_proceed L m h r a b up))
      go (no d) =
          (x.mains s c).stops d
          ∙ sym ((y.mains s c).stops (λ p.
          let (r, there, starts, up) = (y.mains s c).proceeds.0 p in
          d ((x.mains s c).proceeds.1 (r, there, starts, at_proceed L m h r b a up))))

  -- a block signal shows whether it is lit and its block may be entered: were its two bytes not the same, it would not be lit, and dark in both
  into_same : (l i w : ℕ) → l < L.lines → i < (line_in L l).blocks → (w ≡ 1) ⊎ (w ≡ 2) → (panel L a).signal (into l i w) ≡ (panel L b).signal (into l i w)
  unfolding shown
  into_same l i w c d e =
      dec→stable (ℕ_discrete _ _) (λ other. other (one.darkens (unlit other) ∙ sym (two.darkens (λ u. unlit other (lit L m h l i w b a u)))))
    where
      Other : Type 0
      Other = (panel L a).signal (into l i w) ≢ (panel L b).signal (into l i w)

      one : BlockSignalExact L (showing m a ∷ h) l i w
      one = x.block_signals l i w c d e

      two : BlockSignalExact L (showing m b ∷ h) l i w
      two = y.block_signals l i w c d e

      shut : Other → Lit L l i w (showing m a ∷ h) → ¬ MayEnter L l i (showing m a ∷ h)
      shut other u v = other (one.proceeds u v ∙ sym (two.proceeds (lit L m h l i w a b u) (may_enter_law L m h l i a b v)))

      unlit : Other → ¬ Lit L l i w (showing m a ∷ h)
      unlit other u = other (one.stops u (shut other u) ∙ sym (two.stops (lit L m h l i w a b u) (λ v. shut other u (may_enter_law L m h l i b a v))))

  -- so any signal
  signal_same : (s : Signal) → (panel L a).signal s ≡ (panel L b).signal s
  unfolding signal_shown
  signal_same (main s) = where_same (ltb s L.signals) _ _ _ (λ t. main_same s (ltb-true s L.signals t))
  signal_same (into l i w) = where_same _ _ _ _ (λ t.
      let u = and_right _ _ t in
      into_same l i w (ltb-true l L.lines (and_left _ _ t)) (ltb-true i (line_in L l).blocks (and_left _ _ u))
      (⊎_elim (λ e. inl (eqb-true w 1 e)) (λ e. inr (eqb-true w 2 e)) (or_cases _ _ (and_right _ _ u))))

  -- a distant shows what L2 says of the signals that show with it
  distant_same : (d : ℕ) → d < L.distants → (panel L a).distant d ≡ (panel L b).distant d
  unfolding shown
  distant_same d c =
      x.distants d c
      ∙ ap (λ (f : Signal → ℕ). distant_shows (number_shows L.signals L.lines L.line f) (carrier_of L d) (announced_by L d)) (fun_ext signal_same)
      ∙ sym (y.distants d c)

  -- a passage looks at the newest image for the line and the far signal alone
  passage_same : (l i w : ℕ) → Passage L l i w (showing m a ∷ h) → Passage L l i w (showing m b ∷ h)
  unfolding Since shown reads gave_section
  passage_same l i w (inl p) = inl (record {
    entered = p.entered;
    stays = p.stays;
    secured = (sym (line_same l) ∙ p.secured.0, p.secured.1);
    taken = p.taken;
    from_proceed = p.from_proceed;
    to_stop = sym (signal_same _) ∙ p.to_stop;
  })
  passage_same l i w (inr p) = inr p

module _ (L : Layout) (m : Moment) (h : History) (a b : List ℕ) (x : Exact L (showing m a ∷ h)) (y : Exact L (showing m b ∷ h)) where
  -- so a block shows whether it is open, was entered, and waits
  block_same : (l i : ℕ) → l < L.lines → i < (line_in L l).blocks → (panel L a).block l i ≡ (panel L b).block l i
  unfolding shown Since gave_section
  block_same l i c d =
      let one = x.blocks l i c d in
      let two = y.blocks l i c d in
      stage_same ((panel L a).block l i) ((panel L b).block l i)
      (λ z. two.opens.1 (opened L m h l i a b (one.opens.0 z)), λ z. one.opens.1 (opened L m h l i b a (two.opens.0 z)))
      (λ z. two.enters.1 (one.enters.0 z), λ z. one.enters.1 (two.enters.0 z)) (
        λ z. let (w, p) = one.passes.0 z in two.passes.1 (w, passage_same L m h a b x y l i w p),
        λ z. let (w, p) = two.passes.0 z in one.passes.1 (w, passage_same L m h b a y x l i w p),
      ) (
        λ z. let (w, p) = one.waits.0 z in two.waits.1 (w, waits L m h l i w a b p),
        λ z. let (w, p) = two.waits.0 z in one.waits.1 (w, waits L m h l i w b a p),
      )
      one.most two.most

  -- sections and points show what they read: so all that shows is the same
  shows_same : ShowSame L a b
  unfolding shown reads gave_section position
  shows_same = record {
    sections = λ g c. x.sections g c ∙ sym (y.sections g c);
    points = λ p c. x.points p c ∙ sym (y.points p c);
    signals = signal_same L m h a b x y;
    routes = route_same L m h a b x y;
    distants = distant_same L m h a b x y;
    lines = line_same L m h a b x y;
    blocks = block_same;
  }

-- ---- logs

-- two moments of the same event, answered the same, that both show exactly after one history, are the same
moment_same : (L : Layout) (m n : Moment) (h : History) → SameAnswer m n → length m.image ≡ panel_length L → length n.image ≡ panel_length L
    → Exact L (m ∷ h) → Exact L (n ∷ h) → m ≡ n
moment_same L m n h s p q x y =
    let alike : n ≡ showing m n.image = rw (s.event, s.number, s.detail) in
    ap (showing m) (show_same L _ _ (shows_same L m h _ _ x (rw alike at y)) p q) ∙ sym alike

-- so after two histories that are the same
log_same : (L : Layout) (m n : Moment) (h k : History) → h ≡ k → SameAnswer m n → length m.image ≡ panel_length L → length n.image ≡ panel_length L
    → Exact L (m ∷ h) → Exact L (n ∷ k) → m ∷ h ≡ n ∷ k
log_same L m n h k older s p q x y = let newest = moment_same L m n h s p q x (rw (← older) at y) in cc

-- and so on from the cold start
pub one_log : OneLog
unfolding SameAnswers Throughout
one_log L [] [] s x y = refl
one_log L [] (n ∷ k) s x y = absurd s
one_log L (m ∷ h) [] s x y = absurd s
one_log L (m ∷ h) (n ∷ k) s x y =
    log_same L m n h k (one_log L h k s.1 (record { whole = x.whole.1; exact = x.exact.1 }) (record { whole = y.whole.1; exact = y.exact.1 })) s.0
    x.whole.0 y.whole.0 x.exact.0 y.exact.0

-- ---- the box's log

-- on any sound layout its images have the layout's length, and it shows exactly after every event
pub log_run : (L : Layout) → sound L ≡ true → (es : List Event) → ExactLog L (history L es)
unfolding moment
log_run L ok es =
    let S = sound_says L ok in
    record {
      whole = in_every_event L ok _ (λ s h I e. length_image _ _) es;
      exact = in_every_event L ok _ (λ s h I e. exact L S _ _ (kept L ok S s h I e)) es;
    }

-- so on any layout file that loads with 0
pub logs_exactly : LogsExactly
logs_exactly L u es = log_run L (in_use_sound u) es

-- and no other log with its answers
pub only_this_log : OnlyThisLog
only_this_log L u es h s x = one_log _ h _ s x (logs_exactly L u es)
