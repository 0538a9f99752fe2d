-- The bars of a picture are the stays of its lines.
use Rattle.std.proofs.Common.{◌≡◌, ℕ, ◌+◌, ◌≤◌, ◌<◌, Bool, true, false, List, [], ◌∷◌, ◌++◌, length, max, min, Option, Some, None, refl, sym, ap, subst, ◌∙◌, arith, append-nil, append_assoc}
use Rattle.std.specs.Prelude.{ℤ, ◌==◌, if◌then◌else◌, option_map}
use Rattle.std.proofs.lemmas.Bool.{le-ltb}
use Rattle.arrayvec.specs.ArrayVec.{ArrayVec}
use Rattle.apex_types.specs.Limits.{MOST_TICKS}
use Rattle.apex_types.specs.Line.{subject_text}
use Rattle.apex_types.specs.declared.codes.ErrorKind.{ErrorKind}
use Rattle.apex_types.specs.declared.codes.Response.{Response}
use Rattle.apex_types.specs.declared.event.Event.{Event}
use Rattle.apex_types.specs.declared.event.EventKind.{EventKind}
use Rattle.apex_types.specs.declared.event.EventKind.TheVariants as event
use Rattle.apex_types.specs.declared.event.Subject.{Subject}
use Rattle.apex_types.specs.declared.identity.Ticks.{Ticks}
use Rattle.kernel_meaning.specs.Windows.{Schedule}
use Rattle.trace_picture.specs.Drawn.{AreDrawn, HasDrawn, HasFinished, HasKept, HasKeptIf, IsDrawnOf, bars_in, lines_before, modes_drawn, modes_shown, shown_after, stays_drawn, stays_shown, unless_none}
use Rattle.trace_picture.specs.Marked.{bar_of_stay, bars_of_stays, flag_at, if_some, kept_ticks, marks_in, marks_of_module, message_at, one_of, owner_in, report_at}
use Rattle.trace_picture.specs.declared.drawing.Drawing.{Drawing}
use Rattle.trace_picture.specs.declared.picture.Picture.{Picture}
use Rattle.trace_picture.specs.declared.shape.Owner.{Owner}
use Rattle.trace_picture.specs.declared.shape.Shape.{Shape}
use Rattle.trace_picture.specs.declared.shape.Shape.TheVariants as shape
use Rattle.trace_picture.specs.declared.shape.Stop.TheVariants as stop
use Rattle.trace_picture.specs.declared.shape.Way.{Way}
use Rattle.trace_stays.specs.Following.{AreInPlace, AreKept, AreThere, HasFollowed, HasRead, KeepsPlace, and_one, held_by, if_at, if_in, mode_after, mode_by, mode_stay_over, mode_stays_at, mode_stays_of, modes_left, partition_at, process_at, state_behind, states_left, stay_over, stays_at, stays_of}
use Rattle.trace_stays.specs.Shown.{end_of, is_before_end, open_ticks, shown_from, shown_ticks, with_read, with_read_if}
use Rattle.trace_stays.specs.Stays.{common, ticks_of}
use Rattle.trace_stays.specs.Traces.{AreStaysOf, modes_in, stays_in}
use Rattle.trace_stays.specs.declared.lanes.Ended.{Ended}
use Rattle.trace_stays.specs.declared.lanes.Ended.TheVariants as ended
use Rattle.trace_stays.specs.declared.lanes.Lanes.{Lanes}
use Rattle.trace_stays.specs.declared.shown.ShownTicks.{ShownTicks}
use Rattle.trace_stays.specs.declared.span.Span.{Span}
use Rattle.trace_stays.specs.declared.stay.ModeStay.{ModeStay}
use Rattle.trace_stays.specs.declared.stay.Stay.{Stay}
use Rattle.trace_stays.proofs.Followed.{both_in_place, modes_two, modes_two_at, stays_two, stays_two_at}
use Rattle.trace_windows.specs.Whole.{AreWindowsIn, end_in_run}
use Rattle.trace_windows.specs.declared.windows.Windows.{Windows}
use Rattle.trace_stays.proofs.Traces.{WillBe, all_read, begins, line_read}

-- ---- bars

pub bars_two : (xs ys : List Shape) → bars_in (xs ++ ys) ≡ bars_in xs ++ bars_in ys
bars_two [] ys = refl
bars_two (shape.State p s ∷ xs) ys = ap (λ es. ended.State p s ∷ es) (bars_two xs ys)
bars_two (shape.Mode p s ∷ xs) ys = ap (λ es. ended.Mode p s ∷ es) (bars_two xs ys)
bars_two (shape.Message m ∷ xs) ys = bars_two xs ys
bars_two (shape.Flag f ∷ xs) ys = bars_two xs ys
bars_two (shape.Report r ∷ xs) ys = bars_two xs ys

-- the bars of stays that are over
abbrev pub cut : Span → List Ended → List Ended
cut shown es = bars_in (bars_of_stays shown es)

bars_of_two : (shown : Span) (es fs : List Ended) → bars_of_stays shown (es ++ fs) ≡ bars_of_stays shown es ++ bars_of_stays shown fs
bars_of_two shown [] fs = refl
bars_of_two shown (e ∷ es) fs = ap (λ xs. bar_of_stay shown e ++ xs) (bars_of_two shown es fs) ∙ sym (append_assoc (bar_of_stay shown e) (bars_of_stays shown es) (bars_of_stays shown fs))

pub cut_two : (shown : Span) (es fs : List Ended) → cut shown (es ++ fs) ≡ cut shown es ++ cut shown fs
cut_two shown es fs = ap bars_in (bars_of_two shown es fs) ∙ bars_two (bars_of_stays shown es) (bars_of_stays shown fs)

-- those of one process are its stays, as far as they are shown
one_state_if : (k p : ℕ) (x : Stay) (none is : Bool) → (p == k) ≡ is → stays_at k (bars_in (if none then [] else shape.State p x ∷ [])) ≡ (if is then (if none then [] else x ∷ []) else [])
unfolding stays_at
one_state_if k p x true true e = refl
one_state_if k p x true false e = refl
one_state_if k p x false true e = ap (λ (b : Bool). if_at b x ++ []) e
one_state_if k p x false false e = ap (λ (b : Bool). if_at b x ++ []) e

one_state : (k p : ℕ) (s : Span) (x : Stay) → stays_at k (bars_in (if_some s (shape.State p x))) ≡ (if p == k then unless_none s x else [])
one_state k p s x = one_state_if k p x (ticks_of s == 0) (p == k) refl

no_state : (k p : ℕ) (x : ModeStay) (none : Bool) → stays_at k (bars_in (if none then [] else shape.Mode p x ∷ [])) ≡ []
unfolding stays_at
no_state k p x true = refl
no_state k p x false = refl

one_mode_if : (k p : ℕ) (x : ModeStay) (none is : Bool) → (p == k) ≡ is → mode_stays_at k (bars_in (if none then [] else shape.Mode p x ∷ [])) ≡ (if is then (if none then [] else x ∷ []) else [])
unfolding mode_stays_at
one_mode_if k p x true true e = refl
one_mode_if k p x true false e = refl
one_mode_if k p x false true e = ap (λ (b : Bool). if_in b x ++ []) e
one_mode_if k p x false false e = ap (λ (b : Bool). if_in b x ++ []) e

one_mode : (k p : ℕ) (s : Span) (x : ModeStay) → mode_stays_at k (bars_in (if_some s (shape.Mode p x))) ≡ (if p == k then unless_none s x else [])
one_mode k p s x = one_mode_if k p x (ticks_of s == 0) (p == k) refl

no_mode : (k p : ℕ) (x : Stay) (none : Bool) → mode_stays_at k (bars_in (if none then [] else shape.State p x ∷ [])) ≡ []
unfolding mode_stays_at
no_mode k p x true = refl
no_mode k p x false = refl

if_shown : (b : Bool) (shown : Span) (x : Stay) (ss : List Stay)
    → (if b then unless_none (common x.span shown) (record x { span = common x.span shown }) else []) ++ stays_shown shown ss ≡ stays_shown shown (if_at b x ++ ss)
if_shown true shown x ss = refl
if_shown false shown x ss = refl

if_mode_shown : (b : Bool) (shown : Span) (x : ModeStay) (ss : List ModeStay)
    → (if b then unless_none (common x.span shown) (record x { span = common x.span shown }) else []) ++ modes_shown shown ss ≡ modes_shown shown (if_in b x ++ ss)
if_mode_shown true shown x ss = refl
if_mode_shown false shown x ss = refl

states_cut_at : (k : ℕ) (shown : Span) (es : List Ended) → stays_at k (cut shown es) ≡ stays_shown shown (stays_at k es)
unfolding stays_at
states_cut_at k shown [] = refl
states_cut_at k shown (ended.State p x ∷ es) =
    ap (stays_at k) (bars_two (bar_of_stay shown (ended.State p x)) (bars_of_stays shown es))
    ∙ (stays_two_at k (bars_in (bar_of_stay shown (ended.State p x))) (cut shown es)
    ∙ (ap (λ (ss : List Stay). ss ++ stays_at k (cut shown es)) (one_state k p (common x.span shown) (record x { span = common x.span shown }))
    ∙ (ap (λ (ss : List Stay). (if p == k then unless_none (common x.span shown) (record x { span = common x.span shown }) else []) ++ ss) (states_cut_at k shown es)
    ∙ if_shown (p == k) shown x (stays_at k es))))
states_cut_at k shown (ended.Mode p x ∷ es) =
    ap (stays_at k) (bars_two (bar_of_stay shown (ended.Mode p x)) (bars_of_stays shown es))
    ∙ (stays_two_at k (bars_in (bar_of_stay shown (ended.Mode p x))) (cut shown es)
    ∙ (ap (λ (ss : List Stay). ss ++ stays_at k (cut shown es)) (no_state k p (record x { span = common x.span shown }) (ticks_of (common x.span shown) == 0))
    ∙ states_cut_at k shown es))

modes_cut_at : (k : ℕ) (shown : Span) (es : List Ended) → mode_stays_at k (cut shown es) ≡ modes_shown shown (mode_stays_at k es)
unfolding mode_stays_at
modes_cut_at k shown [] = refl
modes_cut_at k shown (ended.Mode p x ∷ es) =
    ap (mode_stays_at k) (bars_two (bar_of_stay shown (ended.Mode p x)) (bars_of_stays shown es))
    ∙ (modes_two_at k (bars_in (bar_of_stay shown (ended.Mode p x))) (cut shown es)
    ∙ (ap (λ (ss : List ModeStay). ss ++ mode_stays_at k (cut shown es)) (one_mode k p (common x.span shown) (record x { span = common x.span shown }))
    ∙ (ap (λ (ss : List ModeStay). (if p == k then unless_none (common x.span shown) (record x { span = common x.span shown }) else []) ++ ss) (modes_cut_at k shown es)
    ∙ if_mode_shown (p == k) shown x (mode_stays_at k es))))
modes_cut_at k shown (ended.State p x ∷ es) =
    ap (mode_stays_at k) (bars_two (bar_of_stay shown (ended.State p x)) (bars_of_stays shown es))
    ∙ (modes_two_at k (bars_in (bar_of_stay shown (ended.State p x))) (cut shown es)
    ∙ (ap (λ (ss : List ModeStay). ss ++ mode_stays_at k (cut shown es)) (no_mode k p (record x { span = common x.span shown }) (ticks_of (common x.span shown) == 0))
    ∙ modes_cut_at k shown es))

states_cut : (o : Option ℕ) (shown : Span) (es : List Ended) → stays_of o (cut shown es) ≡ stays_shown shown (stays_of o es)
states_cut None shown es = refl
states_cut (Some k) shown es = states_cut_at k shown es

modes_cut : (o : Option ℕ) (shown : Span) (es : List Ended) → mode_stays_of o (cut shown es) ≡ modes_shown shown (mode_stays_of o es)
modes_cut None shown es = refl
modes_cut (Some k) shown es = modes_cut_at k shown es

-- ---- what a line shows in addition is no bar

no_bar_of : {A : Type 0} (o : Option A) (make : A → Shape) → ((x : A) → bars_in (make x ∷ []) ≡ []) → bars_in (one_of o make) ≡ []
no_bar_of None make none = refl
no_bar_of (Some x) make none = none x

pub no_bars : (t : ℕ) (name : List ℕ) (kind : EventKind) (w : Option Way) (l : Lanes) → bars_in (marks_in t name kind w l) ≡ []
no_bars t name (event.Error error who response) w l = no_bar_of (owner_in name who l) (flag_at t error who response) (λ o. refl)
no_bars t name (event.Report who words) w l = no_bar_of (process_at name (subject_text who) l) (report_at t words) (λ p. refl)
no_bars t name (event.Arrive port words) w l = no_bar_of (partition_at name l.partitions.items) (λ p. message_at t w (stop.Port p port) false words) (λ p. refl)
no_bars t name (event.Lost port words) w l = no_bar_of (partition_at name l.partitions.items) (λ p. message_at t w (stop.Port p port) true words) (λ p. refl)
no_bars t name (event.Out channel words) w l = refl
no_bars t name (event.State who next) w l = refl
no_bars t name (event.Mode m) w l = refl
no_bars t name (event.Return who service code) w l = refl
no_bars t name (event.Move port words) w l = refl

pub no_module_bars : (t : ℕ) (kind : EventKind) → bars_in (marks_of_module t kind) ≡ []
no_module_bars t (event.Error error who response) = refl
no_module_bars t (event.State who next) = refl
no_module_bars t (event.Mode m) = refl
no_module_bars t (event.Return who service code) = refl
no_module_bars t (event.Report who words) = refl
no_module_bars t (event.Move port words) = refl
no_module_bars t (event.Arrive port words) = refl
no_module_bars t (event.Lost port words) = refl
no_module_bars t (event.Out channel words) = refl

pub longer : (old new more : List Shape) → new ≡ old ++ more → length old ≤ length new
longer old new more added = subst (λ (xs : List Shape). length old ≤ length xs) (sym added) (behind old)
  where
    behind : (xs : List Shape) → length xs ≤ length (xs ++ more)
    behind [] = omega arith
    behind (x ∷ xs) = let l = behind xs in omega (arith, l)

-- so the bars stay
pub bars_stay : (old new more : List Shape) → new ≡ old ++ more → bars_in more ≡ [] → bars_in new ≡ bars_in old
bars_stay old new more added none = ap bars_in added ∙ (bars_two old more ∙ (ap (λ (es : List Ended). bars_in old ++ es) none ∙ append-nil (bars_in old)))

pub kept_itself : (l : Lanes) → AreKept l l
kept_itself l = record { held = λ name word. refl; mode = λ name. refl }

-- ---- a line is followed, and then places are asked for

nothing_there : (l : Lanes) → AreThere l []
unfolding stays_at mode_stays_at
nothing_there l = record { states = λ place past. refl; modes = λ place past. refl }

no_stays : (o : Option ℕ) → stays_of o [] ≡ []
unfolding stays_at
no_stays None = refl
no_stays (Some k) = refl

no_modes : (o : Option ℕ) → mode_stays_of o [] ≡ []
unfolding mode_stays_at
no_modes None = refl
no_modes (Some k) = refl

still : (count : ℕ) (o p : Option ℕ) (es : List Ended) → KeepsPlace count o p → ((k : ℕ) → count ≤ k → stays_at k es ≡ []) → stays_of p es ≡ stays_of o es
still count (Some k) p es kept there = ap (λ (q : Option ℕ). stays_of q es) kept
still count None None es kept there = refl
still count None (Some k) es kept there = there k kept

still_modes : (count : ℕ) (o p : Option ℕ) (es : List Ended) → KeepsPlace count o p → ((k : ℕ) → count ≤ k → mode_stays_at k es ≡ []) → mode_stays_of p es ≡ mode_stays_of o es
still_modes count (Some k) p es kept there = ap (λ (q : Option ℕ). mode_stays_of q es) kept
still_modes count None None es kept there = refl
still_modes count None (Some k) es kept there = there k kept

follows_on : (old mid new : Lanes) (partition : Option (List ℕ)) (kind : EventKind) (t : ℕ) (over : List Ended) → HasRead partition kind t old mid [] over → AreKept mid new → AreInPlace mid new
    → (before : List Ended) → HasRead partition kind t old new before (before ++ over)
follows_on old mid new partition kind t over read kept placed before = record {
  held = λ name word. kept.held name word ∙ read.held name word;
  mode = λ name. kept.mode name ∙ read.mode name;
  ended = λ name word.
      let p = process_at name word new in
      stays_two p before over
      ∙ ap (λ (ss : List Stay). stays_of p before ++ ss)
      (still (length mid.processes.items) (process_at name word mid) p over (placed.process name word) so.states
      ∙ (read.ended name word ∙ ap (λ (ss : List Stay). ss ++ and_one (stay_over partition kind t name word (held_by name word old))) (no_stays (process_at name word mid))));
  left = λ name.
      let p = partition_at name new.partitions.items in
      modes_two p before over
      ∙ ap (λ (ss : List ModeStay). mode_stays_of p before ++ ss)
      (still_modes (length mid.partitions.items) (partition_at name mid.partitions.items) p over (placed.partition name) so.modes
      ∙ (read.left name ∙ ap (λ (ss : List ModeStay). ss ++ and_one (mode_stay_over partition kind t name (mode_by name old))) (no_modes (partition_at name mid.partitions.items))));
  places = both;
  there = λ h. record {
    states = λ k past.
        let more = both.processes in
        let mine = placed.processes in
        stays_two_at k before over
        ∙ (ap (λ (ss : List Stay). ss ++ stays_at k over) (h.states k (omega (arith, more, past))) ∙ so.states k (omega (arith, mine, past)));
    modes = λ k past.
        let more = both.partitions in
        let mine = placed.partitions in
        modes_two_at k before over
        ∙ (ap (λ (ss : List ModeStay). ss ++ mode_stays_at k over) (h.modes k (omega (arith, more, past))) ∙ so.modes k (omega (arith, mine, past)));
  };
}
  where
    so : AreThere mid over
    so = read.there (nothing_there old)

    both : AreInPlace old new
    both = both_in_place old mid new read.places placed

pub has_kept : (e : Event) (old new : Picture) (mid : Lanes) (over : List Ended) (shapes : List Shape) → HasFollowed e old.lanes mid [] over → shapes ≡ old.shapes.items ++ bars_of_stays (open_ticks old.shown) over
    → AreKept mid new.lanes → AreInPlace mid new.lanes → bars_in new.shapes.items ≡ bars_in shapes → HasKept e old new
has_kept e old new mid over shapes followed added kept placed same = record {
  over = over;
  followed = λ before. follows_on old.lanes mid new.lanes e.partition e.kind e.tick.0 over followed kept placed before;
  bars = same ∙ (ap bars_in added ∙ bars_two old.shapes.items (bars_of_stays (open_ticks old.shown) over));
}

-- ---- the lines, one after another

still_open : (b : Bool) (t : ℕ) (s : ShownTicks) → open_ticks (with_read_if b t s) ≡ open_ticks s
still_open true t s = refl
still_open false t s = refl

still_ends : (b : Bool) (t : ℕ) (s : ShownTicks) → (with_read_if b t s).to ≡ s.to
still_ends true t s = refl
still_ends false t s = refl

-- a line behind the end of the ticks changes nothing
pub line_passed : (e : Event) (old new : Picture) → is_before_end old.shown.to e.tick.0 ≡ false → new.shown ≡ with_read e.tick.0 old.shown → new.lanes ≡ old.lanes → new.shapes ≡ old.shapes → HasDrawn e old new
line_passed e old new passed shown lanes shapes = record {
  shown = shown;
  fits = λ few. subst (λ n. n ≤ 5000) (ap (λ xs. length xs.items) shapes) few;
  kept = λ few. subst (λ (b : Bool). HasKeptIf b e old new) (sym passed) (lanes, shapes);
}

-- and one before it is kept, if the picture is not full then
pub line_drawn : (e : Event) (old read new : Picture) (seen : ShownTicks) (before : ℕ) → is_before_end old.shown.to e.tick.0 ≡ true → seen ≡ with_read e.tick.0 old.shown → HasKept e (record old { shown = seen }) read
    → new.shown ≡ seen → before ≡ length old.shapes.items → (length new.shapes.items ≤ 5000 → before ≤ 5000) → (length new.shapes.items ≤ 5000 → (new.lanes ≡ read.lanes) × (new.shapes ≡ read.shapes)) → HasDrawn e old new
line_drawn e old read new seen before early with_line kept shown count fits settled = record {
  shown = shown ∙ with_line;
  fits = λ few. subst (λ (n : ℕ). n ≤ 5000) count (fits few);
  kept = λ few. subst (λ (b : Bool). HasKeptIf b e old new) (sym early) (record {
    over = kept.over;
    followed = λ es. subst (λ (l : Lanes). HasFollowed e old.lanes l es (es ++ kept.over)) (sym ((settled few).0)) (kept.followed es);
    bars = ap (λ xs. bars_in xs.items) ((settled few).1) ∙ (kept.bars
        ∙ ap (λ (s : Span). bars_in old.shapes.items ++ bars_in (bars_of_stays s kept.over)) (ap open_ticks with_line ∙ still_open (is_before_end old.shown.to e.tick.0) e.tick.0 old.shown));
  });
}

pub finished : (p q : Picture) (given : Option Windows) (d : Drawing) (begun : ℕ) → (length q.shapes.items ≤ 5000 → length p.shapes.items ≤ 5000)
    → (length q.shapes.items ≤ 5000 → q.shapes.items ≡ p.shapes.items
    ++ bars_of_stays (open_ticks p.shown) (modes_left 0 (shown_ticks p.shown).until.0 p.lanes.partitions.items ++ states_left 0 (shown_ticks p.shown).until.0 p.lanes.processes.items))
    → length q.shapes.items ≤ begun → begun ≤ 5000 → d.axis.span ≡ kept_ticks p → d.lanes ≡ p.lanes → d.shapes.items ≡ q.shapes.items → d.windows ≡ given → HasFinished p given d
finished p q given d begun fits rest each few span lanes shapes windows =
    let enough : length q.shapes.items ≤ 5000 = omega (arith, each, few) in
    record {
      fits = fits enough;
      span = span ∙ ap (λ (b : Bool). if b then shown_ticks p.filled else shown_ticks p.shown) (le-ltb 5000 (length p.shapes.items) (fits enough));
      lanes = lanes;
      windows = windows;
      bars = ap bars_in (shapes ∙ rest enough)
          ∙ bars_two p.shapes.items (bars_of_stays (open_ticks p.shown) (modes_left 0 (shown_ticks p.shown).until.0 p.lanes.partitions.items ++ states_left 0 (shown_ticks p.shown).until.0 p.lanes.processes.items));
    }

module _ (from : Ticks) (to : Option Ticks) (events : List Event) where
  abbrev seen : Span
  seen = open_ticks (shown_from from to)

  -- the stays that have bars, and those that the lines that are left lead to, are all
  record Shows (left : List Event) (p : Picture) : Type 0 where
    over : List Ended
    bars : bars_in p.shapes.items ≡ cut seen over
    will : (until : ℕ) → WillBe (lines_before to events) until p.lanes (lines_before to left) over

  record WillShow (left : List Event) (p : Picture) : Type 0 where
    shown : shown_after left p.shown ≡ shown_after events (shown_from from to)
    opened : open_ticks p.shown ≡ seen
    ends : p.shown.to ≡ to
    shows : length p.shapes.items ≤ 5000 → Shows left p

  show_begin : (p : Picture) → p.shown ≡ shown_from from to → p.lanes.partitions.items ≡ [] → p.shapes.items ≡ [] → WillShow events p
  show_begin p first nobody none = record {
    shown = ap (shown_after events) first;
    opened = ap open_ticks first;
    ends = ap (λ (s : ShownTicks). s.to) first;
    shows = λ few. record {
      over = [];
      bars = ap bars_in none;
      will = λ until. begins (lines_before to events) until p.lanes [] nobody refl;
    };
  }

  shows_line : (b : Bool) (e : Event) (es : List Event) (p q : Picture) → is_before_end to e.tick.0 ≡ b → open_ticks p.shown ≡ seen → HasKeptIf b e p q → Shows (e ∷ es) p → Shows es q
  shows_line true e es p q before opened kept s = record {
    over = s.over ++ kept.over;
    bars = kept.bars ∙ (ap (λ (x : Span). bars_in p.shapes.items ++ cut x kept.over) opened
        ∙ (ap (λ (xs : List Ended). xs ++ cut seen kept.over) s.bars ∙ sym (cut_two seen s.over kept.over)));
    will = λ until. line_read (lines_before to events) until p.lanes q.lanes e (lines_before to es) (lines_before to (e ∷ es)) s.over (s.over ++ kept.over)
        (ap (λ (x : Bool). if x then e ∷ lines_before to es else lines_before to es) before) (kept.followed s.over) (s.will until);
  }
  shows_line false e es p q before opened kept s = record {
    over = s.over;
    bars = ap (λ xs. bars_in xs.items) kept.1 ∙ s.bars;
    will = λ until. subst (λ (l : Lanes). WillBe (lines_before to events) until l (lines_before to es) s.over) (sym kept.0)
        (subst (λ (xs : List Event). WillBe (lines_before to events) until p.lanes xs s.over) (ap (λ (x : Bool). if x then e ∷ lines_before to es else lines_before to es) before) (s.will until));
  }

  show_line : (e : Event) (es : List Event) (p q : Picture) → HasDrawn e p q → WillShow (e ∷ es) p → WillShow es q
  show_line e es p q drawn will = record {
    shown = ap (shown_after es) drawn.shown ∙ will.shown;
    opened = ap open_ticks drawn.shown ∙ (still_open (is_before_end p.shown.to e.tick.0) e.tick.0 p.shown ∙ will.opened);
    ends = ap (λ (s : ShownTicks). s.to) drawn.shown ∙ (still_ends (is_before_end p.shown.to e.tick.0) e.tick.0 p.shown ∙ will.ends);
    shows = λ few. shows_line (is_before_end p.shown.to e.tick.0) e es p q (ap (λ (o : Option Ticks). is_before_end o e.tick.0) (sym will.ends)) will.opened (drawn.kept few) (will.shows (drawn.fits few));
  }

  show_lines : (lines : List Event) (p q : Picture) → AreDrawn lines p q → WillShow lines p → WillShow [] q
  show_lines [] p q is will = subst (WillShow []) (sym is) will
  show_lines (e ∷ es) p q (mid, drawn, more) will = show_lines es mid q more (show_line e es p mid drawn will)

  pub ends_inside : (first last : Picture) (d : Drawing) → first.shown ≡ shown_from from to → first.lanes.partitions.items ≡ [] → first.shapes.items ≡ [] → AreDrawn events first last
      → HasFinished last d.windows d → min d.axis.span.until.0 MOST_TICKS ≤ max from.0 (end_in_run to)
  ends_inside first last d begun nobody none drawn finished =
      let will = show_lines events first last drawn (show_begin first begun nobody none) in
      let at = ap (λ (s : Span). s.from.0) will.opened in
      let until = ap (λ (s : Span). s.until.0) finished.span ∙ ap (λ (o : Option Ticks). max last.shown.from.0 (end_of o last.shown.behind.0)) will.ends in
      let l = by_end to last.shown.from.0 last.shown.behind.0 in
      omega (arith, at, until, l)
    where
      by_end : (o : Option Ticks) (f b : ℕ) → min (max f (end_of o b)) MOST_TICKS ≤ max f (end_in_run o)
      by_end None f b = omega arith
      by_end (Some end) f b = omega arith

  pub drawn_of_all : (known : Option (Schedule × List (List ℕ))) (first last : Picture) (d : Drawing) → first.shown ≡ shown_from from to → first.lanes.partitions.items ≡ [] → first.shapes.items ≡ []
      → AreDrawn events first last → HasFinished last d.windows d → AreWindowsIn known from.0 d.axis.span.until.0 events d.windows → IsDrawnOf from to known events d
  drawn_of_all known first last d begun nobody none drawn finished owned = record {
    span = finished.span ∙ ap shown_ticks will.shown;
    states = λ name word.
        ap (λ (l : Lanes). stays_of (process_at name word l) (bars_in d.shapes.items)) finished.lanes
        ∙ (ap (stays_of (process_at name word last.lanes)) bars
        ∙ (states_cut (process_at name word last.lanes) seen all
        ∙ (ap (stays_shown seen) (stays.stays name word)
        ∙ ap (λ (s : Span). stays_shown seen (stays_in (lines_before to events) s.until.0 name word None)) (sym finished.span))));
    modes = λ name.
        ap (λ (l : Lanes). mode_stays_of (partition_at name l.partitions.items) (bars_in d.shapes.items)) finished.lanes
        ∙ (ap (mode_stays_of (partition_at name last.lanes.partitions.items)) bars
        ∙ (modes_cut (partition_at name last.lanes.partitions.items) seen all
        ∙ (ap (modes_shown seen) (stays.modes name)
        ∙ ap (λ (s : Span). modes_shown seen (modes_in (lines_before to events) s.until.0 name None)) (sym finished.span))));
    windows = owned;
  }
    where
      until : ℕ
      until = (shown_ticks last.shown).until.0

      will : WillShow [] last
      will = show_lines events first last drawn (show_begin first begun nobody none)

      shows : Shows [] last
      shows = will.shows finished.fits

      left : List Ended
      left = modes_left 0 until last.lanes.partitions.items ++ states_left 0 until last.lanes.processes.items

      all : List Ended
      all = shows.over ++ left

      bars : bars_in d.shapes.items ≡ cut seen all
      bars =
          finished.bars
          ∙ (ap (λ (x : Span). bars_in last.shapes.items ++ cut x left) will.opened
          ∙ (ap (λ (xs : List Ended). xs ++ cut seen left) shows.bars ∙ sym (cut_two seen shows.over left)))

      stays : AreStaysOf (lines_before to events) until last.lanes all
      stays =
          all_read (lines_before to events) until last.lanes [] shows.over all refl
          (sym (append_assoc shows.over (modes_left 0 until last.lanes.partitions.items) (states_left 0 until last.lanes.processes.items))) (shows.will until)
