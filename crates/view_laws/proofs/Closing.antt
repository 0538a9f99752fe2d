-- Where a report ends: with the end that is given, or else behind its last line.
use Rattle.std.proofs.Common.{◌≡◌, ◌<◌, ◌≤◌, ℕ, suc, max, min, Bool, true, false, List, [], ◌∷◌, inl, inr, Option, Some, None, refl, sym, ap, ◌∙◌, subst, arith}
use Rattle.std.specs.Prelude.{◌⊎◌, ◌^◌, ◌-◌, ◌+◌, ◌&&◌, nat_le, nat_lt, if◌then◌else◌}
use Rattle.std.proofs.Math.Dec.{ltb}
use Rattle.std.proofs.lemmas.Bool.{and_from, and_left, cases_lt, le-leb, le-ltb, lt-leb, lt-ltb, ltb-false, ltb-true}
use Rattle.apex_types.specs.Limits.{MOST_TICKS}
use Rattle.apex_types.specs.declared.codes.Mode.{Mode}
use Rattle.apex_types.specs.declared.event.Event.{Event}
use Rattle.apex_types.specs.declared.event.EventKind.{EventKind}
use Rattle.apex_types.specs.declared.event.EventKind.TheVariants as event
use Rattle.apex_types.specs.declared.identity.Ticks.{Ticks}
use Rattle.trace_stays.specs.Following.{is_of}
use Rattle.trace_stays.specs.Stays.{mode_behind, mode_ended}
use Rattle.trace_stays.specs.declared.span.Span.{Span}
use Rattle.trace_stays.specs.declared.stay.HeldMode.{HeldMode}
use Rattle.trace_view.specs.Counting.{with_mode_ticks}
use Rattle.trace_view.specs.Extents.{closed, closed_at, extent_after, opened, with_line, with_line_if}
use Rattle.trace_view.specs.Partitions.{partition_behind, read_by, starts_behind, with_mode_over}
use Rattle.trace_view.specs.Reports.{lines_read}
use Rattle.trace_view.specs.Starts.{told_behind}
use Rattle.trace_view.specs.Tallies.{has_tick}
use Rattle.trace_view.specs.Whole.{partition_in, ticks_of_lines}
use Rattle.trace_view.specs.declared.extent.Extent.{Extent}
use Rattle.trace_view.specs.declared.modes.ModeTicks.{ModeTicks}
use Rattle.trace_view.specs.declared.partitions.PartitionRow.{PartitionRow}
use Rattle.trace_view.specs.declared.told.Told.{Told}
use Rattle.trace_windows.specs.Runs.{AreInOrder}
use Rattle.view_laws.specs.Counted.{AreBeforeTick}
use Rattle.view_laws.specs.Reading.{up_to}

-- all lines are read before the end, or all of them are before the closing end
abbrev pub Closes : (window closing : Span) → List Event → Type 0
Closes window closing lines = (window ≡ closing) ⊎ ((window.from ≡ closing.from) × (closing.until.0 ≤ window.until.0) × AreBeforeTick closing.until.0 lines)

-- ---- the lines count one after another

kept_window : (x : Extent) (ts : List Ticks) → (extent_after x ts).window ≡ x.window
kept_window x [] = refl
kept_window x (t ∷ ts) = kept_window (with_line t x) ts ∙ same (has_tick x.window t.0)
  where
    same : (b : Bool) → (with_line_if b t x).window ≡ x.window
    same true = refl
    same false = refl

-- none is of a tick that 64 bits have not
abbrev pub AreFew : List Event → Type 0
AreFew [] = Unit {0}
AreFew (e ∷ es) = (e.tick.0 < 2 ^ 64 - 1) × AreFew es

module _ (from : Ticks) where
  abbrev unclosed : Span
  unclosed = (opened from None).window

  -- the end, if no more lines follow
  abbrev end_of : Extent → ℕ
  end_of x = (closed_at None x.last from).0

  covers : (b : ℕ) (x : Extent) (lines : List Event) → x.window ≡ unclosed → AreInOrder b lines → AreFew lines → from.0 ≤ end_of x → end_of x ≤ max from.0 (b + 1)
      → (end_of x ≤ end_of (extent_after x (ticks_of_lines lines))) × AreBeforeTick (end_of (extent_after x (ticks_of_lines lines))) lines
  covers b x [] same order few low high = (omega arith, tt)
  covers b x (e ∷ es) same order few low high = elim (cases_lt e.tick.0 from.0) [
    | inl early ↦
        let test : has_tick x.window e.tick.0 ≡ false = ap (λ (w : Span). has_tick w e.tick.0) same ∙ and_left _ _ (lt-leb from.0 e.tick.0 early) in
        let late = order.0 in
        let r = covers e.tick.0 x es same order.1 few.1 low (omega (arith, high, late)) in
        let up = r.0 in
        subst (λ (y : Extent). (end_of x ≤ end_of (extent_after y (ticks_of_lines es))) × ((e.tick.0 < end_of (extent_after y (ticks_of_lines es))) × AreBeforeTick (end_of (extent_after y (ticks_of_lines es))) es))
        (sym (ap (λ (t : Bool). with_line_if t e.tick x) test))
        (up, (omega (arith, up, low, early), r.1))
    | inr here ↦
        let fits = few.0 in
        let test : has_tick x.window e.tick.0 ≡ true = ap (λ (w : Span). has_tick w e.tick.0) same ∙ and_from _ _ (le-leb from.0 e.tick.0 here) (lt-ltb e.tick.0 (2 ^ 64 - 1) fits) in
        let late = order.0 in
        let r = covers e.tick.0 (with_line_if true e.tick x) es same order.1 few.1 (omega (arith, here, fits)) (omega (arith, fits)) in
        let up = r.0 in
        subst (λ (y : Extent). (end_of x ≤ end_of (extent_after y (ticks_of_lines es))) × ((e.tick.0 < end_of (extent_after y (ticks_of_lines es))) × AreBeforeTick (end_of (extent_after y (ticks_of_lines es))) es))
        (sym (ap (λ (t : Bool). with_line_if t e.tick x) test))
        (omega (arith, up, high, late, fits, here), (omega (arith, up, fits), r.1))
  ]

pub closes : (from : Ticks) (to : Option Ticks) (lines : List Event) → AreInOrder 0 lines → AreFew lines → (closed to (extent_after (opened from to) (ticks_of_lines lines))).window.until.0 ≤ MOST_TICKS
    → Closes (opened from to).window (closed to (extent_after (opened from to) (ticks_of_lines lines))).window lines
closes from (Some u) lines order few inside = inl (sym (ap (λ (w : Span). record { from = w.from; until = u }) (kept_window (opened from (Some u)) (ticks_of_lines lines))))
closes from None lines order few inside =
    let all : Extent = extent_after (opened from None) (ticks_of_lines lines) in
    let same : from ≡ all.window.from = ap (λ (w : Span). w.from) (sym (kept_window (opened from None) (ticks_of_lines lines))) in
    inr (same, omega (arith, inside), subst (λ (f : Ticks). AreBeforeTick (closed_at None all.last f).0 lines) same (covers from 0 (opened from None) lines refl order few (omega arith) (omega arith)).1)

pub begins_there : (from : Ticks) (to : Option Ticks) (lines : List Event) → (closed to (extent_after (opened from to) (ticks_of_lines lines))).window.from ≡ from
begins_there from to lines = ap (λ (w : Span). w.from) (kept_window (opened from to) (ticks_of_lines lines))

-- ---- the lines that are read

none_read : (window : Span) (lines : List Event) → AreInOrder window.until.0 lines → lines_read window lines ≡ []
none_read window [] order = refl
none_read window (e ∷ es) order =
    ap (λ (b : Bool). if b then e ∷ lines_read window es else lines_read window es) (le-ltb e.tick.0 window.until.0 order.0)
    ∙ none_read window es (weaken window.until.0 e.tick.0 es order.0 order.1)
  where
    weaken : (a b : ℕ) (es : List Event) → a ≤ b → AreInOrder b es → AreInOrder a es
    weaken a b [] l h = tt
    weaken a b (f ∷ fs) l h = let k = h.0 in (omega (arith, k, l), h.1)

pub read_none : (window : Span) (lines : List Event) → window.until.0 ≡ 0 → AreInOrder 0 lines → lines_read window lines ≡ []
read_none window lines is order = none_read window lines (subst (λ (b : ℕ). AreInOrder b lines) (sym is) order)

pub read_up_to : (window : Span) (t from : ℕ) (lines : List Event) → window.until.0 ≡ suc t → AreInOrder from lines → lines_read window lines ≡ up_to t lines
read_up_to window t from [] is order = refl
read_up_to window t from (e ∷ es) is order = by_test (nat_lt t e.tick.0) refl (read_up_to window t e.tick.0 es is order.1)
  where
    by_test : (b : Bool) → nat_lt t e.tick.0 ≡ b → lines_read window es ≡ up_to t es → lines_read window (e ∷ es) ≡ (if b then [] else e ∷ up_to t es)
    by_test true f rest = let a = ltb-true t e.tick.0 f in none_read window (e ∷ es) (omega (arith, a, is), order.1)
    by_test false f rest =
        let a = ltb-false t e.tick.0 f in
        ap (λ (b : Bool). if b then e ∷ lines_read window es else lines_read window es) (lt-ltb e.tick.0 window.until.0 (omega (arith, a, is))) ∙ ap (λ (ls : List Event). e ∷ ls) rest

pub read_all : (window : Span) (until : ℕ) (lines : List Event) → until ≤ window.until.0 → AreBeforeTick until lines → lines_read window lines ≡ lines
read_all window until [] l early = refl
read_all window until (e ∷ es) l early =
    let a = early.0 in
    ap (λ (b : Bool). if b then e ∷ lines_read window es else lines_read window es) (lt-ltb e.tick.0 window.until.0 (omega (arith, a, l))) ∙ ap (λ (ls : List Event). e ∷ ls) (read_all window until es l early.1)

-- ---- the modes of a partition, if all lines are before the closing end

module _ (window closing : Span) (same : window.from ≡ closing.from) (later : closing.until.0 ≤ window.until.0) where
  abbrev IsEarly : Option HeldMode → Type 0
  IsEarly None = Unit {0}
  IsEarly (Some h) = h.since.0 ≤ closing.until.0

  over_alike : (o : Option HeldMode) (t : ℕ) (ticks : ModeTicks) → t < closing.until.0 → IsEarly o → with_mode_over window (mode_ended o t) ticks ≡ with_mode_over closing (mode_ended o t) ticks
  over_alike None t ticks l h = refl
  over_alike (Some held) t ticks l h =
      ap (λ (n : ℕ). with_mode_ticks held.mode n ticks)
      (ap (λ (f : Ticks). min (max held.since.0 t) window.until.0 - max held.since.0 f.0) same ∙ ap (λ (n : ℕ). n - max held.since.0 closing.from.0) (both (max held.since.0 t) (omega (arith, l, h))))
    where
      both : (u : ℕ) → u ≤ closing.until.0 → min u window.until.0 ≡ min u closing.until.0
      both u k = omega (arith, k, later)

  tick_alike : (t : ℕ) → t < closing.until.0 → has_tick window t ≡ has_tick closing t
  tick_alike t l =
      ap (λ (f : Ticks). nat_le f.0 t && ltb t window.until.0) same
      ∙ ap (λ (b : Bool). nat_le closing.from.0 t && b) (lt-ltb t window.until.0 (omega (arith, l, later)) ∙ sym (lt-ltb t closing.until.0 l))

  behind_early : (o : Option HeldMode) (m : Mode) (t : ℕ) → t < closing.until.0 → IsEarly o → IsEarly (mode_behind o m t)
  behind_early None m t l h = omega (arith, l)
  behind_early (Some held) m t l h = omega (arith, l, h)

  -- after a line
  row_alike : (told : Told) (e : Event) (p : PartitionRow) → e.tick.0 < closing.until.0 → IsEarly p.watch.held
      → (partition_behind window told e p ≡ partition_behind closing told e p) × IsEarly (partition_behind closing told e p).watch.held
  row_alike told e p l h = by_test (is_of p.name e.partition) e.kind
    where
      by_test : (b : Bool) (kind : EventKind) → ((if b then read_by window told e.tick kind p else p) ≡ (if b then read_by closing told e.tick kind p else p)) × IsEarly (if b then read_by closing told e.tick kind p else p).watch.held
      by_test false kind = (refl, h)
      by_test true (event.Mode m) = (
        ap (λ (t : ModeTicks). record { name = p.name; watch = record { held = mode_behind p.watch.held m e.tick.0 }; modes = t; starts = starts_behind (has_tick window e.tick.0) told m p.name p.starts }) (over_alike p.watch.held e.tick.0 p.modes l h)
            ∙ ap (λ (b : Bool). record { name = p.name; watch = record { held = mode_behind p.watch.held m e.tick.0 }; modes = with_mode_over closing (mode_ended p.watch.held e.tick.0) p.modes; starts = starts_behind b told m p.name p.starts }) (tick_alike e.tick.0 l),
        behind_early p.watch.held m e.tick.0 l h,
      )
      by_test true (event.State who s) = (refl, h)
      by_test true (event.Return who service code) = (refl, h)
      by_test true (event.Error error who r) = (refl, h)
      by_test true (event.Report who words) = (refl, h)
      by_test true (event.Move port words) = (refl, h)
      by_test true (event.Arrive port words) = (refl, h)
      by_test true (event.Lost port words) = (refl, h)
      by_test true (event.Out channel words) = (refl, h)

  pub rows_alike : (told : Told) (lines : List Event) (p : PartitionRow) → AreBeforeTick closing.until.0 lines → IsEarly p.watch.held → partition_in window told lines p ≡ partition_in closing told lines p
  rows_alike told [] p early h = refl
  rows_alike told (e ∷ es) p early h =
      let a = early.0 in
      let r = row_alike told e p a h in
      ap (λ (b : Bool). partition_in window (told_behind e told) es (if b then partition_behind window told e p else p)) (lt-ltb e.tick.0 window.until.0 (omega (arith, a, later)))
      ∙ ap (partition_in window (told_behind e told) es) r.0
      ∙ rows_alike (told_behind e told) es (partition_behind closing told e p) early.1 r.1
      ∙ ap (λ (b : Bool). partition_in closing (told_behind e told) es (if b then partition_behind closing told e p else p)) (sym (lt-ltb e.tick.0 closing.until.0 a))
