-- The ticks in a mode that a summary counts for a partition are those of its stays in the mode.
use Rattle.std.proofs.Common.{◌≡◌, ◌<◌, ◌≤◌, ℕ, suc, Bool, true, false, List, [], ◌∷◌, ◌++◌, Option, Some, None, refl, sym, ap, ◌∙◌, subst, inl, inr, arith}
use Rattle.std.specs.Prelude.{◌+◌, ◌-◌, ◌&&◌, nat_lt, if◌then◌else◌}
use Rattle.std.proofs.lemmas.Bool.{cases_lt, le-ltb, lt-ltb, ltb-true}
use Rattle.apex_types.specs.Limits.{MOST_TICKS}
use Rattle.apex_types.specs.declared.codes.Mode.{Mode}
use Rattle.apex_types.specs.declared.codes.Mode.TheVariants as mode
use Rattle.apex_types.specs.declared.event.Event.{Event}
use Rattle.apex_types.specs.declared.event.EventKind.{EventKind}
use Rattle.apex_types.specs.declared.event.EventKind.TheVariants as event
use Rattle.trace_stays.specs.Following.{and_one, is_of}
use Rattle.trace_stays.specs.Stays.{mode_ended, span}
use Rattle.trace_stays.specs.Traces.{mode_with_line, modes_in}
use Rattle.trace_stays.specs.declared.span.Span.{Span}
use Rattle.trace_stays.specs.declared.stay.HeldMode.{HeldMode}
use Rattle.trace_stays.specs.declared.stay.ModeStay.{ModeStay}
use Rattle.trace_view.specs.Counting.{capped, ticks_in, with_mode_ticks}
use Rattle.trace_view.specs.Partitions.{no_partition, partition_behind, partition_total, read_by, with_mode_over}
use Rattle.trace_view.specs.Starts.{told_behind, told_first}
use Rattle.trace_view.specs.Whole.{partition_in}
use Rattle.trace_view.specs.declared.modes.ModeTicks.{ModeTicks}
use Rattle.trace_view.specs.declared.partitions.PartitionRow.{PartitionRow}
use Rattle.trace_view.specs.declared.told.Told.{Told}
use Rattle.trace_windows.specs.Runs.{AreInOrder}
use Rattle.trace_windows.specs.Uses.{one_if}
use Rattle.view_laws.specs.Counted.{AreBeforeTick}
use Rattle.view_laws.specs.Modes.{is_same_mode, mode_counted, mode_in, ticks_for}
use Rattle.view_laws.specs.Reading.{up_to}
use Rattle.view_laws.specs.Ticks.{has_tick, ticks_when}
use Rattle.view_laws.proofs.Modes.{after_said, over_said, said_after, said_if, said_over}
use Rattle.view_laws.proofs.Sums.{few_when, stay_ticks, sum_both, sum_none, sum_of, sum_same, sum_when}

-- ---- the ticks of stays in a mode

abbrev ticks_if : Bool → ℕ → ℕ
ticks_if true n = n
ticks_if false n = 0

abbrev ticks_of_modes : Mode → Span → List ModeStay → ℕ
ticks_of_modes m window [] = 0
ticks_of_modes m window (s ∷ ss) = ticks_if (is_same_mode m s.mode) (ticks_in window s.span) + ticks_of_modes m window ss

stay_sum : (b : Bool) (o : Span) (from n : ℕ) → sum_of (λ t. one_if (b && has_tick t o)) from n ≡ ticks_if b (ticks_in (span from (from + n)) o)
stay_sum true o from n = stay_ticks o from n
stay_sum false o from n = sum_none from n

modes_sum : (m : Mode) (stays : List ModeStay) (from n : ℕ) → sum_of (λ t. mode_in m t stays) from n ≡ ticks_of_modes m (span from (from + n)) stays
modes_sum m [] from n = sum_none from n
modes_sum m (s ∷ ss) from n =
    sum_both (λ t. one_if (is_same_mode m s.mode && has_tick t s.span)) (λ t. mode_in m t ss) from n
    ∙ ap (λ (k : ℕ). k + sum_of (λ t. mode_in m t ss) from n) (stay_sum (is_same_mode m s.mode) s.span from n)
    ∙ ap (λ (k : ℕ). ticks_if (is_same_mode m s.mode) (ticks_in (span from (from + n)) s.span) + k) (modes_sum m ss from n)

none_if : (b : Bool) (n : ℕ) → n ≡ 0 → ticks_if b n ≡ 0
none_if true n e = e
none_if false n e = refl

empty_window : (m : Mode) (window : Span) (stays : List ModeStay) → window.until.0 ≤ window.from.0 → ticks_of_modes m window stays ≡ 0
empty_window m window [] l = refl
empty_window m window (s ∷ ss) l =
    let k = empty_window m window ss l in
    let a = none_if (is_same_mode m s.mode) (ticks_in window s.span) (omega (arith, l)) in
    omega (arith, k, a)

window_ticks : (m : Mode) (from until : ℕ) (stays : List ModeStay) → ticks_of_modes m (span from until) stays ≡ sum_of (λ t. mode_in m t stays) from (until - from)
window_ticks m from until stays = elim (cases_lt until from) [
  | inl none ↦
      let is : until - from ≡ 0 = omega (arith, none) in
      empty_window m (span from until) stays (omega (arith, none)) ∙ sym (ap (sum_of (λ t. mode_in m t stays) from) is)
  | inr some ↦
      let is : until ≡ from + (until - from) = omega (arith, some) in
      ap (λ (u : ℕ). ticks_of_modes m (span from u) stays) is ∙ sym (modes_sum m stays from (until - from))
]

-- ---- a line adds the ticks of the stay that it ends

added_ticks : (m k : Mode) (n : ℕ) (t : ModeTicks) → capped (ticks_for m (with_mode_ticks k n t)) ≡ capped (ticks_for m t + ticks_if (is_same_mode m k) n)
added_ticks mode.Normal mode.Normal n t = omega arith
added_ticks mode.Normal mode.ColdStart n t = omega arith
added_ticks mode.Normal mode.WarmStart n t = omega arith
added_ticks mode.Normal mode.Idle n t = omega arith
added_ticks mode.ColdStart mode.Normal n t = omega arith
added_ticks mode.ColdStart mode.ColdStart n t = omega arith
added_ticks mode.ColdStart mode.WarmStart n t = omega arith
added_ticks mode.ColdStart mode.Idle n t = omega arith
added_ticks mode.WarmStart mode.Normal n t = omega arith
added_ticks mode.WarmStart mode.ColdStart n t = omega arith
added_ticks mode.WarmStart mode.WarmStart n t = omega arith
added_ticks mode.WarmStart mode.Idle n t = omega arith
added_ticks mode.Idle mode.Normal n t = omega arith
added_ticks mode.Idle mode.ColdStart n t = omega arith
added_ticks mode.Idle mode.WarmStart n t = omega arith
added_ticks mode.Idle mode.Idle n t = omega arith

module _ (m : Mode) where
  abbrev adds : Span → Option ModeStay → ℕ
  adds window None = 0
  adds window (Some stay) = ticks_if (is_same_mode m stay.mode) (ticks_in window stay.span)

  added : (window : Span) (o : Option ModeStay) (t : ModeTicks) → capped (ticks_for m (with_mode_over window o t)) ≡ capped (ticks_for m t + adds window o)
  added window None t = omega arith
  added window (Some stay) t = added_ticks m stay.mode (ticks_in window stay.span) t

  and_added : (window : Span) (o : Option ModeStay) (rest : List ModeStay) → ticks_of_modes m window (and_one o ++ rest) ≡ adds window o + ticks_of_modes m window rest
  and_added window None rest = omega arith
  and_added window (Some stay) rest = refl

  module _ (window : Span) (name : List ℕ) where
    -- the partition after a line that is read
    line_row : (told : Told) (e : Event) (p : PartitionRow) → p.name ≡ name
        → ((partition_behind window told e p).name ≡ name)
        × ((partition_behind window told e p).watch.held ≡ after_said (said_if (is_of name e.partition) e.kind) e.tick.0 p.watch.held)
        × (capped (ticks_for m (partition_behind window told e p).modes) ≡ capped (ticks_for m p.modes + adds window (over_said (said_if (is_of name e.partition) e.kind) e.tick.0 p.watch.held)))
    line_row told e p is =
        subst (λ (n : List ℕ). ((partition_behind window told e p).name ≡ name)
        × ((partition_behind window told e p).watch.held ≡ after_said (said_if (is_of n e.partition) e.kind) e.tick.0 p.watch.held)
        × (capped (ticks_for m (partition_behind window told e p).modes) ≡ capped (ticks_for m p.modes + adds window (over_said (said_if (is_of n e.partition) e.kind) e.tick.0 p.watch.held)))) is
        (by_test (is_of p.name e.partition) e.kind)
      where
        by_test : (b : Bool) (kind : EventKind) → ((if b then read_by window told e.tick kind p else p).name ≡ name)
            × ((if b then read_by window told e.tick kind p else p).watch.held ≡ after_said (said_if b kind) e.tick.0 p.watch.held)
            × (capped (ticks_for m (if b then read_by window told e.tick kind p else p).modes) ≡ capped (ticks_for m p.modes + adds window (over_said (said_if b kind) e.tick.0 p.watch.held)))
        by_test false kind = (is, refl, omega arith)
        by_test true (event.Mode k) = (is, refl, added window (mode_ended p.watch.held e.tick.0) p.modes)
        by_test true (event.State who s) = (is, refl, omega arith)
        by_test true (event.Return who service code) = (is, refl, omega arith)
        by_test true (event.Error error who r) = (is, refl, omega arith)
        by_test true (event.Report who words) = (is, refl, omega arith)
        by_test true (event.Move port words) = (is, refl, omega arith)
        by_test true (event.Arrive port words) = (is, refl, omega arith)
        by_test true (event.Lost port words) = (is, refl, omega arith)
        by_test true (event.Out channel words) = (is, refl, omega arith)

    -- all lines are before the end
    all_counted : (lines : List Event) (told : Told) (p : PartitionRow) → AreBeforeTick window.until.0 lines → p.name ≡ name
        → capped (ticks_for m (partition_total window (partition_in window told lines p)).modes) ≡ capped (ticks_for m p.modes + ticks_of_modes m window (modes_in lines window.until.0 name p.watch.held))
    all_counted [] told p early is = added window (mode_ended p.watch.held window.until.0) p.modes ∙ ap (λ (k : ℕ). capped (ticks_for m p.modes + k)) (last (mode_ended p.watch.held window.until.0))
      where
        last : (o : Option ModeStay) → adds window o ≡ ticks_of_modes m window (and_one o)
        last None = refl
        last (Some stay) = omega arith
    all_counted (e ∷ es) told p early is =
        ap (λ (b : Bool). capped (ticks_for m (partition_total window (partition_in window (told_behind e told) es (if b then partition_behind window told e p else p))).modes)) (lt-ltb e.tick.0 window.until.0 early.0)
        ∙ all_counted es (told_behind e told) q early.1 row.0
        ∙ ap (λ (o : Option HeldMode). capped (ticks_for m q.modes + ticks_of_modes m window (modes_in es window.until.0 name o))) row.1
        ∙ sums
      where
        q : PartitionRow
        q = partition_behind window told e p

        said : Option Mode
        said = said_if (is_of name e.partition) e.kind

        row : ((partition_behind window told e p).name ≡ name)
            × ((partition_behind window told e p).watch.held ≡ after_said (said_if (is_of name e.partition) e.kind) e.tick.0 p.watch.held)
            × (capped (ticks_for m (partition_behind window told e p).modes) ≡ capped (ticks_for m p.modes + adds window (over_said (said_if (is_of name e.partition) e.kind) e.tick.0 p.watch.held)))
        row = line_row told e p is

        sums : capped (ticks_for m q.modes + ticks_of_modes m window (modes_in es window.until.0 name (after_said said e.tick.0 p.watch.held))) ≡ capped (ticks_for m p.modes + ticks_of_modes m window (modes_in (e ∷ es) window.until.0 name p.watch.held))
        sums =
            let a = row.2 in
            let b = and_added window (over_said said e.tick.0 p.watch.held) (modes_in es window.until.0 name (after_said said e.tick.0 p.watch.held)) in
            let c = ap (λ (o : Option ModeStay). ticks_of_modes m window (and_one o ++ modes_in es window.until.0 name (mode_with_line e name p.watch.held))) (said_over (is_of name e.partition) e.kind e.tick.0 p.watch.held) in
            let f = ap (λ (o : Option HeldMode). ticks_of_modes m window (and_one (over_said said e.tick.0 p.watch.held) ++ modes_in es window.until.0 name o)) (said_after (is_of name e.partition) e.kind e.tick.0 p.watch.held) in
            omega (arith, a, b, c, f)

-- ---- a window that is given

module _ (lines : List Event) (name : List ℕ) (m : Mode) (is : ℕ → Bool) (from until : ℕ) (few : until ≤ MOST_TICKS) (early : AreBeforeTick until lines) (shown : (t : ℕ) → t < until → mode_in m t (modes_in lines until name None) ≡ one_if (is t)) where
  abbrev stays : List ModeStay
  stays = modes_in lines until name None

  sums : ticks_of_modes m (span from until) stays ≡ ticks_when is from (until - from)
  sums =
      window_ticks m from until stays
      ∙ sum_same (λ t. mode_in m t stays) (λ t. one_if (is t)) from (until - from) (λ i l. shown (from + i) (omega (arith, l)))
      ∙ sum_when is from (until - from)

  pub counted_modes : mode_counted (span from until) (span from until) lines name m ≡ ticks_when is from (until - from)
  counted_modes =
      let a = all_counted m (span from until) name lines told_first (no_partition name) early refl in
      let n = nothing m in
      let b = sums in
      let c = few_when is from (until - from) in
      omega (arith, a, n, b, c, few)
    where
      nothing : (k : Mode) → ticks_for k (no_partition name).modes ≡ 0
      nothing mode.Normal = refl
      nothing mode.ColdStart = refl
      nothing mode.WarmStart = refl
      nothing mode.Idle = refl

-- ---- lines at the end and behind it are not read

unread : (window : Span) (lines : List Event) (told : Told) (p : PartitionRow) → AreInOrder window.until.0 lines → partition_in window told lines p ≡ p
unread window [] told p order = refl
unread window (e ∷ es) told p order =
    ap (λ (b : Bool). partition_in window (told_behind e told) es (if b then partition_behind window told e p else p)) (le-ltb e.tick.0 window.until.0 order.0)
    ∙ unread window es (told_behind e told) p (weaken window.until.0 e.tick.0 es order.0 order.1)
  where
    weaken : (a b : ℕ) (es : List Event) → a ≤ b → AreInOrder b es → AreInOrder a es
    weaken a b [] l h = tt
    weaken a b (f ∷ fs) l h = let k = h.0 in (omega (arith, k, l), h.1)

pub read_up_to : (window : Span) (t from : ℕ) (lines : List Event) (told : Told) (p : PartitionRow) → window.until.0 ≡ suc t → AreInOrder from lines → partition_in window told lines p ≡ partition_in window told (up_to t lines) p
read_up_to window t from [] told p is order = refl
read_up_to window t from (e ∷ es) told p is order =
    by_test (nat_lt t e.tick.0) refl (λ q. read_up_to window t e.tick.0 es (told_behind e told) q is order.1)
  where
    by_test : (b : Bool) → nat_lt t e.tick.0 ≡ b → ((q : PartitionRow) → partition_in window (told_behind e told) es q ≡ partition_in window (told_behind e told) (up_to t es) q)
        → partition_in window told (e ∷ es) p ≡ partition_in window told (if b then [] else e ∷ up_to t es) p
    by_test true f rest = let a = ltb-true t e.tick.0 f in unread window (e ∷ es) told p (omega (arith, a, is), order.1)
    by_test false f rest = rest _

pub none_read : (window : Span) (from : ℕ) (lines : List Event) (p : PartitionRow) → window.until.0 ≡ 0 → AreInOrder from lines → partition_in window told_first lines p ≡ p
none_read window from lines p is order = unread window lines told_first p (later lines order)
  where
    later : (lines : List Event) → AreInOrder from lines → AreInOrder window.until.0 lines
    later [] h = tt
    later (e ∷ es) h = (omega (arith, is), h.1)
