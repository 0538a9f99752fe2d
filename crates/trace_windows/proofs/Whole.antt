-- The windows of a whole trace are those that its lines lead to.
use Rattle.std.proofs.Common.{◌≡◌, ◌⊎◌, inl, inr, ℕ, ◌≤◌, ◌<◌, Bool, true, false, List, [], ◌∷◌, ◌++◌, Option, Some, None, refl, sym, ap, subst, ◌∙◌, arith}
use Rattle.std.specs.Prelude.{◌&&◌, max, min, nat_le, nat_lt, if◌then◌else◌}
use Rattle.std.proofs.lemmas.Bool.{le-leb, le-ltb, lt-ltb, ltb-false, ltb-true}
use Rattle.apex_types.specs.Limits.{MOST_TICKS}
use Rattle.apex_types.specs.declared.codes.ModuleAction.TheVariants as reaction
use Rattle.apex_types.specs.declared.codes.Response.{Response}
use Rattle.apex_types.specs.declared.codes.Response.TheVariants as response
use Rattle.apex_types.specs.declared.event.Event.{Event}
use Rattle.apex_types.specs.declared.event.EventKind.{EventKind}
use Rattle.apex_types.specs.declared.event.EventKind.TheVariants as event
use Rattle.apex_types.specs.declared.identity.Ticks.{Ticks}
use Rattle.kernel_meaning.specs.Windows.{Schedule}
use Rattle.trace_windows.specs.Frames.{Frames, acted, at_first, owner_by, owner_in, with_line, with_module}
use Rattle.trace_windows.specs.Read.{frames_of, next_acted, next_behind, next_module, next_with}
use Rattle.trace_windows.specs.Runs.{AreInOrder}
use Rattle.trace_windows.specs.Stretches.{AreStretches, owner_of}
use Rattle.trace_windows.specs.Whole.{AreWindowsIn, AreWindowsOf, HasBegun, HasClosed, HasRead, HaveBegun, HaveClosed, HaveRead, HaveReadAll, end_in_run, owner_at}
use Rattle.trace_windows.specs.declared.stretch.Stretch.{Stretch}
use Rattle.trace_windows.specs.declared.windows.Windows.{Windows}
use Rattle.window_table.specs.Schedules.{schedule_of}

-- ---- stretches

ends_behind : (owner : ℕ → Option ℕ) (from until : ℕ) (ss : List Stretch) → AreStretches owner from until ss → from ≤ until
ends_behind owner from until [] h = omega (arith, h)
ends_behind owner from until (s ∷ ss) (at, ahead, same, rest) = let l = ends_behind owner s.span.until.0 until ss rest in omega (arith, ahead, l)

owned_alike : (owner other : ℕ → Option ℕ) (from until : ℕ) (ss : List Stretch) → ((t : ℕ) → from ≤ t → t < until → other t ≡ owner t) → AreStretches owner from until ss → AreStretches other from until ss
owned_alike owner other from until [] alike h = h
owned_alike owner other from until (s ∷ ss) alike (at, ahead, same, rest) =
    let l = ends_behind owner s.span.until.0 until ss rest in (
      at,
      ahead,
      λ t later before. alike t later (omega (arith, before, l)) ∙ same t later before,
      owned_alike owner other s.span.until.0 until ss (λ t later before. alike t (omega (arith, ahead, later)) before) rest,
    )

joined : (owner : ℕ → Option ℕ) (from mid until : ℕ) (ss more : List Stretch) → AreStretches owner from mid ss → AreStretches owner mid until more → AreStretches owner from until (ss ++ more)
joined owner from mid until [] more h next = subst (λ (n : ℕ). AreStretches owner n until more) (sym h) next
joined owner from mid until (s ∷ ss) more (at, ahead, same, rest) next = (at, ahead, same, joined owner s.span.until.0 mid until ss more rest next)

owner_there : (owner : ℕ → Option ℕ) (from until : ℕ) (ss : List Stretch) → AreStretches owner from until ss → (t : ℕ) → from ≤ t → t < until → owner_at t ss ≡ owner t
owner_there owner from until [] h t later before = absurd (omega (arith, h, later, before))
owner_there owner from until (s ∷ ss) (at, ahead, same, rest) t later before = by_test (nat_lt t s.span.until.0) refl (λ past. owner_there owner s.span.until.0 until ss rest t past before)
  where
    begun : nat_le s.span.from.0 t ≡ true
    begun = le-leb s.span.from.0 t (omega (arith, at, later))

    by_test : (b : Bool) → nat_lt t s.span.until.0 ≡ b → (s.span.until.0 ≤ t → owner_at t ss ≡ owner t) → (if nat_le s.span.from.0 t && b then owner_of s else owner_at t ss) ≡ owner t
    by_test true e more = ap (λ (x : Bool). if x && true then owner_of s else owner_at t ss) begun ∙ sym (same t later (ltb-true t s.span.until.0 e))
    by_test false e more = ap (λ (x : Bool). if x && false then owner_of s else owner_at t ss) begun ∙ more (ltb-false t s.span.until.0 e)

-- ---- a line ends the frames so far, and the stretches before its tick are added, or it changes nothing

abbrev Moves : ℕ → Windows → (next : ℕ) → Frames → Type 0
Moves t w next f = ((next ≡ w.next.0) × (f ≡ frames_of w)) ⊎ (next ≡ next_behind w t)

acted_moves : (r : Response) (t : ℕ) (w : Windows) → Moves t w (next_acted r t w) (acted r t (frames_of w))
acted_moves (response.Module reaction.Reset) t w = inr refl
acted_moves (response.Module reaction.Shutdown) t w = inr refl
acted_moves (response.Module reaction.Ignore) t w = inl (refl, refl)
acted_moves (response.Partition a) t w = inl (refl, refl)
acted_moves response.Handler t w = inl (refl, refl)

module_moves : (kind : EventKind) (t : ℕ) (w : Windows) → Moves t w (next_module kind t w) (with_module kind t (frames_of w))
module_moves (event.Error error who answer) t w = acted_moves answer t w
module_moves (event.State who next) t w = inl (refl, refl)
module_moves (event.Mode m) t w = inl (refl, refl)
module_moves (event.Return who service code) t w = inl (refl, refl)
module_moves (event.Report who words) t w = inl (refl, refl)
module_moves (event.Move port words) t w = inl (refl, refl)
module_moves (event.Arrive port words) t w = inl (refl, refl)
module_moves (event.Lost port words) t w = inl (refl, refl)
module_moves (event.Out channel words) t w = inl (refl, refl)

line_moves : (e : Event) (w : Windows) → Moves e.tick.0 w (next_with e w) (with_line e (frames_of w))
line_moves e w = by_partition e.partition
  where
    by_partition : (p : Option (List ℕ)) → Moves e.tick.0 w (elim p [ None ↦ next_module e.kind e.tick.0 w | Some name ↦ w.next.0 ]) (elim p [ None ↦ with_module e.kind e.tick.0 (frames_of w) | Some name ↦ frames_of w ])
    by_partition None = module_moves e.kind e.tick.0 w
    by_partition (Some name) = inl (refl, refl)

-- ---- the lines, one after another

early : (s : Schedule) (f : Frames) (from : ℕ) (lines : List Event) (t : ℕ) → AreInOrder from lines → t < from → owner_in s f lines t ≡ owner_by s f t
early s f from [] t order low = refl
early s f from (e ∷ es) t order low =
    let later = order.0 in
    ap (λ (b : Bool). if b then owner_by s f t else owner_in s (with_line e f) es t) (lt-ltb t e.tick.0 (omega (arith, later, low)))

-- what was read, and the lines that are left, lead to the owner of each tick
pub record WillOwn (schedule : Schedule) (names : List (List ℕ)) (from : ℕ) (to : Option Ticks) (events : List Event) (before : ℕ) (left : List Event) (w : Windows) : Type 0 where
  pub schedule_is : schedule_of w.schedule ≡ schedule
  pub names_are : w.names.items ≡ names
  pub ends : w.to.0 ≡ end_in_run to
  pub stretches : AreStretches (owner_in schedule at_first events) from w.next.0 w.stretches.items
  pub rest : (t : ℕ) → w.next.0 ≤ t → t < w.to.0 → owner_in schedule at_first events t ≡ owner_in schedule (frames_of w) left t
  pub order : AreInOrder before left

module _ (schedule : Schedule) (names : List (List ℕ)) (from : ℕ) (to : Option Ticks) (events : List Event) where
  abbrev owner : ℕ → Option ℕ
  owner = owner_in schedule at_first events

  own_begin : (w : Windows) → AreInOrder 0 events → HasBegun schedule names from to w → WillOwn schedule names from to events 0 events w
  own_begin w order begun = record {
    schedule_is = begun.planned;
    names_are = begun.named;
    ends = begun.end;
    stretches = subst (AreStretches owner from w.next.0) (sym begun.stretches) (sym begun.next);
    rest = λ t later soon. ap (λ (f : Frames). owner_in schedule f events t) (sym begun.frames);
    order = order;
  }

  -- the stretches that are added have the owners of their ticks
  grown : (old new : Windows) (more : List Stretch) → schedule_of old.schedule ≡ schedule → new.stretches.items ≡ old.stretches.items ++ more
      → AreStretches (owner_by (schedule_of old.schedule) (frames_of old)) old.next.0 new.next.0 more → AreStretches owner from old.next.0 old.stretches.items
      → ((t : ℕ) → old.next.0 ≤ t → t < new.next.0 → owner t ≡ owner_by schedule (frames_of old) t) → AreStretches owner from new.next.0 new.stretches.items
  grown old new more its added are so_far alike =
      subst (AreStretches owner from new.next.0) (sym added)
      (joined owner from old.next.0 new.next.0 old.stretches.items more so_far
      (owned_alike (owner_by schedule (frames_of old)) owner old.next.0 new.next.0 more alike
      (subst (λ (s : Schedule). AreStretches (owner_by s (frames_of old)) old.next.0 new.next.0 more) its are)))

  own_line : (before : ℕ) (e : Event) (es : List Event) (w v : Windows) → HasRead e w v → WillOwn schedule names from to events before (e ∷ es) w → WillOwn schedule names from to events e.tick.0 es v
  own_line before e es w v read will = record {
    schedule_is = ap schedule_of read.kept.schedule ∙ will.schedule_is;
    names_are = ap (λ n. n.items) read.kept.names ∙ will.names_are;
    ends = ap (λ (t : Ticks). t.0) read.kept.to ∙ will.ends;
    stretches = grown w v read.passed.0 will.schedule_is read.passed.1 read.passed.2 will.stretches below;
    rest = λ t later soon. above t later (let same = ap (λ (t : Ticks). t.0) read.kept.to in omega (arith, same, soon)) ∙ ap (λ (f : Frames). owner_in schedule f es t) (sym read.frames);
    order = will.order.1;
  }
    where
      f : Frames
      f = frames_of w

      goes_on : w.next.0 ≤ next_with e w
      goes_on = elim (line_moves e w) [ inl same ↦ (let s = same.0 in omega (arith, s)) | inr added ↦ omega (arith, added) ]

      here : (t : ℕ) → w.next.0 ≤ t → t < w.to.0 → owner t ≡ (if nat_lt t e.tick.0 then owner_by schedule f t else owner_in schedule (with_line e f) es t)
      here t later soon = will.rest t later soon

      below : (t : ℕ) → w.next.0 ≤ t → t < v.next.0 → owner t ≡ owner_by schedule f t
      below t later low =
          let is = read.next in
          elim (line_moves e w) [
            | inl same ↦ (let s = same.0 in absurd (omega (arith, s, is, later, low)))
            | inr added ↦
                here t later (omega (arith, added, is, later, low))
                ∙ ap (λ (b : Bool). if b then owner_by schedule f t else owner_in schedule (with_line e f) es t) (lt-ltb t e.tick.0 (omega (arith, added, is, later, low)))
          ]

      -- a tick before that of the line, and in no stretch, has the owner of the frames so far
      above_early : (t : ℕ) → next_with e w ≤ t → t < w.to.0 → t < e.tick.0 → owner_by schedule f t ≡ owner_in schedule (with_line e f) es t
      above_early t later soon low =
          sym (early schedule (with_line e f) e.tick.0 es t will.order.1 low
          ∙ elim (line_moves e w) [ inl same ↦ ap (λ (g : Frames). owner_by schedule g t) same.1 | inr added ↦ absurd (omega (arith, added, later, soon, low)) ])

      above : (t : ℕ) → v.next.0 ≤ t → t < w.to.0 → owner t ≡ owner_in schedule (with_line e f) es t
      above t later soon =
          let is = read.next in
          let on = goes_on in
          here t (omega (arith, is, on, later)) soon ∙ by_test (nat_lt t e.tick.0) refl (omega (arith, is, later))
        where
          by_test : (b : Bool) → nat_lt t e.tick.0 ≡ b → next_with e w ≤ t → (if b then owner_by schedule f t else owner_in schedule (with_line e f) es t) ≡ owner_in schedule (with_line e f) es t
          by_test true low past = above_early t past soon (ltb-true t e.tick.0 low)
          by_test false low past = refl

  -- all are read, and the stretches before a tick are added
  own_all : (last until : ℕ) (w v : Windows) → HasClosed until w v → WillOwn schedule names from to events last [] w
      → (t : ℕ) → from ≤ t → t < min until (end_in_run to) → owner_at t v.stretches.items ≡ owner t
  own_all last until w v closed will t later before =
      let is = closed.next in
      let end = will.ends in
      owner_there owner from v.next.0 v.stretches.items all t later (omega (arith, is, end, before))
    where
      all : AreStretches owner from v.next.0 v.stretches.items
      all =
          let is = closed.next in
          grown w v closed.passed.0 will.schedule_is closed.passed.1 closed.passed.2 will.stretches (λ t later low. will.rest t later (omega (arith, is, later, low)))

-- ---- the same, if the windows are known

module _ (from : ℕ) (to : Option Ticks) (events : List Event) where
  -- what was read, if the lines are in order, and the partitions in any case
  abbrev WillOwnIf : Option (Schedule × List (List ℕ)) → (left : List Event) → Option Windows → Type 0
  WillOwnIf None left None = Unit {0}
  WillOwnIf (Some known) left (Some w) = (w.names.items ≡ known.1) × (AreInOrder 0 events → (before : ℕ) × WillOwn known.0 known.1 from to events before left w)
  WillOwnIf _ left _ = ⊥

  begun_if : (known : Option (Schedule × List (List ℕ))) (o : Option Windows) → HaveBegun known from to o → WillOwnIf known events o
  begun_if None None h = tt
  begun_if None (Some w) h = absurd h
  begun_if (Some k) None h = absurd h
  begun_if (Some k) (Some w) h = (h.named, λ order. (0, own_begin k.0 k.1 from to events w order h))

  line_if : (known : Option (Schedule × List (List ℕ))) (e : Event) (es : List Event) (o p : Option Windows) → HaveRead e o p → WillOwnIf known (e ∷ es) o → WillOwnIf known es p
  line_if None e es None None h will = tt
  line_if None e es None (Some v) h will = absurd h
  line_if None e es (Some w) p h will = absurd will
  line_if (Some k) e es None p h will = absurd will
  line_if (Some k) e es (Some w) None h will = absurd h
  line_if (Some k) e es (Some w) (Some v) h will = (
    ap (λ n. n.items) h.kept.names ∙ will.0,
    λ order. let before = will.1 order in (e.tick.0, own_line k.0 k.1 from to events before.0 e es w v h before.1),
  )

  lines_if : (known : Option (Schedule × List (List ℕ))) (lines : List Event) (o p : Option Windows) → HaveReadAll lines o p → WillOwnIf known lines o → WillOwnIf known [] p
  lines_if known [] o p is will = subst (WillOwnIf known []) (sym is) will
  lines_if known (e ∷ es) o p (mid, read, more) will = lines_if known es mid p more (line_if known e es o mid read will)

  closed_if : (known : Option (Schedule × List (List ℕ))) (until : ℕ) (o p : Option Windows) → HaveClosed until o p → min until MOST_TICKS ≤ max from (end_in_run to) → WillOwnIf known [] o
      → AreWindowsIn known from until events p
  closed_if None until None None h inside will = tt
  closed_if None until None (Some v) h inside will = absurd h
  closed_if None until (Some w) p h inside will = absurd will
  closed_if (Some k) until None p h inside will = absurd will
  closed_if (Some k) until (Some w) None h inside will = absurd h
  closed_if (Some k) until (Some w) (Some v) h inside will = record {
    named = ap (λ n. n.items) h.kept.names ∙ will.0;
    owners = λ order t later before few.
        let so = will.1 order in
        own_all k.0 k.1 from to events so.0 until w v h so.1 t later (omega (arith, inside, later, before, few));
  }

  pub windows_of_all : (known : Option (Schedule × List (List ℕ))) (until : ℕ) (first last ended : Option Windows) → HaveBegun known from to first → HaveReadAll events first last → HaveClosed until last ended
      → min until MOST_TICKS ≤ max from (end_in_run to) → AreWindowsIn known from until events ended
  windows_of_all known until first last ended begun read closed inside = closed_if known until last ended closed inside (lines_if known events first last read (begun_if known first begun))
