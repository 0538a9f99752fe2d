-- Ticks that are counted stretch by stretch, and frame by frame.
use Rattle.std.proofs.Common.{◌≡◌, ℕ, ◌+◌, ◌-◌, ◌*◌, ◌<◌, ◌≤◌, List, [], max, subst, sym, ap, ◌∙◌, arith}
use Rattle.kernel_meaning.specs.Windows.{Schedule}
use Rattle.trace_windows.specs.Counts.{HasMore, capped, if_same, ticks_for, with_more}
use Rattle.trace_windows.specs.Runs.{Adds, AddsTimes, HasPassed, first}
use Rattle.trace_windows.specs.Standings.{Standing, standing_of}
use Rattle.trace_windows.specs.Uses.{is_same, ticks_used, use_at, use_from}
use Rattle.trace_windows.specs.declared.counted.Row.{Row}
use Rattle.trace_windows.specs.declared.owner.Stop.{Stop}
use Rattle.trace_windows.specs.declared.shares.Shares.{Shares}
use Rattle.trace_windows.specs.declared.usage.Use.{Use}
use Rattle.trace_windows.proofs.Adding.{counted_times, more_more, more_times}
use Rattle.trace_windows.proofs.Counting.{all_alike, two_parts}
use Rattle.trace_windows.proofs.Frames.{by_frames}
use Rattle.trace_windows.proofs.Passing.{all_passed, without_stops}
use Rattle.window_table.specs.Schedules.{schedule_of}

-- ---- a stretch with one use

pub one_stretch : (used : ℕ → Use) (v : Use) (times now ticks : ℕ) (old new : List Row) → ((i : ℕ) → i < ticks → used (now + i) ≡ v)
    → HasMore v (capped (ticks * times)) old new → AddsTimes times used now (now + ticks) old new
one_stretch used v times now ticks old new same more u =
    let length_of : now + ticks - now ≡ ticks = omega arith in
    let all : ticks_used used u now (now + ticks - now) ≡ if_same (is_same v u) ticks = ap (ticks_used used u now) length_of ∙ all_alike used u v now ticks same in
    more u ∙ (counted_times (is_same v u) ticks times (ticks_for u old) ∙ ap (λ (n : ℕ). with_more (times * n) (ticks_for u old)) (sym all))

-- ---- stretches, one after another

pub nothing_yet : (used : ℕ → Use) (times from : ℕ) (rows : List Row) (u : Use) → ticks_for u rows ≡ with_more (times * ticks_used used u from (from - from)) (ticks_for u rows)
nothing_yet used times from rows u =
    let none : 0 ≡ from - from = omega arith in
    let nothing : 0 ≡ times * 0 = omega arith in
    ap (λ (n : ℕ). with_more n (ticks_for u rows)) (nothing ∙ ap (λ (n : ℕ). times * ticks_used used u from n) none)

pub next_stretch : (used : ℕ → Use) (u : Use) (times from now t x y z : ℕ) → from ≤ now → now ≤ t
    → y ≡ with_more (times * ticks_used used u from (now - from)) x → z ≡ with_more (times * ticks_used used u now (t - now)) y
    → z ≡ with_more (times * ticks_used used u from (t - from)) x
next_stretch used u times from now t x y z past ahead so_far more =
    let a = ticks_used used u from (now - from) in
    let b = ticks_used used u now (t - now) in
    let both : t - from ≡ (now - from) + (t - now) = omega (arith, past, ahead) in
    let next : from + (now - from) ≡ now = omega (arith, past) in
    let parts : ticks_used used u from (t - from) ≡ a + b =
    ap (ticks_used used u from) both ∙ (two_parts used u from (now - from) (t - now) ∙ ap (λ (n : ℕ). a + ticks_used used u n (t - now)) next) in
    more ∙ (ap (with_more (times * b)) so_far ∙ (more_times times a b x ∙ ap (λ (n : ℕ). with_more (times * n) x) (sym parts)))

pub all_stretches : (used : ℕ → Use) (times from until now : ℕ) (old new : List Row) → until ≤ now → now ≤ max from until
    → ((u : Use) → ticks_for u new ≡ with_more (times * ticks_used used u from (now - from)) (ticks_for u old)) → AddsTimes times used from until old new
all_stretches used times from until now old new done before counted u =
    let same : now - from ≡ until - from = omega (arith, done, before) in
    counted u ∙ ap (λ (n : ℕ). with_more (times * ticks_used used u from n) (ticks_for u old)) same

-- ---- frames

pub no_ticks : (used : ℕ → Use) (from until : ℕ) (rows : List Row) → until ≤ from → Adds used from until rows rows
no_ticks used from until rows h u =
    let none : 0 ≡ until - from = omega (arith, h) in
    ap (λ (n : ℕ). with_more (ticks_used used u from n) (ticks_for u rows)) none

once : (n x : ℕ) → with_more (1 * n) x ≡ with_more n x
once n x = let e : 1 * n ≡ n = omega arith in ap (λ (k : ℕ). with_more k x) e

whole_frames : (schedule : Schedule) (s : Standing) (from until k : ℕ) (old mid new : List Row) → s.origin ≤ from → k * schedule.frame ≤ until - from
    → AddsTimes k (use_at schedule s) from (from + schedule.frame) old mid → AddsTimes 1 (use_at schedule s) (from + k * schedule.frame) until mid new
    → Adds (use_at schedule s) from until old new
whole_frames schedule s from until k old mid new past few frames rest u =
    let used = use_at schedule s in
    let one : from + schedule.frame - from ≡ schedule.frame = omega arith in
    let a = k * ticks_used used u from schedule.frame in
    let b = ticks_used used u (from + k * schedule.frame) (until - (from + k * schedule.frame)) in
    let first_part : ticks_for u mid ≡ with_more a (ticks_for u old) = frames u ∙ ap (λ (n : ℕ). with_more (k * ticks_used used u from n) (ticks_for u old)) one in
    rest u ∙ (once b (ticks_for u mid) ∙ (ap (with_more b) first_part ∙ (more_more a b (ticks_for u old) ∙ ap (λ (n : ℕ). with_more n (ticks_for u old)) (by_frames schedule s u from until k past few))))

no_frames : (schedule : Schedule) (s : Standing) (from until k : ℕ) (old new : List Row) → s.origin ≤ from → k ≡ 0
    → AddsTimes 1 (use_at schedule s) (from + k * schedule.frame) until old new
    → Adds (use_at schedule s) from until old new
no_frames schedule s from until k old new past none rest u =
    let used = use_at schedule s in
    let start : from + k * schedule.frame ≡ from = ap (λ (n : ℕ). from + n * schedule.frame) none ∙ nothing in
    rest u ∙ (once (ticks_used used u (from + k * schedule.frame) (until - (from + k * schedule.frame))) (ticks_for u old)
    ∙ ap (λ (t : ℕ). with_more (ticks_used used u t (until - t)) (ticks_for u old)) start)
  where
    nothing : from + 0 * schedule.frame ≡ from
    nothing = omega arith

-- ---- up to a line

pub passed_all : (schedule : Schedule) (s : Standing) (from until : ℕ) (old mid new : List Row) → s.now < until
    → AddsTimes 1 (use_at schedule s) (max s.now from) (s.now + 1) old mid → Adds (use_at schedule (without_stops s)) (max (s.now + 1) from) until mid new
    → HasPassed schedule from s until old new
passed_all schedule s from until old mid new ahead one more u =
    let a = ticks_used (use_at schedule s) u (max s.now from) (s.now + 1 - max s.now from) in
    let b = ticks_used (use_at schedule (without_stops s)) u (max (s.now + 1) from) (until - max (s.now + 1) from) in
    let first_part : ticks_for u mid ≡ with_more a (ticks_for u old) = one u ∙ once a (ticks_for u old) in
    more u ∙ (ap (with_more b) first_part ∙ (more_more a b (ticks_for u old) ∙ ap (λ (n : ℕ). with_more n (ticks_for u old)) (all_passed schedule s from until u ahead)))

pub passed_nothing : (schedule : Schedule) (s : Standing) (from until : ℕ) (rows : List Row) → until ≤ s.now → HasPassed schedule from s until rows rows
passed_nothing schedule s from until rows h u =
    let none : 0 ≡ until - first from s = omega (arith, h) in
    ap (λ (n : ℕ). with_more (ticks_used (use_from schedule s) u (first from s) n) (ticks_for u rows)) none

-- ---- as the code meets them

abbrev use_now : Shares → ℕ → Use
use_now s = use_at (schedule_of s.schedule) (standing_of s)

-- what was counted in between changes no use
pub adds_same : (old mid : Shares) (times from until : ℕ) (rows new : List Row) → mid ≡ record old { counted = mid.counted }
    → AddsTimes times (use_at (schedule_of mid.schedule) (standing_of mid)) from until rows new → AddsTimes times (use_at (schedule_of old.schedule) (standing_of old)) from until rows new
adds_same old mid times from until rows new others more u =
    more u ∙ ap (λ (s : Shares). with_more (times * ticks_used (use_now s) u from (until - from)) (ticks_for u rows)) others

pub frames_whole : (schedule : Schedule) (s : Standing) (from until k frame : ℕ) (old mid new : List Row) → frame ≡ schedule.frame → s.origin ≤ from → k * frame ≤ until - from
    → AddsTimes k (use_at schedule s) from (from + frame) old mid → AddsTimes 1 (use_at schedule s) (from + k * frame) until mid new
    → Adds (use_at schedule s) from until old new
frames_whole schedule s from until k frame old mid new is past few frames rest =
    whole_frames schedule s from until k old mid new past (subst (λ (f : ℕ). k * f ≤ until - from) is few)
    (subst (λ (f : ℕ). AddsTimes k (use_at schedule s) from (from + f) old mid) is frames) (subst (λ (f : ℕ). AddsTimes 1 (use_at schedule s) (from + k * f) until mid new) is rest)

pub frames_none : (schedule : Schedule) (s : Standing) (from until k frame : ℕ) (old new : List Row) → frame ≡ schedule.frame → s.origin ≤ from → k ≡ 0
    → AddsTimes 1 (use_at schedule s) (from + k * frame) until old new
    → Adds (use_at schedule s) from until old new
frames_none schedule s from until k frame old new is past none rest =
    no_frames schedule s from until k old new past none (subst (λ (f : ℕ). AddsTimes 1 (use_at schedule s) (from + k * f) until old new) is rest)

-- the first tick, and the frames after it
pub passed_on : (old mid : Shares) (stops : List Stop) (a b end until : ℕ) (first_rows mid_rows new : List Row) → mid ≡ record old { counted = mid.counted } → stops ≡ []
    → a ≡ max old.tick.0 old.from.0 → b ≡ max (old.tick.0 + 1) mid.from.0 → end ≡ until → old.tick.0 < end
    → AddsTimes 1 (use_at (schedule_of old.schedule) (standing_of old)) a (old.tick.0 + 1) first_rows mid_rows
    → Adds (use_at (schedule_of mid.schedule) (record (standing_of mid) { stopped = stops })) b end mid_rows new
    → HasPassed (schedule_of old.schedule) old.from.0 (standing_of old) until first_rows new
passed_on old mid stops a b end until first_rows mid_rows new others none at next is ahead one more =
    subst (λ (t : ℕ). HasPassed schedule old.from.0 s t first_rows new) is
    (passed_all schedule s old.from.0 end first_rows mid_rows new ahead (subst (λ (t : ℕ). AddsTimes 1 (use_at schedule s) t (old.tick.0 + 1) first_rows mid_rows) at one) (λ u. rest u))
  where
    schedule : Schedule
    schedule = schedule_of old.schedule

    s : Standing
    s = standing_of old

    rest : (u : Use) → ticks_for u new ≡ with_more (ticks_used (use_at schedule (without_stops s)) u (max (s.now + 1) old.from.0) (end - max (s.now + 1) old.from.0)) (ticks_for u mid_rows)
    rest u =
        more u
        ∙ (ap (λ (ss : List Stop). with_more (ticks_used (use_at (schedule_of mid.schedule) (record (standing_of mid) { stopped = ss })) u b (end - b)) (ticks_for u mid_rows)) none
        ∙ (ap (λ (m : Shares). with_more (ticks_used (use_at (schedule_of m.schedule) (without_stops (standing_of m))) u b (end - b)) (ticks_for u mid_rows)) others
        ∙ ap (λ (t : ℕ). with_more (ticks_used (use_at schedule (without_stops s)) u t (end - t)) (ticks_for u mid_rows)) (next ∙ ap (λ (m : Shares). max (old.tick.0 + 1) m.from.0) others)))
