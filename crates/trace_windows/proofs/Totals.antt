-- The ticks of all rows together.
use Rattle.std.proofs.Common.{◌≡◌, ℕ, zero, suc, ◌+◌, ◌-◌, ◌*◌, ◌<◌, ◌≤◌, max, Bool, true, false, inl, inr, List, [], ◌∷◌, ◌++◌, Some, refl, subst, sym, ap, ◌∙◌, arith, mul_comm, mul-add}
use Rattle.std.specs.Prelude.{nat_lt}
use Rattle.std.proofs.lemmas.Bool.{ltb-false, ltb-true}
use Rattle.apex_types.specs.declared.event.Event.{Event}
use Rattle.trace_windows.specs.Counts.{HasTotal, all_ticks, capped, row_from, with_more_at}
use Rattle.trace_windows.specs.Runs.{AreBefore, first}
use Rattle.trace_windows.specs.Standings.{Standing, in_run, passed, passed_if, with_line}
use Rattle.trace_windows.specs.Uses.{is_same}
use Rattle.trace_windows.specs.declared.counted.Row.{Row}
use Rattle.trace_windows.specs.declared.usage.Use.{Use}
use Rattle.trace_windows.proofs.Adding.{found_row, no_number}
use Rattle.trace_windows.proofs.Reading.{ends_before, kind_now}

-- ---- one row more, or ticks in a row

there : (n : ℕ) (rows : List Row) (place ticks : ℕ) (used : Use) → row_from n used rows ≡ Some (n + place) → HasTotal ticks rows (with_more_at place ticks rows)
unfolding row_from all_ticks
there n [] place ticks used h = absurd (no_number h)
there n (q ∷ rows) zero ticks used h = omega arith
there n (q ∷ rows) (suc place) ticks used h = elim (found_row n used rows (n + suc place) (is_same q.used used) q refl h) [
  | inl here ↦ absurd (omega (arith, here.0))
  | inr later ↦
      let next : n + suc place ≡ n + 1 + place = omega arith in
      let rest = there (n + 1) rows place ticks used (later.0 ∙ ap Some next) in
      omega (arith, rest)
]

pub total_there : (rows : List Row) (place ticks : ℕ) (used : Use) → row_from 0 used rows ≡ Some place → HasTotal ticks rows (with_more_at place ticks rows)
total_there rows place ticks used h = let here : place ≡ 0 + place = omega arith in there 0 rows place ticks used (h ∙ ap Some here)

pub total_last : (rows : List Row) (used : Use) (ticks : ℕ) → HasTotal ticks rows (rows ++ record { used = used; ticks = ticks } ∷ [])
unfolding all_ticks
total_last [] used ticks = omega arith
total_last (q ∷ rows) used ticks = let rest = total_last rows used ticks in omega (arith, rest)

pub total_none : (rows : List Row) (ticks : ℕ) → ticks ≡ 0 → HasTotal ticks rows rows
total_none rows ticks none = omega (arith, none)

-- ---- stretches and frames

pub total_stretch : (times now ticks n : ℕ) (old new : List Row) → n ≡ capped (ticks * times) → HasTotal n old new → HasTotal (times * (now + ticks - now)) old new
total_stretch times now ticks n old new is more =
    let length_of : now + ticks - now ≡ ticks = omega arith in
    let product : times * (now + ticks - now) ≡ ticks * times = ap (λ (k : ℕ). times * k) length_of ∙ mul_comm times ticks in
    omega (arith, is, more, product)

pub total_begin : (times from : ℕ) (rows : List Row) → HasTotal (times * (from - from)) rows rows
total_begin times from rows =
    let none : from - from ≡ 0 = omega arith in
    let nothing : times * 0 ≡ 0 = omega arith in
    let product : times * (from - from) ≡ 0 = ap (λ (k : ℕ). times * k) none ∙ nothing in
    omega (arith, product)

pub total_next : (times from now t : ℕ) (old mid new : List Row) → from ≤ now → now ≤ t → HasTotal (times * (now - from)) old mid → HasTotal (times * (t - now)) mid new
    → HasTotal (times * (t - from)) old new
total_next times from now t old mid new past ahead so_far more =
    let both : t - from ≡ (now - from) + (t - now) = omega (arith, past, ahead) in
    let parts : times * (t - from) ≡ times * (now - from) + times * (t - now) = ap (λ (k : ℕ). times * k) both ∙ mul-add times (now - from) (t - now) in
    omega (arith, parts, so_far, more)

pub total_end : (times from until now : ℕ) (old new : List Row) → until ≤ now → now ≤ max from until → HasTotal (times * (now - from)) old new → HasTotal (times * (until - from)) old new
total_end times from until now old new done before total =
    let same : now - from ≡ until - from = omega (arith, done, before) in
    subst (λ (n : ℕ). HasTotal (times * n) old new) same total

pub total_frames : (from until k frame : ℕ) (old mid new : List Row) → k * frame ≤ until - from → HasTotal (k * (from + frame - from)) old mid → HasTotal (1 * (until - (from + k * frame))) mid new
    → HasTotal (until - from) old new
total_frames from until k frame old mid new few frames rest =
    let one : from + frame - from ≡ frame = omega arith in
    let whole : k * (from + frame - from) ≡ k * frame = ap (λ (n : ℕ). k * n) one in
    omega (arith, few, frames, rest, whole)

pub total_rest : (from until k frame : ℕ) (old new : List Row) → k ≡ 0 → HasTotal (1 * (until - (from + k * frame))) old new → HasTotal (until - from) old new
total_rest from until k frame old new none rest =
    let nothing : 0 * frame ≡ 0 = omega arith in
    let product : k * frame ≡ 0 = ap (λ (n : ℕ). n * frame) none ∙ nothing in
    omega (arith, rest, product)

-- ---- up to a line

pub total_passed : (now from next a b end until : ℕ) (old mid new : List Row) → next ≡ from → a ≡ max now from → b ≡ max (now + 1) next → end ≡ until → now < end
    → HasTotal (1 * (now + 1 - a)) old mid → HasTotal (end - b) mid new → HasTotal (until - max from now) old new
total_passed now from next a b end until old mid new same at behind is ahead one more = omega (arith, same, at, behind, is, ahead, one, more)

line_ends : (b : Bool) (t from : ℕ) (s : Standing) (old new : List Row) → nat_lt s.now t ≡ b → HasTotal (t - first from s) old new → capped (all_ticks old) ≡ capped (s.now - from)
    → capped (all_ticks new) ≡ capped ((passed_if b t s).now - from)
line_ends true t from s old new e more so_far = let ahead : s.now < t = ltb-true s.now t e in omega (arith, ahead, more, so_far)
line_ends false t from s old new e more so_far = let past : t ≤ s.now = ltb-false s.now t e in omega (arith, past, more, so_far)

pub total_line : (from : ℕ) (s next : Standing) (e : Event) (old new : List Row) → next ≡ with_line e s → HasTotal (in_run e.tick.0 - first from s) old new → capped (all_ticks old) ≡ capped (s.now - from)
    → capped (all_ticks new) ≡ capped (next.now - from)
total_line from s next e old new read more so_far =
    line_ends (nat_lt s.now (in_run e.tick.0)) (in_run e.tick.0) from s old new refl more so_far
    ∙ ap (λ (n : ℕ). capped (n - from)) (sym (ap (λ (x : Standing). x.now) read ∙ kind_now e.partition e.kind (passed (in_run e.tick.0) s)))

pub total_first : (from : ℕ) (s : Standing) (rows : List Row) → s.now ≡ 0 → rows ≡ [] → capped (all_ticks rows) ≡ capped (s.now - from)
unfolding all_ticks
total_first from s rows begin none =
    let nothing : all_ticks rows ≡ 0 = ap all_ticks none in
    omega (arith, begin, nothing)

pub total_all : (from tick : ℕ) (s : Standing) (events : List Event) (old new : List Row) → events ≡ [] → AreBefore (in_run tick) s.now events → HasTotal (in_run tick - first from s) old new
    → capped (all_ticks old) ≡ capped (s.now - from) → all_ticks new ≡ in_run tick - from
total_all from tick s events old new none before more so_far = let past = ends_before (in_run tick) s.now events before in omega (arith, past, more, so_far)
