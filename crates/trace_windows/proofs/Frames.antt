-- What the processor does in the ticks of frames.
use Rattle.std.proofs.Common.{◌≡◌, ℕ, ◌+◌, ◌-◌, ◌*◌, ◌%◌, ◌≤◌, Option, sym, ap, ◌∙◌, arith}
use Rattle.std.proofs.Math.Nat.{add-mod_right}
use Rattle.std.specs.Prelude.{find, option_map}
use Rattle.apex_types.specs.declared.row.WindowRow.{WindowRow}
use Rattle.kernel_meaning.specs.Windows.{Schedule, is_within, owner, tick_from}
use Rattle.trace_windows.specs.Standings.{Standing}
use Rattle.trace_windows.specs.Uses.{ticks_used, use_at, use_if}
use Rattle.trace_windows.specs.declared.usage.Use.{Use}
use Rattle.trace_windows.proofs.Counting.{frames, two_parts}

abbrev owner_in : Schedule → ℕ → Option ℕ
owner_in s place = option_map (λ (w : WindowRow). w.partition.0) (find (is_within place) s.windows)

-- a tick has the owner of the tick a frame before
owner_repeats : (s : Schedule) (origin t : ℕ) → origin ≤ t → owner s (tick_from origin (t + s.frame)) ≡ owner s (tick_from origin t)
owner_repeats s origin t past =
    let later : t + s.frame - origin ≡ t - origin + s.frame = omega (arith, past) in
    ap (owner_in s) (ap (λ (n : ℕ). n % s.frame) later ∙ add-mod_right (t - origin) s.frame)

pub use_repeats : (schedule : Schedule) (s : Standing) (from i : ℕ) → s.origin ≤ from → use_at schedule s (from + schedule.frame + i) ≡ use_at schedule s (from + i)
use_repeats schedule s from i past =
    let here : from + schedule.frame + i ≡ from + i + schedule.frame = omega arith in
    let later : s.origin ≤ from + i = omega (arith, past) in
    ap (λ (t : ℕ). use_at schedule s t) here ∙ ap (λ (o : Option ℕ). use_if s.is_down o s) (owner_repeats schedule s.origin (from + i) later)

-- one frame for all whole ones, then the rest
pub by_frames : (schedule : Schedule) (s : Standing) (u : Use) (from until k : ℕ) → s.origin ≤ from → k * schedule.frame ≤ until - from
    → k * ticks_used (use_at schedule s) u from schedule.frame + ticks_used (use_at schedule s) u (from + k * schedule.frame) (until - (from + k * schedule.frame))
    ≡ ticks_used (use_at schedule s) u from (until - from)
by_frames schedule s u from until k past few =
    let used = use_at schedule s in
    let whole = k * schedule.frame in
    let all : until - from ≡ whole + (until - (from + whole)) = omega (arith, few) in
    sym (ap (ticks_used used u from) all
    ∙ two_parts used u from whole (until - (from + whole))
    ∙ ap (λ (n : ℕ). n + ticks_used used u (from + whole) (until - (from + whole))) (frames used u schedule.frame from k (λ i. use_repeats schedule s from i past)))
