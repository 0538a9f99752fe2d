use Rattle.std.proofs.Common.{rules, ◌≡◌, ◌∙◌, ◌+◌, ◌-◌, ℕ, ℤ, map, sym, ap, arith, of_z, to_z, w64}
use Rattle.std.specs.Prelude.{nat_abs}
use Rattle.table_findings.specs.Durations.{first_short, offered}
use Rattle.table_findings.proofs.Periods.{one_left, stops, goes_on}
use Rattle.window_table.specs.Views.{partition_text, window_text}
use Rattle.table_findings.proofs.durations.first_short.Goals as goal

pub returns-then-offered-wanted : goal.returns-then-offered-wanted
returns-then-offered-wanted c =
    let period : to_z w64 (of_z w64 c.args.partition.now.period) ≡ c.args.partition.now.period = search rules in
    let length : c.unsigned_abs-period.result ≡ nat_abs c.args.partition.now.period = c.unsigned_abs-period.ensures.value ∙ ap (λ (z : ℤ). nat_abs z) period in
    let duration : to_z w64 (of_z w64 c.args.partition.now.duration) ≡ c.args.partition.now.duration = search rules in
    let want : c.from-wanted.result ≡ nat_abs c.args.partition.now.duration = c.from-wanted.ensures ∙ c.unsigned_abs.ensures.value ∙ ap (λ (z : ℤ). nat_abs z) duration in
    let ws = map window_text c.args.windows.now in
    let p = partition_text c.args.partition.now in
    stops (c.args.periods - (c.loop-turn._turn + 1)) c.loop-turn.low p ws c.offered-offered.result c.from-wanted.result
    (c.offered-offered.ensures ∙ ap (λ (n : ℕ). offered c.args.partition.now.name.now c.loop-turn.low (c.loop-turn.low + n) ws) length) want c.if-offered-wanted.true
    ∙ ap (λ (n : ℕ). first_short n c.loop-turn.low p ws) (sym (one_left c.args.periods c.loop-turn._turn c.loop-turn-test.true)) ∙ c.loop-turn.invariant.1

pub loop-turn-preserved : goal.loop-turn-preserved
loop-turn-preserved c =
    let period : to_z w64 (of_z w64 c.args.partition.now.period) ≡ c.args.partition.now.period = search rules in
    let length : c.unsigned_abs-period.result ≡ nat_abs c.args.partition.now.period = c.unsigned_abs-period.ensures.value ∙ ap (λ (z : ℤ). nat_abs z) period in
    let step : c.from-low.result ≡ nat_abs c.args.partition.now.period = c.from-low.ensures ∙ length in
    let duration : to_z w64 (of_z w64 c.args.partition.now.duration) ≡ c.args.partition.now.duration = search rules in
    let want : c.from-wanted.result ≡ nat_abs c.args.partition.now.duration = c.from-wanted.ensures ∙ c.unsigned_abs.ensures.value ∙ ap (λ (z : ℤ). nat_abs z) duration in
    let ws = map window_text c.args.windows.now in
    let p = partition_text c.args.partition.now in (
      omega (arith, c.loop-turn.invariant.0, c.from-low.ensures, c.unsigned_abs-period.ensures.bound),
      goes_on (c.args.periods - (c.loop-turn._turn + 1)) c.loop-turn.low p ws c.offered-offered.result c.from-wanted.result c.from-low.result
          (c.offered-offered.ensures ∙ ap (λ (n : ℕ). offered c.args.partition.now.name.now c.loop-turn.low (c.loop-turn.low + n) ws) length) want c.if-offered-wanted.false step
          ∙ ap (λ (n : ℕ). first_short n c.loop-turn.low p ws) (sym (one_left c.args.periods c.loop-turn._turn c.loop-turn-test.true)) ∙ c.loop-turn.invariant.1,
    )
