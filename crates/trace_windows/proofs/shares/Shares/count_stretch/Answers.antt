use Rattle.std.proofs.Common.{◌≡◌, ◌*◌, ℕ, Option, ap, subst, sym, ◌∙◌, arith}
use Rattle.trace_windows.specs.Counts.{HasMore, capped}
use Rattle.trace_windows.specs.Standings.{standing_of}
use Rattle.trace_windows.specs.Uses.{use_at, use_if}
use Rattle.trace_windows.proofs.Stretches.{one_stretch}
use Rattle.trace_windows.proofs.Totals.{total_stretch}
use Rattle.window_table.specs.Schedules.{schedule_of}
use Rattle.trace_windows.proofs.shares.Shares.count_stretch.Goals as goal

pub returns-clause-counted : goal.returns-clause-counted
returns-clause-counted c =
    let s = standing_of c.args.self.now in
    let schedule = schedule_of c.args.self.now.schedule in
    let ticks = c.min-ticks.result in
    let old = c.args.self.now.counted.rows.items in
    let new = c.add.new.self.rows.items in
    let used = c.used_at-used.result in
    let times : c.saturating_mul.result ≡ capped (ticks * c.args.times) = c.saturating_mul.ensures in
    one_stretch (use_at schedule s) used c.args.times c.args.now ticks old new
    (λ i below. ap (λ (o : Option ℕ). use_if s.is_down o s) (c.until_change.ensures.owner i (omega (arith, below, c.min-ticks.ensures))) ∙ sym c.used_at-used.ensures)
    (subst (λ (n : ℕ). HasMore used n old new) times c.in_ok-add.ensures.used)

pub returns-clause-total : goal.returns-clause-total
returns-clause-total c =
    total_stretch c.args.times c.args.now c.min-ticks.result c.saturating_mul.result c.args.self.now.counted.rows.items c.add.new.self.rows.items c.saturating_mul.ensures c.in_ok-add.ensures.total
