use Rattle.std.proofs.Common.{◌≡◌, ◌<◌, ◌+◌, ◌-◌, ℕ, Bool, ◌∙◌, sym, subst, arith}
use Rattle.std.specs.Prelude.{option_map}
use Rattle.apex_types.specs.declared.identity.PartitionId.{PartitionId}
use Rattle.kernel_meaning.specs.Windows.{owner, tick_from}
use Rattle.trace_windows.specs.Frames.{owner_if}
use Rattle.window_table.specs.Schedules.{schedule_of}
use Rattle.trace_windows.proofs.windows.Windows.stretch.Goals as goal

-- the owner of the first tick is that of all of them
pub returns-clause-owner : goal.returns-clause-owner
returns-clause-owner c = λ t low high.
    let origin = c.args.self.now.origin.0 in
    let s = schedule_of c.args.self.now.schedule in
    let from = c.args.from.0 in
    let here : from + (t - from) ≡ t = omega (arith, low) in
    let below : t - from < c.until_change.result = omega (arith, low, high, c.min-ticks.ensures) in
    let same : owner s (tick_from origin t) ≡ owner s (tick_from origin from) =
    subst (λ (n : ℕ). owner s (tick_from origin n) ≡ owner s (tick_from origin from)) here (c.until_change.ensures.owner (t - from) below) in
    subst (λ (b : Bool). owner_if b (owner s (tick_from origin t)) ≡ option_map (λ (p : PartitionId). p.0) c.owner.result) (sym c.if-self.false) (same ∙ sym c.owner.ensures)
