-- the row of one more error is written
use Rattle.std.proofs.Common.{option_map}
use Rattle.state_rows.specs.States.{error_row}
use Rattle.state_view.proofs.Loops.{more_if}
use Rattle.state_view.proofs.errors.write_errors.Goals as goal

pub loop-place-preserved : goal.loop-place-preserved
loop-place-preserved c =
    more_if c.args.of.now.form (error_row c.args.of.now.name c.args.processes.now) c.args.errors.now.waiting c.loop-place.place (option_map (λ e. e.now) c.waiting_after.result) _ _ _ c.loop-place.invariant c.waiting_after.ensures c.in_ok-write_if_any.ensures
