-- the rows of one more runner are written
use Rattle.std.proofs.lemmas.Option.{slice_get_read}
use Rattle.state_rows.specs.States.{process_rows}
use Rattle.state_view.proofs.Loops.{more}
use Rattle.state_view.proofs.processes.write_processes.Goals as goal
use Rattle.std.proofs.Common.{refl}

pub loop-place-preserved : goal.loop-place-preserved
loop-place-preserved c =
    let rows = c.rows-rows.result.now in
    let there = slice_get_read rows _ c.loop-place.place c.index-rows-place.result refl c.loop-place-test.true c.index-rows-place.is in
    more c.args.of.now.form (process_rows c.args.of.now.name c.args.processes.now) rows c.loop-place.place c.index-rows-place.result _ _ _ c.loop-place.invariant there c.in_ok-write_with_wait.ensures
