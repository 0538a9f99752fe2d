use Rattle.std.proofs.Common.{rules, ◌≡◌, ◌++◌, Some, drop, length, refl, subst, sym, take}
use Rattle.std.specs.Prelude.{slice_get, slice_set}
use Rattle.apex_types.specs.Line.{subject_text}
use Rattle.trace_view.specs.Processes.{AllRead, HasRead, process_behind}
use Rattle.trace_view.specs.declared.processes.ProcessRow.{ProcessRow}
use Rattle.trace_view.proofs.Alike.{found_at}
use Rattle.trace_view.proofs.Known.{read_more, read_through, written_back}
use Rattle.trace_view.proofs.processes.read_all.Goals as goal

pub loop-row-preserved : goal.loop-row-preserved
loop-row-preserved c =
    let e = c.args.event.now in
    let items = c.loop-row.row-items in
    let i = c.loop-row.row-index in
    let there : slice_get items i ≡ Some c.row-item.result = found_at items items i c.row-item.result refl (search rules) c.row-item.is in
    let kept : length (slice_set items i c.read.new.self) ≡ length c.args.rows.now.items = search rules in (
      kept,
      read_more c.args.window e i c.args.rows.now.items items c.row-item.result c.read.new.self there
          (subst (λ (x : ProcessRow). HasRead (process_behind c.args.window e x.partition (subject_text x.who)) x c.read.new.self) (sym c.row-item.is) c.in_ok-read.ensures) c.loop-row.invariant.1,
    )

pub returns : goal.returns
returns c =
    let old = c.args.rows.now in
    let items = c.loop-row.row-items in
    let whole : take old.len (items ++ drop (length items) old.items) ≡ items = written_back items (drop (length items) old.items) old.len (search rules) in
    subst (AllRead c.args.window c.args.event.now old.items) (sym whole)
    (read_through c.args.window c.args.event.now c.loop-row.row-index old.items items (search rules) c.loop-row.invariant.1)
