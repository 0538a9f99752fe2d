use Rattle.std.proofs.Common.{◌≡◌, ◌∙◌, ◌+◌, ◌&&◌, [], map, drop, ap, is_ok}
use Rattle.std.specs.Option.{unwrap_or}
use Rattle.apex_types.specs.declared.denotation.Denotation.TheVariants.{Object}
use Rattle.apex_types.specs.declared.denotation.ObjectKind.TheVariants as object
use Rattle.pal_meaning.specs.Resolve.{Entry, process_entries}
use Rattle.pal_base.specs.View.{texts, process_of}
use Rattle.pal.specs.Tables.{entries_of}
use Rattle.pal.proofs.Tables.{fresh_step, list_step, process_left, and_unit}
use Rattle.pal.proofs.meanings.enter_processes.Goals as goal

pub loop-process-preserved : goal.loop-process-preserved
loop-process-preserved c =
    let names = texts c.args.names.now.keys in
    let ps = c.args.processes.now in
    let i = c.loop-process.process-index in
    let first = entries_of c.args.table.now in
    let now = entries_of c.loop-process.table in
    let next = entries_of c.enter.new.self in
    let left = process_entries c.loop-process.count (map (process_of names) (drop i ps)) in
    let later = process_entries c.unwrap_or-count.result (map (process_of names) (drop (i + 1) ps)) in
    let all = process_entries 0 (map (process_of names) ps) in
    let e : Entry = record { name = c.text_of-text.result.now; meaning = Object object.Process c.next-number.result } in
    let split = process_left names [] ps i c.process-item.result
    c.loop-process.count c.unwrap_or-count.result c.next-number.result c.text_of-text.result.now
    c.loop-process-test.true c.process-item.is c.text_of-text.ensures c.next-number.ensures
    (c.unwrap_or-count.ensures ∙ ap (λ o. unwrap_or o c.loop-process.count) c.counted.ensures) in
    let f = is_ok c.loop-process.checked in
    let g = is_ok c.earliest-checked.result in
    let new = c.in_ok-is_new.is_new in
    let flag : g ≡ (f && new) = c.earliest-checked.ensures ∙ ap (λ b. f && b) c.check_that.ensures in (
      fresh_step [] first now next left later all e new f g split (flag ∙ and_unit f new) c.in_ok-is_new.ensures.fresh c.loop-process.invariant.0,
      list_step first now next left later all e new f g split flag c.in_ok-is_new.ensures.behind c.loop-process.invariant.1,
    )
