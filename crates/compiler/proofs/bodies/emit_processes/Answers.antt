use Rattle.std.proofs.Common.{◌≡◌, suc, ◌+◌, ◌∷◌, map, sym, ap, ◌∙◌, drop, drop-cons}
use Rattle.pal_base.specs.ProgramView.{process_of}
use Rattle.compiler.proofs.Emitted.{next_index, process_step}
use Rattle.apex_types.specs.declared.row.ProcessRow.{ProcessRow}
use Rattle.apex_types.specs.declared.row.BodyRow.{BodyRow}
use Rattle.compiler.proofs.bodies.emit_processes.Goals as goal

pub loop-process-preserved : goal.loop-process-preserved
loop-process-preserved c =
    let i = c.loop-process.process-index in
    let xs = c.args.processes.now in
    let item = c.process-item.result in
    let dropped : drop i xs ≡ item ∷ drop (i + 1) xs = drop-cons xs i item c.loop-process-test.true ∙ ap (λ x. x ∷ drop (suc i) xs) (sym c.process-item.is) ∙ ap (λ j. item ∷ drop j xs) (next_index i) in
    let row : BodyRow → ProcessRow = λ b. record { name = item.name; priority = item.priority; period = item.period; capacity = item.capacity; body = b } in
    process_step c.loop-process.code.items c.emit_body.new.code.items _ c.loop-process.rows.items c.push.new.self.items _ (row c.in_ok-emit_body.field-0) (process_of item) (map process_of (drop (i + 1) xs)) (map process_of (drop i xs)) (ap (λ ys. map process_of ys) dropped) c.loop-process.invariant.0 c.loop-process.invariant.1 c.loop-process.invariant.2 c.in_ok-emit_body.ensures.code (ap row c.in_ok-emit_body.ensures.row) c.in_ok-push.ensures.items
