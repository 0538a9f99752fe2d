use Rattle.std.proofs.Common.{◌≡◌, suc, ◌+◌, ◌∷◌, map, sym, ap, ◌∙◌, drop, drop-cons}
use Rattle.pal_base.specs.ProgramView.{procedure_of}
use Rattle.compiler.proofs.Emitted.{next_index, procedure_step}
use Rattle.compiler.proofs.bodies.emit_procedures.Goals as goal

pub loop-procedure-preserved : goal.loop-procedure-preserved
loop-procedure-preserved c =
    let i = c.loop-procedure.procedure-index in
    let xs = c.args.procedures.now in
    let dropped : drop i xs ≡ c.procedure-item.result ∷ drop (i + 1) xs = drop-cons xs i c.procedure-item.result c.loop-procedure-test.true ∙ ap (λ x. x ∷ drop (suc i) xs) (sym c.procedure-item.is) ∙ ap (λ j. c.procedure-item.result ∷ drop j xs) (next_index i) in
    procedure_step c.loop-procedure.code.items c.emit_procedure.new.code.items _ c.loop-procedure.rows.items c.push.new.self.items _ c.in_ok-emit_procedure.field-0 (procedure_of c.procedure-item.result) (map procedure_of (drop (i + 1) xs)) (map procedure_of (drop i xs)) (ap (λ ys. map procedure_of ys) dropped) c.loop-procedure.invariant.0 c.loop-procedure.invariant.1 c.loop-procedure.invariant.2 c.in_ok-emit_procedure.ensures.code c.in_ok-emit_procedure.ensures.row c.in_ok-push.ensures.items
