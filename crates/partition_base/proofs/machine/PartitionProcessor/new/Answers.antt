use Rattle.std.proofs.Common.{◌≡◌, ◌≤◌, ◌∷◌, length, map, ap, sym, subst, ◌∙◌}
use Rattle.apex_types.specs.declared.limits.TheConstants.{MOST_INSTRUCTIONS}
use Rattle.engine_meaning.specs.Engine.{body_at, or_init}
use Rattle.machine_meaning.specs.Instructions.{reading}
use Rattle.machine_meaning.specs.MachineControl.{machine_engine}
use Rattle.machine_meaning.specs.MachineMeaning.{body_of_row}
use Rattle.partition_base.specs.Sections.{runners_of}
use Rattle.processor.specs.Fitting.{AreFitting}
use Rattle.regions.specs.Space.{zeros}
use Rattle.partition_base.specs.Slots.{stack_of_body}
use Rattle.partition_base.proofs.Places.{fresh_controls, fresh_lengths}
use Rattle.partition_base.proofs.machine.PartitionProcessor.new.Goals as goal

pub invariant_of-rows-clause-small : goal.invariant_of-rows-clause-small
invariant_of-rows-clause-small c = subst (λ bytes. length bytes ≤ MOST_INSTRUCTIONS) (sym c.deref.ensures.value) c.args.fitting.fitting.code

pub invariant_of-rows-clause-fitting : goal.invariant_of-rows-clause-fitting
invariant_of-rows-clause-fitting c = subst AreFitting (sym c.deref-2.ensures.value) c.args.fitting.fitting.routines

pub returns-clause-controls : goal.returns-clause-controls
returns-clause-controls c =
    let s = c.args.fitting.section.now in
    let rows : c.in_ok-processes.processes.items ≡ map body_of_row s.processes.items = c.in_ok-processes.ensures ∙ ap (λ ps. map body_of_row ps) c.deref-3.ensures.value in
    fresh_controls c.in_ok-fresh_slots.field-0.items s.init (or_init s.init s.handler) c.deref-4.result.now s.processes.items c.in_ok-fresh_slots.ensures (c.deref-4.ensures.value ∙ rows)

pub returns-clause-fits : goal.returns-clause-fits
returns-clause-fits c =
    let s = c.args.fitting.section.now in
    let rows : c.in_ok-processes.processes.items ≡ map body_of_row s.processes.items = c.in_ok-processes.ensures ∙ ap (λ ps. map body_of_row ps) c.deref-3.ensures.value in
    let words = sym (ap length (c.in_ok-from_slice.ensures.items ∙ c.deref-5.ensures.value)) in
    ap (λ n. n ∷ map length (map zeros (map stack_of_body (runners_of s)))) words
    ∙ ap (λ ns. length c.in_ok-from_slice.field-0.items ∷ ns) (fresh_lengths (map stack_of_body (runners_of s)) ∙ ap (λ ps. map stack_of_body (s.init ∷ or_init s.init s.handler ∷ ps)) (sym rows))

pub returns-clause-engine : goal.returns-clause-engine
returns-clause-engine c =
    let s = c.args.fitting.section.now in
    let code = c.in_ok-read.field-0 in
    let processes = c.in_ok-processes.processes.items in
    let k = c.args.costs.now in
    let costs : code.costs ≡ k = c.in_ok-read.ensures.costs in
    let instructions : code.instructions.items ≡ map reading s.code.items = c.in_ok-read.ensures.instructions ∙ ap (λ bytes. map reading bytes) c.deref.ensures.value in
    let routines : code.routines.items ≡ s.routines.items = c.in_ok-read.ensures.routines ∙ c.deref-2.ensures.value in
    let rows : processes ≡ map body_of_row s.processes.items = c.in_ok-processes.ensures ∙ ap (λ ps. map body_of_row ps) c.deref-3.ensures.value in
    ap (λ it. machine_engine it code.instructions.items code.routines.items (body_at s.init s.handler processes)) costs
    ∙ ap (λ is. machine_engine k is code.routines.items (body_at s.init s.handler processes)) instructions
    ∙ ap (λ rs. machine_engine k (map reading s.code.items) rs (body_at s.init s.handler processes)) routines
    ∙ ap (λ ps. machine_engine k (map reading s.code.items) s.routines.items (body_at s.init s.handler ps)) rows
