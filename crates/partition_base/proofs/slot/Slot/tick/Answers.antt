use Rattle.std.proofs.Common.{◌≡◌, length, ap, sym, ◌∙◌}
use Rattle.std.specs.Prelude.{ℤ, List, Option, Some, None}
use Rattle.engine_meaning.specs.Engine.{Asks, Nothing, Ticked}
use Rattle.machine_laws.proofs.StackLength.{tick_keeps_stack, tick_keeps_words}
use Rattle.machine_meaning.specs.MachineControl.{MachineControl, machine_engine, machine_tick}
use Rattle.kernel_meaning.specs.Partition.{ticked}
use Rattle.processor.specs.Views.{asks_of, control_of}
use Rattle.regions.specs.Space.{Space}
use Rattle.partition_base.specs.Slots.{control_of_slot, control_on, control_while}
use Rattle.partition_base.proofs.slot.Slot.tick.Goals as goal

abbrev shows : Option MachineControl → List ℤ → Asks → Ticked (Option MachineControl)
shows control words asks = record { control = control; words = words; asks = asks }

pub returns-then-not-self-clause-ticked : goal.returns-then-not-self-clause-ticked
returns-then-not-self-clause-ticked c bodies =
    let slot = c.args.self.now in
    let memory = c.args.memory.now in
    let e = machine_engine c.args.code.now.costs c.args.code.now.instructions.items c.args.code.now.routines.items bodies in
    let none : control_of_slot slot memory.stack ≡ None = ap (λ b. control_while b (control_on slot.context memory.stack)) c.if-not-self.true in
    ap (λ o. shows o memory.words Nothing) none ∙ ap (λ o. ticked e o memory.words) (sym none)

pub returns-clause-ticked : goal.returns-clause-ticked
returns-clause-ticked c bodies =
    let slot = c.args.self.now in
    let memory = c.args.memory.now in
    let code = c.args.code.now in
    let now = c.step.new in
    let asks = asks_of c.step.result in
    let e = machine_engine code.costs code.instructions.items code.routines.items bodies in
    let t = machine_tick code.costs code.instructions.items code.routines.items (control_of slot.context memory) memory.words in
    ap (λ b. shows (control_while b (control_on now.context now.memory.stack)) now.memory.words asks) c.if-not-self.false
    ∙ ap (λ m. shows (Some m) now.memory.words asks) c.step.ensures.control
    ∙ ap (λ (s : Space). shows (Some t.control) s.words asks) c.step.ensures.memory
    ∙ ap (shows (Some t.control) t.words) c.step.ensures.asks
    ∙ ap (λ b. ticked e (control_while b (control_on slot.context memory.stack)) memory.words) (sym c.if-not-self.false)

pub returns-clause-stack : goal.returns-clause-stack
returns-clause-stack c =
    let code = c.args.code.now in
    let memory = c.args.memory.now in
    ap (λ (m : MachineControl). length m.stack) c.step.ensures.control ∙ tick_keeps_stack code.costs code.instructions.items code.routines.items (control_of c.args.self.now.context memory) memory.words

pub returns-clause-length : goal.returns-clause-length
returns-clause-length c =
    let code = c.args.code.now in
    let memory = c.args.memory.now in
    ap (λ (s : Space). length s.words) c.step.ensures.memory ∙ tick_keeps_words code.costs code.instructions.items code.routines.items (control_of c.args.self.now.context memory) memory.words
