use Rattle.std.proofs.Common.{◌≡◌, length, ap, sym, ◌∙◌}
use Rattle.std.specs.Prelude.{ℕ, ℤ, List, Option, None}
use Rattle.engine_meaning.specs.Engine.{Asks, Nothing}
use Rattle.machine_meaning.specs.MachineControl.{MachineControl, machine_engine}
use Rattle.kernel_meaning.specs.Partition.{ticked}
use Rattle.kernel_laws.specs.Bursts.{Burst, burst}
use Rattle.processor.specs.Views.{asks_of, control_of}
use Rattle.partition_base.specs.Slots.{control_of_slot, control_on, control_while}
use Rattle.partition_base.proofs.Bursts.{burst_keeps_stack, burst_keeps_words, burst_none, burst_some, some_burst}
use Rattle.partition_base.proofs.slot.Slot.advance.Goals as goal

abbrev with : Option MachineControl → List ℤ → ℕ → Burst (Option MachineControl) (List ℤ) Asks
with control words ticks = record { control = control; words = words; told = Nothing; ticks = ticks }

pub returns-then-not-self-clause-burst : goal.returns-then-not-self-clause-burst
returns-then-not-self-clause-burst c bodies =
    let slot = c.args.self.now in
    let memory = c.args.memory.now in
    let e = machine_engine c.args.code.now.costs c.args.code.now.instructions.items c.args.code.now.routines.items bodies in
    let none : control_of_slot slot memory.stack ≡ None = ap (λ b. control_while b (control_on slot.context memory.stack)) c.if-not-self.true in
    ap (λ o. with o memory.words c.args.k) none ∙ sym (burst_none e c.args.k memory.words) ∙ ap (λ o. burst (ticked e) c.args.k o memory.words) (sym none)

pub returns-clause-burst : goal.returns-clause-burst
returns-clause-burst c bodies =
    let slot = c.args.self.now in
    let memory = c.args.memory.now in
    let now = c.advance.new in
    let e = machine_engine c.args.code.now.costs c.args.code.now.instructions.items c.args.code.now.routines.items bodies in
    let shows : Option MachineControl → Burst (Option MachineControl) (List ℤ) Asks = λ o. record { control = o; words = now.memory.words; told = asks_of c.advance.result.outcome; ticks = c.advance.result.ticks } in
    ap (λ b. shows (control_while b (control_on now.context now.memory.stack))) c.if-not-self.false
    ∙ ap some_burst c.advance.ensures.burst
    ∙ sym (burst_some e c.args.k (control_of slot.context memory) memory.words)
    ∙ ap (λ b. burst (ticked e) c.args.k (control_while b (control_on slot.context memory.stack)) memory.words) (sym c.if-not-self.false)

pub returns-clause-stack : goal.returns-clause-stack
returns-clause-stack c =
    let code = c.args.code.now in
    let memory = c.args.memory.now in
    ap (λ (b : Burst MachineControl (List ℤ) Asks). length b.control.stack) c.advance.ensures.burst ∙ burst_keeps_stack code.costs code.instructions.items code.routines.items c.args.k (control_of c.args.self.now.context memory) memory.words

pub returns-clause-length : goal.returns-clause-length
returns-clause-length c =
    let code = c.args.code.now in
    let memory = c.args.memory.now in
    ap (λ (b : Burst MachineControl (List ℤ) Asks). length b.words) c.advance.ensures.burst ∙ burst_keeps_words code.costs code.instructions.items code.routines.items c.args.k (control_of c.args.self.now.context memory) memory.words
