use Rattle.module.proofs.Prelude.{◌≡◌, ◌≤◌, ◌<◌, length, Option, Some, None, sym, arith, rules, slice_get-get_or, Member, sent_of, steps_member, members_of, IsMade}
use Rattle.std.proofs.Common.{slice_get, subst}
use Rattle.lone_partition.specs.Steps.{step_of}
use Rattle.module.proofs.Members.{few_set, fit_at, fit_set, made_at, no_member, same_length}
use Rattle.lone_partition.proofs.Written.{still_made}
use Rattle.module.proofs.member.Members.step_at.Goals as goal

pub lend-mem-requires : goal.lend-mem-requires
lend-mem-requires g c =
    let ps = c.args.self.now.partitions.items in
    let memory = c.args.self.now.memory in
    let same : length ps ≡ length memory = same_length g.E.Executor ps memory c.args.self.now.fit in
    let within : c.args.place < length ps = search rules in
    rw c.number_at.ensures.number (omega arith, omega arith)

pub write_step-requires : goal.write_step-requires
write_step-requires g c =
    let e = g.E.Executor in
    let ps = c.args.self.now.partitions.items in
    let memory = c.args.self.now.memory in
    let place = c.args.place in
    let p = c.index_mut.result.now in
    let s = c.lend-mem.result.now in
    let here : slice_get ps place ≡ Some p = search (rules, slice_get-get_or) in
    fit_at e ps memory place p s c.args.self.now.fit here (rw c.number_at.ensures.place at c.lend-mem.ensures.lent)

pub invariant_of-self-2 : goal.invariant_of-self-2
invariant_of-self-2 g c = rw c.number_at.ensures.place (record { few = few_set c.args.self.now.partitions.items c.args.place c.write_step.new.partition c.args.self.now.few; fit = fit_set g.E.Executor c.args.self.now.partitions.items c.args.self.now.memory c.args.place c.write_step.new.partition c.write_step.new.mem c.args.self.now.fit c.write_step.ensures.fits })

pub returns-clause-written : goal.returns-clause-written
returns-clause-written g c =
    let ps = c.args.self.now.partitions.items in
    let p = c.index_mut.result.now in
    let here : slice_get ps c.args.place ≡ Some p = search (rules, slice_get-get_or) in
    rw c.number_at.ensures.place
    (made_at g.E.Executor ps c.args.self.now.memory c.args.place p c.write_step.new.partition c.lend-mem.result.now c.write_step.new.mem (step_of c.args.moment.at c.args.step.now) (sent_of g.S.Sink c.args.output.now) (sent_of g.S.Sink c.write_step.new.output) here (rw c.number_at.ensures.place at c.lend-mem.ensures.lent) c.write_step.ensures.written)

pub returns-then-place-len-clause-written : goal.returns-then-place-len-clause-written
returns-then-place-len-clause-written g c =
    let e = g.E.Executor in
    let ps = c.args.self.now.partitions.items in
    let memory = c.args.self.now.memory in
    let place = c.args.place in
    let members = members_of e ps memory in
    let behind : length ps ≤ place = search rules in
    let none : slice_get members place ≡ None = no_member e ps memory place behind in
    let sent = sent_of g.S.Sink c.args.output.now in
    subst (λ (o : Option (Member e.Control)). IsMade (steps_member (step_of c.args.moment.at c.args.step.now) members place o) members sent sent) (sym none) (still_made members sent)
