use Rattle.module.proofs.Prelude.{◌≡◌, ◌<◌, length, Some, arith, rules, slice_get-get_or, sent_of, ticks_by}
use Rattle.std.proofs.Common.{slice_get}
use Rattle.module.proofs.Members.{few_set, fit_at, fit_set, made_at, same_length}
use Rattle.module.proofs.member.Members.advance_at.Goals as goal

pub lend-mem-requires : goal.lend-mem-requires
lend-mem-requires g c =
    let ps = c.args.self.now.partitions.items in
    let memory = c.args.self.now.memory in
    let same : length ps ≡ length memory = same_length g.E.Executor ps memory c.args.self.now.fit in
    let within : c.args.place < length ps = search rules in
    rw c.number_at.ensures.number (omega arith, omega arith)

pub write_piece-requires-clause-fits : goal.write_piece-requires-clause-fits
write_piece-requires-clause-fits g c =
    let e = g.E.Executor in
    let ps = c.args.self.now.partitions.items in
    let memory = c.args.self.now.memory in
    let place = c.args.place in
    let p = c.index_mut.result.now in
    let s = c.lend-mem.result.now in
    let here : slice_get ps place ≡ Some p = search (rules, slice_get-get_or) in
    fit_at e ps memory place p s c.args.self.now.fit here (rw c.number_at.ensures.place at c.lend-mem.ensures.lent)

pub invariant_of-self : goal.invariant_of-self
invariant_of-self g c = rw c.number_at.ensures.place (record { few = few_set c.args.self.now.partitions.items c.args.place c.write_piece.new.partition c.args.self.now.few; fit = fit_set g.E.Executor c.args.self.now.partitions.items c.args.self.now.memory c.args.place c.write_piece.new.partition c.write_piece.new.mem c.args.self.now.fit c.write_piece.ensures.fits })

pub returns-clause-written : goal.returns-clause-written
returns-clause-written g c =
    let ps = c.args.self.now.partitions.items in
    let p = c.index_mut.result.now in
    let here : slice_get ps c.args.place ≡ Some p = search (rules, slice_get-get_or) in
    rw c.number_at.ensures.place
    (made_at g.E.Executor ps c.args.self.now.memory c.args.place p c.write_piece.new.partition c.lend-mem.result.now c.write_piece.new.mem (ticks_by c.write_piece.result c.args.moment.at) (sent_of g.S.Sink c.args.output.now) (sent_of g.S.Sink c.write_piece.new.output) here (rw c.number_at.ensures.place at c.lend-mem.ensures.lent) c.write_piece.ensures.written)
