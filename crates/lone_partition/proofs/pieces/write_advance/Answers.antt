use Rattle.lone_partition.proofs.Prelude.{◌≡◌, ℕ, List, ◌++◌, ap, subst, ◌∙◌, text_of, member_of, sent_of, HasSent}
use Rattle.lone_partition.proofs.Ticks.{buffer_made}
use Rattle.lone_partition.proofs.pieces.write_advance.Goals as goal

pub returns-clause-written : goal.returns-clause-written
returns-clause-written g c =
    let old = sent_of g.S.Sink c.args.output.now in
    let new = sent_of g.S.Sink c.write.new.self in
    let told = c.advance-count.ensures.advanced in
    let text : c.advance-count.new.log.text ≡ text_of told.0 = told.1 ∙ ap (λ (t : List ℕ). t ++ text_of told.0) c.clear.ensures in
    buffer_made c.args.moment.at c.args.most c.advance-count.result (member_of g.E.Executor c.args.partition.now c.args.mem.now) (member_of g.E.Executor c.advance-count.new.self c.advance-count.new.mem) told.0 old new told.2
    (subst (λ (t : List ℕ). HasSent old new t) text c.write.ensures)
