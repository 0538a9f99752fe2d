use Rattle.lone_partition.proofs.Prelude.{◌≡◌, ◌+◌, ◌∷◌, ◌∙◌, List, Some, drop, sym, ap, rules, drop_more, takes_all, InputLine, member_of, inputs_of, next_at, sent_of}
use Rattle.lone_partition.proofs.Taken.{inputs_end_down}
use Rattle.lone_partition.proofs.Written.{course_starts_out, runs_on}
use Rattle.lone_partition.proofs.input.take_all.Goals as goal

pub loop-line-init : goal.loop-line-init
loop-line-init g c = record {
  fits = c.requires;
  rest = course_starts_out (takes_all c.args.fault c.args.moment.at (inputs_of c.args.lines.now) (member_of g.E.Executor c.args.partition.now c.args.mem.now)) (sent_of g.S.Sink c.args.output.now);
}

pub loop-line-preserved : goal.loop-line-preserved
loop-line-preserved g c =
    let lines = c.args.lines.now in
    let i = c.loop-line.line-index in
    let line = c.line-item.result in
    let now = member_of g.E.Executor c.loop-line.partition c.loop-line.mem in
    let next = drop_more lines i line c.loop-line-test.true ∙ ap (λ (l : InputLine). l ∷ drop (i + 1) lines) (sym c.line-item.is) in
    let split = ap (λ (ls : List InputLine). takes_all c.args.fault c.loop-line.last.at (inputs_of ls) now) next in
    let ran = c.take.ensures.written in
    let some : c.take.result ≡ Some c.in-Some.next = search rules in
    record {
      fits = search rules;
      rest = runs_on (λ a y. takes_all c.args.fault a (inputs_of (drop (i + 1) lines)) y) c.in-Some.next.at (member_of g.E.Executor c.take.new.partition c.take.new.mem) split (ap next_at (sym some) ∙ ran.at) c.loop-line.invariant.rest ran.made;
    }

pub returns-in-None-clause-written : goal.returns-in-None-clause-written
returns-in-None-clause-written g c =
    inputs_end_down c.args.fault c.loop-line.last.at c.args.lines.now c.loop-line.line-index c.line-item.result (member_of g.E.Executor c.loop-line.partition c.loop-line.mem) c.loop-line.invariant.rest c.loop-line-test.true c.line-item.is c.in-None.ensures.written
