use Rattle.std.proofs.Common.{rules, ◌≡◌, ◌∙◌, None, Some, ap, arith}
use Rattle.std.specs.Prelude.{slice_get}
use Rattle.apex_types.specs.Output.{event_of}
use Rattle.apex_types.specs.declared.event.EventKind.{EventKind}
use Rattle.partition.proofs.Places.{some_read, told_more}
use Rattle.partition.proofs.acting.tell.Goals as goal
use Rattle.partition.proofs.acting.tell.Goals.{in-Some, in_default}

pub loop-place-preserved : goal.loop-place-preserved
loop-place-preserved g c = elim c.match-line.branch [
  | in-Some w ↦ (
      let kind : EventKind = event_of w.in-Some.kind.now w.in-Some.words.now in
      let read : Some kind ≡ slice_get c.args.out.now.lines c.loop-place.place = search rules in
      record {
        told = ap g.L.EventLog.held w.log-is ∙ told_more g.L.EventLog c.args.log.now c.loop-place.log w.tell.new.self c.args.name c.args.moment.at c.args.out.now.lines c.loop-place.place kind (search rules) read c.loop-place.invariant.told w.tell.ensures.held;
        room = search rules;
      }
      )
  | in_default w ↦ (
      let none : None ≡ slice_get c.args.out.now.lines c.loop-place.place = search rules in
      absurd (omega (arith, c.loop-place-test.true, c.line_count-place-end.ensures, some_read c.args.out.now.lines c.loop-place.place none))
      )
]
