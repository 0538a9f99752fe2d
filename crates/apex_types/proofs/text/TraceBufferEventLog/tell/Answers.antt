use Rattle.std.proofs.Common.{◌∙◌, ap}
use Rattle.apex_types.specs.Line.{thirteen_digits}
use Rattle.apex_types.specs.Output.{event_of}
use Rattle.apex_types.proofs.Writing.{line_behind}
use Rattle.apex_types.specs.declared.identity.Ticks.{Ticks}
use Rattle.apex_types.proofs.text.TraceBufferEventLog.tell.Goals as goal

pub returns-clause-held : goal.returns-clause-held
returns-clause-held c =
    line_behind (record { tick = c.args.tick; partition = c.args.partition.now; kind = event_of c.args.kind.now c.args.words.now }) c.args.self.now.text c.push_line.new.self c.digits.result.now
    (c.digits.ensures ∙ ap (λ (t : Ticks). thirteen_digits t.0) c.renew.ensures) c.push_line.ensures.items
