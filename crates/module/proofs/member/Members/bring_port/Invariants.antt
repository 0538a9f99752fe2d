use Rattle.module.proofs.Prelude.{drop, at_number, channel_from, ports_from, channels_of, held_found, members_in}
use Rattle.module.proofs.Collecting.{IsPartly, held_messages, messages_bring}
use Rattle.module.proofs.member.Members.bring_port.Given as goal

abbrev pub invariant-loop-before : goal.invariant-loop-before
invariant-loop-before g l =
    let port = at_number (ports_from (members_in g.E.Executor l.self) l.from.0) l.port.0 in
    IsPartly l.now.0 (held_found (channels_of l.channels) l.watched.0 l.from l.port.0 port) (messages_bring l.watched.0 (channel_from (channels_of l.channels) l.from l.port) (drop l.before (held_messages port))) l.fn.inputs.lines.items l.inputs.lines.items
