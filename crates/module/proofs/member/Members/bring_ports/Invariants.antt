use Rattle.module.proofs.Prelude.{◌+◌, drop, ports_from, channels_of, held_ports, members_in}
use Rattle.module.proofs.Collecting.{IsPartly}
use Rattle.module.proofs.member.Members.bring_ports.Given as goal

abbrev pub invariant-loop-place : goal.invariant-loop-place
invariant-loop-place g l =
    let ports = ports_from (members_in g.E.Executor l.self) l.from.0 in
    IsPartly l.now.0 (held_ports (channels_of l.channels) l.watched.0 l.from 1 ports) (held_ports (channels_of l.channels) l.watched.0 l.from (l.place + 1) (drop l.place ports)) l.fn.inputs.lines.items l.inputs.lines.items
