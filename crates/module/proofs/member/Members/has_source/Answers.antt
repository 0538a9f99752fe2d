use Rattle.module.proofs.Prelude.{◌≤◌, rules, arith, members_in}
use Rattle.module.proofs.Edges.{no_source}
use Rattle.module.proofs.member.Members.has_source.Goals as goal

pub returns : goal.returns
returns g c = λ none.
    let ms = members_in g.E.Executor c.args.self.now in
    let behind : c.port_count-place-end.result ≤ c.loop-place.place = search rules in
    no_source ms c.args.partition.0 c.loop-place.place (omega (arith, behind, c.port_count-place-end.ensures)) c.loop-place.invariant
