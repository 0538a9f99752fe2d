use Rattle.module.proofs.Prelude.{◌≡◌, ◌≤◌, Some, length, rules, option_map, place_of_number, members_in}
use Rattle.module.proofs.Edges.{nobody_there}
use Rattle.module.proofs.Members.{no_member}
use Rattle.module.proofs.member.Members.place_of.Goals as goal

pub returns-else-place-len-clause-none : goal.returns-else-place-len-clause-none
returns-else-place-len-clause-none g c = λ none.
    let e = g.E.Executor in
    let ps = c.args.self.now.partitions.items in
    let number = c.in_ok-owner.field-0 in
    let place = c.from-place.result in
    let owner : option_map (λ p. p.0) c.args.owner ≡ Some number.0 = search rules in
    let numbered : place_of_number number.0 ≡ Some place = search rules in
    let behind : length ps ≤ place = search rules in
    nobody_there (members_in e c.args.self.now) number.0 place _ owner numbered (no_member e ps c.args.self.now.memory place behind)
