use Rattle.module.proofs.Prelude.{◌≡◌, ◌∙◌, ◌≤◌, length, Option, Some, ap, sym, rules, slice_get-get_or, slice_get, option_map, Member}
use Rattle.module.proofs.Members.{kernel_there, no_member}
use Rattle.module.proofs.member.Members.kernel_at.Goals as goal

pub returns-then-place-len : goal.returns-then-place-len
returns-then-place-len g c =
    let e = g.E.Executor in
    let ps = c.args.self.now.partitions.items in
    let behind : length ps ≤ c.args.place = search rules in
    sym (ap (λ (o : Option (Member e.Control)). option_map (λ (x : Member e.Control). x.world.kernel) o) (no_member e ps c.args.self.now.memory c.args.place behind))

pub returns : goal.returns
returns g c =
    let ps = c.args.self.now.partitions.items in
    let here : slice_get ps c.args.place ≡ Some c.index.result.now = search (rules, slice_get-get_or) in
    ap Some c.kernel.ensures ∙ kernel_there g.E.Executor ps c.args.self.now.memory c.args.place c.index.result.now c.args.self.now.fit here
