use Rattle.std.proofs.Common.{◌≤◌, length, sym, rules}
use Rattle.std.specs.Prelude.{None}
use Rattle.partition_base.proofs.Places.{stopped, same_behind, views}
use Rattle.partition_base.proofs.slot.stop_at.Goals as goal

pub returns-in-Some : goal.returns-in-Some
returns-in-Some c stacks = stopped c.args.slots.now.items stacks c.args.place c.stop.new.self c.stop.ensures

pub returns-in_default : goal.returns-in_default
returns-in_default c stacks =
    let behind : length c.args.slots.now.items ≤ c.args.place = search (rules, views) in
    sym (same_behind c.args.slots.now.items stacks c.args.place None behind)
