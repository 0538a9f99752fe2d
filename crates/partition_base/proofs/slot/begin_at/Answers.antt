use Rattle.std.proofs.Common.{◌≡◌, [], length, get_or, sym, ◌∙◌, rules}
use Rattle.std.proofs.lemmas.List.{length-replicate}
use Rattle.regions.specs.Space.{seen, stacks_of}
use Rattle.partition_base.proofs.Places.{same_lengths, length_there, views}
use Rattle.partition_base.proofs.slot.begin_at.Goals as goal

pub returns-in-Some-clause-stacks : goal.returns-in-Some-clause-stacks
returns-in-Some-clause-stacks c =
    let old = c.args.memory.now in
    let ks = stacks_of old in
    let p = c.args.place in
    let chosen : c.select.new.self ≡ seen old.words ks p = search rules in
    let there : length (get_or ks p []) ≡ c.args.body.now.stack = length_there ks p c.args.body.now.stack (search (rules, views)) in
    same_lengths old.words c.select.new.self.words ks p _ c.select.new.self c.begin.new.memory chosen c.begin.ensures.memory (length-replicate c.args.body.now.stack _ ∙ sym there)
