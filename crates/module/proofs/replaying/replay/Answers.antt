use Rattle.module.proofs.Prelude.{rules, ◌≡◌, ◌≤◌, ◌^◌, ℕ, Some, MOST_TICKS, Item, image_at, image_of, numbered, Replays}
use Rattle.std.proofs.Common.{option_map}
use Rattle.module.proofs.Replayed.{replay_isolated, replayed}
use Rattle.module.proofs.replaying.replay.Goals as goal

pub returns-clause-trace : goal.returns-clause-trace
returns-clause-trace g c =
    let loaded = image_of c.in_ok-image.image in
    let name = c.args.partition.now in
    let few : c.args.ticks ≤ MOST_TICKS = search rules in
    let number : Some c.in-Some.number.0 ≡ option_map (λ (f : ℕ × Item). f.0) (numbered loaded name) = search rules in
    replayed (image_at c.args.image.now) loaded name c.args.inputs.now c.args.ticks c.in-Some.number.0 _ _ c.replay_numbered.result c.in_ok-image.ensures few number c.replay_numbered.ensures.trace

pub returns-clause-isolated : goal.returns-clause-isolated
returns-clause-isolated g c =
    let image = c.in_ok-image.image in
    replay_isolated (image_at c.args.image.now) (image_of image) c.args.partition.now c.args.inputs.now c.args.ticks _ _ c.replay_numbered.result image.lawful c.in_ok-image.ensures (returns-clause-trace g c)
