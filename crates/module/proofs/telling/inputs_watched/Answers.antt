use Rattle.module.proofs.Prelude.{rules, ◌≡◌, ◌≤◌, ◌^◌, ℕ, Some, MOST_TICKS, Item, image_at, image_of, numbered}
use Rattle.std.proofs.Common.{option_map}
use Rattle.module.proofs.Told.{told}
use Rattle.module.proofs.telling.inputs_watched.Goals as goal

pub returns-clause-text : goal.returns-clause-text
returns-clause-text g c =
    let loaded = image_of c.in_ok-image.image in
    let name = c.args.wanted.partition.now in
    let few : c.args.wanted.ticks ≤ MOST_TICKS = search rules in
    let number : Some c.in-Some.number.0 ≡ option_map (λ (f : ℕ × Item). f.0) (numbered loaded name) = search rules in
    told (image_at c.args.image.now) loaded name c.args.wanted.devices.now c.args.wanted.ticks c.in-Some.number.0 _ _ c.tell_numbered.result c.in_ok-image.ensures few number c.tell_numbered.ensures.told
