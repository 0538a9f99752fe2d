use Rattle.std.proofs.Common.{◌≡◌, true, ◌∙◌, sym}
use Rattle.machine_meaning.specs.ImageReading.{is_partition}
use Rattle.image.specs.Items.{items_of}
use Rattle.image.proofs.Names.{partition_names, used}
use Rattle.image.proofs.reading.partitions.partition_name_at.Goals as goal

pub returns-in-Ok : goal.returns-in-Ok
returns-in-Ok c =
    let e = partition_names c.args.before.now c.in-Ok.name in
    let is_used : is_partition (items_of c.args.before.now) c.in-Ok.name ≡ true = e ∙ sym c.if-is_partition.ensures in
    used (is_partition (items_of c.args.before.now)) c.args.bytes.now (c.in-Ok.name, c.in-Ok.field-0-1.now) c.in-Ok.ensures is_used
