use Rattle.std.proofs.Common.{◌≡◌, true, ◌∙◌, sym}
use Rattle.machine_meaning.specs.ImageReading.{is_channel}
use Rattle.image.specs.Items.{channels_of}
use Rattle.image.proofs.Names.{channel_names, used}
use Rattle.image.proofs.reading.channels.channel_name_at.Goals as goal

pub returns-in-Ok : goal.returns-in-Ok
returns-in-Ok c =
    let e = channel_names c.args.before.now c.in-Ok.name in
    let is_used : is_channel (channels_of c.args.before.now) c.in-Ok.name ≡ true = e ∙ sym c.if-is_channel.ensures in
    used (is_channel (channels_of c.args.before.now)) c.args.bytes.now (c.in-Ok.name, c.in-Ok.field-0-1.now) c.in-Ok.ensures is_used
