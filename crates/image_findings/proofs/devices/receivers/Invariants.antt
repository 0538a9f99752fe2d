use Rattle.std.proofs.Common.{◌≡◌, ◌++◌, drop, map}
use Rattle.image.specs.Items.{channels_of}
use Rattle.module_base.specs.Views.{rows_in}
use Rattle.image_findings.specs.Views.{receiver_of}
use Rattle.image_findings.specs.Named.{channel_receiver}
use Rattle.image_findings.proofs.devices.receivers.Given as goal

abbrev pub invariant-loop-channel : goal.invariant-loop-channel
invariant-loop-channel l =
    map receiver_of l.receivers.items ++ map (channel_receiver (rows_in l.image)) (channels_of (drop l.channel-index l.channels))
    ≡ map (channel_receiver (rows_in l.image)) (channels_of l.channels)
