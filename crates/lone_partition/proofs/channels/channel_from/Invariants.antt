use Rattle.lone_partition.proofs.Prelude.{◌≡◌, drop, channels_of}
use Rattle.module_meaning.specs.Module.{channel_from}
use Rattle.lone_partition.proofs.channels.channel_from.Given as goal

abbrev pub invariant-loop-channel : goal.invariant-loop-channel
invariant-loop-channel l = channel_from (channels_of l.channels) l.partition l.port ≡ channel_from (channels_of (drop l.channel-index l.channels)) l.partition l.port
