use Rattle.module_base.proofs.Prelude.{◌≡◌, map, drop, first_from, same, channel_of, channels_in}
use Rattle.module_base.proofs.devices.message.Given as goal

abbrev pub invariant-loop-place : goal.invariant-loop-place
invariant-loop-place l = first_from 0 (λ c. same c.name l.name) (channels_in l.image) ≡ first_from l.place (λ c. same c.name l.name) (map channel_of (drop l.place l.image.channels.items))
