use Rattle.std.proofs.Common.{◌≡◌, ◌++◌, drop, map}
use Rattle.image_findings.specs.Views.{receiver_of}
use Rattle.image_findings.specs.Named.{port_receiver}
use Rattle.image_findings.proofs.inputs.receivers.Given as goal

abbrev pub invariant-loop-port : goal.invariant-loop-port
invariant-loop-port l = map receiver_of l.receivers.items ++ map port_receiver (drop l.port-index l.ports) ≡ map port_receiver l.ports
