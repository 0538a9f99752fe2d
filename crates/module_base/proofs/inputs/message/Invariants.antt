use Rattle.module_base.proofs.Prelude.{◌≡◌, ◌+◌, drop, first_from, same}
use Rattle.module_base.proofs.inputs.message.Given as goal

abbrev pub invariant-loop-place : goal.invariant-loop-place
invariant-loop-place l = first_from 1 (λ x. same x.name l.name) l.ports ≡ first_from (l.place + 1) (λ x. same x.name l.name) (drop l.place l.ports)
