-- A partition in which nothing happens.
use Rattle.std.proofs.Common.{◌≡◌, ℕ, ◌+◌, ◌-◌, ◌<◌, List, [], ◌∷◌, length, None, refl, ap, arith, subst}
use Rattle.apex_types.specs.declared.identity.PortId.{PortId}
use Rattle.apex_types.specs.declared.process.Entry.{Entry}
use Rattle.kernel_meaning.specs.PortServices as arrival
use Rattle.kernel_meaning.specs.Kernel.{Kernel, with_ports}
use Rattle.kernel_meaning.specs.Partition.{chooses_with_handler}
use Rattle.kernel_meaning.specs.PortServices.{list}
use Rattle.kernel_meaning.specs.Step.{nothing}
use Rattle.kernel_meaning.specs.Sharing.{waiting, waiting_count}
use Rattle.kernel_meaning.specs.Windows.{tick_from}
use Rattle.kernel_laws.specs.Quiet.{IsAtRest, IsStill, HasNothingDue}

empty : {A : Type 0} (xs : List A) → length xs ≡ 0 → xs ≡ []
empty [] h = refl
empty (x ∷ xs) h = absurd (omega (arith, h))

-- no process waits, so no process enters
pub nobody_enters : (k : Kernel) (place : ℕ) → waiting_count k.processes (list place) ≡ 0 → arrival.admits (with_ports k) place ≡ nothing (with_ports k)
nobody_enters k place h = ap (λ (es : List Entry). arrival.all_enter es place (with_ports k)) (empty (waiting k.processes (list place)) h)

-- nothing runs, the ports are at rest, and nothing is due for n ticks
pub is_still : (k : Kernel) (origin now n : ℕ) → k.processes.running ≡ None → ((port : PortId) → IsAtRest k port) → chooses_with_handler k ≡ nothing k
    → ((i : ℕ) → i < n → HasNothingDue (tick_from origin (now + i)) k) → IsStill origin now (now + n) k
is_still k origin now n nobody ports chosen due = record {
  idle = record { nobody = nobody; chosen = chosen };
  due = λ t from below. let there : now + (t - now) ≡ t = omega (arith, from) in subst (λ u. HasNothingDue (tick_from origin u) k) there (due (t - now) (omega (arith, from, below)));
  ports = ports;
}
