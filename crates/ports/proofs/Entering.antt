-- Senders at a place without a port.
use Rattle.std.proofs.Common.{◌≡◌, ◌≤◌, ℕ, zero, suc, List, [], ◌∷◌, length, None, refl, arith}
use Rattle.std.specs.Prelude.{slice_get}
use Rattle.apex_types.specs.declared.process.Entry.{Entry}
use Rattle.kernel_meaning.specs.PortServices.{admits, all_enter}
use Rattle.kernel_meaning.specs.Objects.{Ports, port_at}
use Rattle.kernel_meaning.specs.Sharing.{Sharing, both}
use Rattle.kernel_meaning.specs.PortServices.{list}
use Rattle.kernel_meaning.specs.Processes.{Processes}
use Rattle.kernel_meaning.specs.Sharing.{waiting}
use Rattle.kernel_meaning.specs.Step.{nothing}

past : {X : Type 0} (xs : List X) (place : ℕ) → length xs ≤ place → slice_get xs place ≡ None
past [] place h = refl
past (x ∷ xs) zero h = absurd (omega arith)
past (x ∷ xs) (suc place) h = past xs place (omega arith)

enter_nowhere : (es : List Entry) (place : ℕ) (b : Sharing Ports) → port_at b.shared place ≡ None → all_enter es place b ≡ nothing b
enter_nowhere [] place b h = refl
enter_nowhere (e ∷ es) place b h = rw h (rw (enter_nowhere es place b h) refl)

-- no process enters
pub nobody_enters : (s : Processes) (o : Ports) (place : ℕ) → length o.ports ≤ place → admits (both s o) place ≡ nothing (both s o)
nobody_enters s o place h = enter_nowhere (waiting s (list place)) place (both s o) (past o.ports place h)

pub ruleset entering = (nobody_enters)
