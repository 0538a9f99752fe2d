-- A program of a text on which the verdict is good is accepted.
use Rattle.std.proofs.Common.{◌≡◌, ℕ, List, Ok}
use Rattle.std.proofs.Math.Logic.{∥∥₁_map}
use Rattle.apex_types.specs.declared.row.PortRow.{PortRow}
use Rattle.pal_meaning.specs.Program as program
use Rattle.pal_meaning.specs.Syntax as written
use Rattle.pal_meaning.specs.WellFormed.{verdict}
use Rattle.pal_base.specs.Accepted.{HasText, IsAccepted}

pub accepted_from : (ports : List PortRow) (period : ℕ) (tree : written.Program) (p : program.Program) → ∥ HasText tree ∥₁ → verdict ports period tree ≡ Ok p → ∥ IsAccepted p ∥₁
accepted_from ports period tree p text judged = ∥∥₁_map text one
  where
    one : HasText tree → IsAccepted p
    one h = record { ports = ports; period = period; text = h.0; tree = tree; written = h.1; judged = judged }
