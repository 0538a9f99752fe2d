-- The properties of an accepted program.
use Rattle.std.proofs.Common.{◌≡◌, ℕ, ◌≤◌, min, arith}
use Rattle.std.proofs.Math.Logic.{∥∥₁_elim}
use Rattle.std.specs.Coded.{le_prop}
use Rattle.apex_types.specs.declared.limits.TheConstants.{MOST_INSTRUCTIONS}
use Rattle.pal_meaning.specs.Program.{size_of}
use Rattle.compiling_laws.specs.Fits.{Fits}
use Rattle.compiling_laws.proofs.FitsFact.{fits_prop}
use Rattle.compiling_laws.proofs.ProgramCosts.{accepted_size}
use Rattle.compiling_laws.proofs.WellFormedFits.{well_formed_fits}
use Rattle.pal_base.specs.Accepted.{IsAccepted}
use Rattle.pal_base.specs.ProgramView.{program_of}
use Rattle.pal_base.specs.declared.program.Program.{Program}

-- an accepted program fits the compiler, if its code is not too long
pub accepted_fits : (p : Program) → ∥ IsAccepted (program_of p) ∥₁ → size_of (program_of p) ≤ MOST_INSTRUCTIONS → Fits (program_of p)
accepted_fits p a small = ∥∥₁_elim a (fits_prop (program_of p)) (λ h. well_formed_fits h.ports h.period h.tree (program_of p) h.judged small)

-- its size has 32 bits
pub accepted_few : (p : Program) → ∥ IsAccepted (program_of p) ∥₁ → size_of (program_of p) ≤ 2_097_152
accepted_few p a = ∥∥₁_elim a le_prop (λ h. omega (arith, accepted_size h.ports h.period h.text h.tree (program_of p) h.written.1 h.judged, h.written.0.1))

pub counted_all : (p : Program) (n : ℕ) → ∥ IsAccepted (program_of p) ∥₁ → n ≡ min (size_of (program_of p)) 4294967295 → n ≡ size_of (program_of p)
counted_all p n a is = let few = accepted_few p a in omega arith
