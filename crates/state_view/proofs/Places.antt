-- Runners by their places.
use Rattle.std.proofs.Common.{◌≡◌, ◌≤◌, ℕ, zero, suc, ◌+◌, ◌-◌, ap, sym, ◌∙◌, arith}
use Rattle.apex_types.specs.declared.identity.Runner.TheVariants as runner
use Rattle.kernel_meaning.specs.Processes.{index}
use Rattle.state_rows.specs.Rows.{Count}
use Rattle.state_rows.specs.States.{number_of, runner_at}

-- the processes follow INIT and the handler
pub process_at : (place : ℕ) → 2 ≤ place → runner_at place ≡ runner.Process (index (place - 2))
process_at zero h = absurd (omega (arith, h))
process_at (suc zero) h = absurd (omega (arith, h))
process_at (suc (suc place)) h =
    let same : place ≡ suc (suc place) - 2 = omega arith in
    ap (λ p. runner.Process (index p)) same

pub number_at : (place : ℕ) → 2 ≤ place → number_of (runner_at place) ≡ Count (place - 1)
number_at place h =
    let same : place - 2 + 1 ≡ place - 1 = omega (arith, h) in
    ap number_of (process_at place h) ∙ ap (λ n. Count n) same
