use Rattle.std.proofs.Common.{◌≡◌, ℕ, ◌+◌, ◌-◌, ◌*◌, ◌≤◌, drop}
use Rattle.std.specs.Prelude.{fold}
use Rattle.engine_meaning.specs.Digits.{decimal_value}
use Rattle.text_lines.proofs.number.number_at_most.Given as goal

abbrev pub invariant-loop-digit : goal.invariant-loop-digit
invariant-loop-digit l = (l.value ≤ l.most) × (decimal_value l.digits ≡ fold (λ (n d : ℕ). n * 10 + (d - 48)) l.value (drop l.digit-index l.digits))
