-- A number of ticks within the limits of a cost.
use Rattle.std.proofs.Common.{◌≡◌, zero, suc, ℤ, pos, negsuc, nat_abs, true, false, Option, Some, refl, sym, ap, ◌∙◌, arith}
use Rattle.std.proofs.lemmas.Bool.{false≢true}
use Rattle.std.proofs.lemmas.Bool.Decides.{nat_tests}
use Rattle.std.specs.Prelude.{unwrap_or}
use Rattle.apex_types.specs.Costs.{cost_of_ticks, is_cost, ticks}
use Rattle.apex_types.specs.declared.cost.TickCost.{TickCost}
use Rattle.apex_types.proofs.TickCosts.{is_of_ticks}
use Rattle.module_meaning.specs.TableRules.{cost_row, is_outside_cost}

within : (z : ℤ) → is_outside_cost z ≡ false → is_cost (nat_abs z) ≡ true
unfolding is_outside_cost
within (pos zero) inside = absurd (false≢true (sym inside))
within (pos (suc n)) inside = grind (arith, nat_tests)
within (negsuc n) inside = absurd (false≢true (sym inside))

-- the cost of a number that is not outside
pub is_cost_row : (z : ℤ) → is_outside_cost z ≡ false → cost_of_ticks (nat_abs z) ≡ Some (cost_row z)
unfolding cost_row
is_cost_row z inside =
    let is = is_of_ticks (nat_abs z) (within z inside) in
    sym is ∙ ap (λ (o : Option TickCost). Some (unwrap_or o (ticks 1 refl))) is
