-- The costs in ticks of the constructs of a program and of the instructions of the processor, and
-- the effect of an operator with two operands.
use Rattle.std.specs.Prelude.{ℕ, Bool, true, false, ◌&&◌, nat_le, ◌≡◌, refl, List, [], ◌∷◌, Option, Some, None}
use Rattle.apex_types.specs.Limits.{MOST_COST}
use Rattle.apex_types.specs.declared.cost.TickCost.{TickCost}
use Rattle.apex_types.specs.declared.cost.Costs.{Costs}
use Rattle.apex_types.specs.declared.instruction.BinaryOperator.{BinaryOperator}
use Rattle.apex_types.specs.declared.instruction.BinaryOperator.TheVariants.{Add, Subtract, Multiply, Divide, Remainder}

-- how many ticks a construct may cost
abbrev pub is_cost : ℕ → Bool
is_cost n = nat_le 1 n && nat_le n MOST_COST

-- a number of ticks within the limits of a cost
abbrev pub ticks : (n : ℕ) → is_cost n ≡ true → TickCost
ticks n within = record { ticks = n; within = within }

-- the cost of `n` ticks: none outside the limits
abbrev pub cost_if : (n : ℕ) (is : Bool) → is_cost n ≡ is → Option TickCost
cost_if n true within = Some (ticks n within)
cost_if n false outside = None

unfoldable pub cost_of_ticks : ℕ → Option TickCost
cost_of_ticks n = cost_if n (is_cost n) refl

-- the costs in the order of a table's keys
abbrev pub in_order : Costs → List TickCost
in_order c = c.literal ∷ c.scalar ∷ c.array ∷ c.add ∷ c.mul ∷ c.div ∷ c.logic ∷ c.branch ∷ c.jump ∷ c.call ∷ c.ret ∷ c.create ∷ c.message ∷ c.service ∷ c.end ∷ []

-- what is written of Pal, for a module whose table writes no costs
abbrev pub written_costs : Costs
written_costs = record {
  literal = ticks 1 refl;
  scalar = ticks 1 refl;
  array = ticks 2 refl;
  add = ticks 1 refl;
  mul = ticks 2 refl;
  div = ticks 4 refl;
  logic = ticks 1 refl;
  branch = ticks 1 refl;
  jump = ticks 1 refl;
  call = ticks 3 refl;
  ret = ticks 2 refl;
  create = ticks 8 refl;
  message = ticks 6 refl;
  service = ticks 4 refl;
  end = ticks 4 refl;
}

-- the costs that these are in the order of a table's keys, if they are as many
abbrev pub from_order : List TickCost → Option Costs
from_order (literal ∷ scalar ∷ array ∷ add ∷ mul ∷ div ∷ logic ∷ branch ∷ jump ∷ call ∷ ret ∷ create ∷ message ∷ service ∷ end ∷ []) = Some (record { literal = literal; scalar = scalar; array = array; add = add; mul = mul; div = div; logic = logic; branch = branch; jump = jump; call = call; ret = ret; create = create; message = message; service = service; end = end })
from_order _ = None

abbrev pub cost_of_binary : Costs → BinaryOperator → ℕ
cost_of_binary costs Add = costs.add.ticks
cost_of_binary costs Subtract = costs.add.ticks
cost_of_binary costs Multiply = costs.mul.ticks
cost_of_binary costs Divide = costs.div.ticks
cost_of_binary costs Remainder = costs.div.ticks
cost_of_binary costs _ = costs.logic.ticks
