-- Operators with their operands, one by one, as the definitions see them.
use Rattle.std.specs.Prelude.{ℕ, List}
use Rattle.apex_types.specs.declared.instruction.BinaryOperator.{BinaryOperator}
use Rattle.pal_meaning.specs.Syntax as tree
use Rattle.pal_base.specs.declared.syntax.Link.{Link}
use Rattle.pal_base.specs.View.{expr_of}

abbrev pub pair_of : List (List ℕ) → Link → BinaryOperator × tree.Expr
pair_of names l = (l.operator, expr_of names l.operand)
