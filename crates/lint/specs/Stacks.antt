-- Stacks that are too small for the calls of their bodies.
use Rattle.std.specs.Prelude.{ℕ, ◌+◌, nat_lt, max, min, List, [], ◌∷◌, ◌++◌, Option, Some, None, codes, flat_map, slice_get}
use Rattle.apex_types.specs.ServiceShape.{answer_words}
use Rattle.pal_meaning.specs.Program as tree
use Rattle.pal_base.specs.ProgramView.{body_of, procedure_of}
use Rattle.pal_base.specs.declared.program.Body.{Body}
use Rattle.pal_base.specs.declared.program.Procedure.{Procedure}
use Rattle.pal_base.specs.declared.program.Process.{Process}
use Rattle.pal_base.specs.declared.program.Program.{Program}
use Rattle.lint.specs.Lives.{found}
use Rattle.lint.specs.Views.{Found, if_so}
use Rattle.lint.specs.declared.finding.FindingKind.TheVariants as finding

-- the words that a call of the procedure with this number takes, from 0; 0 if they are not known
abbrev pub words_or_zero : Option ℕ → ℕ
words_or_zero None = 0
words_or_zero (Some words) = words

abbrev pub called : List ℕ → ℕ → ℕ
called known procedure = words_or_zero (slice_get known procedure)

-- The most words that wait or are taken together: those of operands as in a frame, and those of a call, which come after the operands that
-- wait in addition to its arguments.
abbrev mutual
  pub words_of_expr : List ℕ → tree.Expr → ℕ
  words_of_expr known (tree.Literal value) = 1
  words_of_expr known (tree.Read place) = 1
  words_of_expr known (tree.Element place size index) = words_of_expr known index
  words_of_expr known (tree.Unary operator operand) = words_of_expr known operand
  words_of_expr known (tree.Chain first rest) = max (words_of_expr known first) (words_of_links known rest)
  words_of_expr known (tree.Apply procedure arguments) = max (max 1 (called known procedure)) (words_of_exprs known arguments)

  pub words_of_links : List ℕ → tree.Links → ℕ
  words_of_links known tree.NoLink = 0
  words_of_links known (tree.MoreLinks operator operand rest) = max (1 + words_of_expr known operand) (words_of_links known rest)

  pub words_of_exprs : List ℕ → tree.Exprs → ℕ
  words_of_exprs known tree.NoExpr = 0
  words_of_exprs known (tree.MoreExprs first rest) = max (words_of_expr known first) (1 + words_of_exprs known rest)

abbrev mutual
  pub words_of_stmt : List ℕ → tree.Stmt → ℕ
  words_of_stmt known (tree.Assign place value) = words_of_expr known value
  words_of_stmt known (tree.AssignElement place size index value) = max (words_of_expr known index) (1 + words_of_expr known value)
  words_of_stmt known (tree.If test block) = max (words_of_expr known test) (words_of_block known block)
  words_of_stmt known (tree.IfElse test block other) = max (words_of_expr known test) (max (words_of_block known block) (words_of_block known other))
  words_of_stmt known (tree.While test block) = max (words_of_expr known test) (words_of_block known block)
  words_of_stmt known (tree.Work ticks) = 0
  words_of_stmt known (tree.Return value) = words_of_expr known value
  words_of_stmt known (tree.CallService service arguments targets) = max (answer_words service) (words_of_exprs known arguments)

  pub words_of_block : List ℕ → tree.Block → ℕ
  words_of_block known tree.NoStmt = 0
  words_of_block known (tree.MoreStmts first rest) = max (words_of_stmt known first) (words_of_block known rest)

-- counted up to 2^64 - 1
abbrev pub counted : ℕ → ℕ
counted words = min words 18446744073709551615

-- the words of a body, and of a procedure, with those of its calls
abbrev pub words_of_body : List ℕ → tree.Body → ℕ
words_of_body known b = counted (b.locals + words_of_block known b.block + 2)

abbrev pub words_of_procedure : List ℕ → tree.Procedure → ℕ
words_of_procedure known p = counted (p.parameters + p.locals + max 1 (words_of_block known p.block) + 2)

-- The words of each procedure, in their order. A procedure's calls of itself and of later ones are not counted: so a recursion is not.
abbrev pub words_of_procedures : List ℕ → List Procedure → List ℕ
words_of_procedures known [] = known
words_of_procedures known (p ∷ ps) = words_of_procedures (known ++ words_of_procedure known (procedure_of p) ∷ []) ps

-- the stack of a body is smaller
abbrev pub small_stack : List ℕ → Body → List ℕ → List Found
small_stack known b name = if_so (nat_lt b.stack (words_of_body known (body_of b))) (found finding.SmallStack name)

abbrev pub small_stack_of_handler : List ℕ → Option Body → List Found
small_stack_of_handler known None = []
small_stack_of_handler known (Some b) = small_stack known b (codes "the handler")

abbrev pub small_stacks_of_processes : List ℕ → List Process → List Found
small_stacks_of_processes known ps = flat_map (λ p. small_stack known p.body p.name) ps

abbrev pub small_stacks_with : List ℕ → Program → List Found
small_stacks_with known p = small_stack known p.init (codes "INIT") ++ small_stack_of_handler known p.handler ++ small_stacks_of_processes known p.processes.items

abbrev pub small_stacks : Program → List Found
small_stacks p = small_stacks_with (words_of_procedures [] p.procedures.items) p
