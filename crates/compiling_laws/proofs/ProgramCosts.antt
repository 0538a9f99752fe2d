-- The sizes, costs and frames of a program's bodies have 64 bits, if the program has a text.
use Rattle.compiling_laws.proofs.Prelude.{◌≡◌, ℕ, ◌*◌, ◌≤◌, List, ◌∷◌, ◌++◌, length, map, Option, Some, None, Ok, refl, sym, subst, length-append, nat_le, filter_map, option_map, cons_option, sum_by, and_parts, cond_both, leb-true, sum_by-cons, Costs, MOST_LOCALS, MOST_PARAMETERS, MOST_WORK_TICKS, BinaryOperator, Place, PortRow, Service, arguments_of, cost_of_service, cost_of_binary, size_of_procedure, size_of_body, size_of_handler, size_of_process, size_of, costs_of_expr, costs_of_links, costs_of_exprs, costs_of_stmt, costs_of_block, costs_of_procedure, costs_of_body, words_of, Entry, Scope, place_of, within, count_within, resolve_expr, resolve_arguments, resolve_stmt, resolve_block, resolve_body_block, scope_of, own_entries, resolve_body, resolve_stack_body, resolve_process, procedure_of, resolve, verdict}
use Rattle.std.proofs.Common.{[], arith}
use Rattle.std.specs.List.{sum}
use Rattle.std.proofs.lemmas.List.Sums.{sum_by-append}
use Rattle.apex_types.specs.declared.cost.TickCost.{TickCost}
use Rattle.apex_types.specs.declared.limits.TheConstants.{MOST_COST, MOST_SOURCE_BYTES}
use Rattle.apex_types.specs.declared.instruction.BinaryOperator.TheVariants.{Add, Subtract, Multiply, Divide, Remainder}
use Rattle.apex_types.specs.declared.shape.ServiceClass.{ServiceClass}
use Rattle.apex_types.specs.declared.shape.ServiceClass.TheVariants.{Creation, WithArray, Other}
use Rattle.apex_types.specs.ServiceShape.{class_of, cost_of_class}
use Rattle.pal_meaning.specs.Program as program
use Rattle.pal_meaning.specs.Syntax as written
use Rattle.compiling_laws.specs.Bounds.{IsBodyHeld, IsProcedureHeld, IsHandlerHeld, AreProcessesHeld, AreProceduresHeld, AreCostsHeld}
use Rattle.pal_meaning.specs.Grammar.{IsWritten}
use Rattle.pal_meaning.specs.Resolve.{declared_entries}
use Rattle.compiling_laws.proofs.Counts.{procedure_counts, body_counts}
use Rattle.compiling_laws.proofs.Operands.{block_operands}
use Rattle.compiling_laws.proofs.ProgramSizes.{text_few}
use Rattle.compiling_laws.proofs.WellFormedFits.{accepted}

-- ---- a construct costs at most a million ticks

abbrev AreCheap : List ℕ → Type 0
AreCheap costs = sum costs ≤ MOST_WORK_TICKS * length costs

more : (c : ℕ) (costs : List ℕ) → c ≤ MOST_WORK_TICKS → AreCheap costs → AreCheap (c ∷ costs)
more c costs h a = omega (arith, sum_by-cons (λ x. x) c costs)

both : (xs ys : List ℕ) → AreCheap xs → AreCheap ys → AreCheap (xs ++ ys)
both xs ys a b = omega (arith, sum_by-append (λ x. x) xs ys, length-append xs ys)

none : AreCheap []
none = omega arith

work_cheap : (ticks : Option ℕ) → within MOST_WORK_TICKS ticks ≤ MOST_WORK_TICKS
work_cheap None = omega arith
work_cheap (Some t) = cond_both (nat_le t MOST_WORK_TICKS) t 0 (λ x. x ≤ MOST_WORK_TICKS) (λ e. leb-true t MOST_WORK_TICKS e) (λ e. omega arith)

-- a cost is at most a thousand ticks
cheap : (cost : TickCost) → cost.ticks ≤ MOST_WORK_TICKS
cheap cost = omega (arith, leb-true cost.ticks MOST_COST (and_parts (nat_le 1 cost.ticks) (nat_le cost.ticks MOST_COST) cost.within).1)

module _ (costs : Costs) where
  binary_cheap : (operator : BinaryOperator) → cost_of_binary costs operator ≤ MOST_WORK_TICKS
  binary_cheap Add = cheap costs.add
  binary_cheap Subtract = cheap costs.add
  binary_cheap Multiply = cheap costs.mul
  binary_cheap Divide = cheap costs.div
  binary_cheap Remainder = cheap costs.div
  binary_cheap _ = cheap costs.logic

  class_cheap : (c : ServiceClass) → cost_of_class costs c ≤ MOST_WORK_TICKS
  class_cheap Creation = cheap costs.create
  class_cheap WithArray = cheap costs.message
  class_cheap Other = cheap costs.service

  service_cheap : (s : Service) → cost_of_service costs s ≤ MOST_WORK_TICKS
  service_cheap s = class_cheap (class_of s)

  mutual
    expr_cheap : (e : program.Expr) → AreCheap (costs_of_expr costs e)
    expr_cheap (program.Literal value) = more costs.literal.ticks [] (cheap costs.literal) none
    expr_cheap (program.Read place) = more costs.scalar.ticks [] (cheap costs.scalar) none
    expr_cheap (program.Element place size index) = both (costs_of_expr costs index) (costs.array.ticks ∷ []) (expr_cheap index) (more costs.array.ticks [] (cheap costs.array) none)
    expr_cheap (program.Unary operator operand) = both (costs_of_expr costs operand) (costs.logic.ticks ∷ []) (expr_cheap operand) (more costs.logic.ticks [] (cheap costs.logic) none)
    expr_cheap (program.Chain first rest) = both (costs_of_expr costs first) (costs_of_links costs rest) (expr_cheap first) (links_cheap rest)
    expr_cheap (program.Apply procedure arguments) = both (costs_of_exprs costs arguments) (costs.call.ticks ∷ []) (exprs_cheap arguments) (more costs.call.ticks [] (cheap costs.call) none)

    links_cheap : (ls : program.Links) → AreCheap (costs_of_links costs ls)
    links_cheap program.NoLink = none
    links_cheap (program.MoreLinks operator operand rest) = both (costs_of_expr costs operand) (cost_of_binary costs operator ∷ costs_of_links costs rest) (expr_cheap operand) (more (cost_of_binary costs operator) (costs_of_links costs rest) (binary_cheap operator) (links_cheap rest))

    exprs_cheap : (es : program.Exprs) → AreCheap (costs_of_exprs costs es)
    exprs_cheap program.NoExpr = none
    exprs_cheap (program.MoreExprs first rest) = both (costs_of_expr costs first) (costs_of_exprs costs rest) (expr_cheap first) (exprs_cheap rest)

  targets_cheap : (places : List Place) → AreCheap (map (λ _. costs.scalar.ticks) places)
  targets_cheap [] = none
  targets_cheap (place ∷ places) = more costs.scalar.ticks (map (λ _. costs.scalar.ticks) places) (cheap costs.scalar) (targets_cheap places)

  module _ (scope : Scope) where
    mutual
      stmt_cheap : (s : written.Stmt) → AreCheap (costs_of_stmt costs (resolve_stmt scope s))
      stmt_cheap (written.Assign target value) =
          let v = resolve_expr scope value in
          both (costs_of_expr costs v) (costs.scalar.ticks ∷ []) (expr_cheap v) (more costs.scalar.ticks [] (cheap costs.scalar) none)
      stmt_cheap (written.AssignElement array index value) =
          let i = resolve_expr scope index in
          let v = resolve_expr scope value in
          both (costs_of_expr costs i ++ costs_of_expr costs v) (costs.array.ticks ∷ []) (both (costs_of_expr costs i) (costs_of_expr costs v) (expr_cheap i) (expr_cheap v)) (more costs.array.ticks [] (cheap costs.array) none)
      stmt_cheap (written.If test block) =
          let t = resolve_expr scope test in
          let b = costs_of_block costs (resolve_block scope block) in
          both (costs_of_expr costs t) (costs.branch.ticks ∷ b) (expr_cheap t) (more costs.branch.ticks b (cheap costs.branch) (block_cheap block))
      stmt_cheap (written.IfElse test block other) =
          let t = resolve_expr scope test in
          let b = costs_of_block costs (resolve_block scope block) in
          let o = costs_of_block costs (resolve_block scope other) in
          both (costs_of_expr costs t ++ (costs.branch.ticks ∷ b)) (costs.jump.ticks ∷ o) (both (costs_of_expr costs t) (costs.branch.ticks ∷ b) (expr_cheap t) (more costs.branch.ticks b (cheap costs.branch) (block_cheap block))) (more costs.jump.ticks o (cheap costs.jump) (block_cheap other))
      stmt_cheap (written.While test block) =
          let t = resolve_expr scope test in
          let b = costs_of_block costs (resolve_block scope block) in
          both (costs_of_expr costs t ++ (costs.branch.ticks ∷ b)) (costs.jump.ticks ∷ []) (both (costs_of_expr costs t) (costs.branch.ticks ∷ b) (expr_cheap t) (more costs.branch.ticks b (cheap costs.branch) (block_cheap block))) (more costs.jump.ticks [] (cheap costs.jump) none)
      stmt_cheap (written.Work ticks) = more (within MOST_WORK_TICKS ticks) [] (work_cheap ticks) none
      stmt_cheap (written.Return value) =
          let v = resolve_expr scope value in
          both (costs_of_expr costs v) (costs.ret.ticks ∷ []) (expr_cheap v) (more costs.ret.ticks [] (cheap costs.ret) none)
      stmt_cheap (written.CallService service arguments targets) =
          let es = resolve_arguments scope (arguments_of service) arguments in
          let places = map (λ x. place_of (scope x)) targets in
          both (costs_of_exprs costs es) (cost_of_service costs service ∷ map (λ _. costs.scalar.ticks) places) (exprs_cheap es) (more (cost_of_service costs service) (map (λ _. costs.scalar.ticks) places) (service_cheap service) (targets_cheap places))

      block_cheap : (b : written.Block) → AreCheap (costs_of_block costs (resolve_block scope b))
      block_cheap written.NoStmt = none
      block_cheap (written.MoreStmts first rest) = both (costs_of_stmt costs (resolve_stmt scope first)) (costs_of_block costs (resolve_block scope rest)) (stmt_cheap first) (block_cheap rest)

  -- ---- bodies of at most 2^21 constructs

  few_counted : (limit n : ℕ) → count_within limit n ≤ limit
  few_counted limit n = cond_both (nat_le n limit) n 0 (λ x. x ≤ limit) (λ e. leb-true n limit e) (λ e. omega arith)

  module _ (declared : List Entry) where
    body_held : (stack : Option ℕ) (b : written.Body) → size_of_body (resolve_body declared stack b) ≤ 2097152 → IsBodyHeld costs (resolve_body declared stack b)
    body_held stack b few =
        let made = resolve_body declared stack b in
        let cheap : AreCheap (costs_of_body costs made) = both (costs_of_block costs made.block) (costs.end.ticks ∷ []) (block_cheap (scope_of (own_entries 0 ([] ++ b.locals)) declared) b.block) (more costs.end.ticks [] (cheap costs.end) none) in
        (omega arith, omega (arith, body_counts costs made), omega (arith, block_operands made.block, few_counted MOST_LOCALS (length b.locals)))

    procedure_held : (parameters : List (List ℕ)) (b : written.Body) (p : program.Procedure)
        → p ≡ record { parameters = count_within MOST_PARAMETERS (length parameters); locals = count_within MOST_LOCALS (length b.locals); block = resolve_body_block declared parameters b } → size_of_procedure p ≤ 2097152 → IsProcedureHeld costs p
    procedure_held parameters b p is few =
        let block : AreCheap (costs_of_block costs p.block) = subst (λ (q : program.Procedure). AreCheap (costs_of_block costs q.block)) (sym is) (block_cheap (scope_of (own_entries 0 (parameters ++ b.locals)) declared) b.block) in
        let cheap : AreCheap (costs_of_procedure costs p) = both (costs_of_block costs p.block) (costs.literal.ticks ∷ costs.ret.ticks ∷ []) block (more costs.literal.ticks (costs.ret.ticks ∷ []) (cheap costs.literal) (more costs.ret.ticks [] (cheap costs.ret) none)) in
        let own : p.parameters ≤ MOST_PARAMETERS = subst (λ (q : program.Procedure). q.parameters ≤ MOST_PARAMETERS) (sym is) (few_counted MOST_PARAMETERS (length parameters)) in
        let locals : p.locals ≤ MOST_LOCALS = subst (λ (q : program.Procedure). q.locals ≤ MOST_LOCALS) (sym is) (few_counted MOST_LOCALS (length b.locals)) in
        (omega arith, omega (arith, procedure_counts costs p), omega (arith, block_operands p.block))

    handler_held : (h : Option written.StackBody) → size_of_handler (option_map (resolve_stack_body declared) h) ≤ 2097152 → IsHandlerHeld costs (option_map (resolve_stack_body declared) h)
    handler_held None few = tt
    handler_held (Some b) few = body_held b.stack b.body few

    processes_held : (ps : List written.Process) → sum_by size_of_process (map (resolve_process declared) ps) ≤ 2097152 → AreProcessesHeld costs (map (resolve_process declared) ps)
    processes_held [] few = tt
    processes_held (p ∷ ps) few =
        let all = sum_by-cons size_of_process (resolve_process declared p) (map (resolve_process declared) ps) in
        (body_held p.stack p.body (omega arith), processes_held ps (omega arith))

    kind_held : (k : written.Kind) (ps : List program.Procedure) → sum_by size_of_procedure (cons_option (procedure_of declared k) ps) ≤ 2097152 → (sum_by size_of_procedure ps ≤ 2097152 → AreProceduresHeld costs ps) → AreProceduresHeld costs (cons_option (procedure_of declared k) ps)
    kind_held (written.Procedure parameters b) ps few others =
        let made : program.Procedure = record { parameters = count_within MOST_PARAMETERS (length parameters); locals = count_within MOST_LOCALS (length b.locals); block = resolve_body_block declared parameters b } in
        let all = sum_by-cons size_of_procedure made ps in
        (procedure_held parameters b made refl (omega arith), others (omega arith))
    kind_held (written.Variable value) ps few others = others few
    kind_held (written.Array size values) ps few others = others few
    kind_held (written.Semaphore first maximum d) ps few others = others few
    kind_held written.Event ps few others = others few
    kind_held (written.Buffer words messages d) ps few others = others few
    kind_held (written.Blackboard words) ps few others = others few
    kind_held written.Port ps few others = others few

    procedures_held : (ds : List written.Declaration) → sum_by size_of_procedure (filter_map (λ (d : written.Declaration). procedure_of declared d.kind) ds) ≤ 2097152 → AreProceduresHeld costs (filter_map (λ (d : written.Declaration). procedure_of declared d.kind) ds)
    procedures_held [] few = tt
    procedures_held (d ∷ ds) few = kind_held d.kind (filter_map (λ (e : written.Declaration). procedure_of declared e.kind) ds) few (procedures_held ds)

  -- ---- the program

  held : (ports : List PortRow) (p : written.Program) → size_of (resolve ports p) ≤ 2097152 → AreCostsHeld costs (resolve ports p)
  held ports p few =
      let declared = declared_entries ports p in
      (body_held declared p.init.stack p.init.body (omega arith), handler_held declared p.handler (omega arith), processes_held declared p.processes (omega arith), procedures_held declared p.declarations (omega arith))

-- An accepted program has at most twice as many constructs as its text has bytes.
pub accepted_size : (ports : List PortRow) (period : ℕ) (text : List ℕ) (p : written.Program) (r : program.Program) → IsWritten (words_of text) p → verdict ports period p ≡ Ok r → size_of r ≤ 2 * length text
accepted_size ports period text p r written judged =
    subst (λ (q : program.Program). size_of q ≤ 2 * length text) (accepted ports period p r judged).is (text_few ports p text written.1)

pub accepted_costs : (costs : Costs) (ports : List PortRow) (period : ℕ) (text : List ℕ) (p : written.Program) (r : program.Program) → IsWritten (words_of text) p → length text ≤ MOST_SOURCE_BYTES → verdict ports period p ≡ Ok r → AreCostsHeld costs r
accepted_costs costs ports period text p r written short judged =
    subst (AreCostsHeld costs) (accepted ports period p r judged).is (held costs ports p (omega (arith, text_few ports p text written.1)))
