-- Each construct has the number of instructions that its size says.
use Rattle.compiling_laws.proofs.Prelude.{◌≡◌, ℕ, pos, ◌+◌, List, ◌∷◌, ◌++◌, length, map, Option, Some, None, refl, length-append, sum_by, length-map, sum_by-cons, Program, Procedure, Body, Process, Expr, Links, Exprs, Stmt, Block, Literal, Read, Element, Unary, Chain, Apply, NoLink, MoreLinks, NoExpr, MoreExprs, Assign, AssignElement, If, IfElse, While, Work, Return, CallService, NoStmt, MoreStmts, number_of, size_of_expr, size_of_links, size_of_exprs, size_of_stmt, size_of_block, size_of_procedure, size_of_body, size_of_handler, size_of_process, size_of, store, expr_code, links_code, exprs_code, stmt_code, block_code, procedure_code, body_code, handler_code, processes_code, procedures_code, slots_of, code_of, handler_place, processes_place, procedures_place}
use Rattle.std.proofs.Common.{[], arith}
use Rattle.apex_types.specs.declared.instruction.Instr.TheVariants as instr

mutual
  pub expr_size : (e : Expr) → length (expr_code e) ≡ size_of_expr e
  expr_size (Literal v) = refl
  expr_size (Read place) = refl
  expr_size (Element place size index) = omega (arith, length-append (expr_code index) (instr.LoadElement place size ∷ []), expr_size index)
  expr_size (Unary operator operand) = omega (arith, length-append (expr_code operand) (instr.Unary operator ∷ []), expr_size operand)
  expr_size (Chain first rest) = omega (arith, length-append (expr_code first) (links_code rest), expr_size first, links_size rest)
  expr_size (Apply procedure arguments) = omega (arith, length-append (exprs_code arguments) (instr.Call procedure ∷ []), exprs_size arguments)

  pub links_size : (ls : Links) → length (links_code ls) ≡ size_of_links ls
  links_size NoLink = refl
  links_size (MoreLinks operator operand rest) = omega (arith, length-append (expr_code operand) (instr.Binary operator ∷ links_code rest), expr_size operand, links_size rest)

  pub exprs_size : (es : Exprs) → length (exprs_code es) ≡ size_of_exprs es
  exprs_size NoExpr = refl
  exprs_size (MoreExprs first rest) = omega (arith, length-append (expr_code first) (exprs_code rest), expr_size first, exprs_size rest)

mutual
  pub stmt_size : (s : Stmt) (k at : ℕ) → length (stmt_code k at s) ≡ size_of_stmt s
  stmt_size (Assign place value) k at = omega (arith, length-append (expr_code value) (store place ∷ []), expr_size value)
  stmt_size (AssignElement place size index value) k at = omega (arith, length-append (expr_code index ++ expr_code value) (instr.StoreElement place size ∷ []), length-append (expr_code index) (expr_code value), expr_size index, expr_size value)
  stmt_size (If test block) k at =
      let inside = at + size_of_expr test + 1 in
      omega (arith, length-append (expr_code test) (instr.JumpIfZero (inside + size_of_block block) ∷ block_code k inside block), expr_size test, block_size block k inside)
  stmt_size (IfElse test block other) k at =
      let inside = at + size_of_expr test + 1 in
      let behind = inside + size_of_block block + 1 in
      let front = instr.JumpIfZero behind ∷ block_code k inside block in
      omega (arith, length-append (expr_code test ++ front) (instr.Jump (behind + size_of_block other) ∷ block_code k behind other), length-append (expr_code test) front, expr_size test, block_size block k inside, block_size other k behind)
  stmt_size (While test block) k at =
      let inside = at + size_of_expr test + 1 in
      let front = instr.JumpIfZero (inside + size_of_block block + 1) ∷ block_code k inside block in
      omega (arith, length-append (expr_code test ++ front) (instr.Jump at ∷ []), length-append (expr_code test) front, expr_size test, block_size block k inside)
  stmt_size (Work ticks) k at = refl
  stmt_size (Return value) k at = omega (arith, length-append (expr_code value) (instr.Return k ∷ []), expr_size value)
  stmt_size (CallService service arguments targets) k at = omega (arith, length-append (exprs_code arguments) (instr.Service (number_of service) ∷ map store targets), exprs_size arguments, length-map targets store)

  pub block_size : (b : Block) (k at : ℕ) → length (block_code k at b) ≡ size_of_block b
  block_size NoStmt k at = refl
  block_size (MoreStmts first rest) k at = omega (arith, length-append (stmt_code k at first) (block_code k (at + size_of_stmt first) rest), stmt_size first k at, block_size rest k (at + size_of_stmt first))

pub procedure_size : (p : Procedure) (at : ℕ) → length (procedure_code at p) ≡ size_of_procedure p
procedure_size p at = omega (arith, length-append (block_code (slots_of p) at p.block) (instr.Push (pos 0) ∷ instr.Return (slots_of p) ∷ []), block_size p.block (slots_of p) at)

pub body_size : (b : Body) (at : ℕ) → length (body_code at b) ≡ size_of_body b
body_size b at = omega (arith, length-append (block_code b.locals at b.block) (instr.End ∷ []), block_size b.block b.locals at)

pub handler_size : (b : Option Body) (at : ℕ) → length (handler_code at b) ≡ size_of_handler b
handler_size None at = refl
handler_size (Some b) at = body_size b at

pub processes_size : (ps : List Process) (at : ℕ) → length (processes_code at ps) ≡ sum_by size_of_process ps
processes_size [] at = refl
processes_size (p ∷ ps) at = omega (arith, length-append (body_code at p.body) (processes_code (at + size_of_process p) ps), body_size p.body at, sum_by-cons size_of_process p ps, processes_size ps (at + size_of_process p))

pub procedures_size : (ps : List Procedure) (at : ℕ) → length (procedures_code at ps) ≡ sum_by size_of_procedure ps
procedures_size [] at = refl
procedures_size (p ∷ ps) at = omega (arith, length-append (procedure_code at p) (procedures_code (at + size_of_procedure p) ps), procedure_size p at, sum_by-cons size_of_procedure p ps, procedures_size ps (at + size_of_procedure p))

pub code_size : (p : Program) → length (code_of p) ≡ size_of p
code_size p =
    let h = handler_code (handler_place p) p.handler in
    let ps = processes_code (processes_place p) p.processes in
    let rs = procedures_code (procedures_place p) p.procedures in
    omega (arith, length-append ((body_code 0 p.init ++ h) ++ ps) rs, length-append (body_code 0 p.init ++ h) ps, length-append (body_code 0 p.init) h, body_size p.init 0, handler_size p.handler (handler_place p), processes_size p.processes (processes_place p), procedures_size p.procedures (procedures_place p))
