-- That a program fits the compiler is one fact: it has at most one proof.
use Rattle.std.specs.Prelude.{◌≡◌, ℕ, Bool, List, [], ◌∷◌, Option, Some, None, length}
use Rattle.std.specs.Coded.{×_prop, Unit-prop, Coded-set, coded_option, coded_ℕ, coded_bool}
use Rattle.std.proofs.Props.{props}
use Rattle.compiling_laws.proofs.Prelude.{Place, Data, Slot, Program, Procedure, Body, Expr, Links, Exprs, Stmt, Block, Literal, Read, Element, Unary, Chain, Apply, NoLink, MoreLinks, NoExpr, MoreExprs, Assign, AssignElement, If, IfElse, While, Work, Return, CallService, NoStmt, MoreStmts, Fits, FitsBody, FitsHandler, FitsProcedure, FitsExpr, FitsLinks, FitsExprs, FitsStmt, FitsBlock, IsWork, IsPlaceWithin, ArePlacesWithin, HasParameters}

place_prop : (n : ℕ) (place : Place) → IsProp (IsPlaceWithin n place)
place_prop n (Data x) = Unit-prop
place_prop n (Slot x) = hlevel props

places_prop : (n : ℕ) (places : List Place) → IsProp (ArePlacesWithin n places)
places_prop n [] = Unit-prop
places_prop n (place ∷ places) = ×_prop (place_prop n place) (places_prop n places)

called_prop : (ps : List Procedure) (f n : ℕ) → IsProp (HasParameters ps f n)
called_prop ps f n = Coded-set (coded_option coded_ℕ) _ _

work_prop : (ticks : ℕ) → IsProp (IsWork ticks)
work_prop ticks = hlevel props

three_prop : {A B C : Type 0} → IsProp A → IsProp B → IsProp C → IsProp (A × B × C)
three_prop a b c = hlevel (a, b, c)

four_prop : {A B C D : Type 0} → IsProp A → IsProp B → IsProp C → IsProp D → IsProp (A × B × C × D)
four_prop a b c d = hlevel (a, b, c, d)

mutual
  expr_prop : (ps : List Procedure) (n : ℕ) (e : Expr) → IsProp (FitsExpr ps n e)
  expr_prop ps n (Literal value) = Unit-prop
  expr_prop ps n (Read place) = place_prop n place
  expr_prop ps n (Element place size index) = expr_prop ps n index
  expr_prop ps n (Unary operator operand) = expr_prop ps n operand
  expr_prop ps n (Chain first rest) = ×_prop (expr_prop ps n first) (links_prop ps n rest)
  expr_prop ps n (Apply procedure arguments) = ×_prop (called_prop ps procedure _) (exprs_prop ps n arguments)

  links_prop : (ps : List Procedure) (n : ℕ) (ls : Links) → IsProp (FitsLinks ps n ls)
  links_prop ps n NoLink = Unit-prop
  links_prop ps n (MoreLinks operator operand rest) = ×_prop (expr_prop ps n operand) (links_prop ps n rest)

  exprs_prop : (ps : List Procedure) (n : ℕ) (es : Exprs) → IsProp (FitsExprs ps n es)
  exprs_prop ps n NoExpr = Unit-prop
  exprs_prop ps n (MoreExprs first rest) = ×_prop (expr_prop ps n first) (exprs_prop ps n rest)

truth_prop : (a b : Bool) → IsProp (a ≡ b)
truth_prop a b = Coded-set coded_bool _ _

number_prop : (a b : ℕ) → IsProp (a ≡ b)
number_prop a b = Coded-set coded_ℕ _ _

mutual
  stmt_prop : (ps : List Procedure) (n : ℕ) (r : Bool) (s : Stmt) → IsProp (FitsStmt ps n r s)
  stmt_prop ps n r (Assign place value) = ×_prop (place_prop n place) (expr_prop ps n value)
  stmt_prop ps n r (AssignElement place size index value) = ×_prop (expr_prop ps n index) (expr_prop ps n value)
  stmt_prop ps n r (If test block) = ×_prop (expr_prop ps n test) (block_prop ps n r block)
  stmt_prop ps n r (IfElse test block other) = three_prop (expr_prop ps n test) (block_prop ps n r block) (block_prop ps n r other)
  stmt_prop ps n r (While test block) = ×_prop (expr_prop ps n test) (block_prop ps n r block)
  stmt_prop ps n r (Work ticks) = work_prop ticks
  stmt_prop ps n r (Return value) = ×_prop (truth_prop _ _) (expr_prop ps n value)
  stmt_prop ps n r (CallService service arguments targets) = four_prop (exprs_prop ps n arguments) (number_prop _ _) (number_prop _ _) (places_prop n targets)

  block_prop : (ps : List Procedure) (n : ℕ) (r : Bool) (b : Block) → IsProp (FitsBlock ps n r b)
  block_prop ps n r NoStmt = Unit-prop
  block_prop ps n r (MoreStmts first rest) = ×_prop (stmt_prop ps n r first) (block_prop ps n r rest)

procedure_prop : (ps : List Procedure) (p : Procedure) → IsProp (FitsProcedure ps p)
procedure_prop ps p = hlevel (props, block_prop)

body_prop : (ps : List Procedure) (b : Body) → IsProp (FitsBody ps b)
body_prop ps b = hlevel (props, block_prop)

handler_prop : (ps : List Procedure) (o : Option Body) → IsProp (FitsHandler ps o)
handler_prop ps None = Unit-prop
handler_prop ps (Some b) = body_prop ps b

pub fits_prop : (program : Program) → IsProp (Fits program)
fits_prop program = hlevel (props, body_prop, handler_prop, procedure_prop)
