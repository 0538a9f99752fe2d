-- A program of the code as the definitions see it: the text of each name in place of its number,
-- and no lines.
use Rattle.std.specs.Prelude.{ℕ, ℤ, pos, negsuc, List, [], ◌∷◌, Option, Some, None, map, option_map, slice_get}
use Rattle.std.specs.String.{string_bytes}
use Rattle.std.specs.declared.string.String.{String}
use Rattle.std.specs.declared.alloc.Global.{Global}
use Rattle.pal_base.specs.declared.syntax.Expr as code_expr
use Rattle.pal_base.specs.declared.syntax.Link as code_link
use Rattle.pal_base.specs.declared.syntax.Stmt as code_stmt
use Rattle.pal_base.specs.declared.syntax.StmtKind as code_kind
use Rattle.pal_base.specs.declared.syntax.NameId.{NameId}
use Rattle.pal_base.specs.declared.syntax.Identifier.{Identifier}
use Rattle.pal_base.specs.declared.syntax.Natural.{Natural}
use Rattle.pal_base.specs.declared.syntax.Natural.TheVariants.{Within, TooLarge}
use Rattle.pal_base.specs.declared.syntax.Numeral.{Numeral}
use Rattle.pal_base.specs.declared.syntax.Body.{Body}
use Rattle.pal_base.specs.declared.syntax.DeclarationKind.{DeclarationKind}
use Rattle.pal_base.specs.declared.syntax.DeclarationKind.TheVariants.{Variable, Array, Semaphore, Event, Buffer, Blackboard, Port, Procedure}
use Rattle.pal_base.specs.declared.syntax.Declaration.{Declaration}
use Rattle.pal_base.specs.declared.syntax.StackBody.{StackBody}
use Rattle.pal_base.specs.declared.syntax.Process.{Process}
use Rattle.pal_meaning.specs.Syntax as tree

-- the text of the name of that number, or an empty text
abbrev pub text_or_none : Option (List ℕ) → List ℕ
text_or_none (Some text) = text
text_or_none None = []

abbrev pub id_text : List (List ℕ) → NameId → List ℕ
id_text names x = text_or_none (slice_get names x.0)

abbrev pub name_of : List (List ℕ) → Identifier → List ℕ
name_of names x = id_text names x.name

abbrev pub value_of : ℤ → Option ℕ
value_of (pos n) = Some n
value_of (negsuc n) = None

abbrev pub natural_of : Natural → Option ℕ
natural_of (Within v) = value_of v
natural_of TooLarge = None

abbrev pub number_of : Numeral → Option ℕ
number_of n = natural_of n.magnitude

abbrev pub integer_of : Numeral → tree.Integer
integer_of n = record { negative = n.negative; magnitude = natural_of n.magnitude }

-- an expression; the rows are those of its arguments and of its operators with their operands
abbrev mutual
  pub expr_of : List (List ℕ) → code_expr.Expr → tree.Expr
  expr_of names (code_expr.Number n) = tree.Number (number_of n)
  expr_of names (code_expr.Name x) = tree.Name (name_of names x)
  expr_of names (code_expr.Element' x p i) = tree.Element (name_of names x) (expr_of names i)
  expr_of names (code_expr.Apply' x shape es) = tree.Apply (name_of names x) (expr_row names es)
  expr_of names (code_expr.Parenthesis' p e) = tree.Parenthesis (expr_of names e)
  expr_of names (code_expr.Unary' op p e) = tree.Unary op (expr_of names e)
  expr_of names (code_expr.Chain' p e shape ls) = tree.Chain (expr_of names e) (link_row names ls)

  pub expr_row : {m : _} → List (List ℕ) → code_expr.Row_of-Expr m → tree.Exprs
  expr_row names code_expr.end_of-Expr = tree.NoExpr
  expr_row names (code_expr.more_of-Expr e es) = tree.MoreExprs (expr_of names e) (expr_row names es)

  pub link_row : {m : _} → List (List ℕ) → code_expr.Row_of-Link m → tree.Links
  link_row names code_expr.end_of-Link = tree.NoLink
  link_row names (code_expr.more_of-Link op e ls) = tree.MoreLinks op (expr_of names e) (link_row names ls)

abbrev pub exprs_of : List (List ℕ) → List code_expr.Expr → tree.Exprs
exprs_of names [] = tree.NoExpr
exprs_of names (e ∷ es) = tree.MoreExprs (expr_of names e) (exprs_of names es)

abbrev pub links_of : List (List ℕ) → List code_link.Link → tree.Links
links_of names [] = tree.NoLink
links_of names (l ∷ ls) = tree.MoreLinks l.operator (expr_of names l.operand) (links_of names ls)

-- a statement; the row is that of a block
abbrev mutual
  pub kind_of : List (List ℕ) → code_kind.StmtKind → tree.Stmt
  kind_of names (code_kind.Assign x e) = tree.Assign (name_of names x) (expr_of names e)
  kind_of names (code_kind.AssignElement x i e) = tree.AssignElement (name_of names x) (expr_of names i) (expr_of names e)
  kind_of names (code_kind.If' e shape ss) = tree.If (expr_of names e) (stmt_row names ss)
  kind_of names (code_kind.IfElse' e shape ss other ts) = tree.IfElse (expr_of names e) (stmt_row names ss) (stmt_row names ts)
  kind_of names (code_kind.While' e shape ss) = tree.While (expr_of names e) (stmt_row names ss)
  kind_of names (code_kind.Work n) = tree.Work (number_of n)
  kind_of names (code_kind.Return e) = tree.Return (expr_of names e)
  kind_of names (code_kind.CallService s es xs) = tree.CallService s (exprs_of names es.items) (map (name_of names) xs.items)

  pub stmt_row : {m : _} → List (List ℕ) → code_kind.Row_of-Stmt m → tree.Block
  stmt_row names code_kind.end_of-Stmt = tree.NoStmt
  stmt_row names (code_kind.more_of-Stmt line s ss) = tree.MoreStmts (kind_of names s) (stmt_row names ss)

abbrev pub stmt_of : List (List ℕ) → code_stmt.Stmt → tree.Stmt
stmt_of names s = kind_of names s.kind

abbrev pub block_of : List (List ℕ) → List code_stmt.Stmt → tree.Block
block_of names [] = tree.NoStmt
block_of names (s ∷ ss) = tree.MoreStmts (stmt_of names s) (block_of names ss)

abbrev pub body_of : List (List ℕ) → Body → tree.Body
body_of names b = record { locals = map (name_of names) b.locals.items; block = block_of names b.statements.items }

abbrev pub declared_of : List (List ℕ) → DeclarationKind → tree.Kind
declared_of names (Variable v) = tree.Variable (option_map integer_of v)
declared_of names (Array n vs) = tree.Array (number_of n) (map integer_of vs.items)
declared_of names (Semaphore a b d) = tree.Semaphore (number_of a) (number_of b) d
declared_of names Event = tree.Event
declared_of names (Buffer a b d) = tree.Buffer (number_of a) (number_of b) d
declared_of names (Blackboard a) = tree.Blackboard (number_of a)
declared_of names Port = tree.Port
declared_of names (Procedure xs b) = tree.Procedure (map (name_of names) xs.items) (body_of names b)

abbrev pub declaration_of : List (List ℕ) → Declaration → tree.Declaration
declaration_of names d = record { name = name_of names d.name; kind = declared_of names d.kind }

abbrev pub stack_body_of : List (List ℕ) → StackBody → tree.StackBody
stack_body_of names b = record { stack = number_of b.stack; body = body_of names b.body }

abbrev pub process_of : List (List ℕ) → Process → tree.Process
process_of names p = record {
  name = name_of names p.name;
  priority = number_of p.priority;
  period = integer_of p.period;
  capacity = integer_of p.capacity;
  stack = number_of p.stack;
  body = body_of names p.body;
}

-- the texts of the names, by their numbers
abbrev pub texts : List (String Global) → List (List ℕ)
texts ks = map string_bytes ks

-- a program of these names and parts
abbrev pub program_from : List (String Global) → List Declaration → StackBody → Option StackBody → List Process → tree.Program
program_from keys declarations init handler processes = let names = texts keys in record {
  declarations = map (declaration_of names) declarations;
  init = stack_body_of names init;
  handler = option_map (stack_body_of names) handler;
  processes = map (process_of names) processes;
}
