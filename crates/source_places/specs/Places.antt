-- The words that the instructions of a program come from, in the order of the instructions: each comes from the first word of its
-- statement, and the end of a body from the brace that closes it. A place is how many bytes of the text are left from a word on.
use Rattle.std.specs.Prelude.{ℕ, zero, suc, ◌==◌, Bool, false, if◌then◌else◌, List, [], ◌∷◌, ◌++◌, length, Option, Some, None}
use Rattle.apex_types.specs.ServiceShape.{arguments_of}
use Rattle.apex_types.specs.declared.service.Service.{Service}
use Rattle.apex_types.specs.declared.shape.ArgumentKind.{ArgumentKind}
use Rattle.apex_types.specs.declared.shape.ArgumentKind.TheVariants as argument
use Rattle.pal_meaning.specs.Lines.{from_word}
use Rattle.pal_meaning.specs.Syntax as tree
use Rattle.source_places.specs.Passing.{after_block, after_body, after_else, after_stmt, after_test, inside_body, to_end}
use Rattle.source_places.specs.Words.{next_word}

-- an instruction for each construct of an expression, all of one statement
abbrev mutual
  pub expr_places : ℕ → tree.Expr → List ℕ
  expr_places p (tree.Number value) = p ∷ []
  expr_places p (tree.Name x) = p ∷ []
  expr_places p (tree.Element x index) = expr_places p index ++ p ∷ []
  expr_places p (tree.Apply x arguments) = exprs_places p arguments ++ p ∷ []
  expr_places p (tree.Parenthesis inside) = expr_places p inside
  expr_places p (tree.Unary operator operand) = expr_places p operand ++ p ∷ []
  expr_places p (tree.Chain first links) = expr_places p first ++ links_places p links

  pub links_places : ℕ → tree.Links → List ℕ
  links_places p tree.NoLink = []
  links_places p (tree.MoreLinks operator operand links) = expr_places p operand ++ p ∷ links_places p links

  pub exprs_places : ℕ → tree.Exprs → List ℕ
  exprs_places p tree.NoExpr = []
  exprs_places p (tree.MoreExprs e es) = expr_places p e ++ exprs_places p es

-- a test and the jump after it
abbrev pub test_places : List ℕ → tree.Expr → List ℕ
test_places text test = expr_places (length text) test ++ length text ∷ []

-- an argument of a service: a name is its number, an array its place and its size
abbrev pub argument_places : ℕ → ArgumentKind → tree.Expr → List ℕ
argument_places p argument.Word e = expr_places p e
argument_places p argument.Array e = p ∷ p ∷ []
argument_places p (argument.Object kind) e = p ∷ []

abbrev pub arguments_places : ℕ → List ArgumentKind → tree.Exprs → List ℕ
arguments_places p (k ∷ ks) (tree.MoreExprs e es) = argument_places p k e ++ arguments_places p ks es
arguments_places p _ _ = []

-- an instruction for each target
abbrev pub targets_places : ℕ → List (List ℕ) → List ℕ
targets_places p [] = []
targets_places p (x ∷ xs) = p ∷ targets_places p xs

-- the arguments of a service, its call and its targets
abbrev pub call_places : ℕ → Service → tree.Exprs → List (List ℕ) → List ℕ
call_places p service arguments targets = arguments_places p (arguments_of service) arguments ++ p ∷ targets_places p targets

-- a statement, of the text from its first word on
abbrev mutual
  pub stmt_places : List ℕ → tree.Stmt → List ℕ
  stmt_places text (tree.Assign x value) = expr_places (length text) value ++ length text ∷ []
  stmt_places text (tree.AssignElement x index value) = expr_places (length text) index ++ expr_places (length text) value ++ length text ∷ []
  stmt_places text (tree.If test block) = test_places text test ++ block_places (after_test test text) block
  stmt_places text (tree.IfElse test block other) =
      test_places text test ++ block_places (after_test test text) block
      ++ length text ∷ block_places (after_else (after_block block (after_test test text))) other
  stmt_places text (tree.While test block) = test_places text test ++ block_places (after_test test text) block ++ length text ∷ []
  stmt_places text (tree.Work ticks) = length text ∷ []
  stmt_places text (tree.Return value) = expr_places (length text) value ++ length text ∷ []
  stmt_places text (tree.CallService service arguments targets) = call_places (length text) service arguments targets

  pub block_places : List ℕ → tree.Block → List ℕ
  block_places text tree.NoStmt = []
  block_places text (tree.MoreStmts s ss) = stmt_places text s ++ block_places (after_stmt s text) ss

-- ---- bodies, of the text from their brace on

abbrev pub body_places : List ℕ → tree.Body → List ℕ
body_places text b = block_places (inside_body b text) b.block ++ length (to_end b text) ∷ []

-- a procedure ends with two instructions, which return 0
abbrev pub procedure_places : List ℕ → tree.Body → List ℕ
procedure_places text b = body_places text b ++ length (to_end b text) ∷ []

-- ---- the program

abbrev pub is_brace : List ℕ → Bool
is_brace [] = false
is_brace (b ∷ bs) = b == 123

-- the text from the next `{` on, of which the number bounds how many words are passed
unfoldable pub brace_within : ℕ → List ℕ → List ℕ
brace_within zero text = text
brace_within (suc n) text = if is_brace text then text else brace_within n (next_word text)

-- no braces are outside of bodies, and a text has no more words than bytes
abbrev pub next_body : List ℕ → List ℕ
next_body text = brace_within (length text) text

abbrev pub after_kind : tree.Kind → List ℕ → List ℕ
after_kind (tree.Procedure xs b) text = after_body b (next_body text)
after_kind _ text = text

abbrev pub after_declarations : List tree.Declaration → List ℕ → List ℕ
after_declarations [] text = text
after_declarations (d ∷ ds) text = after_declarations ds (after_kind d.kind text)

abbrev pub kind_places : List ℕ → tree.Kind → List ℕ
kind_places text (tree.Procedure xs b) = procedure_places (next_body text) b
kind_places text _ = []

abbrev pub procedures_places : List ℕ → List tree.Declaration → List ℕ
procedures_places text [] = []
procedures_places text (d ∷ ds) = kind_places text d.kind ++ procedures_places (after_kind d.kind text) ds

abbrev pub after_handler : Option tree.StackBody → List ℕ → List ℕ
after_handler None text = text
after_handler (Some b) text = after_body b.body (next_body text)

abbrev pub handler_places : List ℕ → Option tree.StackBody → List ℕ
handler_places text None = []
handler_places text (Some b) = body_places (next_body text) b.body

abbrev pub processes_places : List ℕ → List tree.Process → List ℕ
processes_places text [] = []
processes_places text (p ∷ ps) = body_places (next_body text) p.body ++ processes_places (after_body p.body (next_body text)) ps

-- INIT, the handler and the processes, of the text after the declarations
abbrev pub own_places : List ℕ → tree.Program → List ℕ
own_places text t =
    let after_init = after_body t.init.body (next_body text) in
    body_places (next_body text) t.init.body ++ handler_places after_init t.handler ++ processes_places (after_handler t.handler after_init) t.processes

-- The code has the procedures last, the text first.
abbrev pub program_places : List ℕ → tree.Program → List ℕ
program_places text t =
    let start = from_word 0 text in
    own_places (after_declarations t.declarations start) t ++ procedures_places start t.declarations
