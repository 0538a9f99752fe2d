-- What the statements of bodies do, in the order of the text: the names that they read and write, and what else findings are about.
use Rattle.std.specs.Prelude.{ℕ, ◌+◌, Bool, true, false, not, ◌==◌, ◌&&◌, ◌||◌, List, [], ◌∷◌, ◌++◌, Option, Some, None, if◌then◌else◌, filter_map, flat_map}
use Rattle.std.specs.List.{list_any}
use Rattle.apex_types.specs.declared.denotation.ObjectKind.{ObjectKind}
use Rattle.apex_types.specs.declared.instruction.BinaryOperator.{BinaryOperator}
use Rattle.apex_types.specs.declared.instruction.BinaryOperator.TheVariants as operator
use Rattle.apex_types.specs.declared.service.Service.{Service}
use Rattle.pal_meaning.specs.Syntax as written
use Rattle.lint.specs.Plain.{Plain, Word, plain, plains, first_of, last_or, number_in, is_name, is_zero, is_other_than_zero}
use Rattle.lint.specs.Services.{numbered_kind, is_error_status, always_waits, has_time_out, ends_caller}

-- What the number is of that a service returns: an object, a port or a process that it creates or finds by its name; or the process
-- that has failed.
pub data Thing : Type 0 where
  Object : ObjectKind → List ℕ → Thing
  Failure : Thing

-- A name that is read; an element, with its index if that is a number as it is written; a call of a procedure; a write of a variable,
-- with the thing whose number it gets, if it is that of one; a division by the number 0; the test of an `if` or a `while`; a service,
-- which may let its caller wait or end, or may not; a `return`; a loop that has no end, in which nothing waits.
pub data Mention : Type 0 where
  Read : List ℕ → Mention
  Element : List ℕ → Option ℕ → Mention
  Apply : List ℕ → List Plain → Mention
  Write : List ℕ → Option Thing → Mention
  ByZero : Mention
  Test : Mention
  Ask : Bool → Mention
  Leave : Mention
  Endless : Mention

-- ---- expressions

abbrev pub divides : BinaryOperator → Bool
divides operator.Divide = true
divides operator.Remainder = true
divides _ = false

abbrev pub by_zero : BinaryOperator → written.Expr → List Mention
by_zero operator operand = if divides operator && is_zero (Some (plain operand)) then ByZero ∷ [] else []

abbrev mutual
  pub in_expr : written.Expr → List Mention
  in_expr (written.Number value) = []
  in_expr (written.Name name) = Read name ∷ []
  in_expr (written.Element array index) = Element array (number_in (Some (plain index))) ∷ in_expr index
  in_expr (written.Apply procedure arguments) = Apply procedure (plains arguments) ∷ in_exprs arguments
  in_expr (written.Parenthesis inside) = in_expr inside
  in_expr (written.Unary operator operand) = in_expr operand
  in_expr (written.Chain first rest) = in_expr first ++ in_links rest

  pub in_links : written.Links → List Mention
  in_links written.NoLink = []
  in_links (written.MoreLinks operator operand rest) = (by_zero operator operand ++ in_expr operand) ++ in_links rest

  pub in_exprs : written.Exprs → List Mention
  in_exprs written.NoExpr = []
  in_exprs (written.MoreExprs first rest) = in_expr first ++ in_exprs rest

-- ---- statements

-- the thing whose number a service with this first argument returns as its output of this place; the code has the place 0
abbrev pub object_thing : Option ObjectKind → Option Plain → Option Thing
object_thing (Some kind) (Some (Word name)) = Some (Object kind name)
object_thing _ _ = None

abbrev pub thing_at : Service → Option Plain → (place : ℕ) → Option Thing
thing_at service argument place =
    if place == 1 then object_thing (numbered_kind service) argument else if is_error_status service && (place == 2) then Some Failure else None

abbrev pub in_targets : Service → Option Plain → (place : ℕ) → List (List ℕ) → List Mention
in_targets service argument place [] = []
in_targets service argument place (t ∷ ts) = Write t (thing_at service argument place) ∷ in_targets service argument (place + 1) ts

-- the caller of a service with this last argument may wait or end
abbrev pub gives_way : Service → Option Plain → Bool
gives_way service last = always_waits service || ends_caller service || (has_time_out service && not (is_zero last))

-- it may wait or end, or it calls a procedure, which may
abbrev pub goes_on : Mention → Bool
goes_on (Ask may_wait) = may_wait
goes_on (Apply procedure arguments) = true
goes_on Leave = true
goes_on _ = false

-- the block of a `while` with this test; if the test is a number other than 0, and nothing in the block may wait or end, it has no end
abbrev pub is_endless : written.Expr → List Mention → Bool
is_endless test block = is_other_than_zero (Some (plain test)) && not (list_any goes_on block)

abbrev pub if_endless : written.Expr → List Mention → List Mention
if_endless test block = if is_endless test block then Endless ∷ [] else []

abbrev pub in_loop : written.Expr → List Mention → List Mention
in_loop test block = block ++ if_endless test block

abbrev pub in_service : Service → written.Exprs → List (List ℕ) → List Mention
in_service service arguments targets =
    Ask (gives_way service (last_or None (plains arguments))) ∷ in_exprs arguments ++ in_targets service (first_of (plains arguments)) 0 targets

abbrev mutual
  pub in_stmt : written.Stmt → List Mention
  in_stmt (written.Assign target value) = Write target None ∷ in_expr value
  in_stmt (written.AssignElement array index value) = Element array (number_in (Some (plain index))) ∷ (in_expr index ++ in_expr value)
  in_stmt (written.If test block) = Test ∷ in_expr test ++ in_block block
  in_stmt (written.IfElse test block other) = Test ∷ in_expr test ++ (in_block block ++ in_block other)
  in_stmt (written.While test block) = Test ∷ in_expr test ++ in_loop test (in_block block)
  in_stmt (written.Work ticks) = []
  in_stmt (written.Return value) = Leave ∷ in_expr value
  in_stmt (written.CallService service arguments targets) = in_service service arguments targets

  pub in_block : written.Block → List Mention
  in_block written.NoStmt = []
  in_block (written.MoreStmts first rest) = in_stmt first ++ in_block rest

-- ---- bodies

abbrev pub mentions_of : written.Body → List Mention
mentions_of b = in_block b.block

abbrev pub mentions_of_handler : Option written.StackBody → List Mention
mentions_of_handler None = []
mentions_of_handler (Some b) = mentions_of b.body

abbrev pub mentions_of_kind : written.Kind → List Mention
mentions_of_kind (written.Procedure parameters body) = mentions_of body
mentions_of_kind _ = []

abbrev pub mentions_of_processes : List written.Process → List Mention
mentions_of_processes processes = flat_map (λ p. mentions_of p.body) processes

abbrev pub mentions_of_procedures : List written.Declaration → List Mention
mentions_of_procedures ds = flat_map (λ d. mentions_of_kind d.kind) ds

abbrev pub all_mentions : written.Program → List Mention
all_mentions p = mentions_of p.init.body ++ mentions_of_handler p.handler ++ mentions_of_processes p.processes ++ mentions_of_procedures p.declarations

-- ---- names

-- the name that a mention is of
abbrev pub name_of_mention : Mention → Option (List ℕ)
name_of_mention (Read name) = Some name
name_of_mention (Element name index) = Some name
name_of_mention (Apply name arguments) = Some name
name_of_mention (Write name thing) = Some name
name_of_mention _ = None

-- it is of this name
abbrev pub is_mentioned : List ℕ → Mention → Bool
is_mentioned name m = is_name name (name_of_mention m)

abbrev pub names_in : List Mention → List (List ℕ)
names_in mentions = filter_map name_of_mention mentions
