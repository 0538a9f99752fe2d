-- When a program is well formed for its partition: four clauses, judged one after the other over the
-- whole program. The verdict is the first that does not hold, or the program with its names resolved.
use Rattle.std.specs.Prelude.{ℕ, ◌+◌, ◌%◌, Bool, true, false, not, ◌&&◌, nat_eq, nat_le, nat_lt, is_some, List, [], ◌∷◌, ◌++◌, length, Option, Some, None, Result, Ok, Err, if◌then◌else◌}
use Rattle.std.specs.List.{list_all}
use Rattle.apex_types.specs.Limits.{GREATEST_PRIORITY, LEAST_STACK_WORDS, MOST_DEPTH, MOST_LOCALS, MOST_PARAMETERS, MOST_PROCESSES, MOST_SEMAPHORE_VALUE, MOST_STACK_WORDS, MOST_TICKS, MOST_WORDS, MOST_WORK_TICKS}
use Rattle.apex_types.specs.NameText.{is_name}
use Rattle.apex_types.specs.declared.denotation.Denotation.{Denotation}
use Rattle.apex_types.specs.declared.denotation.Denotation.TheVariants as denotation
use Rattle.apex_types.specs.declared.denotation.ObjectKind.{ObjectKind}
use Rattle.apex_types.specs.declared.denotation.ObjectKind.TheVariants as object
use Rattle.apex_types.specs.declared.shape.ArgumentKind.{ArgumentKind}
use Rattle.apex_types.specs.declared.shape.ArgumentKind.TheVariants as argument
use Rattle.apex_types.specs.declared.row.PortRow.{PortRow}
use Rattle.pal_meaning.specs.Program.{frame_of_procedure, frame_of_body}
use Rattle.pal_meaning.specs.Program as program
use Rattle.pal_meaning.specs.Resolve.{Counts, no_counts, after, Entry, find, declared_entries, own_entries, Scope, scope_of, resolve_body, procedure_of, resolve}
use Rattle.apex_types.specs.ServiceShape.{arguments_of, answer_words}
use Rattle.pal_meaning.specs.Syntax as written

-- A test of each body of a program: whether it is a procedure's, its parameters, and the body.
abbrev pub holds_of_handler : (Bool → List (List ℕ) → written.Body → Bool) → Option written.StackBody → Bool
holds_of_handler test None = true
holds_of_handler test (Some b) = test false [] b.body

abbrev pub holds_of_procedure : (Bool → List (List ℕ) → written.Body → Bool) → written.Kind → Bool
holds_of_procedure test (written.Procedure parameters body) = test true parameters body
holds_of_procedure test _ = true

abbrev pub holds_of_bodies : (Bool → List (List ℕ) → written.Body → Bool) → written.Program → Bool
holds_of_bodies test p = test false [] p.init.body && holds_of_handler test p.handler
    && list_all (λ q. test false [] q.body) p.processes && list_all (λ d. holds_of_procedure test d.kind) p.declarations

-- NAMES: each name in the program is declared, and only once.

-- each name is in neither list of entries before it
abbrev pub are_new : List Entry → List Entry → List Entry → Bool
are_new declared before [] = true
are_new declared before (e ∷ es) = not (is_some (find e.name declared)) && not (is_some (find e.name before)) && are_new declared (before ++ e ∷ []) es

abbrev mutual
  pub knows_expr : Scope → written.Expr → Bool
  knows_expr scope (written.Number value) = true
  knows_expr scope (written.Name name) = is_some (scope name)
  knows_expr scope (written.Element array index) = is_some (scope array) && knows_expr scope index
  knows_expr scope (written.Apply procedure arguments) = is_some (scope procedure) && knows_exprs scope arguments
  knows_expr scope (written.Parenthesis inside) = knows_expr scope inside
  knows_expr scope (written.Unary operator operand) = knows_expr scope operand
  knows_expr scope (written.Chain first rest) = knows_expr scope first && knows_links scope rest

  pub knows_links : Scope → written.Links → Bool
  knows_links scope written.NoLink = true
  knows_links scope (written.MoreLinks operator operand rest) = knows_expr scope operand && knows_links scope rest

  pub knows_exprs : Scope → written.Exprs → Bool
  knows_exprs scope written.NoExpr = true
  knows_exprs scope (written.MoreExprs first rest) = knows_expr scope first && knows_exprs scope rest

abbrev mutual
  pub knows_stmt : Scope → written.Stmt → Bool
  knows_stmt scope (written.Assign target value) = is_some (scope target) && knows_expr scope value
  knows_stmt scope (written.AssignElement array index value) = is_some (scope array) && (knows_expr scope index && knows_expr scope value)
  knows_stmt scope (written.If test block) = knows_expr scope test && knows_block scope block
  knows_stmt scope (written.IfElse test block other) = knows_expr scope test && (knows_block scope block && knows_block scope other)
  knows_stmt scope (written.While test block) = knows_expr scope test && knows_block scope block
  knows_stmt scope (written.Work ticks) = true
  knows_stmt scope (written.Return value) = knows_expr scope value
  knows_stmt scope (written.CallService service arguments targets) = knows_exprs scope arguments && list_all (λ x. is_some (scope x)) targets

  pub knows_block : Scope → written.Block → Bool
  knows_block scope written.NoStmt = true
  knows_block scope (written.MoreStmts first rest) = knows_stmt scope first && knows_block scope rest

-- the parameters and locals of a body differ from what is declared and from each other, and each
-- name in its statements means something
abbrev pub names_hold_in_body : List Entry → List (List ℕ) → written.Body → Bool
names_hold_in_body declared parameters b = let own = own_entries 0 (parameters ++ b.locals) in
    are_new declared [] own && knows_block (scope_of own declared) b.block

abbrev pub names_hold : List PortRow → written.Program → Bool
names_hold ports p = let declared = declared_entries ports p in
    are_new [] [] declared && holds_of_bodies (λ returns parameters b. names_hold_in_body declared parameters b) p

-- KINDS: each name appears where its kind may, and calls and services have as many arguments and
-- targets as they take.

abbrev pub is_scalar : Option Denotation → Bool
is_scalar (Some (denotation.Scalar place)) = true
is_scalar _ = false

abbrev pub is_array : Option Denotation → Bool
is_array (Some (denotation.Array place size)) = true
is_array _ = false

-- a procedure with `n` parameters
abbrev pub is_procedure : ℕ → Option Denotation → Bool
is_procedure n (Some (denotation.Procedure number parameters)) = nat_eq parameters n
is_procedure n _ = false

abbrev pub is_same_kind : ObjectKind → ObjectKind → Bool
is_same_kind object.Semaphore object.Semaphore = true
is_same_kind object.Event object.Event = true
is_same_kind object.Buffer object.Buffer = true
is_same_kind object.Blackboard object.Blackboard = true
is_same_kind object.Port object.Port = true
is_same_kind object.Process object.Process = true
is_same_kind _ _ = false

abbrev pub is_object : ObjectKind → Option Denotation → Bool
is_object kind (Some (denotation.Object found number)) = is_same_kind found kind
is_object kind _ = false

abbrev pub expr_count : written.Exprs → ℕ
expr_count written.NoExpr = 0
expr_count (written.MoreExprs first rest) = expr_count rest + 1

abbrev mutual
  pub fits_expr : Scope → written.Expr → Bool
  fits_expr scope (written.Number value) = true
  fits_expr scope (written.Name name) = is_scalar (scope name)
  fits_expr scope (written.Element array index) = is_array (scope array) && fits_expr scope index
  fits_expr scope (written.Apply procedure arguments) = is_procedure (expr_count arguments) (scope procedure) && fits_exprs scope arguments
  fits_expr scope (written.Parenthesis inside) = fits_expr scope inside
  fits_expr scope (written.Unary operator operand) = fits_expr scope operand
  fits_expr scope (written.Chain first rest) = fits_expr scope first && fits_links scope rest

  pub fits_links : Scope → written.Links → Bool
  fits_links scope written.NoLink = true
  fits_links scope (written.MoreLinks operator operand rest) = fits_expr scope operand && fits_links scope rest

  pub fits_exprs : Scope → written.Exprs → Bool
  fits_exprs scope written.NoExpr = true
  fits_exprs scope (written.MoreExprs first rest) = fits_expr scope first && fits_exprs scope rest

-- an argument of a service: an expression, or just the name of an array or of an object, a port or
-- a process of that kind
abbrev pub fits_argument : Scope → ArgumentKind → written.Expr → Bool
fits_argument scope argument.Word e = fits_expr scope e
fits_argument scope argument.Array (written.Name name) = is_array (scope name)
fits_argument scope (argument.Object kind) (written.Name name) = is_object kind (scope name)
fits_argument scope _ _ = false

abbrev pub fits_arguments : Scope → List ArgumentKind → written.Exprs → Bool
fits_arguments scope [] written.NoExpr = true
fits_arguments scope (k ∷ ks) (written.MoreExprs e es) = fits_argument scope k e && fits_arguments scope ks es
fits_arguments scope _ _ = false

-- whether a body may return is whether it is a procedure's
abbrev mutual
  pub fits_stmt : Scope → Bool → written.Stmt → Bool
  fits_stmt scope returns (written.Assign target value) = is_scalar (scope target) && fits_expr scope value
  fits_stmt scope returns (written.AssignElement array index value) = is_array (scope array) && (fits_expr scope index && fits_expr scope value)
  fits_stmt scope returns (written.If test block) = fits_expr scope test && fits_block scope returns block
  fits_stmt scope returns (written.IfElse test block other) = fits_expr scope test && (fits_block scope returns block && fits_block scope returns other)
  fits_stmt scope returns (written.While test block) = fits_expr scope test && fits_block scope returns block
  fits_stmt scope returns (written.Work ticks) = true
  fits_stmt scope returns (written.Return value) = returns && fits_expr scope value
  fits_stmt scope returns (written.CallService service arguments targets) = fits_arguments scope (arguments_of service) arguments
      && (nat_eq (length targets) (answer_words service) && list_all (λ x. is_scalar (scope x)) targets)

  pub fits_block : Scope → Bool → written.Block → Bool
  fits_block scope returns written.NoStmt = true
  fits_block scope returns (written.MoreStmts first rest) = fits_stmt scope returns first && fits_block scope returns rest

abbrev pub kinds_hold_in_body : List Entry → Bool → List (List ℕ) → written.Body → Bool
kinds_hold_in_body declared returns parameters b = fits_block (scope_of (own_entries 0 (parameters ++ b.locals)) declared) returns b.block

abbrev pub kinds_hold : List PortRow → written.Program → Bool
kinds_hold ports p = holds_of_bodies (kinds_hold_in_body (declared_entries ports p)) p

-- LIMITS: each number, count, name and frame is within its limit; none above 2^63 - 1 is.

abbrev pub is_between : ℕ → ℕ → Option ℕ → Bool
is_between low high None = false
is_between low high (Some n) = nat_le low n && nat_le n high

-- -1, or 1 to 2^40 ticks
abbrev pub is_time : written.Integer → Bool
is_time i = if i.negative then is_between 1 1 i.magnitude else is_between 1 MOST_TICKS i.magnitude

abbrev pub is_word : written.Integer → Bool
is_word i = is_some i.magnitude

abbrev mutual
  pub keeps_expr : written.Expr → Bool
  keeps_expr (written.Number value) = is_some value
  keeps_expr (written.Name name) = is_name name
  keeps_expr (written.Element array index) = is_name array && keeps_expr index
  keeps_expr (written.Apply procedure arguments) = is_name procedure && keeps_exprs arguments
  keeps_expr (written.Parenthesis inside) = keeps_expr inside
  keeps_expr (written.Unary operator operand) = keeps_expr operand
  keeps_expr (written.Chain first rest) = keeps_expr first && keeps_links rest

  pub keeps_links : written.Links → Bool
  keeps_links written.NoLink = true
  keeps_links (written.MoreLinks operator operand rest) = keeps_expr operand && keeps_links rest

  pub keeps_exprs : written.Exprs → Bool
  keeps_exprs written.NoExpr = true
  keeps_exprs (written.MoreExprs first rest) = keeps_expr first && keeps_exprs rest

abbrev mutual
  pub keeps_stmt : written.Stmt → Bool
  keeps_stmt (written.Assign target value) = is_name target && keeps_expr value
  keeps_stmt (written.AssignElement array index value) = is_name array && (keeps_expr index && keeps_expr value)
  keeps_stmt (written.If test block) = keeps_expr test && keeps_block block
  keeps_stmt (written.IfElse test block other) = keeps_expr test && (keeps_block block && keeps_block other)
  keeps_stmt (written.While test block) = keeps_expr test && keeps_block block
  keeps_stmt (written.Work ticks) = is_between 1 MOST_WORK_TICKS ticks
  keeps_stmt (written.Return value) = keeps_expr value
  keeps_stmt (written.CallService service arguments targets) = keeps_exprs arguments && list_all is_name targets

  pub keeps_block : written.Block → Bool
  keeps_block written.NoStmt = true
  keeps_block (written.MoreStmts first rest) = keeps_stmt first && keeps_block rest

abbrev pub keeps_body : written.Body → Bool
keeps_body b = nat_le (length b.locals) MOST_LOCALS && list_all is_name b.locals && keeps_block b.block

-- the frame of a body fits its stack
abbrev pub fits_stack : List Entry → Option ℕ → written.Body → Bool
fits_stack declared None b = false
fits_stack declared (Some words) b = nat_le (frame_of_body (resolve_body declared (Some words) b)) words

-- a body that is no procedure's, with its stack
abbrev pub keeps_stack_body : List Entry → Option ℕ → written.Body → Bool
keeps_stack_body declared stack b = is_between LEAST_STACK_WORDS MOST_STACK_WORDS stack && fits_stack declared stack b && keeps_body b

abbrev pub fits_frame : Option program.Procedure → Bool
fits_frame None = true
fits_frame (Some p) = nat_le (frame_of_procedure p) MOST_STACK_WORDS

abbrev pub value_at_most : Option ℕ → Option ℕ → Bool
value_at_most (Some n) (Some most) = nat_le n most
value_at_most _ _ = false

abbrev pub keeps_value : Option written.Integer → Bool
keeps_value None = true
keeps_value (Some i) = is_word i

abbrev pub keeps_kind : List Entry → written.Kind → Bool
keeps_kind declared (written.Variable value) = keeps_value value
keeps_kind declared (written.Array size values) = value_at_most (Some (length values)) size && list_all is_word values
keeps_kind declared (written.Semaphore first maximum discipline) = is_between 1 MOST_SEMAPHORE_VALUE maximum && value_at_most first maximum
keeps_kind declared (written.Buffer words messages discipline) = is_between 1 MOST_WORDS words && is_between 1 MOST_DEPTH messages
keeps_kind declared (written.Blackboard words) = is_between 1 MOST_WORDS words
keeps_kind declared (written.Procedure parameters b) = nat_le (length parameters) MOST_PARAMETERS && list_all is_name parameters
    && keeps_body b && fits_frame (procedure_of declared (written.Procedure parameters b))
keeps_kind declared _ = true

abbrev pub keeps_declaration : List Entry → written.Declaration → Bool
keeps_declaration declared d = is_name d.name && keeps_kind declared d.kind

abbrev pub keeps_process : List Entry → written.Process → Bool
keeps_process declared p = is_name p.name && is_between 1 GREATEST_PRIORITY p.priority && is_time p.period && is_time p.capacity
    && keeps_stack_body declared p.stack p.body

-- the words of data and the declarations of each kind, counted one after the other, are within limits
abbrev pub keeps_counts : Counts → List written.Declaration → Bool
keeps_counts c [] = true
keeps_counts c (d ∷ ds) = elim (after c d.kind) [ None ↦ false | Some next ↦ keeps_counts next ds ]

abbrev pub keeps_handler : List Entry → Option written.StackBody → Bool
keeps_handler declared None = true
keeps_handler declared (Some b) = keeps_stack_body declared b.stack b.body

abbrev pub limits_hold : List PortRow → written.Program → Bool
limits_hold ports p = let declared = declared_entries ports p in
    keeps_counts no_counts p.declarations && list_all (keeps_declaration declared) p.declarations
    && keeps_stack_body declared p.init.stack p.init.body && keeps_handler declared p.handler
    && list_all (keeps_process declared) p.processes && nat_le (length p.processes) MOST_PROCESSES

-- PERIODS: the finite period of a process is a multiple of its partition's.

-- whether a written number is a multiple of the partition's period; a number above 2^63 - 1 is not
abbrev pub is_written_multiple : ℕ → Option ℕ → Bool
is_written_multiple partition None = false
is_written_multiple partition (Some n) = nat_lt 0 partition && nat_eq (n % partition) 0

abbrev pub keeps_period : ℕ → written.Process → Bool
keeps_period partition p = if p.period.negative then true else is_written_multiple partition p.period.magnitude

abbrev pub periods_hold : ℕ → written.Program → Bool
periods_hold partition p = list_all (keeps_period partition) p.processes

-- why a program that has a tree is refused; these are the numbers 3 to 6
pub data Refused : Type 0 where
  ByName : Refused
  ByKind : Refused
  ByLimit : Refused
  ByPeriod : Refused

-- The verdict on a program for a partition with these ports and this period: the lowest number that
-- holds, or the program with its names resolved.
abbrev pub verdict : List PortRow → ℕ → written.Program → Result program.Program Refused
verdict ports period p =
    if not (names_hold ports p) then Err ByName
    else if not (kinds_hold ports p) then Err ByKind
    else if not (limits_hold ports p) then Err ByLimit
    else if not (periods_hold period p) then Err ByPeriod
    else Ok (resolve ports p)
