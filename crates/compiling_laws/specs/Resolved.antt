-- A program with its names resolved, without limits and without a 0 for what is wrong. There is none
-- where a number or a declaration is missing, where a name has another kind than is wanted, and where
-- a call or a service has another number of arguments than it takes.
use Rattle.std.specs.Prelude.{ℕ, ◌+◌, ◌-◌, ℤ, pos, ◌-ℤ◌, Bool, true, false, not, nat_eq, nat_le, if◌then◌else◌, List, [], ◌∷◌, ◌++◌, length, replicate, flat_map, count_by, position, Option, Some, None, option_map, unwrap_or, bytes_eq}
use Rattle.apex_types.specs.declared.place.Place.{Place}
use Rattle.apex_types.specs.declared.place.Place.TheVariants.{Data, Slot}
use Rattle.apex_types.specs.declared.denotation.Denotation.{Denotation}
use Rattle.apex_types.specs.declared.denotation.Denotation.TheVariants as denotation
use Rattle.apex_types.specs.declared.denotation.ObjectKind.{ObjectKind}
use Rattle.apex_types.specs.declared.denotation.ObjectKind.TheVariants as object
use Rattle.apex_types.specs.declared.shape.ArgumentKind.{ArgumentKind}
use Rattle.apex_types.specs.declared.shape.ArgumentKind.TheVariants as argument
use Rattle.apex_types.specs.declared.row.PortRow.{PortRow}
use Rattle.apex_types.specs.declared.row.SemaphoreRow.{SemaphoreRow}
use Rattle.apex_types.specs.declared.row.BufferRow.{BufferRow}
use Rattle.apex_types.specs.declared.row.BlackboardRow.{BlackboardRow}
use Rattle.apex_types.specs.ServiceShape.{arguments_of}
use Rattle.module_meaning.specs.Table.{◌>>=◌}
use Rattle.pal_meaning.specs.Syntax as written
use Rattle.pal_meaning.specs.Program as program
use Rattle.pal_meaning.specs.Resolve.{Counts, no_counts, Entry, Scope, scope_of}
use Rattle.pal_meaning.specs.WellFormed.{is_same_kind, expr_count}

-- what `f` makes of its arguments, where all are there
abbrev pub with_two : {A B C : Type 0} → (A → B → C) → Option A → Option B → Option C
with_two f a b = a >>= λ x. option_map (f x) b

abbrev pub with_three : {A B C D : Type 0} → (A → B → C → D) → Option A → Option B → Option C → Option D
with_three f a b c = a >>= λ x. with_two (f x) b c

abbrev pub with_four : {A B C D E : Type 0} → (A → B → C → D → E) → Option A → Option B → Option C → Option D → Option E
with_four f a b c d = a >>= λ x. with_three (f x) b c d

-- what `f` makes of each member of a list, if it makes something of all
abbrev pub each : {A B : Type 0} → (A → Option B) → List A → Option (List B)
each f [] = Some []
each f (x ∷ xs) = with_two (λ y ys. y ∷ ys) (f x) (each f xs)

-- the lists that `f` makes of the members, one after the other
abbrev pub joined : {A B : Type 0} → (A → Option (List B)) → List A → Option (List B)
joined f xs = option_map (flat_map (λ ys. ys)) (each f xs)

-- a number with its sign
abbrev pub signed_number : written.Integer → Option ℤ
signed_number i = option_map (λ n. if i.negative then pos 0 -ℤ pos n else pos n) i.magnitude

-- a time in ticks; -1 is infinite
abbrev pub resolved_time : written.Integer → Option (Option ℕ)
resolved_time i = i.magnitude >>= λ n. if not i.negative then Some (Some n) else if nat_eq n 1 then Some None else None

-- the counts after one more declaration
abbrev pub counts_with : Counts → written.Kind → Option Counts
counts_with c (written.Variable value) = Some (record c { words = c.words + 1 })
counts_with c (written.Array size values) = option_map (λ n. record c { words = c.words + n }) size
counts_with c (written.Semaphore first maximum discipline) = Some (record c { semaphores = c.semaphores + 1 })
counts_with c written.Event = Some (record c { events = c.events + 1 })
counts_with c (written.Buffer words messages discipline) = Some (record c { buffers = c.buffers + 1 })
counts_with c (written.Blackboard words) = Some (record c { blackboards = c.blackboards + 1 })
counts_with c written.Port = Some (record c { ports = c.ports + 1 })
counts_with c (written.Procedure parameters body) = Some (record c { procedures = c.procedures + 1 })

-- the number of a port in the partition's row, from 1; a port that the row lacks has the number 0
abbrev pub number_of_port : List PortRow → List ℕ → ℕ
number_of_port ports name = unwrap_or (option_map (λ i. i + 1) (position (λ p. bytes_eq p.name name) ports)) 0

-- the meaning of a declared name after the declarations that `c` counts: variables and arrays lie in
-- the data in their order, objects of each kind are numbered from 1, procedures from 0
abbrev pub meaning_with : List PortRow → Counts → List ℕ → written.Kind → Option Denotation
meaning_with ports c name (written.Variable value) = Some (denotation.Scalar (Data c.words))
meaning_with ports c name (written.Array size values) = option_map (λ n. denotation.Array c.words (pos n)) size
meaning_with ports c name (written.Semaphore first maximum discipline) = Some (denotation.Object object.Semaphore (c.semaphores + 1))
meaning_with ports c name written.Event = Some (denotation.Object object.Event (c.events + 1))
meaning_with ports c name (written.Buffer words messages discipline) = Some (denotation.Object object.Buffer (c.buffers + 1))
meaning_with ports c name (written.Blackboard words) = Some (denotation.Object object.Blackboard (c.blackboards + 1))
meaning_with ports c name written.Port = Some (denotation.Object object.Port (number_of_port ports name))
meaning_with ports c name (written.Procedure parameters body) = Some (denotation.Procedure c.procedures (length parameters))

abbrev pub resolved_declarations : List PortRow → Counts → List written.Declaration → Option (List Entry)
resolved_declarations ports c [] = Some []
resolved_declarations ports c (d ∷ ds) = do
  meaning ← meaning_with ports c d.name d.kind
  next ← counts_with c d.kind
  rest ← resolved_declarations ports next ds
  Some (record { name = d.name; meaning = meaning } ∷ rest)

-- the processes with `count` others before them, numbered from 1
abbrev pub numbered_processes : ℕ → List written.Process → List Entry
numbered_processes count [] = []
numbered_processes count (p ∷ ps) = record { name = p.name; meaning = denotation.Object object.Process (count + 1) } ∷ numbered_processes (count + 1) ps

-- the parameters and locals of a body with `place` others before them, in one slot each
abbrev pub own_slots : ℕ → List (List ℕ) → List Entry
own_slots place [] = []
own_slots place (x ∷ xs) = record { name = x; meaning = denotation.Scalar (Slot place) } ∷ own_slots (place + 1) xs

-- A name where one kind is wanted: the place of a scalar, the place and the size of an array, the
-- number of a procedure with `n` parameters, the number of an object of a kind.
abbrev pub scalar : Option Denotation → Option Place
scalar (Some (denotation.Scalar place)) = Some place
scalar _ = None

abbrev pub array_place : Option Denotation → Option ℕ
array_place (Some (denotation.Array place size)) = Some place
array_place _ = None

abbrev pub array_size : Option Denotation → Option ℤ
array_size (Some (denotation.Array place size)) = Some size
array_size _ = None

abbrev pub procedure : ℕ → Option Denotation → Option ℕ
procedure n (Some (denotation.Procedure number parameters)) = if nat_eq parameters n then Some number else None
procedure n _ = None

abbrev pub object_number : ObjectKind → Option Denotation → Option ℕ
object_number kind (Some (denotation.Object found number)) = if is_same_kind found kind then Some number else None
object_number kind _ = None

abbrev mutual
  pub resolved_expr : Scope → written.Expr → Option program.Expr
  resolved_expr scope (written.Number value) = option_map (λ n. program.Literal (pos n)) value
  resolved_expr scope (written.Name name) = option_map program.Read (scalar (scope name))
  resolved_expr scope (written.Element array index) = with_three program.Element (array_place (scope array)) (array_size (scope array)) (resolved_expr scope index)
  resolved_expr scope (written.Apply name arguments) = with_two program.Apply (procedure (expr_count arguments) (scope name)) (resolved_exprs scope arguments)
  resolved_expr scope (written.Parenthesis inside) = resolved_expr scope inside
  resolved_expr scope (written.Unary operator operand) = option_map (program.Unary operator) (resolved_expr scope operand)
  resolved_expr scope (written.Chain first rest) = with_two program.Chain (resolved_expr scope first) (resolved_links scope rest)

  pub resolved_links : Scope → written.Links → Option program.Links
  resolved_links scope written.NoLink = Some program.NoLink
  resolved_links scope (written.MoreLinks operator operand rest) = with_two (program.MoreLinks operator) (resolved_expr scope operand) (resolved_links scope rest)

  pub resolved_exprs : Scope → written.Exprs → Option program.Exprs
  resolved_exprs scope written.NoExpr = Some program.NoExpr
  resolved_exprs scope (written.MoreExprs first rest) = with_two program.MoreExprs (resolved_expr scope first) (resolved_exprs scope rest)

-- an argument of a service before those that follow: a name is its number, an array its place and size
abbrev pub resolved_argument : Scope → ArgumentKind → written.Expr → Option program.Exprs → Option program.Exprs
resolved_argument scope argument.Word e rest = with_two program.MoreExprs (resolved_expr scope e) rest
resolved_argument scope argument.Array (written.Name name) rest = with_three (λ place size more. program.MoreExprs (program.Literal (pos place)) (program.MoreExprs (program.Literal size) more)) (array_place (scope name)) (array_size (scope name)) rest
resolved_argument scope (argument.Object kind) (written.Name name) rest = with_two (λ number more. program.MoreExprs (program.Literal (pos number)) more) (object_number kind (scope name)) rest
resolved_argument scope _ _ rest = None

abbrev pub resolved_arguments : Scope → List ArgumentKind → written.Exprs → Option program.Exprs
resolved_arguments scope [] written.NoExpr = Some program.NoExpr
resolved_arguments scope (k ∷ ks) (written.MoreExprs e es) = resolved_argument scope k e (resolved_arguments scope ks es)
resolved_arguments scope _ _ = None

abbrev mutual
  pub resolved_stmt : Scope → written.Stmt → Option program.Stmt
  resolved_stmt scope (written.Assign target value) = with_two program.Assign (scalar (scope target)) (resolved_expr scope value)
  resolved_stmt scope (written.AssignElement array index value) = with_four program.AssignElement (array_place (scope array)) (array_size (scope array)) (resolved_expr scope index) (resolved_expr scope value)
  resolved_stmt scope (written.If test block) = with_two program.If (resolved_expr scope test) (resolved_block scope block)
  resolved_stmt scope (written.IfElse test block other) = with_three program.IfElse (resolved_expr scope test) (resolved_block scope block) (resolved_block scope other)
  resolved_stmt scope (written.While test block) = with_two program.While (resolved_expr scope test) (resolved_block scope block)
  resolved_stmt scope (written.Work ticks) = option_map program.Work ticks
  resolved_stmt scope (written.Return value) = option_map program.Return (resolved_expr scope value)
  resolved_stmt scope (written.CallService service arguments targets) = with_two (program.CallService service) (resolved_arguments scope (arguments_of service) arguments) (each (λ x. scalar (scope x)) targets)

  pub resolved_block : Scope → written.Block → Option program.Block
  resolved_block scope written.NoStmt = Some program.NoStmt
  resolved_block scope (written.MoreStmts first rest) = with_two program.MoreStmts (resolved_stmt scope first) (resolved_block scope rest)

-- the statements of a body with these parameters, among these declared names
abbrev pub resolved_statements : List Entry → List (List ℕ) → written.Body → Option program.Block
resolved_statements declared parameters b = resolved_block (scope_of (own_slots 0 (parameters ++ b.locals)) declared) b.block

abbrev pub resolved_body : List Entry → Option ℕ → written.Body → Option program.Body
resolved_body declared stack b = with_two (λ words block. record { stack = words; locals = length b.locals; block = block }) stack (resolved_statements declared [] b)

abbrev pub resolved_handler : List Entry → Option written.StackBody → Option (Option program.Body)
resolved_handler declared None = Some None
resolved_handler declared (Some b) = option_map Some (resolved_body declared b.stack b.body)

abbrev pub resolved_process : List Entry → written.Process → Option program.Process
resolved_process declared p = with_four (λ priority period capacity body. record { name = p.name; priority = priority; period = period; capacity = capacity; body = body })
    p.priority (resolved_time p.period) (resolved_time p.capacity) (resolved_body declared p.stack p.body)

-- What a declaration makes: words of the data, a semaphore, a buffer, a blackboard or a procedure.
abbrev pub words_made : written.Kind → Option (List ℤ)
words_made (written.Variable None) = Some (pos 0 ∷ [])
words_made (written.Variable (Some value)) = option_map (λ word. word ∷ []) (signed_number value)
words_made (written.Array size values) = do
  n ← size
  first ← each signed_number values
  if nat_le (length values) n then Some (first ++ replicate (n - length values) (pos 0)) else None
words_made _ = Some []

abbrev pub semaphores_made : written.Kind → Option (List SemaphoreRow)
semaphores_made (written.Semaphore first maximum discipline) = with_two (λ value most. record { value = value; maximum = most; discipline = discipline } ∷ []) first maximum
semaphores_made _ = Some []

abbrev pub buffers_made : written.Kind → Option (List BufferRow)
buffers_made (written.Buffer words messages discipline) = with_two (λ size depth. record { words = size; depth = depth; discipline = discipline } ∷ []) words messages
buffers_made _ = Some []

abbrev pub blackboards_made : written.Kind → Option (List BlackboardRow)
blackboards_made (written.Blackboard words) = option_map (λ n. record { words = n } ∷ []) words
blackboards_made _ = Some []

abbrev pub procedures_made : List Entry → written.Kind → Option (List program.Procedure)
procedures_made declared (written.Procedure parameters b) = option_map (λ block. record { parameters = length parameters; locals = length b.locals; block = block } ∷ []) (resolved_statements declared parameters b)
procedures_made declared _ = Some []

abbrev pub is_event : written.Kind → Bool
is_event written.Event = true
is_event _ = false

-- the program among the names that it declares
abbrev pub resolved_among : List Entry → written.Program → Option program.Program
resolved_among declared p = do
  initial ← joined (λ d. words_made d.kind) p.declarations
  semaphores ← joined (λ d. semaphores_made d.kind) p.declarations
  buffers ← joined (λ d. buffers_made d.kind) p.declarations
  blackboards ← joined (λ d. blackboards_made d.kind) p.declarations
  procedures ← joined (λ d. procedures_made declared d.kind) p.declarations
  init ← resolved_body declared p.init.stack p.init.body
  handler ← resolved_handler declared p.handler
  processes ← each (resolved_process declared) p.processes
  Some (record { initial = initial; semaphores = semaphores; events = count_by (λ d. is_event d.kind) p.declarations; buffers = buffers; blackboards = blackboards; procedures = procedures; init = init; handler = handler; processes = processes })

abbrev pub resolved : List PortRow → written.Program → Option program.Program
resolved ports p = do
  declarations ← resolved_declarations ports no_counts p.declarations
  resolved_among (declarations ++ numbered_processes 0 p.processes) p
