-- The meanings of the names of a program, and the program with its names resolved. Every program is
-- resolved: a part that makes a program not well formed is 0 in the result.
use Rattle.std.specs.Prelude.{ℕ, ◌+◌, ◌-◌, ℤ, pos, ◌-ℤ◌, nat_le, nat_lt, if◌then◌else◌, List, [], ◌∷◌, ◌++◌, map, length, take, replicate, flat_map, filter_map, position, Option, Some, None, option_map, unwrap_or, bytes_eq}
use Rattle.apex_types.specs.Limits.{GREATEST_PRIORITY, MOST_DATA_WORDS, MOST_DEPTH, MOST_LOCALS, MOST_OBJECTS, MOST_PORTS, MOST_PROCEDURES, MOST_PROCESSES, MOST_SEMAPHORE_VALUE, MOST_SLOTS, MOST_STACK_WORDS, MOST_TICKS, MOST_WORDS, MOST_WORK_TICKS}
use Rattle.apex_types.specs.declared.place.Place.{Place}
use Rattle.apex_types.specs.declared.place.Place.TheVariants.{Data, Slot}
use Rattle.apex_types.specs.declared.denotation.Denotation.{Denotation}
use Rattle.apex_types.specs.declared.denotation.Denotation.TheVariants as denotation
use Rattle.apex_types.specs.declared.denotation.ObjectKind.TheVariants as object
use Rattle.apex_types.specs.declared.shape.ArgumentKind.{ArgumentKind}
use Rattle.apex_types.specs.declared.shape.ArgumentKind.TheVariants as argument
use Rattle.apex_types.specs.declared.row.PortRow.{PortRow}
use Rattle.apex_types.specs.declared.row.SemaphoreRow.{SemaphoreRow}
use Rattle.apex_types.specs.declared.row.BufferRow.{BufferRow}
use Rattle.apex_types.specs.declared.row.BlackboardRow.{BlackboardRow}
use Rattle.apex_types.specs.ServiceShape.{arguments_of}
use Rattle.pal_meaning.specs.Syntax as written
use Rattle.pal_meaning.specs.Program as program

-- a number up to a limit; above it, and above 2^63 - 1, it becomes 0
abbrev pub within : ℕ → Option ℕ → ℕ
within limit None = 0
within limit (Some n) = if nat_le n limit then n else 0

abbrev pub value_or_zero : Option ℕ → ℕ
value_or_zero None = 0
value_or_zero (Some n) = n

-- the word of a number with its sign
abbrev pub signed_word : written.Integer → ℤ
signed_word i = if i.negative then pos 0 -ℤ pos (value_or_zero i.magnitude) else pos (value_or_zero i.magnitude)

-- the numbers of declared words of data and of declarations of each kind
pub record Counts : Type 0 where
  pub words : ℕ
  pub semaphores : ℕ
  pub events : ℕ
  pub buffers : ℕ
  pub blackboards : ℕ
  pub ports : ℕ
  pub procedures : ℕ

abbrev pub no_counts : Counts
no_counts = record { words = 0; semaphores = 0; events = 0; buffers = 0; blackboards = 0; ports = 0; procedures = 0 }

-- a count raised by `more`, if the sum is within the limit
abbrev pub counted : ℕ → ℕ → ℕ → Option ℕ
counted limit count more = if nat_le (more + count) limit then Some (more + count) else None

-- the counts after one more declaration, where each is within its limit
abbrev pub after : Counts → written.Kind → Option Counts
after c (written.Variable value) = option_map (λ n. record c { words = n }) (counted MOST_DATA_WORDS c.words 1)
after c (written.Array size values) = option_map (λ n. record c { words = n }) (counted MOST_DATA_WORDS c.words (value_or_zero size))
after c (written.Semaphore first maximum discipline) = option_map (λ n. record c { semaphores = n }) (counted MOST_OBJECTS c.semaphores 1)
after c written.Event = option_map (λ n. record c { events = n }) (counted MOST_OBJECTS c.events 1)
after c (written.Buffer words messages discipline) = option_map (λ n. record c { buffers = n }) (counted MOST_OBJECTS c.buffers 1)
after c (written.Blackboard words) = option_map (λ n. record c { blackboards = n }) (counted MOST_OBJECTS c.blackboards 1)
after c written.Port = option_map (λ n. record c { ports = n }) (counted MOST_PORTS c.ports 1)
after c (written.Procedure parameters body) = option_map (λ n. record c { procedures = n }) (counted MOST_PROCEDURES c.procedures 1)

-- the number of the next of a kind, from 1
abbrev pub next : ℕ → ℕ → ℕ
next limit count = unwrap_or (counted limit count 1) 0

-- the number of the port `name` in the partition's row, from 1; 0 if no port has that name
abbrev pub port_number : List PortRow → List ℕ → ℕ
port_number ports name = unwrap_or (option_map (λ i. i + 1) (position (λ p. bytes_eq p.name name) (take MOST_PORTS ports))) 0

-- The meaning of a declared name after the counts `c`: variables and arrays lie in the data in the
-- order of declaration, objects of each kind are numbered from 1, procedures from 0.
abbrev pub declared_meaning : List PortRow → Counts → List ℕ → written.Kind → Denotation
declared_meaning ports c name (written.Variable value) = denotation.Scalar (Data c.words)
declared_meaning ports c name (written.Array size values) = denotation.Array c.words (pos (within MOST_DATA_WORDS size))
declared_meaning ports c name (written.Semaphore first maximum discipline) = denotation.Object object.Semaphore (next MOST_OBJECTS c.semaphores)
declared_meaning ports c name written.Event = denotation.Object object.Event (next MOST_OBJECTS c.events)
declared_meaning ports c name (written.Buffer words messages discipline) = denotation.Object object.Buffer (next MOST_OBJECTS c.buffers)
declared_meaning ports c name (written.Blackboard words) = denotation.Object object.Blackboard (next MOST_OBJECTS c.blackboards)
declared_meaning ports c name written.Port = denotation.Object object.Port (port_number ports name)
declared_meaning ports c name (written.Procedure parameters body) = denotation.Procedure c.procedures (length parameters)

-- a name and its meaning
pub record Entry : Type 0 where
  pub name : List ℕ
  pub meaning : Denotation

-- the meaning of a name by the first entry that has it
abbrev pub find : List ℕ → List Entry → Option Denotation
find name [] = None
find name (e ∷ es) = if bytes_eq e.name name then Some e.meaning else find name es

-- the entries of the declarations after the counts `c`; a count that would pass its limit stays
abbrev pub declaration_entries : List PortRow → Counts → List written.Declaration → List Entry
declaration_entries ports c [] = []
declaration_entries ports c (d ∷ ds) = record { name = d.name; meaning = declared_meaning ports c d.name d.kind } ∷ declaration_entries ports (unwrap_or (after c d.kind) c) ds

-- the entries of the processes, which are numbered from 1
abbrev pub process_entries : ℕ → List written.Process → List Entry
process_entries count [] = []
process_entries count (p ∷ ps) = record { name = p.name; meaning = denotation.Object object.Process (next MOST_PROCESSES count) } ∷ process_entries (unwrap_or (counted MOST_PROCESSES count 1) count) ps

abbrev pub declared_entries : List PortRow → written.Program → List Entry
declared_entries ports p = declaration_entries ports no_counts p.declarations ++ process_entries 0 p.processes

-- the slot of the parameter or local with `place` others before it
abbrev pub slot : ℕ → ℕ
slot place = if nat_lt place MOST_SLOTS then place else 0

-- the entries of the parameters and locals of a body, with `place` others before them
abbrev pub own_entries : ℕ → List (List ℕ) → List Entry
own_entries place [] = []
own_entries place (x ∷ xs) = record { name = x; meaning = denotation.Scalar (Slot (slot place)) } ∷ own_entries (place + 1) xs

-- the meaning of each name in a body: a parameter or local, or the declaration of that name
abbrev pub Scope : Type 0
Scope = List ℕ → Option Denotation

abbrev pub or_else : Option Denotation → Option Denotation → Option Denotation
or_else (Some m) other = Some m
or_else None other = other

abbrev pub scope_of : List Entry → List Entry → Scope
scope_of own declared name = or_else (find name own) (find name declared)

-- the resolution of a name of the wanted kind; 0 for any other name
abbrev pub place_of : Option Denotation → Place
place_of (Some (denotation.Scalar place)) = place
place_of _ = Data 0

abbrev pub array_place_of : Option Denotation → ℕ
array_place_of (Some (denotation.Array place size)) = place
array_place_of _ = 0

abbrev pub array_size_of : Option Denotation → ℤ
array_size_of (Some (denotation.Array place size)) = size
array_size_of _ = pos 0

abbrev pub object_number_of : Option Denotation → ℕ
object_number_of (Some (denotation.Object kind number)) = number
object_number_of _ = 0

abbrev pub procedure_number_of : Option Denotation → ℕ
procedure_number_of (Some (denotation.Procedure number parameters)) = number
procedure_number_of _ = 0

-- An expression with its names resolved; its parentheses are gone.
abbrev mutual
  pub resolve_expr : Scope → written.Expr → program.Expr
  resolve_expr scope (written.Number value) = program.Literal (pos (value_or_zero value))
  resolve_expr scope (written.Name name) = program.Read (place_of (scope name))
  resolve_expr scope (written.Element array index) = program.Element (array_place_of (scope array)) (array_size_of (scope array)) (resolve_expr scope index)
  resolve_expr scope (written.Apply procedure arguments) = program.Apply (procedure_number_of (scope procedure)) (resolve_exprs scope arguments)
  resolve_expr scope (written.Parenthesis inside) = resolve_expr scope inside
  resolve_expr scope (written.Unary operator operand) = program.Unary operator (resolve_expr scope operand)
  resolve_expr scope (written.Chain first rest) = program.Chain (resolve_expr scope first) (resolve_links scope rest)

  pub resolve_links : Scope → written.Links → program.Links
  resolve_links scope written.NoLink = program.NoLink
  resolve_links scope (written.MoreLinks operator operand rest) = program.MoreLinks operator (resolve_expr scope operand) (resolve_links scope rest)

  pub resolve_exprs : Scope → written.Exprs → program.Exprs
  resolve_exprs scope written.NoExpr = program.NoExpr
  resolve_exprs scope (written.MoreExprs first rest) = program.MoreExprs (resolve_expr scope first) (resolve_exprs scope rest)

-- the meaning of an expression as the name of an argument
abbrev pub named : Scope → written.Expr → Option Denotation
named scope (written.Name name) = scope name
named scope _ = None

-- an argument of a service before those that follow: a name is its number, an array its place and size
abbrev pub resolve_argument : Scope → ArgumentKind → written.Expr → program.Exprs → program.Exprs
resolve_argument scope argument.Word e rest = program.MoreExprs (resolve_expr scope e) rest
resolve_argument scope argument.Array e rest = program.MoreExprs (program.Literal (pos (array_place_of (named scope e)))) (program.MoreExprs (program.Literal (array_size_of (named scope e))) rest)
resolve_argument scope (argument.Object kind) e rest = program.MoreExprs (program.Literal (pos (object_number_of (named scope e)))) rest

abbrev pub resolve_arguments : Scope → List ArgumentKind → written.Exprs → program.Exprs
resolve_arguments scope (k ∷ ks) (written.MoreExprs e es) = resolve_argument scope k e (resolve_arguments scope ks es)
resolve_arguments scope _ _ = program.NoExpr

abbrev mutual
  pub resolve_stmt : Scope → written.Stmt → program.Stmt
  resolve_stmt scope (written.Assign target value) = program.Assign (place_of (scope target)) (resolve_expr scope value)
  resolve_stmt scope (written.AssignElement array index value) = program.AssignElement (array_place_of (scope array)) (array_size_of (scope array)) (resolve_expr scope index) (resolve_expr scope value)
  resolve_stmt scope (written.If test block) = program.If (resolve_expr scope test) (resolve_block scope block)
  resolve_stmt scope (written.IfElse test block other) = program.IfElse (resolve_expr scope test) (resolve_block scope block) (resolve_block scope other)
  resolve_stmt scope (written.While test block) = program.While (resolve_expr scope test) (resolve_block scope block)
  resolve_stmt scope (written.Work ticks) = program.Work (within MOST_WORK_TICKS ticks)
  resolve_stmt scope (written.Return value) = program.Return (resolve_expr scope value)
  resolve_stmt scope (written.CallService service arguments targets) = program.CallService service (resolve_arguments scope (arguments_of service) arguments) (map (λ x. place_of (scope x)) targets)

  pub resolve_block : Scope → written.Block → program.Block
  resolve_block scope written.NoStmt = program.NoStmt
  resolve_block scope (written.MoreStmts first rest) = program.MoreStmts (resolve_stmt scope first) (resolve_block scope rest)

-- the statements of a body with these parameters, among these declared names
abbrev pub resolve_body_block : List Entry → List (List ℕ) → written.Body → program.Block
resolve_body_block declared parameters b = resolve_block (scope_of (own_entries 0 (parameters ++ b.locals)) declared) b.block

abbrev pub count_within : ℕ → ℕ → ℕ
count_within limit n = if nat_le n limit then n else 0

-- a body that is no procedure's, with its stack
abbrev pub resolve_body : List Entry → Option ℕ → written.Body → program.Body
resolve_body declared stack b = record { stack = within MOST_STACK_WORDS stack; locals = count_within MOST_LOCALS (length b.locals); block = resolve_body_block declared [] b }

abbrev pub resolve_stack_body : List Entry → written.StackBody → program.Body
resolve_stack_body declared b = resolve_body declared b.stack b.body

-- a time in ticks; -1 is infinite
abbrev pub time_of : written.Integer → Option ℕ
time_of i = if i.negative then None else Some (within MOST_TICKS i.magnitude)

abbrev pub resolve_process : List Entry → written.Process → program.Process
resolve_process declared p = record {
  name = p.name;
  priority = within GREATEST_PRIORITY p.priority;
  period = time_of p.period;
  capacity = time_of p.capacity;
  body = resolve_body declared p.stack p.body;
}

abbrev pub procedure_of : List Entry → written.Kind → Option program.Procedure
procedure_of declared (written.Procedure parameters b) = Some (record {
  parameters = count_within 8 (length parameters);
  locals = count_within MOST_LOCALS (length b.locals);
  block = resolve_body_block declared parameters b;
})
procedure_of declared _ = None

-- the first values of an array, and zeros after them
abbrev pub array_words : ℕ → List written.Integer → List ℤ
array_words size values = map signed_word values ++ replicate (size - length values) (pos 0)

-- the words of the data that a declaration makes
abbrev pub words_of : written.Kind → List ℤ
words_of (written.Variable None) = pos 0 ∷ []
words_of (written.Variable (Some value)) = signed_word value ∷ []
words_of (written.Array size values) = array_words (within MOST_DATA_WORDS size) values
words_of _ = []

abbrev pub semaphore_of : written.Kind → Option SemaphoreRow
semaphore_of (written.Semaphore first maximum discipline) = Some (record { value = within MOST_SEMAPHORE_VALUE first; maximum = within MOST_SEMAPHORE_VALUE maximum; discipline = discipline })
semaphore_of _ = None

abbrev pub buffer_of : written.Kind → Option BufferRow
buffer_of (written.Buffer words messages discipline) = Some (record { words = within MOST_WORDS words; depth = within MOST_DEPTH messages; discipline = discipline })
buffer_of _ = None

abbrev pub blackboard_of : written.Kind → Option BlackboardRow
blackboard_of (written.Blackboard words) = Some (record { words = within MOST_WORDS words })
blackboard_of _ = None

-- the counts after all declarations; a count that would pass its limit stays
abbrev pub counts_of : Counts → List written.Declaration → Counts
counts_of c [] = c
counts_of c (d ∷ ds) = counts_of (unwrap_or (after c d.kind) c) ds

abbrev pub resolve : List PortRow → written.Program → program.Program
resolve ports p = let declared = declared_entries ports p in record {
  initial = flat_map (λ d. words_of d.kind) p.declarations;
  semaphores = filter_map (λ d. semaphore_of d.kind) p.declarations;
  events = (counts_of no_counts p.declarations).events;
  buffers = filter_map (λ d. buffer_of d.kind) p.declarations;
  blackboards = filter_map (λ d. blackboard_of d.kind) p.declarations;
  procedures = filter_map (λ d. procedure_of declared d.kind) p.declarations;
  init = resolve_stack_body declared p.init;
  handler = option_map (resolve_stack_body declared) p.handler;
  processes = map (resolve_process declared) p.processes;
}
