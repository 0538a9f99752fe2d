-- The calls of services in a body, in the order of the text, with what the first argument of each means.
use Rattle.std.specs.Prelude.{ℕ, List, [], ◌∷◌, ◌++◌, Option, Some, None, if◌then◌else◌, flat_map}
use Rattle.std.specs.List.{list_any}
use Rattle.std.specs.Str.{bytes_eq}
use Rattle.apex_types.specs.declared.denotation.ObjectKind.{ObjectKind}
use Rattle.apex_types.specs.declared.service.Service.{Service}
use Rattle.pal_meaning.specs.Syntax as written
use Rattle.lint.specs.Mentions.{Mention, Write, all_mentions, mentions_of}
use Rattle.lint.specs.Plain.{Plain, Word, plains, first_of}
use Rattle.lint.specs.Services.{numbered_kind}
use Rattle.lint.specs.Uses.{Created, Id, Scope, id_of}

-- the second of some names
abbrev pub head_of : List (List ℕ) → Option (List ℕ)
head_of [] = None
head_of (x ∷ xs) = Some x

abbrev pub second_of : List (List ℕ) → Option (List ℕ)
second_of [] = None
second_of (x ∷ xs) = head_of xs

-- A call of a service, and what its first argument means.
pub record Call : Type 0 where
  pub service : Service
  pub arguments : List Plain
  pub id : Id

-- what a service creates or finds by its name, with the variable that gets the number
abbrev pub numbered : Option ObjectKind → Option Plain → Option (List ℕ) → Option Created
numbered (Some kind) (Some (Word object)) (Some id) = Some (record { kind = kind; object = object; variable = id })
numbered _ _ _ = None

-- the same, unless one of these variables is written
abbrev pub unless_written : List (List ℕ) → Option Created → Option Created
unless_written names None = None
unless_written names (Some c) = if list_any (λ name. bytes_eq name c.variable) names then None else Some c

abbrev pub or_before : Option Created → Option Created → Option Created
or_before (Some c) before = Some c
or_before None before = before

-- what was created last, after a statement
abbrev pub left_by : Option Created → written.Stmt → Option Created
left_by created (written.Assign target value) = unless_written (target ∷ []) created
left_by created (written.CallService service arguments targets) = or_before (numbered (numbered_kind service) (first_of (plains arguments)) (second_of targets)) (unless_written targets created)
left_by created (written.If test block) = None
left_by created (written.IfElse test block other) = None
left_by created (written.While test block) = None
left_by created _ = created

-- `created` is what the last statement before it in the same block that created or found something by its name has put into a
-- variable, if no statement between the two writes this variable or has a block.
abbrev mutual
  pub calls_behind : Scope → (created : Option Created) → written.Block → List Call
  calls_behind scope created written.NoStmt = []
  calls_behind scope created (written.MoreStmts s rest) = calls_in scope created s ++ calls_behind scope (left_by created s) rest

  pub calls_in : Scope → (created : Option Created) → written.Stmt → List Call
  calls_in scope created (written.CallService service arguments targets) =
      record { service = service; arguments = plains arguments; id = id_of scope created (first_of (plains arguments)) } ∷ []
  calls_in scope created (written.If test block) = calls_behind scope None block
  calls_in scope created (written.IfElse test block other) = calls_behind scope None block ++ calls_behind scope None other
  calls_in scope created (written.While test block) = calls_behind scope None block
  calls_in scope created _ = []

-- The calls of a body with these parameters, and of each body of a program. All statements of the program do what `program` says.
abbrev pub calls_of : (program : List Mention) → (parameters : List (List ℕ)) → written.Body → List Call
calls_of program parameters b = calls_behind (record { parameters = parameters; locals = b.locals; own = mentions_of b; program = program }) None b.block

abbrev pub calls_of_handler : (program : List Mention) → Option written.StackBody → List Call
calls_of_handler program None = []
calls_of_handler program (Some b) = calls_of program [] b.body

abbrev pub calls_of_kind : (program : List Mention) → written.Kind → List Call
calls_of_kind program (written.Procedure parameters body) = calls_of program parameters body
calls_of_kind program _ = []

abbrev pub calls_of_processes : (program : List Mention) → List written.Process → List Call
calls_of_processes program processes = flat_map (λ p. calls_of program [] p.body) processes

abbrev pub calls_of_procedures : (program : List Mention) → List written.Declaration → List Call
calls_of_procedures program declarations = flat_map (λ d. calls_of_kind program d.kind) declarations

-- ---- of a program

-- a first value is a write, too
abbrev pub first_value : written.Kind → List ℕ → List Mention
first_value (written.Variable (Some value)) name = Write name None ∷ []
first_value _ name = []

abbrev pub first_values : List written.Declaration → List Mention
first_values ds = flat_map (λ d. first_value d.kind d.name) ds

-- what all statements of the program do, and its first values
abbrev pub done_in : written.Program → List Mention
done_in p = first_values p.declarations ++ all_mentions p

-- the calls of INIT, of the handler, of the processes and of the procedures
abbrev pub calls_of_init : written.Program → List Call
calls_of_init p = calls_of (done_in p) [] p.init.body

abbrev pub all_calls : written.Program → List Call
all_calls p = calls_of_init p ++ calls_of_handler (done_in p) p.handler ++ calls_of_processes (done_in p) p.processes ++ calls_of_procedures (done_in p) p.declarations
