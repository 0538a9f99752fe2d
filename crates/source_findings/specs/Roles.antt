-- What the names of a program mean.
use Rattle.std.specs.Prelude.{ℕ, Bool, true, false, nat_eq, if◌then◌else◌, List, [], ◌∷◌, ◌++◌, length, map}
use Rattle.apex_types.specs.declared.denotation.ObjectKind.TheVariants as object
use Rattle.engine_meaning.specs.Digits.{same}
use Rattle.pal_meaning.specs.Syntax as written
use Rattle.pal_meaning.specs.WellFormed.{is_same_kind}
use Rattle.source_findings.specs.declared.roles.Role.{Role}
use Rattle.source_findings.specs.declared.roles.Role.TheVariants as role

-- a name and what it means
pub record Entry : Type 0 where
  pub name : List ℕ
  pub role : Role

-- what a name means, by the first entry that has it
abbrev pub role_of : List ℕ → List Entry → Role
role_of name [] = role.Nothing
role_of name (e ∷ es) = if same e.name name then e.role else role_of name es

abbrev pub or_else : Role → Role → Role
or_else role.Nothing other = other
or_else found other = found

abbrev pub is_nothing : Role → Bool
is_nothing role.Nothing = true
is_nothing found = false

-- a name of the first role fits where the second is wanted
abbrev pub fits : Role → Role → Bool
fits role.Variable role.Variable = true
fits role.Array role.Array = true
fits (role.Procedure parameters) (role.Procedure arguments) = nat_eq parameters arguments
fits (role.Object found) (role.Object wanted) = is_same_kind found wanted
fits found wanted = false

-- what a declaration makes of its name
abbrev pub declared_role : written.Kind → Role
declared_role (written.Variable value) = role.Variable
declared_role (written.Array size values) = role.Array
declared_role (written.Semaphore first maximum discipline) = role.Object object.Semaphore
declared_role written.Event = role.Object object.Event
declared_role (written.Buffer words messages discipline) = role.Object object.Buffer
declared_role (written.Blackboard words) = role.Object object.Blackboard
declared_role written.Port = role.Object object.Port
declared_role (written.Procedure parameters body) = role.Procedure (length parameters)

abbrev pub entry : List ℕ → Role → Entry
entry name role = record { name = name; role = role }

abbrev pub declaration_entry : written.Declaration → Entry
declaration_entry d = entry d.name (declared_role d.kind)

abbrev pub process_entry : written.Process → Entry
process_entry p = entry p.name (role.Object object.Process)

-- the entries of the declarations and the processes of a program
abbrev pub declared_entries : written.Program → List Entry
declared_entries p = map declaration_entry p.declarations ++ map process_entry p.processes

-- a parameter or a local
abbrev pub own_entry : List ℕ → Entry
own_entry name = entry name role.Variable
