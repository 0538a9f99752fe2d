-- What is wrong about the ports of a source: those that the partition's row has not, those of the row that the source does not
-- declare, and calls that contradict the row.
use Rattle.std.specs.Prelude.{ℕ, ◌+◌, Bool, true, false, not, nat_lt, List, [], ◌∷◌, ◌++◌, Option, Some, None, find, if◌then◌else◌, flat_map}
use Rattle.std.specs.List.{list_any}
use Rattle.std.specs.Str.{bytes_eq}
use Rattle.apex_types.specs.declared.denotation.ObjectKind.{ObjectKind}
use Rattle.apex_types.specs.declared.denotation.ObjectKind.TheVariants as object
use Rattle.apex_types.specs.declared.row.PortDirection.{PortDirection}
use Rattle.apex_types.specs.declared.row.PortDirection.TheVariants.{Source, Destination}
use Rattle.apex_types.specs.declared.row.PortRow.{PortRow}
use Rattle.module_meaning.specs.Table.{Partition, at_number, is_queuing}
use Rattle.pal_meaning.specs.Syntax as written
use Rattle.lint.specs.Calls.{Call}
use Rattle.lint.specs.Plain.{first_of, name_in}
use Rattle.lint.specs.Services.{port_kind, port_direction, numbered_kind}
use Rattle.lint.specs.Uses.{Id, Numbered, Named}
use Rattle.lint.specs.Views.{Found, if_so}
use Rattle.lint.specs.declared.finding.FindingKind.{FindingKind}
use Rattle.lint.specs.declared.finding.FindingKind.TheVariants as finding

-- ---- declarations

-- the row has a port of this name
abbrev pub has_port : List PortRow → List ℕ → Bool
has_port ports name = list_any (λ row. bytes_eq row.name name) ports

-- a port that is declared, and that the row has not
abbrev pub is_unknown : List PortRow → written.Kind → List ℕ → Bool
is_unknown ports written.Port name = not (has_port ports name)
is_unknown ports _ name = false

abbrev pub unknown_port : List PortRow → written.Declaration → List Found
unknown_port ports d = if is_unknown ports d.kind d.name then record { kind = finding.UnknownPort; subject = d.name } ∷ [] else []

abbrev pub unknown_ports : List PortRow → List written.Declaration → List Found
unknown_ports ports ds = flat_map (unknown_port ports) ds

-- how many of the declared ports the row has not
abbrev pub misfits : List PortRow → List written.Declaration → ℕ
misfits ports [] = 0
misfits ports (d ∷ ds) = (if is_unknown ports d.kind d.name then 1 else 0) + misfits ports ds

-- the first partition whose row lacks fewer of the declared ports than the partition's own row does
abbrev pub better_row : (own : ℕ) → List written.Declaration → List Partition → List Found
better_row own ds [] = []
better_row own ds (row ∷ rows) = if nat_lt (misfits row.ports ds) own then record { kind = finding.FitsAnother; subject = row.name } ∷ [] else better_row own ds rows

-- a port of this name is declared
abbrev pub is_port_of : List ℕ → written.Kind → List ℕ → Bool
is_port_of name written.Port declared = bytes_eq declared name
is_port_of name _ declared = false

abbrev pub declares_port : List ℕ → List written.Declaration → Bool
declares_port name ds = list_any (λ d. is_port_of name d.kind d.name) ds

abbrev pub undeclared_port : List written.Declaration → PortRow → List Found
undeclared_port ds row = if declares_port row.name ds then [] else record { kind = finding.UndeclaredPort; subject = row.name } ∷ []

abbrev pub undeclared_ports : List written.Declaration → List PortRow → List Found
undeclared_ports ds ports = flat_map (undeclared_port ds) ports

-- ---- calls

abbrev pub port_named : List PortRow → List ℕ → Option PortRow
port_named ports name = find (λ row. bytes_eq row.name name) ports

-- the port that an argument denotes
abbrev pub port_of_id : List PortRow → Id → Option PortRow
port_of_id ports (Numbered n) = at_number ports n
port_of_id ports (Named object.Port name) = port_named ports name
port_of_id ports _ = None

abbrev pub port_of_name : List PortRow → Option (List ℕ) → Option PortRow
port_of_name ports (Some name) = port_named ports name
port_of_name ports None = None

-- The port that a call is about. Where a service takes a name, it is the port that the first argument names; else it is the
-- port that the argument denotes.
abbrev pub port_of_call : List PortRow → Option ObjectKind → Call → Option PortRow
port_of_call ports (Some kind) c = port_of_name ports (name_in (first_of c.arguments))
port_of_call ports None c = port_of_id ports c.id

abbrev pub differ : Bool → Bool → Bool
differ true b = not b
differ false b = b

-- the service is for ports of the other kind
abbrev pub contradicts_kind : Option Bool → PortRow → Bool
contradicts_kind None row = false
contradicts_kind (Some queuing) row = differ queuing (is_queuing row.kind)

-- the service is for ports of the other direction
abbrev pub contradicts_direction : Option PortDirection → PortDirection → Bool
contradicts_direction None of_port = false
contradicts_direction (Some Source) Source = false
contradicts_direction (Some Source) Destination = true
contradicts_direction (Some Destination) Source = true
contradicts_direction (Some Destination) Destination = false

abbrev pub wrong_use_of : Call → Option PortRow → List Found
wrong_use_of c None = []
wrong_use_of c (Some row) =
    if_so (contradicts_kind (port_kind c.service) row) (record { kind = finding.WrongKind; subject = row.name })
    ++ if_so (contradicts_direction (port_direction c.service) row.direction) (record { kind = finding.WrongDirection; subject = row.name })

abbrev pub is_for_ports : Option Bool → Bool
is_for_ports None = false
is_for_ports (Some queuing) = true

-- A call on a port is for ports of the other kind, or of the other direction, or both.
abbrev pub wrong_use : List PortRow → Call → List Found
wrong_use ports c = if is_for_ports (port_kind c.service) then wrong_use_of c (port_of_call ports (numbered_kind c.service) c) else []
