-- All that is found in the source of a partition.
use Rattle.std.specs.Prelude.{ℕ, List, ◌++◌, flat_map}
use Rattle.apex_types.specs.declared.denotation.ObjectKind.TheVariants as object
use Rattle.apex_types.specs.declared.row.PortRow.{PortRow}
use Rattle.module_meaning.specs.Table.{Partition, Table}
use Rattle.pal_meaning.specs.Syntax as written
use Rattle.pal_base.specs.declared.program.Program as checked
use Rattle.lint.specs.Channels.{found_at_ports}
use Rattle.lint.specs.Calls.{all_calls, calls_of_procedures, done_in}
use Rattle.lint.specs.Does.{found_at_calls, found_at_mentions}
use Rattle.lint.specs.Lives.{all_never_signalled, objects_never_created, processes_never_created, handler_never_created, takes_no_error, never_started, never_normal, without_waits, long_capacity, waits_in_init}
use Rattle.lint.specs.Locks.{locked_waits}
use Rattle.lint.specs.Mentions.{all_mentions}
use Rattle.lint.specs.Ports.{unknown_ports, misfits, better_row, undeclared_ports}
use Rattle.lint.specs.Recursion.{endless_procedures}
use Rattle.lint.specs.Slow.{slow_processes}
use Rattle.lint.specs.Stacks.{small_stacks}
use Rattle.lint.specs.Unused.{unused_names}
use Rattle.lint.specs.Views.{Found}

-- about ports, and about calls, of a source for a partition with these ports in a table with these rows
abbrev pub port_findings : List Partition → List PortRow → written.Program → List Found
port_findings rows ports p =
    unknown_ports ports p.declarations
    ++ better_row (misfits ports p.declarations) p.declarations rows
    ++ undeclared_ports p.declarations ports
    ++ found_at_calls ports p.declarations (all_calls p)

-- about indices, divisions, loops and recursion
abbrev pub body_findings : written.Program → List Found
body_findings p = found_at_mentions p.declarations (all_mentions p) ++ endless_procedures p.declarations

-- about what is created, started and signalled
abbrev pub creation_findings : written.Program → List Found
creation_findings p =
    objects_never_created (all_calls p) p.declarations
    ++ processes_never_created (all_calls p) p.processes
    ++ handler_never_created (all_calls p) p.handler
    ++ never_started (all_calls p) 1 p.processes
    ++ all_never_signalled (all_calls p) object.Semaphore 1 p.declarations
    ++ all_never_signalled (all_calls p) object.Event 1 p.declarations

-- about NORMAL, about periods, about the handler, and about waits
abbrev pub round_findings : written.Program → List Found
round_findings p =
    without_waits (done_in p) (calls_of_procedures (done_in p) p.declarations) p.processes
    ++ flat_map long_capacity p.processes
    ++ takes_no_error (done_in p) (calls_of_procedures (done_in p) p.declarations) p.handler

abbrev pub wait_findings : written.Program → List Found
wait_findings p = never_normal p ++ round_findings p ++ waits_in_init p ++ locked_waits p

abbrev pub findings : List Partition → List PortRow → written.Program → List Found
findings rows ports p = port_findings rows ports p ++ body_findings p ++ creation_findings p ++ wait_findings p ++ unused_names p

-- about the ports of the partition with this number in a table, and about the program of its source
abbrev pub row_findings : Table → (partition : ℕ) → List PortRow → checked.Program → List Found
row_findings t partition ports p = found_at_ports t.partitions t.channels partition 1 ports ++ slow_processes t.costs p.processes.items ++ small_stacks p

-- all that is found for the partition with this number: in its source as written, and as checked
abbrev pub partition_findings : Table → (partition : ℕ) → List PortRow → written.Program → checked.Program → List Found
partition_findings t partition ports source p = findings t.partitions ports source ++ row_findings t partition ports p
