-- A table of names and the counts of declarations, as the definitions see them.
use Rattle.std.specs.Prelude.{List, map}
use Rattle.pal_meaning.specs.Resolve.{Entry, Counts}
use Rattle.pal.specs.declared.table.NameTable.{NameTable}
use Rattle.pal.specs.declared.meanings.Counts as code

-- the names with their meanings, in the order of entry
abbrev pub entries_of : NameTable → List Entry
entries_of t = map (λ e. record { name = e.0.now; meaning = e.1 }) t.entries.entries

-- the counts of the declarations
abbrev pub counts_of : code.Counts → Counts
counts_of c = record { words = c.words; semaphores = c.semaphores; events = c.events; buffers = c.buffers; blackboards = c.blackboards; ports = c.ports; procedures = c.procedures }
