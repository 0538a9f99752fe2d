-- Why a text is not taken as a module table or as one of states, and what a page and a summary have of a table.
use Rattle.std.specs.Prelude.{◌≡◌, ℕ, List, map, Option, Some, None, codes, string_bytes}
use Rattle.kernel_meaning.specs.Windows.{Schedule}
use Rattle.trace_page.specs.Windows.{windows_text}
use Rattle.view_command.specs.Texts.{IsRefusedRow, IsRefusedTable}
use Rattle.view_command.specs.declared.refusal.Refusal.{Refusal}
use Rattle.view_command.specs.declared.refusal.Refusal.TheVariants.{Read, Table, NoRow, Memory}
use Rattle.window_table.specs.Schedules.{schedule_of}
use Rattle.window_table.specs.declared.table.ModuleTable.{ModuleTable}

-- the text of the reader, which has this name, is not read to its end, or breaks a rule; memory may run out
abbrev pub IsBadTable : Option (List ℕ) → List ℕ → Refusal → Type 0
IsBadTable text name (Read shown) = string_bytes shown ≡ name
IsBadTable text name (Table fault shown) = (string_bytes shown ≡ name) × IsRefusedTable text fault
IsBadTable text name Memory = Unit {0}
IsBadTable text name _ = ⊥

-- The same of a text of states, which may have a line that is no row of a state.
abbrev pub AreBadStates : Option (List ℕ) → List ℕ → Refusal → Type 0
AreBadStates text name (Read shown) = string_bytes shown ≡ name
AreBadStates text name (NoRow number shown) = (string_bytes shown ≡ name) × IsRefusedRow text number
AreBadStates text name Memory = Unit {0}
AreBadStates text name _ = ⊥

-- the names of its partitions, in their order
abbrev pub names_of : ModuleTable → List (List ℕ)
names_of table = map (λ p. p.name) table.partitions.items

-- what the script of a page has of the windows; without a table they are not known
abbrev pub page_windows : Option ModuleTable → List ℕ
page_windows None = codes "null"
page_windows (Some table) = windows_text table.schedule.frame table.schedule.windows.items (names_of table)

-- the schedule and these names, if there is a table
abbrev pub windows_known : Option ModuleTable → Option (Schedule × List (List ℕ))
windows_known None = None
windows_known (Some table) = Some (schedule_of table.schedule, names_of table)
