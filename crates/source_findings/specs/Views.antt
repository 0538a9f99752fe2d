-- The values of the code as those of the definitions.
use Rattle.std.specs.Prelude.{ℕ, List, map, option_copied}
use Rattle.pal_base.specs.View.{texts}
use Rattle.source_findings.specs.Judged as spec_judged
use Rattle.source_findings.specs.Roles as spec_roles
use Rattle.source_findings.specs.Tally as spec_tally
use Rattle.source_findings.specs.What as spec_what
use Rattle.source_findings.specs.declared.finding.What.{What}
use Rattle.source_findings.specs.declared.finding.What.TheVariants as what
use Rattle.source_findings.specs.declared.finding.Wrong.{Wrong}
use Rattle.source_findings.specs.declared.judge.Judge.{Judge}
use Rattle.source_findings.specs.declared.roles.Entry.{Entry}
use Rattle.source_findings.specs.declared.tally.Tally.{Tally}
use Rattle.source_findings.specs.declared.walk.Walk.{Walk}

abbrev pub what_of : What → spec_what.What
what_of (what.NoAscii byte) = spec_what.NoAscii byte
what_of what.TooLong = spec_what.TooLong
what_of (what.Unknown name near) = spec_what.Unknown name.now (option_copied near)
what_of (what.Again name) = spec_what.Again name.now
what_of (what.Other name found wanted) = spec_what.Other name.now found wanted
what_of (what.NoName wanted) = spec_what.NoName wanted
what_of (what.Arguments service given) = spec_what.Arguments service given
what_of (what.Targets service given) = spec_what.Targets service given
what_of what.Return = spec_what.Return
what_of (what.Long name) = spec_what.Long name.now
what_of what.TooLarge = spec_what.TooLarge
what_of (what.Outside thing number low high) = spec_what.Outside thing number low high
what_of (what.NoTime thing negative number) = spec_what.NoTime thing negative number
what_of (what.TooMany thing number most) = spec_what.TooMany thing number most
what_of (what.Frame words stack) = spec_what.Frame words stack
what_of (what.Odd period partition) = spec_what.Odd period partition
what_of (what.Instructions number here) = spec_what.Instructions number here

abbrev pub wrong_of : Wrong → spec_what.Wrong
wrong_of w = record { left = w.left; what = what_of w.what }

abbrev pub wrongs_of : List Wrong → List spec_what.Wrong
wrongs_of ws = map wrong_of ws

abbrev pub state_of : Walk → spec_what.State
state_of w = record { text = w.text.now; found = wrongs_of w.found.items }

abbrev pub entry_of : Entry → spec_roles.Entry
entry_of e = record { name = e.name.now; role = e.role }

abbrev pub entries_of : List Entry → List spec_roles.Entry
entries_of es = map entry_of es

abbrev pub judge_of : Judge → spec_judged.Judge
judge_of j = record { rule = j.rule; period = j.period; declared = entries_of j.declared.now; own = entries_of j.own.now }

-- the texts of the names, by their numbers
abbrev pub names_of : Judge → List (List ℕ)
names_of j = texts j.names.now.keys

abbrev pub tally_of : Tally → spec_tally.Tally
tally_of t = record { words = t.words; semaphores = t.semaphores; events = t.events; buffers = t.buffers; blackboards = t.blackboards; ports = t.ports; procedures = t.procedures }
