-- How many words of data and how many declarations of each kind a program has up to a declaration.
use Rattle.std.specs.Prelude.{ℕ, ◌+◌, Option}
use Rattle.apex_types.specs.Limits.{MOST_DATA_WORDS, MOST_OBJECTS, MOST_PORTS, MOST_PROCEDURES}
use Rattle.pal_meaning.specs.Resolve.{value_or_zero}
use Rattle.pal_meaning.specs.Syntax as written
use Rattle.source_findings.specs.Frames.{held}
use Rattle.pal_base.specs.declared.fault.Refusal.{Refusal}
use Rattle.source_findings.specs.Judged.{many_wrong}
use Rattle.source_findings.specs.What.{What}
use Rattle.source_findings.specs.declared.finding.Many.TheVariants as many

pub record Tally : Type 0 where
  pub words : ℕ
  pub semaphores : ℕ
  pub events : ℕ
  pub buffers : ℕ
  pub blackboards : ℕ
  pub ports : ℕ
  pub procedures : ℕ

abbrev pub no_tally : Tally
no_tally = record { words = 0; semaphores = 0; events = 0; buffers = 0; blackboards = 0; ports = 0; procedures = 0 }

-- with one declaration more
abbrev pub counted : Tally → written.Kind → Tally
counted t (written.Variable value) = record t { words = held (t.words + 1) }
counted t (written.Array size values) = record t { words = held (t.words + value_or_zero size) }
counted t (written.Semaphore first maximum discipline) = record t { semaphores = held (t.semaphores + 1) }
counted t written.Event = record t { events = held (t.events + 1) }
counted t (written.Buffer words messages discipline) = record t { buffers = held (t.buffers + 1) }
counted t (written.Blackboard words) = record t { blackboards = held (t.blackboards + 1) }
counted t written.Port = record t { ports = held (t.ports + 1) }
counted t (written.Procedure parameters body) = record t { procedures = held (t.procedures + 1) }

-- what is wrong with the number of those of a kind
abbrev pub tally_wrong : Refusal → Tally → written.Kind → Option What
tally_wrong rule t (written.Variable value) = many_wrong rule many.Words t.words MOST_DATA_WORDS
tally_wrong rule t (written.Array size values) = many_wrong rule many.Words t.words MOST_DATA_WORDS
tally_wrong rule t (written.Semaphore first maximum discipline) = many_wrong rule many.Semaphores t.semaphores MOST_OBJECTS
tally_wrong rule t written.Event = many_wrong rule many.Events t.events MOST_OBJECTS
tally_wrong rule t (written.Buffer words messages discipline) = many_wrong rule many.Buffers t.buffers MOST_OBJECTS
tally_wrong rule t (written.Blackboard words) = many_wrong rule many.Blackboards t.blackboards MOST_OBJECTS
tally_wrong rule t written.Port = many_wrong rule many.Ports t.ports MOST_PORTS
tally_wrong rule t (written.Procedure parameters body) = many_wrong rule many.Procedures t.procedures MOST_PROCEDURES
