-- The line of each refusal, without its line feed.
use Rattle.std.specs.Prelude.{ℕ, List, ◌++◌, codes, string_bytes}
use Rattle.module.specs.Lines.{build_line, inputs_line, run_line}
use Rattle.command_line.specs.declared.refusal.Refusal.{Refusal}
use Rattle.command_line.specs.declared.refusal.Refusal.TheVariants.{Build, Run, Replay, Inputs, File, LongTable, Memory, Write}

-- what it says after the program's name
abbrev pub rule_of : Refusal → List ℕ
rule_of (Build fault) = build_line fault
rule_of (Run fault) = run_line fault
rule_of (Replay fault) = run_line fault
rule_of (Inputs fault) = inputs_line fault
rule_of (File name reason) = codes "file " ++ string_bytes name
rule_of (LongTable name) = codes "file " ++ string_bytes name
rule_of Memory = codes "memory"
rule_of Write = codes "write"

abbrev pub line_of : Refusal → List ℕ
line_of r = codes "mb: " ++ rule_of r
