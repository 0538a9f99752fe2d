-- The text shown for each fault of building and running, and of writing inputs.
use Rattle.std.specs.Prelude.{ℕ, List, ◌++◌, codes}
use Rattle.std.specs.Fmt.{decimal}
use Rattle.compiler.specs.Numbers.{number_of as number_of_compile}
use Rattle.compiler.specs.declared.fault.CompileFault.TheVariants as compile
use Rattle.image.specs.Views.{number_of as number_of_image}
use Rattle.module_base.specs.Refusals.{fault_number}
use Rattle.pal_base.specs.Numbers.{refusal_number}
use Rattle.pal_base.specs.declared.fault.Refusal.{Refusal}
use Rattle.pal_base.specs.declared.fault.Refusal.TheVariants as source
use Rattle.window_table.specs.Answers.{number_of}
use Rattle.window_table.specs.declared.fault.TableFault.TheVariants as table
use Rattle.module.specs.declared.fault.BuildFault.{BuildFault}
use Rattle.module.specs.declared.fault.BuildFault.TheVariants as build
use Rattle.module.specs.declared.fault.RunFault.{RunFault}
use Rattle.module.specs.declared.fault.RunFault.TheVariants as run
use Rattle.module.specs.declared.fault.BuildAndRunFault.{BuildAndRunFault}
use Rattle.module.specs.declared.fault.BuildAndRunFault.TheVariants.{Build, Run}
use Rattle.module.specs.declared.inputs_fault.InputsFault.{InputsFault}
use Rattle.module.specs.declared.inputs_fault.InputsFault.TheVariants as inputs

-- the partition, the number and the line of a source that is refused
abbrev pub source_line : List ℕ → Refusal → ℕ → List ℕ
source_line partition source.Memory line = codes "memory"
source_line partition refusal line = codes "pal " ++ partition ++ codes " " ++ decimal (refusal_number refusal) ++ codes " line " ++ decimal line

abbrev pub build_line : BuildFault → List ℕ
build_line (build.Table table.Memory) = codes "memory"
build_line (build.Table fault) = codes "table " ++ decimal (number_of fault)
build_line build.Sources = codes "sources"
build_line (build.Pal partition fault) = source_line partition fault.refusal fault.line
build_line (build.Compile partition compile.Memory) = codes "memory"
build_line (build.Compile partition fault) = codes "compile " ++ partition ++ codes " " ++ decimal (number_of_compile fault)
build_line build.Memory = codes "memory"

abbrev pub run_line : RunFault → List ℕ
run_line run.Ticks = codes "ticks"
run_line (run.Image fault) = codes "image " ++ decimal (number_of_image fault)
run_line run.Partition = codes "partition"
run_line (run.Device fault) = codes "device " ++ decimal (fault_number fault)
run_line run.Memory = codes "memory"
run_line run.Write = codes "write"
run_line run.Failed = codes "failed"

abbrev pub inputs_line : InputsFault → List ℕ
inputs_line inputs.Ticks = codes "ticks"
inputs_line (inputs.Image fault) = codes "image " ++ decimal (number_of_image fault)
inputs_line inputs.Partition = codes "partition"
inputs_line (inputs.Device fault) = codes "device " ++ decimal (fault_number fault)
inputs_line inputs.Memory = codes "memory"
inputs_line inputs.TooMany = codes "inputs"
inputs_line inputs.Write = codes "write"

abbrev pub line_of_both : BuildAndRunFault → List ℕ
line_of_both (Build fault) = build_line fault
line_of_both (Run fault) = run_line fault
