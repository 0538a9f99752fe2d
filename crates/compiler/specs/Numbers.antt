-- The numbers of the faults.
use Rattle.std.specs.Prelude.{ℕ}
use Rattle.compiler.specs.declared.fault.CompileFault.{CompileFault}
use Rattle.compiler.specs.declared.fault.CompileFault.TheVariants.{TooLong, Memory}

abbrev pub number_of : CompileFault → ℕ
number_of TooLong = 1
number_of Memory = 2
