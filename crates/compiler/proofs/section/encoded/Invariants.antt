use Rattle.std.proofs.Common.{◌≡◌, ◌++◌, map, drop, Some}
use Rattle.machine_meaning.specs.Instructions.{bytes_of, reading}
use Rattle.compiler.proofs.section.encoded.Given as goal

abbrev pub invariant-loop-instr : goal.invariant-loop-instr
invariant-loop-instr l = record {
  bytes : l.bytes.items ++ map bytes_of (drop l.instr-index l.code) ≡ map bytes_of l.code;
  reads_back : map reading l.bytes.items ++ map Some (drop l.instr-index l.code) ≡ map Some l.code;
}
