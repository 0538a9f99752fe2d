-- A section that is its program's, and whose bytes are read as its instructions, is faithful.
use Rattle.std.proofs.Common.{◌≡◌, map, Some, subst, sym, ap, ◌∙◌}
use Rattle.compiling_laws.specs.CompiledCode.{section_of, code_of}
use Rattle.compiling_laws.specs.Fits.{Fits}
use Rattle.machine_meaning.specs.Section.{Section}
use Rattle.machine_meaning.specs.Instructions.{reading}
use Rattle.pal_meaning.specs.Program.{Program}
use Rattle.compiling_laws.proofs.Starts.{compiled_correctly}
use Rattle.compiler.specs.Faithful.{IsFaithful}

pub faithful : (program : Program) (section : Section) → section ≡ section_of program → map reading section.code ≡ map Some (code_of program) → Fits program → IsFaithful section program
faithful program section is reads fits =
    let own = compiled_correctly program fits (ap (λ s. map reading s.code) (sym is) ∙ reads) in
    subst (λ s. IsFaithful s program) (sym is) own
