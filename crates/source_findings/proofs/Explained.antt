-- What is said of a source, if there is memory for it.
use Rattle.std.proofs.Common.{◌≡◌, ℕ, List, Option, Some, None, IfSome}
use Rattle.finding_lines.specs.Reports.{Report}
use Rattle.pal_base.specs.Leaving.{IsLookedFor}
use Rattle.pal_base.specs.declared.fault.Refusal.{Refusal}
use Rattle.pal_base.specs.declared.looking.LookedFor.{LookedFor}
use Rattle.pal_meaning.specs.Grammar.{IsProgramOf}
use Rattle.pal_meaning.specs.Syntax as written
use Rattle.source_findings.specs.Bodies.{wrongs}
use Rattle.finding_lines.specs.Lines.{IsAt}
use Rattle.source_findings.specs.Explained.{AreOf, IsOfProgram, IsUnfit, unfit_offset}

pub place_found : (text : List ℕ) (place : Option LookedFor) → IsLookedFor text place → IfSome place (λ l. IsLookedFor text (Some l))
place_found text None h = tt
place_found text (Some l) h = h

pub with_place : {A : Type 0} (view : A → List ℕ) (r : Report) (text : List ℕ) (place : LookedFor) (answer : Option A)
    → IsLookedFor text (Some place) → IfSome answer (λ a. IsAt r text (unfit_offset text place) (view a)) → IfSome answer (λ a. IsUnfit r text (view a))
with_place view r text place None is told = tt
with_place view r text place (Some a) is told = (place, is, told)

pub with_program : {A : Type 0} (view : A → List ℕ) (r : Report) (period : ℕ) (text : List ℕ) (rule : Refusal) (program : written.Program) (answer : Option A)
    → IsProgramOf text program → IfSome answer (λ a. AreOf r text (wrongs rule period text program) (view a)) → IfSome answer (λ a. IsOfProgram r period text rule (view a))
with_program view r period text rule program None is told = tt
with_program view r period text rule program (Some a) is told = (program, is, told)
