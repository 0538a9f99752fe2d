-- When a result of the check is the verdict on the program.
use Rattle.std.specs.Prelude.{◌≡◌, ℕ, List, not, if◌then◌else◌, Result, Ok, Err}
use Rattle.pal_meaning.specs.Program as tree
use Rattle.pal_meaning.specs.Resolve.{Entry}
use Rattle.pal_meaning.specs.Syntax as written
use Rattle.pal_meaning.specs.WellFormed.{Refused, ByKind, ByLimit, ByPeriod, holds_of_bodies, kinds_hold_in_body, periods_hold}
use Rattle.pal_base.specs.ProgramView.{program_of}
use Rattle.pal_base.specs.declared.fault.PalFault.{PalFault}
use Rattle.pal.specs.Parts.{limits_hold_among, resolve_among}
use Rattle.pal_base.specs.declared.checked.Checked.{Checked}
use Rattle.pal_base.specs.declared.program.Program.{Program}
use Rattle.pal_base.specs.Answers.{Refuses}

-- the program with its names resolved is that of the verdict
abbrev pub AnswersWith : Result Program PalFault → Result tree.Program Refused → Type 0
AnswersWith (Ok program) verdict = verdict ≡ Ok (program_of program)
AnswersWith (Err fault) verdict = Refuses fault.refusal verdict

abbrev pub Answers : Result Checked PalFault → Result tree.Program Refused → Type 0
Answers (Ok checked) verdict = verdict ≡ Ok (program_of checked.program)
Answers (Err fault) verdict = Refuses fault.refusal verdict

-- the verdict on a program whose names hold, over the entries of its declared names
abbrev pub verdict_among : List Entry → ℕ → written.Program → Result tree.Program Refused
verdict_among declared period p =
    if not (holds_of_bodies (kinds_hold_in_body declared) p) then Err ByKind
    else if not (limits_hold_among declared p) then Err ByLimit
    else if not (periods_hold period p) then Err ByPeriod
    else Ok (resolve_among declared p)
