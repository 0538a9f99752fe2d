-- What the services return that all kinds of objects and ports have, as steps of the processes only. Where a number is declared,
-- what is found is a place, and whether the object or the port there is created.
use Rattle.std.specs.Prelude.{ℕ, ℤ, Bool, false, not, [], ◌∷◌, Option, Some, None, is_some, if◌then◌else◌}
use Rattle.apex_types.specs.declared.codes.Mode.{Mode}
use Rattle.apex_types.specs.declared.codes.ReturnCode.TheVariants as code
use Rattle.apex_types.specs.declared.identity.Runner.{Runner}
use Rattle.apex_types.specs.declared.service.Service.{Service}
use Rattle.kernel_meaning.specs.Processes.{Processes, is_normal, answers, refuses}
use Rattle.kernel_meaning.specs.Step.{Step, row}

abbrev pub is_created : Option (ℕ × Bool) → Bool
is_created None = false
is_created (Some f) = f.1

-- not in normal mode; one that is declared, and once
abbrev pub answers_create : Mode → Processes → Runner → Service → ℤ → Option (ℕ × Bool) → Step Processes
answers_create m s p service name found =
    row (refuses s p service)
    ((is_normal m, code.InvalidMode)
    ∷ (not (is_some found), code.InvalidConfig)
    ∷ (is_created found, code.NoAction)
    ∷ [])
    (answers s p service code.NoError (name ∷ []))

-- the place of the object or port that is to be created now; none where the service is refused
abbrev pub to_create : Mode → Option (ℕ × Bool) → Option ℕ
to_create m None = None
to_create m (Some f) = if is_normal m then None else if f.1 then None else Some f.0

-- the number of one that is created
abbrev pub answers_id : Processes → Runner → Service → ℤ → Bool → Step Processes
answers_id s p service name is_created =
    row (refuses s p service)
    ((not is_created, code.InvalidConfig)
    ∷ [])
    (answers s p service code.NoError (name ∷ []))
